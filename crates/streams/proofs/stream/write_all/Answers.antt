use Rattle.std.proofs.Common.{length-drop, length-take, arith}
use Rattle.streams.proofs.Appended.{appended-take-drop, rest_of}
use Rattle.streams.proofs.stream.write_all.Goals as goal

pub loop-written-preserved : goal.loop-written-preserved
loop-written-preserved g c =
    let bytes = c.args.bytes.now in
    let rest = rest_of bytes c.loop-written.written in
    let count = c.in_ok-count.ensures in
    let fits = simp (length-take, length-drop) at count.fits in
    let written = count.written in
    let grown = appended-take-drop (g.K.Sink.held c.args.sink.now) bytes c.loop-written.written c.in_ok-count.count in
    record {
      in_range = omega (arith, fits);
      front = cc;
      quiet = grind (arith, count.quiet);
    }
