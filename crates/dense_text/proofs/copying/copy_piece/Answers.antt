use Rattle.std.proofs.Common.{arith, ap, take, drop}
use Rattle.std.proofs.lemmas.Slice.{pushed}
use Rattle.dense_text.specs.Ranges.{bytes_at}
use Rattle.dense_text.proofs.RangeLemmas.{copied}
use Rattle.dense_text.proofs.copying.copy_piece.Goals as goal

pub loop-preserved : goal.loop-preserved
loop-preserved c =
    let piece = c.args.piece in
    let bytes = c.args.bytes.now in
    copied c.args.copy.now.items (bytes_at bytes piece.start piece.len) _ c.extend_from_slice.new.self.items c.loop.counter
    (ap (λ n. take n (drop piece.start bytes)) (omega arith))
    (pushed _ c.loop.invariant c.in_ok-extend_from_slice.was c.extend_from_slice.ensures.items)
