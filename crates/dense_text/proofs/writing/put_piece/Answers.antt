use Rattle.std.proofs.Common.{rules, arith, ap, take, drop, ◌∙◌}
use Rattle.dense_text.specs.Ranges.{bytes_at}
use Rattle.dense_text.proofs.PassLemmas.{counts_on, on_err, stops_counting}
use Rattle.dense_text.proofs.writing.put_piece.Goals as goal

pub returns-in_err-put-clause-prefix : goal.returns-in_err-put-clause-prefix
returns-in_err-put-clause-prefix g c =
    let piece = c.args.piece in
    let bytes = c.args.bytes.now in
    on_err c.from_residual.result
    (stops_counting (g.K.Sink.held c.args.sink.now) (g.K.Sink.held c.loop.sink) (g.K.Sink.held c.put.new.sink) c.args.held.now.items
    c.loop.held.items (bytes_at bytes piece.start piece.len) _ c.loop.counter piece.times (search rules)
    (ap (λ n. take n (drop piece.start bytes)) (omega arith)) c.loop.invariant.0 c.in_err-put.ensures.prefix)

pub loop-preserved : goal.loop-preserved
loop-preserved g c =
    let piece = c.args.piece in
    let bytes = c.args.bytes.now in (
      counts_on (g.K.Sink.held c.args.sink.now) (g.K.Sink.held c.loop.sink) (g.K.Sink.held c.put.new.sink) c.args.held.now.items
          c.loop.held.items (bytes_at bytes piece.start piece.len) _ c.put.new.held.items c.loop.counter
          (ap (λ n. take n (drop piece.start bytes)) (omega arith)) c.loop.invariant.0 c.in_ok-put.ensures.written,
      c.in_ok-put.ensures.quiet ∙ c.loop.invariant.1,
    )
