use Rattle.std.proofs.Common.{rules, ◌∙◌}
use Rattle.dense_text.specs.Ranges.{piece_of}
use Rattle.dense_text.proofs.PassLemmas.{goes_over, on_err, stops_in}
use Rattle.dense_text.proofs.writing.put_pieces.Goals as goal

pub returns-in_err-put_piece-clause-prefix : goal.returns-in_err-put_piece-clause-prefix
returns-in_err-put_piece-clause-prefix g c =
    on_err c.from_residual.result
    (stops_in (piece_of c.args.bytes.now) (g.K.Sink.held c.args.sink.now) (g.K.Sink.held c.loop-piece.sink) (g.K.Sink.held c.put_piece.new.sink)
    c.args.held.now.items c.loop-piece.held.items c.args.pieces.now c.loop-piece.piece-index _ (search rules)
    c.loop-piece.invariant.0 c.in_err-put_piece.ensures.prefix)

pub loop-piece-preserved : goal.loop-piece-preserved
loop-piece-preserved g c = (
  goes_over (piece_of c.args.bytes.now) (g.K.Sink.held c.args.sink.now) (g.K.Sink.held c.loop-piece.sink) (g.K.Sink.held c.put_piece.new.sink)
      c.args.held.now.items c.loop-piece.held.items c.args.pieces.now c.loop-piece.piece-index _ (search rules) c.put_piece.new.held.items
      c.loop-piece.invariant.0 c.in_ok-put_piece.ensures.written,
  c.in_ok-put_piece.ensures.quiet ∙ c.loop-piece.invariant.1,
)
