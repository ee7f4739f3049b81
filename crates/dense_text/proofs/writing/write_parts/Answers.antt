use Rattle.std.proofs.Common.{arith, ap, take, drop}
use Rattle.std.proofs.lemmas.Result.{on_err_weaker}
use Rattle.dense_text.proofs.PassLemmas.{on_err, stops_at_last, stops_in_last, stops_in_pieces, stops_in_tail}
use Rattle.dense_text.proofs.writing.write_parts.Goals as goal

pub returns-in_err-put_pieces-clause-prefix : goal.returns-in_err-put_pieces-clause-prefix
returns-in_err-put_pieces-clause-prefix g c =
    on_err c.from_residual.result
    (stops_in_pieces (g.K.Sink.held c.args.sink.now) (g.K.Sink.held c.put_pieces.new.sink) c.args.parts.now c.new-held.result.items
    c.as_slice-bytes.result.now c.as_slice.result.now c.new-held.ensures c.as_slice-bytes.ensures.value c.as_slice.ensures.value
    c.in_err-put_pieces.ensures.prefix)

pub returns-in_err-put_piece-clause-prefix : goal.returns-in_err-put_piece-clause-prefix
returns-in_err-put_piece-clause-prefix g c =
    on_err c.from_residual-in_err-put_piece.result
    (stops_in_last (g.K.Sink.held c.args.sink.now) (g.K.Sink.held c.put_piece.new.sink) c.args.parts.now c.new-held.result.items
    c.as_slice-bytes.result.now c.as_slice.result.now c.new-held.ensures c.as_slice-bytes.ensures.value c.as_slice.ensures.value
    (g.K.Sink.held c.put_pieces.new.sink) c.put_pieces.new.held.items c.in_ok-put_pieces.ensures.written c.in_err-put_piece.ensures.prefix)

pub returns-in_err-put-clause-prefix : goal.returns-in_err-put-clause-prefix
returns-in_err-put-clause-prefix g c =
    let tail = c.args.parts.now.tail in
    on_err c.from_residual-in_err-put.result
    (stops_in_tail (g.K.Sink.held c.args.sink.now) (g.K.Sink.held c.put.new.sink) c.args.parts.now c.new-held.result.items
    c.as_slice-bytes.result.now c.as_slice.result.now c.new-held.ensures c.as_slice-bytes.ensures.value c.as_slice.ensures.value
    (g.K.Sink.held c.put_pieces.new.sink) (g.K.Sink.held c.put_piece.new.sink) c.put_pieces.new.held.items c.put_piece.new.held.items _
    c.in_ok-put_pieces.ensures.written c.in_ok-put_piece.ensures.written c.in_err-put.ensures.prefix
    (ap (λ n. take n (drop tail.start c.as_slice-bytes.result.now)) (omega arith)))

pub returns-clause-prefix : goal.returns-clause-prefix
returns-clause-prefix g c =
    let tail = c.args.parts.now.tail in
    on_err_weaker c.flush.result
    (stops_at_last (g.K.Sink.held c.args.sink.now) (g.K.Sink.held c.flush.new.sink) c.args.parts.now c.new-held.result.items
    c.as_slice-bytes.result.now c.as_slice.result.now c.new-held.ensures c.as_slice-bytes.ensures.value c.as_slice.ensures.value
    (g.K.Sink.held c.put_pieces.new.sink) (g.K.Sink.held c.put_piece.new.sink) (g.K.Sink.held c.put.new.sink)
    c.put_pieces.new.held.items c.put_piece.new.held.items c.put.new.held.items _
    c.in_ok-put_pieces.ensures.written c.in_ok-put_piece.ensures.written c.in_ok-put.ensures.written
    (ap (λ n. take n (drop tail.start c.as_slice-bytes.result.now)) (omega arith)))
    c.flush.ensures.prefix
