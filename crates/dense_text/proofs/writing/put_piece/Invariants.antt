use Rattle.std.proofs.Common.{◌≡◌, ◌++◌}
use Rattle.std.specs.List.{repeat}
use Rattle.dense_text.specs.Behind.{IsBehind}
use Rattle.dense_text.specs.Ranges.{bytes_at}
use Rattle.dense_text.proofs.writing.put_piece.Given as goal

abbrev pub invariant-loop : goal.invariant-loop
invariant-loop g l =
    IsBehind (g.K.Sink.held l.fn.sink) (l.fn.held.items ++ repeat l.counter (bytes_at l.bytes l.fn.piece.start l.fn.piece.len))
    (g.K.Sink.held l.sink) l.held.items
    × (g.K.Sink.faults l.sink ≡ g.K.Sink.faults l.fn.sink)
