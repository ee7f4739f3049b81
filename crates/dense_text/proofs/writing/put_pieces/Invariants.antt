use Rattle.std.proofs.Common.{◌≡◌, ◌++◌, take}
use Rattle.std.specs.List.{flat_map}
use Rattle.dense_text.specs.Behind.{IsBehind}
use Rattle.dense_text.specs.Ranges.{piece_of}
use Rattle.dense_text.proofs.writing.put_pieces.Given as goal

abbrev pub invariant-loop-piece : goal.invariant-loop-piece
invariant-loop-piece g l =
    IsBehind (g.K.Sink.held l.fn.sink) (l.fn.held.items ++ flat_map (piece_of l.bytes) (take l.piece-index l.pieces))
    (g.K.Sink.held l.sink) l.held.items
    × (g.K.Sink.faults l.sink ≡ g.K.Sink.faults l.fn.sink)
