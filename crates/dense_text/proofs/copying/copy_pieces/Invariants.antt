use Rattle.std.proofs.Common.{◌≡◌, ◌++◌, take}
use Rattle.std.specs.List.{flat_map}
use Rattle.dense_text.specs.Ranges.{piece_of}
use Rattle.dense_text.proofs.copying.copy_pieces.Given as goal

abbrev pub invariant-loop-piece : goal.invariant-loop-piece
invariant-loop-piece l = l.copy.items ≡ l.fn.copy.items ++ flat_map (piece_of l.bytes) (take l.piece-index l.pieces)
