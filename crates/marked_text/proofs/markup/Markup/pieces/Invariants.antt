use Rattle.std.proofs.Common.{◌≡◌, ◌++◌, take}
use Rattle.marked_text.specs.Pieces.{pieces_bytes}
use Rattle.marked_text.proofs.markup.Markup.pieces.Given as goal

-- the pieces so far stand behind what stood there
abbrev pub invariant-loop-piece : goal.invariant-loop-piece
invariant-loop-piece l = l.self.text.items ≡ l.initial.self.text.items ++ pieces_bytes (take l.piece-index l.pieces)
