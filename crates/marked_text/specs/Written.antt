-- What a text with marks is behind a write.
use Rattle.std.specs.Prelude.{◌≡◌, ◌++◌, false, List, ℕ}
use Rattle.marked_text.specs.Pieces.{pieces_bytes}
use Rattle.marked_text.specs.declared.markup.Markup.{Markup}
use Rattle.marked_text.specs.declared.piece.Piece.{Piece}

-- it has these bytes more, if memory was never refused
abbrev pub HasMore : Markup → Markup → List ℕ → Type 0
HasMore old new bytes = new.is_short ≡ false → (old.is_short ≡ false) × (new.text.items ≡ old.text.items ++ bytes)

-- (what callers write is long, and none of them speaks of it: they see a name of it alone)
unfoldable pub HasMarks : Markup → Markup → List ℕ → Type 0
HasMarks old new marks = HasMore old new marks

unfoldable pub HasPieces : Markup → Markup → List Piece → Type 0
HasPieces old new pieces = HasMore old new (pieces_bytes pieces)
