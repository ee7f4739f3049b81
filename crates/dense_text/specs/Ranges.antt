-- Which ranges of bytes are a text.
use Rattle.std.specs.Prelude.{◌≡◌, ◌≤◌, ◌<◌, ◌+◌, ◌^◌, ◌⊎◌, ℕ, List, ◌++◌, All, length, take, drop}
use Rattle.std.specs.List.{flat_map, repeat}
use Rattle.dense_text.specs.declared.parts.Parts.{Parts}
use Rattle.dense_text.specs.declared.parts.Piece.{Piece}

-- so many bytes from a place on
abbrev pub bytes_at : List ℕ → (start len : ℕ) → List ℕ
bytes_at bytes start len = take len (drop start bytes)

-- what a piece is of these bytes
abbrev pub piece_of : List ℕ → Piece → List ℕ
piece_of bytes piece = repeat piece.times (bytes_at bytes piece.start piece.len)

-- what all pieces are
abbrev pub closed_text : Parts → List ℕ
closed_text parts = flat_map (piece_of parts.bytes.items) parts.pieces.items ++ piece_of parts.bytes.items parts.last

-- what they are with the tail behind them
abbrev pub text_of : Parts → List ℕ
text_of parts = closed_text parts ++ bytes_at parts.bytes.items parts.tail.start parts.tail.len

-- a piece is one of these bytes
abbrev pub IsWithin : List ℕ → Piece → Type 0
IsWithin bytes piece = piece.start + piece.len ≤ length bytes

-- The ranges are some of the bytes. The tail is at their end where a piece couldn't say where it stands.
pub record IsSound (parts : Parts) : Type 0 where
  pub pieces : All (IsWithin parts.bytes.items) parts.pieces.items
  pub last : IsWithin parts.bytes.items parts.last
  pub tail : parts.tail.start + parts.tail.len ≤ length parts.bytes.items
  pub near : (parts.tail.start + parts.tail.len ≡ length parts.bytes.items) ⊎ (length parts.bytes.items < 2 ^ 32)
