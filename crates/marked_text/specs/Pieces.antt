-- What the pieces of a text with marks are, in bytes.
use Rattle.std.specs.Prelude.{ℕ, List, ◌++◌, codes, decimal, flat_map}
use Rattle.hex_digits.specs.Digits.{hex}
use Rattle.marked_text.specs.Escape.{escape}
use Rattle.marked_text.specs.declared.piece.Piece.{Piece}
use Rattle.marked_text.specs.declared.piece.Piece.TheVariants as piece

-- a link to the row of an address
abbrev pub link_bytes : ℕ → List ℕ
link_bytes address = codes "<a href=#" ++ hex 4 address ++ codes ">" ++ hex 4 address ++ codes "</a>"

abbrev pub piece_bytes : Piece → List ℕ
piece_bytes (piece.Marks marks) = marks.now
piece_bytes (piece.Bytes bytes) = bytes.now
piece_bytes (piece.Text text) = escape text.now
piece_bytes (piece.Address address) = hex 4 address
piece_bytes (piece.Link address) = link_bytes address
piece_bytes (piece.Byte byte) = hex 2 byte
piece_bytes (piece.Number number) = decimal number

abbrev pub pieces_bytes : List Piece → List ℕ
pieces_bytes pieces = flat_map piece_bytes pieces
