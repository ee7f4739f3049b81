-- The sets of what is read: they are in normal form, and those of one byte stay below 100h.
use Rattle.std.proofs.Common.{◌≡◌, ℕ, ◌+◌, ◌%◌, ◌<◌, Option, None, Some, List, [], ◌∷◌, refl, inl, inr, subst, sym, arith}
use Rattle.std.specs.Prelude.{◌==◌, if◌then◌else◌}
use Rattle.std.proofs.lemmas.Bool.{cases_Bool}
use Rattle.value_set.specs.declared.form.Form.{Form}
use Rattle.value_set.specs.Form.{Has, IsNormal, make}
use Rattle.value_set.specs.Summing.{single}
use Rattle.value_bits.specs.Sets.{low_set, high_set}
use Rattle.entry_value.specs.declared.word.Word.{Word}
use Rattle.entry_value.specs.declared.cells.Cell.{Cell}
use Rattle.entry_value.specs.Cells.{IsCell, AreCells, any_of, cell_at, has_byte, byte_at, word_of_byte, word_of_bytes, put_together, found_or, read}
use Rattle.entry_value.specs.CellLists.{Each, OfSome, each_then, each_cell, found_at}
use Rattle.value_bits.specs.Laws.{BitLaws}
use Rattle.value_set.specs.Laws.{SetLaws}

pub single_low : SetLaws → (n v : ℕ) → n < 256 → Has 65536 (single n) v → v < 256
single_low sets n v below h = subst (λ (x : ℕ). x < 256) (sets.only 65536 n v h) below

-- ---- any number of a size

pub any_low : SetLaws → (v : ℕ) → Has 65536 (any_of 1) v → v < 256
any_low sets v h = sets.run_below 256 65536 0 1 256 (omega arith) (omega arith) v h

any_byte_normal : IsNormal 65536 (make 65536 0 1 256)
unfolding make
any_byte_normal = record { long = omega arith; strides = omega arith; below = omega arith; once = omega arith; least = λ e. omega arith }

any_word_normal : IsNormal 65536 (make 65536 0 1 65536)
unfolding make
any_word_normal = record { long = omega arith; strides = omega arith; below = omega arith; once = omega arith; least = λ e. omega arith }

any_normal : (size : ℕ) → IsNormal 65536 (any_of size)
any_normal size = elim (cases_Bool (size == 1)) [ inl one ↦ rw one any_byte_normal | inr wide ↦ rw wide any_word_normal ]

-- ---- bytes of cells

byte_of_cell : BitLaws → (at : ℕ) (cell : Cell) → IsNormal 65536 cell.word.set
    → IsNormal 256 (if at == cell.place then low_set cell.word.set else high_set cell.word.set)
byte_of_cell bits at cell normal = elim (cases_Bool (at == cell.place)) [
  | inl same ↦ rw same (bits.low_normal cell.word.set normal)
  | inr other ↦ rw other (bits.high_normal cell.word.set normal)
]

byte_normal : BitLaws → (lo hi at : ℕ) (cells : List Cell) → Each (IsCell lo hi) cells → OfSome (IsNormal 256) (byte_at cells at)
byte_normal bits lo hi at [] h = tt
byte_normal bits lo hi at (cell ∷ cells) h = elim (cases_Bool (has_byte cell at)) [
  | inl has ↦ rw has (byte_of_cell bits at cell h.0.normal)
  | inr apart ↦ rw apart (byte_normal bits lo hi at cells h.1)
]

-- ---- put together

of_byte_normal : SetLaws → BitLaws → (found : Option Form) → OfSome (IsNormal 256) found → IsNormal 65536 (word_of_byte found)
of_byte_normal sets bits None h = any_byte_normal
of_byte_normal sets bits (Some byte) h = bits.pair_normal byte (single 0) h (sets.single 256 0 (omega arith)).0

of_bytes_normal : BitLaws → (low high : Option Form) → OfSome (IsNormal 256) low → OfSome (IsNormal 256) high
    → IsNormal 65536 (word_of_bytes low high)
of_bytes_normal bits None high h k = any_word_normal
of_bytes_normal bits (Some low) None h k = any_word_normal
of_bytes_normal bits (Some low) (Some high) h k = bits.pair_normal low high h k

together_normal : SetLaws → BitLaws → (lo hi at size : ℕ) (cells : List Cell) → Each (IsCell lo hi) cells
    → IsNormal 65536 (put_together cells at size).set
together_normal sets bits lo hi at size cells h = elim (cases_Bool (size == 1)) [
  | inl one ↦ rw one (of_byte_normal sets bits (byte_at cells at) (byte_normal bits lo hi at cells h))
  | inr wide ↦ rw wide (of_bytes_normal bits (byte_at cells at) (byte_at cells ((at + 1) % 65536)) (byte_normal bits lo hi at cells h) (byte_normal bits lo hi ((at + 1) % 65536) cells h))
]

of_byte_low : SetLaws → BitLaws → (found : Option Form) → OfSome (IsNormal 256) found → (v : ℕ) → Has 65536 (word_of_byte found) v → v < 256
of_byte_low sets bits None h v k = any_low sets v k
of_byte_low sets bits (Some byte) h v k = bits.pair_byte byte v h k

-- ---- what is read

or_else : (P : Word → Type 0) (found : Option Word) (otherwise : Word) → OfSome P found → P otherwise → P (found_or found otherwise)
or_else P None otherwise h k = k
or_else P (Some word) otherwise h k = h

pub read_normal : SetLaws → BitLaws → (lo hi from at size : ℕ) (cells : List Cell) → AreCells lo hi from cells
    → IsNormal 65536 (read cells at size).set
unfolding read
read_normal sets bits lo hi from at size cells are =
    let all = each_cell lo hi from cells are in
    or_else (λ word. IsNormal 65536 word.set) (cell_at cells at size) (put_together cells at size)
    (found_at (λ place s word. IsNormal 65536 word.set) cells at size (each_then (IsCell lo hi) (λ cell. IsNormal 65536 cell.word.set) cells (λ cell is. is.normal) all))
    (together_normal sets bits lo hi at size cells all)

one_low : (size : ℕ) (found : Option Word) → size ≡ 1 → OfSome (λ word. size ≡ 1 → (v : ℕ) → Has 65536 word.set v → v < 256) found
    → OfSome (λ word. (v : ℕ) → Has 65536 word.set v → v < 256) found
one_low size None one h = tt
one_low size (Some word) one h = h one

byte_read_low : SetLaws → BitLaws → (lo hi from at : ℕ) (cells : List Cell) → AreCells lo hi from cells → (v : ℕ)
    → Has 65536 (read cells at 1).set v → v < 256
unfolding read
byte_read_low sets bits lo hi from at cells are =
    let all = each_cell lo hi from cells are in
    or_else (λ word. (v : ℕ) → Has 65536 word.set v → v < 256) (cell_at cells at 1) (put_together cells at 1)
    (one_low 1 (cell_at cells at 1) refl (found_at (λ place s word. s ≡ 1 → (v : ℕ) → Has 65536 word.set v → v < 256) cells at 1
    (each_then (IsCell lo hi) (λ cell. cell.size ≡ 1 → (v : ℕ) → Has 65536 cell.word.set v → v < 256) cells (λ cell is. is.byte) all)))
    (of_byte_low sets bits (byte_at cells at) (byte_normal bits lo hi at cells all))

pub read_low : SetLaws → BitLaws → (lo hi from at size : ℕ) (cells : List Cell) → AreCells lo hi from cells → size ≡ 1 → (v : ℕ)
    → Has 65536 (read cells at size).set v → v < 256
read_low sets bits lo hi from at size cells are one =
    subst (λ (s : ℕ). (v : ℕ) → Has 65536 (read cells at s).set v → v < 256) (sym one) (byte_read_low sets bits lo hi from at cells are)
