-- What is read holds of what stands there.
use Rattle.std.proofs.Common.{◌≡◌, ℕ, ◌+◌, ◌*◌, ◌%◌, ◌<◌, ◌≤◌, true, Option, None, Some, List, [], ◌∷◌, sym, ◌∙◌, ap, subst, inl, inr, arith}
use Rattle.std.specs.Prelude.{◌==◌, nat_le, nat_lt, if◌then◌else◌}
use Rattle.std.specs.List.{Contains}
use Rattle.std.proofs.lemmas.Bool.{cases_Bool, and_parts, eqb-true, eqb-false, leb-true, ltb-true}
use Rattle.value_set.specs.declared.form.Form.{Form}
use Rattle.value_set.specs.Form.{Fits, Has, IsNormal, make, steps}
use Rattle.value_bits.specs.Sets.{low_set, high_set, pair_set}
use Rattle.entry_value.specs.declared.word.Word.{Word}
use Rattle.entry_value.specs.declared.cells.Cell.{Cell}
use Rattle.entry_value.specs.Words.{Suspended, HoldsOfWord}
use Rattle.entry_value.specs.Cells.{StandsUnder, IsCell, AreCells, number_at, cell_at, has_byte, byte_at, word_of_byte, word_of_bytes, put_together, found_or, read}
use Rattle.entry_value.proofs.Bytes.{IsSize, AreBytes, low_part, high_part}
use Rattle.entry_value.specs.CellLists.{Each, OfSome, each_from, each_cell, found_at}
use Rattle.value_bits.specs.Laws.{BitLaws}
use Rattle.value_set.specs.Laws.{SetLaws}
use Rattle.plain_lemmas.specs.Small.{word_alone}
use Rattle.entry_value.proofs.Values.{put_back}

-- ---- any number of a size

few_of : SetLaws → (v : ℕ) → v < 256 → Has 65536 (make 65536 0 1 256) v
few_of sets v below =
    let fits : Fits 65536 1 256 = record { positive = omega arith; some = omega arith; once = omega arith; strides = λ more. omega arith } in
    let same : (0 + v * 1) % 65536 ≡ v = omega (arith, below) in
    (sets.run_exact 65536 0 1 256 v fits).1 (subst (λ (n : ℕ). Contains (steps 65536 0 1 256) n) same (sets.steps_have 65536 0 1 256 v below))

-- ---- the byte that a cell has of an address

abbrev IsByte : (ℕ → ℕ) → ℕ → Form → Type 0
IsByte ram at set = IsNormal 256 set × Has 256 set (ram at)

next_place : (place at size : ℕ) → size ≡ 2 → place ≤ at → at < place + size → (at ≡ place → ⊥) → at ≡ place + 1
next_place place at size two from to other = omega arith

one_place : (place at size : ℕ) → size ≡ 1 → place ≤ at → at < place + size → (at ≡ place → ⊥) → ⊥
one_place place at size one from to other = other (omega arith)

byte_of_cell : BitLaws → (first : Option Suspended) (ram : ℕ → ℕ) → AreBytes ram → (at : ℕ) → at < 65536 → (cell : Cell) → IsSize cell.size
    → IsNormal 65536 cell.word.set
    → HoldsOfWord first cell.word (number_at ram cell.place cell.size) → has_byte cell at ≡ true
    → IsByte ram at (if at == cell.place then low_set cell.word.set else high_set cell.word.set)
byte_of_cell bits first ram bytes at below cell size normal holds has =
    let parts = and_parts (nat_le cell.place at) (nat_lt at (cell.place + cell.size)) has in
    let from : cell.place ≤ at = leb-true cell.place at parts.0 in
    let to : at < cell.place + cell.size = ltb-true at (cell.place + cell.size) parts.1 in
    elim (cases_Bool (at == cell.place)) [
      | inl same ↦ rw same (
        bits.low_normal cell.word.set normal,
        subst (λ (b : ℕ). Has 256 (low_set cell.word.set) b)
            (low_part ram bytes cell.place cell.size size ∙ ap ram (sym (eqb-true at cell.place same)))
            (bits.low (number_at ram cell.place cell.size) cell.word.set normal holds.0),
      )
      | inr other ↦ rw other (elim size [
        | inl one ↦ absurd (one_place cell.place at cell.size one from to (eqb-false at cell.place other))
        | inr two ↦ (
          bits.high_normal cell.word.set normal,
          (let next = next_place cell.place at cell.size two from to (eqb-false at cell.place other) in
              let turn : (cell.place + 1) % 65536 ≡ at = ap (λ (n : ℕ). n % 65536) (sym next) ∙ word_alone at below in
              subst (λ (b : ℕ). Has 256 (high_set cell.word.set) b)
              (high_part ram bytes cell.place cell.size two ∙ ap ram turn)
              (bits.high (number_at ram cell.place cell.size) cell.word.set normal holds.0)),
        )
      ])
    ]

-- a cell of a form that holds of what stands at its place
pub record Holds (first : Option Suspended) (ram : ℕ → ℕ) (cell : Cell) : Type 0 where
  pub size : IsSize cell.size
  pub normal : IsNormal 65536 cell.word.set
  pub holds : HoldsOfWord first cell.word (number_at ram cell.place cell.size)

byte_found : BitLaws → (first : Option Suspended) (ram : ℕ → ℕ) → AreBytes ram → (at : ℕ) → at < 65536
    → (cells : List Cell) → Each (Holds first ram) cells
    → OfSome (IsByte ram at) (byte_at cells at)
byte_found bits first ram bytes at below [] h = tt
byte_found bits first ram bytes at below (cell ∷ cells) h = elim (cases_Bool (has_byte cell at)) [
  | inl has ↦ rw has (byte_of_cell bits first ram bytes at below cell h.0.size h.0.normal h.0.holds has)
  | inr apart ↦ rw apart (byte_found bits first ram bytes at below cells h.1)
]

-- ---- put together

turned : (a b : ℕ) → a + b * 256 ≡ a + 256 * b
turned a b = omega arith

below_word : (a b : ℕ) → a < 256 → b < 256 → a + 256 * b < 65536
below_word a b h k = omega arith

of_byte : SetLaws → BitLaws → (ram : ℕ → ℕ) → AreBytes ram → (at : ℕ) (found : Option Form) → OfSome (IsByte ram at) found
    → Has 65536 (word_of_byte found) (ram at)
of_byte sets bits ram bytes at None h = few_of sets (ram at) (bytes at)
of_byte sets bits ram bytes at (Some byte) h = put_back sets bits byte (ram at) h.0 h.1

of_bytes : SetLaws → BitLaws → (ram : ℕ → ℕ) → AreBytes ram → (at next : ℕ) (low high : Option Form) → OfSome (IsByte ram at) low
    → OfSome (IsByte ram next) high
    → Has 65536 (word_of_bytes low high) (ram at + 256 * ram next)
of_bytes sets bits ram bytes at next None high h k = sets.whole 65536 (ram at + 256 * ram next) (below_word (ram at) (ram next) (bytes at) (bytes next))
of_bytes sets bits ram bytes at next (Some low) None h k = sets.whole 65536 (ram at + 256 * ram next) (below_word (ram at) (ram next) (bytes at) (bytes next))
of_bytes sets bits ram bytes at next (Some low) (Some high) h k =
    subst (λ (n : ℕ). Has 65536 (pair_set low high) n) (turned (ram at) (ram next)) (bits.pair (ram at) (ram next) low high h.0 k.0 h.1 k.1)

next_below : (at : ℕ) → (at + 1) % 65536 < 65536
next_below at = omega arith

together : SetLaws → BitLaws → (first : Option Suspended) (ram : ℕ → ℕ) → AreBytes ram → (at size : ℕ) → at < 65536
    → IsSize size → (cells : List Cell)
    → Each (Holds first ram) cells → HoldsOfWord first (put_together cells at size) (number_at ram at size)
together sets bits first ram bytes at size below (inl one) cells h =
    subst (λ (s : ℕ). HoldsOfWord first (put_together cells at s) (number_at ram at s)) (sym one)
    (of_byte sets bits ram bytes at (byte_at cells at) (byte_found bits first ram bytes at below cells h), tt)
together sets bits first ram bytes at size below (inr two) cells h =
    subst (λ (s : ℕ). HoldsOfWord first (put_together cells at s) (number_at ram at s)) (sym two) (
      of_bytes sets bits ram bytes at ((at + 1) % 65536) (byte_at cells at) (byte_at cells ((at + 1) % 65536))
          (byte_found bits first ram bytes at below cells h) (byte_found bits first ram bytes ((at + 1) % 65536) (next_below at) cells h),
      tt,
    )

or_else : (first : Option Suspended) (v : ℕ) (found : Option Word) (otherwise : Word) → OfSome (λ word. HoldsOfWord first word v) found
    → HoldsOfWord first otherwise v
    → HoldsOfWord first (found_or found otherwise) v
or_else first v None otherwise h k = k
or_else first v (Some word) otherwise h k = h

each_of_both : (first : Option Suspended) (ram : ℕ → ℕ) (lo hi : ℕ) (cells : List Cell) → Each (IsCell lo hi) cells
    → Each (λ cell. HoldsOfWord first cell.word (number_at ram cell.place cell.size)) cells → Each (Holds first ram) cells
each_of_both first ram lo hi [] h k = tt
each_of_both first ram lo hi (cell ∷ cells) h k = (record { size = h.0.size; normal = h.0.normal; holds = k.0 }, each_of_both first ram lo hi cells h.1 k.1)

pub each_holds : (first : Option Suspended) (ram : ℕ → ℕ) (lo hi from : ℕ) (cells : List Cell) → AreCells lo hi from cells
    → StandsUnder first cells ram → Each (Holds first ram) cells
each_holds first ram lo hi from cells are h = each_of_both first ram lo hi cells (each_cell lo hi from cells are)
    (each_from (λ cell. HoldsOfWord first cell.word (number_at ram cell.place cell.size)) cells h.1)

pub read_holds : SetLaws → BitLaws
    → (first : Option Suspended) (ram : ℕ → ℕ) (lo hi from : ℕ) (cells : List Cell) (at size : ℕ) → at < 65536
    → IsSize size
    → AreCells lo hi from cells → StandsUnder first cells ram → HoldsOfWord first (read cells at size) (number_at ram at size)
unfolding read
read_holds sets bits first ram lo hi from cells at size below is are h =
    let held = each_holds first ram lo hi from cells are h in
    or_else first (number_at ram at size) (cell_at cells at size) (put_together cells at size)
    (found_at (λ place s word. HoldsOfWord first word (number_at ram place s)) cells at size
    (each_from (λ cell. HoldsOfWord first cell.word (number_at ram cell.place cell.size)) cells h.1))
    (together sets bits first ram h.0 at size below is cells held)
