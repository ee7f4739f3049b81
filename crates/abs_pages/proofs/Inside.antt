-- What is read inside of a page, by its own cells.
use Rattle.std.proofs.Common.{◌≡◌, ℕ, ◌+◌, ◌-◌, ◌/◌, ◌%◌, ◌<◌, refl, sym, ap, ◌∙◌, true, Option, None, List, [], inl, inr, arith}
use Rattle.std.specs.Prelude.{◌⊎◌, ◌==◌, ◌||◌, not}
use Rattle.std.proofs.lemmas.Bool.{and_parts, eq-eqb}
use Rattle.value_set.specs.declared.form.Form.{Form}
use Rattle.entry_value.specs.declared.cells.Cell.{Cell}
use Rattle.entry_value.specs.declared.word.Word.{Word}
use Rattle.entry_value.specs.Cells.{AreCells, byte_at, cell_at, found_or, put_together, read, unknown, word_of_byte, word_of_bytes}
use Rattle.abs_pages.specs.Paging.{AreRead, Paged, begun_at, cells_at, flat, is_inside}
use Rattle.abs_pages.proofs.Begun.{byte_begun, byte_of}
use Rattle.abs_pages.proofs.Flat.{begun_looked, looked}

-- pages that are read, and the cells of the one of a number
pub record AreSeen (pages : List Paged) (number : ℕ) (cells : List Cell) : Type 0 where
  pub read : AreRead pages
  pub low : ℕ
  pub high : ℕ
  pub first : ℕ
  pub own : AreCells low high first cells
  pub is : cells ≡ cells_at pages number

begun_seen : (pages : List Paged) (number : ℕ) (cells : List Cell) (at : ℕ) → AreSeen pages number cells
    → at / 32 ≡ number → begun_at (flat pages) at ≡ begun_at cells at
begun_seen pages number cells at seen e = begun_looked 0 pages at number seen.read.rise seen.read.each e ∙ ap (λ found. begun_at found at) (sym seen.is)

byte_seen : (pages : List Paged) (number : ℕ) (cells : List Cell) (at : ℕ) → AreSeen pages number cells
    → at / 32 ≡ number → (at % 32 ≡ 0 → ⊥)
    → byte_at (flat pages) at ≡ byte_at cells at
byte_seen pages number cells at seen e behind =
    sym (byte_begun seen.read.lo seen.read.hi seen.read.lo (flat pages) at seen.read.are)
    ∙ (ap (λ here. byte_of here (begun_at (flat pages) (at - 1))) (begun_seen pages number cells at seen e)
    ∙ (ap (byte_of (begun_at cells at)) (begun_seen pages number cells (at - 1) seen (omega (arith, e, behind)))
    ∙ byte_begun seen.low seen.high seen.first cells at seen.own))

abbrev pub of_byte : Option Form → Word
of_byte byte = record { set = word_of_byte byte; entry = None }

abbrev pub of_bytes : (low high : Option Form) → Word
of_bytes low high = record { set = word_of_bytes low high; entry = None }

together_seen : (pages : List Paged) (number : ℕ) (cells : List Cell) (at size : ℕ) → AreSeen pages number cells
    → at < 65536 → at / 32 ≡ number → (at % 32 ≡ 0 → ⊥)
    → (size ≡ 1) ⊎ ((size ≡ 2) × (at % 32 ≡ 31 → ⊥)) → put_together (flat pages) at size ≡ put_together cells at size
together_seen pages number cells at size seen below e behind (inl one) = rw one (ap of_byte (byte_seen pages number cells at seen e behind))
together_seen pages number cells at size seen below e behind (inr two) =
    let next : (at + 1) % 65536 ≡ at + 1 = omega (arith, below, two.1) in
    let high : byte_at (flat pages) (at + 1) ≡ byte_at cells (at + 1) = byte_seen pages number cells (at + 1) seen (omega (arith, e, two.1)) (λ zero. omega (arith, zero, two.1)) in
    rw (two.0, next) (ap (λ low. of_bytes low (byte_at (flat pages) (at + 1))) (byte_seen pages number cells at seen e behind)
    ∙ ap (of_bytes (byte_at cells at)) high)

pub read_seen : (pages : List Paged) (number : ℕ) (cells : List Cell) (at size : ℕ) → AreSeen pages number cells
    → at < 65536 → at / 32 ≡ number
    → (size ≡ 1) ⊎ (size ≡ 2) → is_inside at size ≡ true → read (flat pages) at size ≡ read cells at size
unfolding read
read_seen pages number cells at size seen below e sizes inside =
    let parts = and_parts (not (at % 32 == 0)) ((size == 1) || not (at % 32 == 31)) inside in
    let behind : at % 32 ≡ 0 → ⊥ = λ zero. (let clash = rw (eq-eqb (at % 32) 0 zero) at parts.0 in cc) in
    let fits : (size ≡ 1) ⊎ ((size ≡ 2) × (at % 32 ≡ 31 → ⊥)) = elim sizes [
      | inl one ↦ inl one
      | inr two ↦ inr (two, λ last. (let clash = rw (two, eq-eqb (at % 32) 31 last) at parts.1 in cc))
    ] in
    let cell : cell_at (flat pages) at size ≡ cell_at cells at size = looked 0 pages at size number seen.read.rise seen.read.each e ∙ ap (λ found. cell_at found at size) (sym seen.is) in
    ap (λ found. found_or found (put_together (flat pages) at size)) cell
    ∙ ap (found_or (cell_at cells at size)) (together_seen pages number cells at size seen below e behind fits)

pub read_none : (at size : ℕ) → (size ≡ 1) ⊎ (size ≡ 2) → read [] at size ≡ unknown size
unfolding read
read_none at size (inl one) = rw one refl
read_none at size (inr two) = rw two refl
