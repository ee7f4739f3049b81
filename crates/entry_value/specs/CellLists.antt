-- Facts of each cell of a list, and of lists in ascending order: definitions and lemmas, also for the proofs of crates above.
use Rattle.std.proofs.Common.{◌≡◌, ℕ, ◌+◌, ◌-◌, ◌<◌, ◌≤◌, Bool, true, Option, None, Some, List, [], ◌∷◌, map, refl, subst, inl, inr, arith, nat_lt}
use Prim.Native.Nat.{zero, suc}
use Rattle.std.specs.Prelude.{◌==◌, ◌&&◌, ◌||◌, ◌⊎◌, not}
use Rattle.std.specs.List.{Contains, filter}
use Rattle.std.proofs.lemmas.Bool.{cases_Bool, and_parts, eqb-true}
use Rattle.entry_value.specs.declared.word.Word.{Word}
use Rattle.entry_value.specs.declared.cells.Cell.{Cell}
use Rattle.entry_value.specs.Words.{Suspended, HoldsOfWord}
use Rattle.entry_value.specs.Cells.{CellMap, IsCell, AreCells, cell_at, insert, is_nothing, meets, number_at, with_cell, with_some, write_one, kept}

abbrev pub Each : (Cell → Type 0) → List Cell → Type 0
Each P [] = Unit {0}
Each P (cell ∷ cells) = P cell × Each P cells

-- a fact of what there is
abbrev pub OfSome : {A : Type 0} → (A → Type 0) → Option A → Type 0
OfSome P None = Unit {0}
OfSome P (Some x) = P x

pub each_from : (P : Cell → Type 0) (cells : List Cell) → ((cell : Cell) → Contains cells cell → P cell) → Each P cells
each_from P [] h = tt
each_from P (cell ∷ cells) h = (h cell (0, omega arith, refl), each_from P cells (λ other k. h other (suc k.0, omega (arith, k.1), k.2)))

pub each_in : (P : Cell → Type 0) (cells : List Cell) → Each P cells → (cell : Cell) → Contains cells cell → P cell
each_in P [] h cell k = absurd (omega (arith, k.1))
each_in P (c ∷ cells) h cell (zero, below, is) = subst P is h.0
each_in P (c ∷ cells) h cell (suc k, below, is) = each_in P cells h.1 cell (k, omega arith, is)

pub each_both : (P Q : Cell → Type 0) (cells : List Cell) → Each P cells → Each Q cells → Each (λ cell. P cell × Q cell) cells
each_both P Q [] h k = tt
each_both P Q (cell ∷ cells) h k = ((h.0, k.0), each_both P Q cells h.1 k.1)

pub each_then : (P Q : Cell → Type 0) (cells : List Cell) → ((cell : Cell) → P cell → Q cell) → Each P cells → Each Q cells
each_then P Q [] f h = tt
each_then P Q (cell ∷ cells) f h = (f cell h.0, each_then P Q cells f h.1)

pub each_insert : (P : Cell → Type 0) (cell : Cell) (cells : List Cell) → P cell → Each P cells → Each P (insert cell cells)
each_insert P cell [] h k = (h, tt)
each_insert P cell (c ∷ cells) h k = elim (cases_Bool (nat_lt cell.place c.place)) [
  | inl before ↦ rw before (h, k)
  | inr behind ↦ rw behind (k.0, each_insert P cell cells h k.1)
]

pub each_map : (P Q : Cell → Type 0) (f : Cell → Cell) (cells : List Cell) → ((cell : Cell) → P cell → Q (f cell))
    → Each P cells → Each Q (map f cells)
each_map P Q f [] step h = tt
each_map P Q f (cell ∷ cells) step h = (step cell h.0, each_map P Q f cells step h.1)

pub each_filter : (P : Cell → Type 0) (test : Cell → Bool) (cells : List Cell) → Each P cells
    → Each (λ cell. P cell × (test cell ≡ true)) (filter test cells)
each_filter P test [] h = tt
each_filter P test (cell ∷ cells) h = elim (cases_Bool (test cell)) [
  | inl passes ↦ rw passes ((h.0, passes), each_filter P test cells h.1)
  | inr fails ↦ rw fails (each_filter P test cells h.1)
]

each_with : (P : Cell → Type 0) (found : Option Cell) (cells : List Cell) → OfSome P found → Each P cells → Each P (with_some found cells)
each_with P None cells h k = k
each_with P (Some cell) cells h k = (h, k)

pub each_kept : (P Q : Cell → Type 0) (f : Cell → Option Cell) (cells : List Cell)
    → ((cell : Cell) → P cell → OfSome Q (f cell)) → Each P cells
    → Each Q (kept f cells)
each_kept P Q f [] step h = tt
each_kept P Q f (cell ∷ cells) step h = each_with Q (f cell) (kept f cells) (step cell h.0) (each_kept P Q f cells step h.1)

pub each_cell : (lo hi from : ℕ) (cells : List Cell) → AreCells lo hi from cells → Each (IsCell lo hi) cells
each_cell lo hi from [] h = tt
each_cell lo hi from (cell ∷ cells) h = (h.0, each_cell lo hi (cell.place + cell.size) cells h.2)

pub found_at : (P : (place size : ℕ) → Word → Type 0) (cells : List Cell) (place size : ℕ)
    → Each (λ cell. P cell.place cell.size cell.word) cells
    → OfSome (P place size) (cell_at cells place size)
found_at P [] place size h = tt
found_at P (cell ∷ cells) place size h = elim (cases_Bool ((cell.place == place) && (cell.size == size))) [
  | inl same ↦ let parts = and_parts (cell.place == place) (cell.size == size) same in rw same
      (subst (λ (at : ℕ). P at size cell.word) (eqb-true cell.place place parts.0) (subst (λ (s : ℕ). P cell.place s cell.word) (eqb-true cell.size size parts.1) h.0))
  | inr other ↦ rw other (found_at P cells place size h.1)
]

pub cell_of : (lo hi from : ℕ) (cells : List Cell) (cell : Cell) → AreCells lo hi from cells → Contains cells cell → IsCell lo hi cell
cell_of lo hi from cells cell are there = each_in (IsCell lo hi) cells (each_cell lo hi from cells are) cell there

-- each cell that is kept was made of one of them
abbrev MadeOf : (Cell → Option Cell) → List Cell → Cell → Type 0
MadeOf f cells cell = (held : Cell) × Contains cells held × (f held ≡ Some cell)

made_of : (f : Cell → Option Cell) (cells : List Cell) (held : Cell) (made : Option Cell) → Contains cells held
    → f held ≡ made → OfSome (MadeOf f cells) made
made_of f cells held None there is = tt
made_of f cells held (Some cell) there is = (held, there, is)

pub kept_from : (f : Cell → Option Cell) (cells : List Cell) (cell : Cell) → Contains (kept f cells) cell → MadeOf f cells cell
kept_from f cells cell =
    let all : Each (Contains cells) cells = each_from (Contains cells) cells (λ held there. there) in
    each_in (MadeOf f cells) (kept f cells) (each_kept (Contains cells) (MadeOf f cells) f cells (λ held there. made_of f cells held (f held) there refl) all) cell

-- each cell behind a write is the one that was written, or was there
abbrev WrittenOr : (at size : ℕ) → Word → List Cell → Cell → Type 0
WrittenOr at size word cells cell = (cell ≡ record { place = at; size = size; word = word }) ⊎ Contains cells cell

pub each_with_cell : (P : Cell → Type 0) (lo hi : ℕ) (cell : Cell) (cells : List Cell) → P cell → Each P cells
    → Each P (with_cell lo hi cell cells)
each_with_cell P lo hi cell cells h k = elim (cases_Bool (nat_lt cell.place lo || nat_lt hi (cell.place + cell.size - 1) || is_nothing cell.size cell.word)) [
  | inl drops ↦ rw drops k
  | inr stays ↦ rw stays (each_insert P cell cells h k)
]

pub each_written : (P : Cell → Type 0) (map : CellMap) (cell : Cell) → P cell → Each P map.cells
    → Each P (write_one map cell.place cell.size cell.word).cells
unfolding write_one
each_written P map cell h k =
    let test = λ (c : Cell). not (meets cell.place cell.size c) in
    each_with_cell P map.lo map.hi cell (filter test map.cells) h
    (each_then (λ c. P c × (test c ≡ true)) P (filter test map.cells) (λ c both. both.0) (each_filter P test map.cells k))

pub write_from : (at size : ℕ) (map : CellMap) (word : Word) (cell : Cell) → Contains (write_one map at size word).cells cell
    → WrittenOr at size word map.cells cell
write_from at size map word cell =
    let made : Cell = record { place = at; size = size; word = word } in
    let P = WrittenOr at size word map.cells in
    each_in P (write_one map at size word).cells (each_written P map made (inl refl) (each_from P map.cells (λ c held. inr held))) cell

-- ---- cells in ascending order

pub some_size : (size : ℕ) → (size ≡ 1) ⊎ (size ≡ 2) → 0 < size
some_size size (inl one) = omega arith
some_size size (inr two) = omega arith

pub lowered : (lo hi from low : ℕ) (cells : List Cell) → low ≤ from → AreCells lo hi from cells → AreCells lo hi low cells
lowered lo hi from low [] h are = tt
lowered lo hi from low (cell ∷ cells) h are = (are.0, omega (arith, are.1), are.2)

pub filtered_form : (lo hi from : ℕ) (test : Cell → Bool) (cells : List Cell) → AreCells lo hi from cells
    → AreCells lo hi from (filter test cells)
filtered_form lo hi from test [] h = tt
filtered_form lo hi from test (cell ∷ cells) h = elim (cases_Bool (test cell)) [
  | inl passes ↦ rw passes (h.0, h.1, filtered_form lo hi (cell.place + cell.size) test cells h.2)
  | inr fails ↦ rw fails (lowered lo hi (cell.place + cell.size) from (filter test cells) (omega (arith, h.1)) (filtered_form lo hi (cell.place + cell.size) test cells h.2))
]

-- a cell of a form, of a place and a size
abbrev pub IsAlike : (lo hi : ℕ) → Cell → Cell → Type 0
IsAlike lo hi cell new = IsCell lo hi new × (new.place ≡ cell.place) × (new.size ≡ cell.size)

same_start : (from place other : ℕ) → other ≡ place → from ≤ place → from ≤ other
same_start from place other e h = omega arith

alike_form : (lo hi from : ℕ) (cell : Cell) (found : Option Cell) (rest : List Cell) → from ≤ cell.place → OfSome (IsAlike lo hi cell) found
    → AreCells lo hi (cell.place + cell.size) rest → AreCells lo hi from (with_some found rest)
alike_form lo hi from cell None rest h alike are = lowered lo hi (cell.place + cell.size) from rest (omega arith) are
alike_form lo hi from cell (Some new) rest h alike are = (
  alike.0,
  same_start from cell.place new.place alike.1 h,
  lowered lo hi (cell.place + cell.size) (new.place + new.size) rest (omega (arith, alike.1, alike.2)) are,
)

pub kept_form : (lo hi from : ℕ) (f : Cell → Option Cell) (cells : List Cell)
    → ((cell : Cell) → IsCell lo hi cell → OfSome (IsAlike lo hi cell) (f cell)) → AreCells lo hi from cells
    → AreCells lo hi from (kept f cells)
kept_form lo hi from f [] step are = tt
kept_form lo hi from f (cell ∷ cells) step are =
    alike_form lo hi from cell (f cell) (kept f cells) are.1 (step cell are.0) (kept_form lo hi (cell.place + cell.size) f cells step are.2)

-- ---- what stands in a RAM

abbrev pub StandsAt : Option Suspended → (ℕ → ℕ) → Cell → Type 0
StandsAt first ram cell = HoldsOfWord first cell.word (number_at ram cell.place cell.size)
