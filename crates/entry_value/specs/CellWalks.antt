-- Going over cells in ascending order, by their places: definitions and lemmas, also for the proofs of crates above.
use Rattle.std.proofs.Common.{◌≡◌, ℕ, ◌+◌, ◌<◌, ◌≤◌, Bool, true, Option, None, Some, List, [], ◌∷◌, refl, sym, ◌∙◌, ap, subst, inl, inr, arith, nat_lt}
use Rattle.std.specs.Prelude.{nat_le, Contains}
use Rattle.std.specs.List.{filter}
use Rattle.std.specs.Option.{option_map}
use Rattle.std.proofs.lemmas.Bool.{cases_Bool, le-leb, lt-leb, ltb-true, ltb-false}
use Rattle.plain_lemmas.specs.Cases.{same_Some}
use Rattle.plain_lemmas.specs.Members.{in_first, in_rest}
use Rattle.entry_value.specs.declared.cells.Cell.{Cell}
use Rattle.entry_value.specs.declared.word.Word.{Word}
use Rattle.entry_value.specs.Cells.{IsCell, AreCells, next}
use Rattle.entry_value.specs.CellLists.{Each, each_then, some_size}

-- THE NEXT CELL

pub next_low : (lo hi low from : ℕ) (cells : List Cell) (c : Cell) → AreCells lo hi low cells → next cells from ≡ Some c → low ≤ c.place
next_low lo hi low from [] c are is = absurd (cc)
next_low lo hi low from (x ∷ xs) c are is = elim (cases_Bool (nat_lt x.place from)) [
  | inl before ↦
      let rest = next_low lo hi (x.place + x.size) from xs c are.2 (rw before at is) in omega (arith, are.1, rest)
  | inr here ↦ subst (λ (cell : Cell). low ≤ cell.place) (same_Some (rw here at is)) are.1
]

-- it is one of them, and lies whole in RAM
pub record IsNext (lo hi from : ℕ) (cells : List Cell) (c : Cell) : Type 0 where
  pub form : IsCell lo hi c
  pub held : Contains cells c
  pub behind : from ≤ c.place

pub next_is : (lo hi low from : ℕ) (cells : List Cell) (c : Cell) → AreCells lo hi low cells → next cells from ≡ Some c
    → IsNext lo hi from cells c
next_is lo hi low from [] c are is = absurd (cc)
next_is lo hi low from (x ∷ xs) c are is = elim (cases_Bool (nat_lt x.place from)) [
  | inl before ↦
      let rest = next_is lo hi (x.place + x.size) from xs c are.2 (rw before at is) in
      record { form = rest.form; held = in_rest x xs c rest.held; behind = rest.behind }
  | inr here ↦ subst (IsNext lo hi from (x ∷ xs)) (same_Some (rw here at is)) record {
    form = are.0;
    held = in_first x xs;
    behind = ltb-false x.place from here;
  }
]

-- the next one, as its parts
pub found : (place size : ℕ) (word : Word) (one : Option Cell)
    → ◌≡◌ {A = Option (ℕ × ℕ × Word)} (Some (place, size, word)) (option_map (λ (cell : Cell). (cell.place, cell.size, cell.word)) one)
    → one ≡ Some (record { place = place; size = size; word = word })
found place size word None is = absurd (cc)
found place size word (Some cell) is =
    let parts : ◌≡◌ {A = ℕ × ℕ × Word} (place, size, word) (cell.place, cell.size, cell.word) = cc in
    sym (ap (λ (t : ℕ × ℕ × Word). Some (record { place = t.0; size = t.1; word = t.2 })) parts)

-- CELLS FROM AN ADDRESS ON

pub all_behind : (lo hi low : ℕ) (cells : List Cell) → AreCells lo hi low cells → Each (λ x. low ≤ x.place) cells
all_behind lo hi low [] are = tt
all_behind lo hi low (x ∷ xs) are = (
  are.1,
  each_then (λ y. x.place + x.size ≤ y.place) (λ y. low ≤ y.place) xs
      (λ y h. omega (arith, h, are.1)) (all_behind lo hi (x.place + x.size) xs are.2),
)

abbrev pub behind : (from : ℕ) → List Cell → List Cell
behind from = filter (λ cell. nat_le from cell.place)

all_pass : (p : Cell → Bool) (cells : List Cell) → Each (λ cell. p cell ≡ true) cells → filter p cells ≡ cells
all_pass p [] h = refl
all_pass p (cell ∷ cells) h = rw h.0 (ap (λ rest. cell ∷ rest) (all_pass p cells h.1))

pub behind_all : (cells : List Cell) → behind 0 cells ≡ cells
behind_all [] = refl
behind_all (cell ∷ cells) = rw (le-leb 0 cell.place (omega arith)) (ap (λ rest. cell ∷ rest) (behind_all cells))

pub behind_none : (from : ℕ) (cells : List Cell) → next cells from ≡ None → behind from cells ≡ []
behind_none from [] is = refl
behind_none from (x ∷ xs) is = elim (cases_Bool (nat_lt x.place from)) [
  | inl before ↦ rw (lt-leb from x.place (ltb-true x.place from before)) (behind_none from xs (rw before at is))
  | inr here ↦ (let some = rw here at is in absurd (cc))
]

-- the next one is the first of them, and the others are those from its end on
pub behind_next : (lo hi low from : ℕ) (cells : List Cell) (c : Cell) → AreCells lo hi low cells → next cells from ≡ Some c
    → behind from cells ≡ c ∷ behind (c.place + c.size) cells
behind_next lo hi low from [] c are is = absurd (cc)
behind_next lo hi low from (x ∷ xs) c are is = elim (cases_Bool (nat_lt x.place from)) [
  | inl before ↦
      let rest : next xs from ≡ Some c = (rw before at is) in
      let next_one = next_is lo hi (x.place + x.size) from xs c are.2 rest in
      let below : x.place < from = ltb-true x.place from before in
      rw (lt-leb from x.place below, lt-leb (c.place + c.size) x.place (omega (arith, below, next_one.behind)))
      (behind_next lo hi (x.place + x.size) from xs c are.2 rest)
  | inr here ↦ subst (λ (cell : Cell). behind from (x ∷ xs) ≡ cell ∷ behind (cell.place + cell.size) (x ∷ xs)) (same_Some (rw here at is))
      (let at : from ≤ x.place = ltb-false x.place from here in
      let others = all_behind lo hi (x.place + x.size) xs are.2 in
      let first : behind from xs ≡ xs = all_pass (λ y. nat_le from y.place) xs
      (each_then (λ y. x.place + x.size ≤ y.place) (λ y. nat_le from y.place ≡ true) xs (λ y h. le-leb from y.place (omega (arith, h, at))) others) in
      let second : behind (x.place + x.size) xs ≡ xs = all_pass (λ y. nat_le (x.place + x.size) y.place) xs
      (each_then (λ y. x.place + x.size ≤ y.place) (λ y. nat_le (x.place + x.size) y.place ≡ true) xs (λ y h. le-leb (x.place + x.size) y.place h) others) in
      let some : 1 ≤ x.size = some_size x.size are.0.size in
      rw (le-leb from x.place at, lt-leb (x.place + x.size) x.place (omega (arith, some)))
      (ap (λ rest. x ∷ rest) (first ∙ sym second)))
]
