-- What is read, by the cells that begin at an address and in front of it.
use Rattle.std.proofs.Common.{◌≡◌, ℕ, ◌+◌, ◌-◌, ◌<◌, ◌≤◌, refl, sym, ap, ◌∙◌, true, false, Option, None, Some, List, [], ◌∷◌, inl, inr, arith}
use Rattle.std.specs.Prelude.{◌⊎◌, ◌==◌, nat_le, nat_lt, if◌then◌else◌}
use Rattle.std.proofs.lemmas.Bool.{cases_Bool, cases_lt, cases_eq, lt-ltb, le-ltb, le-leb, lt-leb, eq-eqb, ne_eqb, and_from, and_left, and_right, eqb-true, eqb-false}
use Rattle.value_bits.specs.Sets.{low_set, high_set}
use Rattle.value_set.specs.declared.form.Form.{Form}
use Rattle.entry_value.specs.declared.cells.Cell.{Cell}
use Rattle.entry_value.specs.declared.word.Word.{Word}
use Rattle.entry_value.specs.CellLists.{Each, each_both, each_then, some_size}
use Rattle.entry_value.specs.Cells.{AreCells, byte_at, cell_at, has_byte, next}
use Rattle.std.specs.Option.{option_map}
use Rattle.abs_pages.specs.Paging.{begun_at, high_of}
use Rattle.abs_pages.proofs.Lists.{shown}

-- what begins at an address, of the next cell there
abbrev pub begun_of : Option Cell → (at : ℕ) → Option (ℕ × Word)
begun_of None at = None
begun_of (Some cell) at = if cell.place == at then Some (cell.size, cell.word) else None

-- the word of what begins, where it has a size
abbrev pub sized : Option (ℕ × Word) → (size : ℕ) → Option Word
sized None size = None
sized (Some begun) size = if begun.0 == size then Some begun.1 else None

-- the byte of an address, of what begins there and of what begins in front of it
abbrev pub byte_of : (here front : Option (ℕ × Word)) → Option Form
byte_of None front = high_of front
byte_of (Some begun) front = Some (low_set begun.1.set)

-- a cell that begins neither at an address nor in front of it hasn't its byte
far : (cell : Cell) (at : ℕ) → (cell.size ≡ 1) ⊎ (cell.size ≡ 2) → (cell.place ≡ at → ⊥) → (cell.place ≡ at - 1 → ⊥)
    → has_byte cell at ≡ false
far cell at size other away = elim (cases_lt at cell.place) [
  | inl above ↦ and_left (nat_le cell.place at) (nat_lt at (cell.place + cell.size)) (lt-leb cell.place at above)
  | inr le ↦ and_right (nat_le cell.place at) (nat_lt at (cell.place + cell.size)) (le-ltb at (cell.place + cell.size) (elim size [
    | inl one ↦ omega (arith, one, other, away, le)
    | inr two ↦ omega (arith, two, other, away, le)
  ]))
]

pub none_begun : (lo hi from : ℕ) (cells : List Cell) (at : ℕ) → AreCells lo hi from cells → at < from → begun_at cells at ≡ None
none_begun lo hi from [] at are lt = refl
none_begun lo hi from (cell ∷ cells) at are lt =
    rw (ne_eqb cell.place at (λ same. omega (arith, same, are.1, lt))) (none_begun lo hi (cell.place + cell.size) cells at are.2 (omega (arith, are.1, lt)))

pub begun_next : (lo hi from : ℕ) (cells : List Cell) (at : ℕ) → AreCells lo hi from cells → begun_of (next cells at) at ≡ begun_at cells at
begun_next lo hi from [] at are = refl
begun_next lo hi from (cell ∷ cells) at are = elim (cases_lt cell.place at) [
  | inl below ↦
      rw (lt-ltb cell.place at below, ne_eqb cell.place at (λ same. omega (arith, same, below)))
      (begun_next lo hi (cell.place + cell.size) cells at are.2)
  | inr ge ↦ elim (cases_Bool (cell.place == at)) [
    | inl here ↦ rw (le-ltb cell.place at ge, here) refl
    | inr other ↦
        let above : at < cell.place = (let differ = eqb-false cell.place at other in elim (cases_lt at cell.place) [ inl lt ↦ lt | inr le ↦ absurd (differ (omega (arith, ge, le))) ]) in
        rw (le-ltb cell.place at ge, other) (sym (none_begun lo hi (cell.place + cell.size) cells at are.2 (omega (arith, above))))
  ]
]

none_sized : (lo hi from : ℕ) (cells : List Cell) (at size : ℕ) → AreCells lo hi from cells → at < from → cell_at cells at size ≡ None
none_sized lo hi from [] at size are lt = refl
none_sized lo hi from (cell ∷ cells) at size are lt =
    rw (ne_eqb cell.place at (λ same. omega (arith, same, are.1, lt))) (none_sized lo hi (cell.place + cell.size) cells at size are.2 (omega (arith, are.1, lt)))

pub cell_begun : (lo hi from : ℕ) (cells : List Cell) (at size : ℕ) → AreCells lo hi from cells
    → sized (begun_at cells at) size ≡ cell_at cells at size
cell_begun lo hi from [] at size are = refl
cell_begun lo hi from (cell ∷ cells) at size are = elim (cases_Bool (cell.place == at)) [
  | inl here ↦ elim (cases_Bool (cell.size == size)) [
    | inl fits ↦ rw (here, fits) refl
    | inr other ↦
        let is : cell.place ≡ at = eqb-true cell.place at here in
        let some : 1 ≤ cell.size = some_size cell.size are.0.size in
        rw (here, other) (sym (none_sized lo hi (cell.place + cell.size) cells at size are.2 (omega (arith, is, some))))
  ]
  | inr other ↦ rw other (cell_begun lo hi (cell.place + cell.size) cells at size are.2)
]

none_byte : (lo hi from : ℕ) (cells : List Cell) (at : ℕ) → AreCells lo hi from cells → at < from → byte_at cells at ≡ None
none_byte lo hi from [] at are lt = refl
none_byte lo hi from (cell ∷ cells) at are lt =
    let above : at < cell.place = omega (arith, are.1, lt) in
    rw (lt-leb cell.place at above) (none_byte lo hi (cell.place + cell.size) cells at are.2 (omega (arith, above)))

-- what begins in front matters only for its high byte
same_front : (here one other : Option (ℕ × Word)) → high_of one ≡ high_of other → byte_of here one ≡ byte_of here other
same_front None one other e = e
same_front (Some begun) one other e = refl

byte_step : (lo hi : ℕ) (cell : Cell) (cells : List Cell) (at : ℕ) → (cell.size ≡ 1) ⊎ (cell.size ≡ 2)
    → AreCells lo hi (cell.place + cell.size) cells
    → byte_of (begun_at cells at) (begun_at cells (at - 1)) ≡ byte_at cells at → (cell.place ≡ at → ⊥)
    → byte_of (begun_at (cell ∷ cells) at) (begun_at (cell ∷ cells) (at - 1)) ≡ byte_at (cell ∷ cells) at
byte_step lo hi cell cells at size are same other =
    let here : begun_at (cell ∷ cells) at ≡ begun_at cells at = rw (ne_eqb cell.place at other) refl in
    elim (cases_eq cell.place (at - 1)) [
      | inl front ↦
          let found : begun_at (cell ∷ cells) (at - 1) ≡ Some (cell.size, cell.word) = rw (eq-eqb cell.place (at - 1) front) refl in
          elim size [
            | inl one ↦
                let test : has_byte cell at ≡ false =
                and_right (nat_le cell.place at) (nat_lt at (cell.place + cell.size)) (le-ltb at (cell.place + cell.size) (omega (arith, one, front, other))) in
                let none : begun_at cells (at - 1) ≡ None = none_begun lo hi (cell.place + cell.size) cells (at - 1) are (omega (arith, one, front)) in
                let bytes : byte_at (cell ∷ cells) at ≡ byte_at cells at = rw test refl in
                let low : high_of (Some (cell.size, cell.word)) ≡ None = rw one refl in
                ap (λ begun. byte_of begun (begun_at (cell ∷ cells) (at - 1))) here
                ∙ (same_front (begun_at cells at) (begun_at (cell ∷ cells) (at - 1)) (begun_at cells (at - 1)) (ap high_of found ∙ (low ∙ sym (ap high_of none)))
                ∙ (same ∙ sym bytes))
            | inr two ↦
                let behind : cell.place < at = omega (arith, front, other) in
                let test : has_byte cell at ≡ true =
                and_from (nat_le cell.place at) (nat_lt at (cell.place + cell.size)) (le-leb cell.place at (omega (arith, behind)))
                (lt-ltb at (cell.place + cell.size) (omega (arith, two, front, behind))) in
                let none : begun_at cells at ≡ None = none_begun lo hi (cell.place + cell.size) cells at are (omega (arith, two, front, behind)) in
                let bytes : byte_at (cell ∷ cells) at ≡ Some (high_set cell.word.set) = rw (test, ne_eqb at cell.place (λ e. other (sym e))) refl in
                let high : high_of (Some (cell.size, cell.word)) ≡ Some (high_set cell.word.set) = rw two refl in
                ap (λ begun. byte_of begun (begun_at (cell ∷ cells) (at - 1))) (here ∙ none)
                ∙ (ap high_of found ∙ (high ∙ sym bytes))
          ]
      | inr away ↦
          let test : has_byte cell at ≡ false = far cell at size other away in
          let bytes : byte_at (cell ∷ cells) at ≡ byte_at cells at = rw test refl in
          let front : begun_at (cell ∷ cells) (at - 1) ≡ begun_at cells (at - 1) = rw (ne_eqb cell.place (at - 1) away) refl in
          ap (λ begun. byte_of begun (begun_at (cell ∷ cells) (at - 1))) here
          ∙ (ap (byte_of (begun_at cells at)) front ∙ (same ∙ sym bytes))
    ]

pub byte_begun : (lo hi from : ℕ) (cells : List Cell) (at : ℕ) → AreCells lo hi from cells
    → byte_of (begun_at cells at) (begun_at cells (at - 1)) ≡ byte_at cells at
byte_begun lo hi from [] at are = refl
byte_begun lo hi from (cell ∷ cells) at are = elim (cases_eq cell.place at) [
  | inl here ↦
      let some : 1 ≤ cell.size = some_size cell.size are.0.size in
      let test : has_byte cell at ≡ true = and_from (nat_le cell.place at) (nat_lt at (cell.place + cell.size)) (le-leb cell.place at (omega (arith, here))) (lt-ltb at (cell.place + cell.size) (omega (arith, here, some))) in
      rw (eq-eqb cell.place at here, test, eq-eqb at cell.place (sym here)) refl
  | inr other ↦ byte_step lo hi cell cells at are.0.size are.2 (byte_begun lo hi (cell.place + cell.size) cells at are.2) other
]

-- AS THE CODE ASKS

abbrev pub begun_shown : Option (ℕ × ℕ × Word) → (at : ℕ) → Option (ℕ × Word)
begun_shown None at = None
begun_shown (Some found) at = if found.0 == at then Some (found.1, found.2) else None

shown_begun : (found : Option Cell) (at : ℕ) → begun_shown (option_map shown found) at ≡ begun_of found at
shown_begun None at = refl
shown_begun (Some cell) at = refl

pub begun_is : (lo hi from : ℕ) (cells : List Cell) (at : ℕ) (found : Option (ℕ × ℕ × Word)) (answer : Option (ℕ × Word))
    → AreCells lo hi from cells
    → found ≡ option_map shown (next cells at) → begun_shown found at ≡ answer → answer ≡ begun_at cells at
begun_is lo hi from cells at found answer are is e =
    sym e ∙ (ap (λ one. begun_shown one at) is ∙ (shown_begun (next cells at) at ∙ begun_next lo hi from cells at are))

pub cell_is : (lo hi from : ℕ) (cells : List Cell) (at size : ℕ) (begun : Option (ℕ × Word)) (answer : Option Word)
    → AreCells lo hi from cells
    → begun ≡ begun_at cells at → sized begun size ≡ answer → answer ≡ cell_at cells at size
cell_is lo hi from cells at size begun answer are is e = sym e ∙ (ap (λ one. sized one size) is ∙ cell_begun lo hi from cells at size are)

pub byte_is : (lo hi from : ℕ) (cells : List Cell) (at : ℕ) (begun : Option (ℕ × Word)) (answer : Option Form) → AreCells lo hi from cells
    → begun ≡ begun_at cells at → byte_of begun (begun_at cells (at - 1)) ≡ answer → answer ≡ byte_at cells at
byte_is lo hi from cells at begun answer are is e = sym e ∙ (ap (λ one. byte_of one (begun_at cells (at - 1))) is ∙ byte_begun lo hi from cells at are)

-- EACH CELL BEGINS WHERE IT IS

all_behind : (lo hi from : ℕ) (cells : List Cell) → AreCells lo hi from cells → Each (λ one. from ≤ one.place) cells
all_behind lo hi from [] are = tt
all_behind lo hi from (cell ∷ cells) are = (
  are.1,
  each_then (λ one. cell.place + cell.size ≤ one.place) (λ one. from ≤ one.place) cells (λ one le. omega (arith, le, are.1))
      (all_behind lo hi (cell.place + cell.size) cells are.2),
)

abbrev pub Begins : List Cell → Cell → Type 0
Begins cells one = begun_at cells one.place ≡ Some (one.size, one.word)

pub each_begins : (lo hi from : ℕ) (cells : List Cell) → AreCells lo hi from cells → Each (Begins cells) cells
each_begins lo hi from [] are = tt
each_begins lo hi from (cell ∷ cells) are =
    let some : 1 ≤ cell.size = some_size cell.size are.0.size in (
      rw (eq-eqb cell.place cell.place refl) refl,
      each_then (λ one. (cell.place + cell.size ≤ one.place) × Begins cells one) (Begins (cell ∷ cells)) cells
          (λ one both. rw (ne_eqb cell.place one.place (λ same. omega (arith, same, both.0, some))) both.1)
          (each_both (λ one. cell.place + cell.size ≤ one.place) (Begins cells) cells
          (all_behind lo hi (cell.place + cell.size) cells are.2) (each_begins lo hi (cell.place + cell.size) cells are.2)),
    )
