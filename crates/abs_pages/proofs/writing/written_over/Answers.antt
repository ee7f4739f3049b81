use Rattle.std.proofs.Common.{◌≡◌, ℕ, ◌-◌, ◌/◌, ◌∙◌, ap, refl, subst, true, List, inl, inr, arith, rules}
use Rattle.std.specs.List.{filter}
use Rattle.entry_value.specs.declared.cells.Cell.{Cell}
use Rattle.entry_value.specs.Cells.{is_nothing, unknown, with_cell}
use Rattle.abs_pages.specs.Paging.{flat, stays}
use Rattle.abs_pages.proofs.Edges.{IsPut, edge_of_one, edge_of_two, next_address, nothing}
use Rattle.abs_pages.proofs.writing.written_over.Goals as goal
use Rattle.abs_pages.proofs.writing.written_over.Goals.{then-size-eq2+in_ok-write_in-2, else-size-eq2}

-- what is put, by another name of its cell, number and list
put_as : (lo hi : ℕ) (number other : ℕ) (cell same : Cell) (old held new : List Cell) → number ≡ other → cell ≡ same → old ≡ held
    → IsPut lo hi number cell old new → IsPut lo hi other same held new
put_as lo hi number other cell same old held new e f g put = put ∙ (ap (λ (n : ℕ). with_cell lo hi cell (filter (stays n cell) old)) e
    ∙ (ap (λ (c : Cell). with_cell lo hi c (filter (stays other c) old)) f ∙ ap (λ cells. with_cell lo hi same (filter (stays other same) cells)) g))

pub returns-clause-value : goal.returns-clause-value
returns-clause-value c =
    let lo = c.args.bounds.0 in
    let hi = c.args.bounds.1 in
    let at = c.args.at in
    let cell : Cell = record { place = at; size = c.args.size; word = c.args.word } in
    let old = flat c.args.pages.now in
    let first = flat c.write_in.new.pages.items in
    let new = flat c.write_in-2.new.pages.items in
    let none : is_nothing 1 (unknown 1) ≡ true = subst (λ (one : Cell). is_nothing one.size one.word ≡ true) c.nothing_at.ensures.value c.nothing_at.ensures.nothing in
    let number : c.saturating_sub-front.result / 32 ≡ (at - 1) / 32 = search rules in
    let front : IsPut lo hi ((at - 1) / 32) (nothing at) old first =
    put_as lo hi (c.saturating_sub-front.result / 32) ((at - 1) / 32) c.nothing_at.result (nothing at) (flat c.in_ok-all.all.items) old first
    number c.nothing_at.ensures.value (ap flat c.in_ok-all.ensures) c.in_ok-write_in.ensures.value in
    elim c.if-size-eq2.branch [
      | then-size-eq2+in_ok-write_in-2 w ↦
          let second = flat w.write_in-then-size-eq2.new.pages.items in
          let behind : IsPut lo hi (next_address at / 32) (nothing (next_address at)) first second =
          put_as lo hi _ (next_address at / 32) w.nothing_at-then-size-eq2.result (nothing (next_address at)) first first second
          (search rules) (w.nothing_at-then-size-eq2.ensures.value ∙ search rules) refl w.in_ok-write_in-2.ensures.value in
          let own : IsPut lo hi (at / 32) cell second new =
          put_as lo hi (at / 32) (at / 32) cell cell (flat c.if-size-eq2.all.items) second new refl refl (ap (λ v. flat v.items) w.all-is) c.in_ok-write_in-3.ensures.value in
          edge_of_two lo hi lo cell old first second new (omega arith) w.if-size-eq2.true none c.requires.are front behind own
      | else-size-eq2 w ↦
          let own : IsPut lo hi (at / 32) cell first new =
          put_as lo hi (at / 32) (at / 32) cell cell (flat c.if-size-eq2.all.items) first new refl refl (ap (λ v. flat v.items) w.all-is) c.in_ok-write_in-3.ensures.value in
          let single : c.args.size ≡ 1 = elim c.requires.size [ inl one ↦ one | inr two ↦ absurd (w.if-size-eq2.false two) ] in
          edge_of_one lo hi lo cell old first new single none c.requires.are front own
    ]
