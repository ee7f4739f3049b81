use Rattle.std.proofs.Common.{sym, subst, inl, inr, refl, take, drop, ◌∷◌}
use Rattle.std.proofs.lemmas.List.{take-append-drop}
use Rattle.round_core.specs.Agenda.{IsIn}
use Rattle.round_core.proofs.ListLemmas.{IsIn-append, IsIn-last, IsIn-split, index-in}
use Rattle.round_core.proofs.PlaceLemmas.{nat_equal}
use Rattle.round_core.proofs.places.keep.Goals as goal

pub returns-in_ok-insert-clause-added : goal.returns-in_ok-insert-clause-added
returns-in_ok-insert-clause-added c =
    let xs = c.args.places.now.items in
    let at = c.in-Err.at in
    subst (λ ys. IsIn c.args.place ys) (sym c.in_ok-insert.ensures.items)
    (IsIn-last c.args.place (take at xs) (c.args.place ∷ drop at xs) (inl refl))

pub returns-in_ok-insert-clause-kept : goal.returns-in_ok-insert-clause-kept
returns-in_ok-insert-clause-kept c = λ p h.
    let xs = c.args.places.now.items in
    let at = c.in-Err.at in
    subst (λ ys. IsIn p ys) (sym c.in_ok-insert.ensures.items)
    (elim (IsIn-split p (take at xs) (drop at xs) (subst (λ ys. IsIn p ys) (sym (take-append-drop at xs)) h)) [
      | inl front ↦ IsIn-append p (take at xs) (c.args.place ∷ drop at xs) front
      | inr back ↦ IsIn-last p (take at xs) (c.args.place ∷ drop at xs) (inr back)
    ])

pub returns-in_default-clause-added : goal.returns-in_default-clause-added
returns-in_default-clause-added c =
    let xs = c.deref.result.now in
    let i = c.in_default.field-0 in
    let same = nat_equal _ _ (c.in_default.ensures.ok c.args.place) in
    subst (λ ys. IsIn c.args.place ys) c.deref.ensures.value
    (subst (λ y. IsIn y xs) same (index-in xs i c.args.place c.in_default.ensures.bound))
