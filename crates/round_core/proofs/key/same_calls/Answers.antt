use Rattle.std.proofs.Common.{◌≡◌, ◌∙◌, subst, true}
use Rattle.std.proofs.Math.Path.{ap₂}
use Rattle.std.specs.Cmp.Lexicographic.{pointwise}
use Rattle.std.proofs.Math.Dec.{eqb}
use Rattle.std.proofs.lemmas.Bool.Decides.{Decides-eqb}
use Rattle.std.proofs.lemmas.Slice.Eq.{slice_eq-Decides}
use Rattle.book_rules.specs.Same.{same_numbers}
use Rattle.round_core.proofs.DerivedTests.{agree}
use Rattle.book_rules.specs.SameTests.{same_numbers-eq, same_numbers-refl}
use Rattle.round_core.proofs.key.same_calls.Goals as goal

pub returns : goal.returns
returns c =
    let calls = c.args.calls.now in
    let others = c.args.others.now in
    agree c.eq.result (same_numbers calls others)
    (slice_eq-Decides Decides-eqb calls others c.eq.result
    (c.eq.ensures ∙ ap₂ (λ a b. pointwise eqb a b) c.as_slice.ensures.numbers c.as_slice-2.ensures.numbers))
    (same_numbers-eq calls others) (λ e. subst (λ l. same_numbers calls l ≡ true) e (same_numbers-refl calls))
