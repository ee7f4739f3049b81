use Rattle.std.proofs.Common.{◌≡◌, ℕ, ◌<◌, ◌≤◌, ◌==◌, false, ap, sym, ◌∙◌, inl, inr, arith}
use Rattle.std.specs.List.{list_any}
use Rattle.std.proofs.lemmas.Bool.{cases_Bool}
use Rattle.call_context.specs.declared.shown.Set.{Set}
use Rattle.value_set.specs.declared.form.Form.{Form}
use Rattle.value_set.specs.Form.{Has, IsNormal, members}
use Rattle.value_set.specs.Joining.{is_in}
use Rattle.plain_lemmas.specs.AnyOf.{any_is, index_from_any}
use Rattle.chip_flow.specs.Works.{may_be as the_may_be}
use Rattle.chip_flow.proofs.returning.may_be.Goals as goal

-- no byte set has a greater number
none_far : ((m v : ℕ) (set : Form) → IsNormal m set → Has m set v → v < m) → (set : Form) (v : ℕ) → IsNormal 256 set
    → 256 ≤ v → false ≡ is_in 256 set v
none_far below set v normal far =
    let all = members 256 set in
    elim (cases_Bool (list_any (λ x. x == v) all)) [
      | inl any ↦ let small = below 256 v set normal (index_from_any all v any) in absurd (omega (arith, small, far))
      | inr none ↦ sym none
    ]

pub returns-then-n-ge256-clause-exact : goal.returns-then-n-ge256-clause-exact
returns-then-n-ge256-clause-exact c =
    none_far c.members_are_below.ensures c.in-B.values c.args.n c.form-form.ensures.normal c.if-n-ge256.true
    ∙ ap (λ (set : Set). the_may_be set c.args.n) (sym c.in-B.is)

pub returns-else-n-ge256-clause-exact : goal.returns-else-n-ge256-clause-exact
returns-else-n-ge256-clause-exact c =
    any_is (members 256 c.in-B.values) c.args.n c.has.result c.has.ensures ∙ ap (λ (set : Set). the_may_be set c.args.n) (sym c.in-B.is)

pub returns-in-W-clause-exact : goal.returns-in-W-clause-exact
returns-in-W-clause-exact c =
    any_is (members 65536 c.in-W.values) c.args.n c.has-in-W.result c.has-in-W.ensures ∙ ap (λ (set : Set). the_may_be set c.args.n) (sym c.in-W.is)
