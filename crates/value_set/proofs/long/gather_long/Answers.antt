use Rattle.std.proofs.Common.{ap, ◌∙◌, sym, map, subst, List, ℕ, length, ◌≤◌}
use Rattle.value_set.specs.declared.form.Form.TheVariants.{Values}
use Rattle.value_set.specs.Form.{ascending}
use Rattle.value_set.proofs.Spans.{set_of-few}
use Rattle.value_set.proofs.long.gather_long.Goals as goal

pub returns-in-Some : goal.returns-in-Some
returns-in-Some g c =
    let few = c.in-Some.ensures.few in
    ap Values few.1 ∙ sym (set_of-few c.args.modulus (ascending (map g.N.Number.number c.args.list.now)) (subst (λ (xs : List ℕ). length xs ≤ 16) few.1 few.0))
