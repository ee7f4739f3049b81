use Rattle.std.proofs.Common.{ap, sym, ◌∙◌, subst, arith, ℕ, List, map, length, ◌≤◌, ◌≡◌, ◌+◌, ◌-◌, ◌*◌}
use Rattle.std.specs.List.{fold}
use Rattle.std.proofs.lemmas.List.{length-map}
use Rattle.value_set.specs.declared.gap.Gap.{Gap}
use Rattle.value_set.specs.Form.{Ascends, ascending, hull_base, greater}
use Rattle.value_set.specs.Gaps.{decided, lesser}
use Rattle.value_set.proofs.Widens.{AllBelow_from}
use Rattle.value_set.proofs.Members.{ascending_some}
use Rattle.value_set.proofs.Collects.{all_below_in, all_rise}
use Rattle.value_set.proofs.Gathers.{hull_base_below}
use Rattle.value_set.proofs.Gaps.{greatest_below, around_list, onward_all, onward_none}
use Rattle.value_set.proofs.long.base_of.Goals as goal

pub around-gap-requires-clause-below : goal.around-gap-requires-clause-below
around-gap-requires-clause-below g c =
    let low = greatest_below c.args.modulus (map g.N.Number.number c.args.list.now) (omega (arith, length-map c.args.list.now g.N.Number.number, c.requires.some))
    (λ v h. all_below_in c.args.modulus v (map g.N.Number.number c.args.list.now) (AllBelow_from g.N.Number.number c.args.modulus c.args.list.now c.requires.below) h) in
    omega (arith, low, c.greatest.ensures)

pub loop-page-init : goal.loop-page-init
loop-page-init g c =
    let numbers : List ℕ = map g.N.Number.number c.args.list.now in
    let some : 1 ≤ length numbers = omega (arith, length-map c.args.list.now g.N.Number.number, c.requires.some) in
    let rises = all_rise g.N.Number.number c.args.modulus c.args.list.now c.requires.below in
    let is : c.around-gap.result ≡ record { base = fold lesser 65535 numbers; width = fold lesser 65535 numbers + c.args.modulus - fold greater 0 numbers; previous = fold lesser 65535 numbers } =
    c.around-gap.ensures ∙ ap (λ (f : ℕ). let gap : Gap = record { base = f; width = f + c.args.modulus - c.greatest.result; previous = f } in gap) c.least.ensures
    ∙ ap (λ (n : ℕ). let gap : Gap = record { base = fold lesser 65535 numbers; width = fold lesser 65535 numbers + c.args.modulus - n; previous = fold lesser 65535 numbers } in gap) c.greatest.ensures in
    let begun = around_list c.args.modulus numbers c.around-gap.result some c.requires.small (ascending_some numbers some)
    (λ v h. all_below_in c.args.modulus v numbers (AllBelow_from g.N.Number.number c.args.modulus c.args.list.now c.requires.below) h) rises is in
    let whole = sym (onward_all 0 0 c.args.modulus (ascending numbers) (omega arith) rises) in
    record {
      rest_decides = ap (λ (xs : List ℕ). decided c.around-gap.result xs) (sym whole) ∙ begun.0;
      upward = subst (λ (xs : List ℕ). Ascends c.around-gap.result.previous c.args.modulus xs) whole begun.1;
    }

pub returns-clause-value : goal.returns-clause-value
returns-clause-value g c = onward_none (c.loop-page.page * 4096) c.args.modulus (hull_base c.args.modulus (ascending (map g.N.Number.number c.args.list.now)))
    (ascending (map g.N.Number.number c.args.list.now)) c.loop-page.gap (omega arith) (all_rise g.N.Number.number c.args.modulus c.args.list.now c.requires.below) c.loop-page.invariant.rest_decides

pub returns-clause-below : goal.returns-clause-below
returns-clause-below g c =
    let numbers : List ℕ = map g.N.Number.number c.args.list.now in
    let some : 1 ≤ length numbers = omega (arith, length-map c.args.list.now g.N.Number.number, c.requires.some) in
    let rises = all_rise g.N.Number.number c.args.modulus c.args.list.now c.requires.below in
    let is = onward_none (c.loop-page.page * 4096) c.args.modulus (hull_base c.args.modulus (ascending numbers)) (ascending numbers) c.loop-page.gap (omega arith) rises c.loop-page.invariant.rest_decides in
    omega (arith, is, hull_base_below c.args.modulus (ascending numbers) (ascending_some numbers some) rises)
