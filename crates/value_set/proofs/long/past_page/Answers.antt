use Rattle.std.proofs.Common.{ap, sym, ◌∙◌, subst, arith, ℕ, ◌+◌, List, map}
use Rattle.value_set.specs.Form.{Ascends, ascending}
use Rattle.value_set.specs.Gaps.{decided, onward}
use Rattle.value_set.specs.declared.gap.Gap.{Gap}
use Rattle.value_set.proofs.Members.{Ascends-lower}
use Rattle.value_set.proofs.Collects.{all_rise}
use Rattle.value_set.proofs.Gaps.{next_marked, next_unmarked}
use Rattle.value_set.proofs.long.past_page.Goals as goal
use Rattle.value_set.proofs.long.past_page.Goals.{then-is_there, else-is_there}

pub past-gap-requires : goal.past-gap-requires
past-gap-requires g c =
    let next = next_marked c.args.low c.loop-place.place c.args.modulus (map g.N.Number.number c.args.list.now) c.marks_of-marked.result
    (all_rise g.N.Number.number c.args.modulus c.args.list.now c.requires.below) c.marks_of-marked.ensures c.loop-place-test.true c.if-is_there.true in
    record { upward = (subst (λ (xs : List ℕ). Ascends c.loop-place.gap.previous c.args.modulus xs) next c.loop-place.invariant.upward).0 }

pub loop-place-preserved : goal.loop-place-preserved
loop-place-preserved g c =
    let numbers : List ℕ = map g.N.Number.number c.args.list.now in
    let rises = all_rise g.N.Number.number c.args.modulus c.args.list.now c.requires.below in
    let rest : List ℕ = onward (c.args.low + (c.loop-place.place + 1)) (ascending numbers) in
    elim c.if-is_there.branch [
      | then-is_there w ↦
          let next = next_marked c.args.low c.loop-place.place c.args.modulus numbers c.marks_of-marked.result rises c.marks_of-marked.ensures c.loop-place-test.true w.if-is_there.true in
          let held = subst (λ (xs : List ℕ). Ascends c.loop-place.gap.previous c.args.modulus xs) next c.loop-place.invariant.upward in
          record {
            rest_decides = ap (λ (gap : Gap). decided gap rest) w.gap-is ∙ w.past-gap.ensures.decides rest
                ∙ ap (λ (xs : List ℕ). decided c.loop-place.gap xs) (sym next) ∙ c.loop-place.invariant.rest_decides;
            upward = subst (λ (n : ℕ). Ascends n c.args.modulus rest) (sym (ap (λ (gap : Gap). gap.previous) w.gap-is ∙ w.past-gap.ensures.last))
                (Ascends-lower (c.args.low + c.loop-place.place + 1) (c.args.low + c.loop-place.place) c.args.modulus rest (omega arith) held.2);
          }
      | else-is_there w ↦
          let next = next_unmarked c.args.low c.loop-place.place c.args.modulus numbers c.marks_of-marked.result rises c.marks_of-marked.ensures c.loop-place-test.true w.if-is_there.false in
          record {
            rest_decides = ap (λ (gap : Gap). decided gap rest) w.gap-is ∙ ap (λ (xs : List ℕ). decided c.loop-place.gap xs) (sym next) ∙ c.loop-place.invariant.rest_decides;
            upward = subst (λ (gap : Gap). Ascends gap.previous c.args.modulus rest) (sym w.gap-is)
                (subst (λ (xs : List ℕ). Ascends c.loop-place.gap.previous c.args.modulus xs) next c.loop-place.invariant.upward);
          }
    ]
