use Rattle.std.proofs.Common.{◌∙◌, ap, ℕ, List}
use Rattle.std.proofs.lemmas.List.{map-id}
use Rattle.value_set.specs.Form.{common_stride, farthest}
use Rattle.value_set.proofs.Gathers.{hull_made, hull_spans}
use Rattle.value_set.proofs.Gaps.{All_below}
use Rattle.value_set.proofs.gathering.hull.Goals as goal

pub returns-clause-value : goal.returns-clause-value
returns-clause-value c = hull_made c.args.modulus c.hull_base-base.result c.common_stride-stride.result c.farthest.result c.steps_to-count.result c.args.values.now
    c.hull_base-base.ensures.value
    (c.common_stride-stride.ensures ∙ ap (λ (xs : List ℕ). common_stride c.args.modulus c.hull_base-base.result xs) (map-id c.args.values.now))
    (c.farthest.ensures.value ∙ ap (λ (xs : List ℕ). farthest c.args.modulus c.hull_base-base.result xs) (map-id c.args.values.now))
    c.steps_to-count.ensures

pub returns-clause-form : goal.returns-clause-form
returns-clause-form c = hull_spans c.args.modulus c.hull_base-base.result c.common_stride-stride.result c.farthest.result c.steps_to-count.result c.args.values.now
    c.hull_base-base.ensures.value
    (c.common_stride-stride.ensures ∙ ap (λ (xs : List ℕ). common_stride c.args.modulus c.hull_base-base.result xs) (map-id c.args.values.now))
    (c.farthest.ensures.value ∙ ap (λ (xs : List ℕ). farthest c.args.modulus c.hull_base-base.result xs) (map-id c.args.values.now))
    c.steps_to-count.ensures c.requires.some c.requires.ascending

pub common_stride-stride-requires-clause-below : goal.common_stride-stride-requires-clause-below
common_stride-stride-requires-clause-below c = All_below 0 c.args.modulus c.args.values.now c.requires.ascending

pub farthest-requires-clause-below : goal.farthest-requires-clause-below
farthest-requires-clause-below c = All_below 0 c.args.modulus c.args.values.now c.requires.ascending
