use Rattle.std.proofs.Common.{refl, ◌∙◌}
use Rattle.value_set.specs.Form.{members}
use Rattle.mcs51_alu.specs.LinearFacts.{linear_value}
use Rattle.mcs51_alu.proofs.Gathers.{mapped_some}
use Rattle.mcs51_alu.proofs.linear.linear_values.Goals as goal

pub unreachable-requires : goal.unreachable-requires
unreachable-requires g c =
    mapped_some (linear_value c.args.fact.now) (members 256 c.ram_values-set.result) c.as_slice.result.now (c.as_slice.ensures.value ∙ c.each_value.ensures)
    (c.sets_have_members.ensures 256 c.ram_values-set.result c.form-form.ensures.normal) (c.in-None.ensures.none.0 refl)
