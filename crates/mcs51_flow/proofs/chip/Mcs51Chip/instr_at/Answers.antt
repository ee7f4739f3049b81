use Rattle.std.proofs.Common.{subst}
use Rattle.mcs51_decode.specs.Standing.{Decodes}
use Rattle.mcs51_flow.proofs.InstrForms.{standing_is_instr}
use Rattle.mcs51_flow.proofs.chip.Mcs51Chip.instr_at.Goals as goal

pub returns-in-Ok-clause-in_range : goal.returns-in-Ok-clause-in_range
returns-in-Ok-clause-in_range c =
    let image = c.self.inside.setting.image in
    standing_is_instr image c.args.pc c.in-Ok.instr c.in-Ok.field-0-1 (subst (Decodes image c.args.pc) c.in-Ok.is c.decode.ensures.one)
