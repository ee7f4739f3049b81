use Rattle.std.proofs.Common.{◌∙◌, Some, ap, sym}
use Rattle.image.specs.declared.ram_range.RamRange.{RamRange}
use Rattle.msp430_fields.specs.States.{state_in}
use Rattle.msp430_flow.proofs.state_fields.Msp430ChipStateText.read_abs.Goals as goal

pub returns-in_ok-new-in-Some : goal.returns-in_ok-new-in-Some
returns-in_ok-new-in-Some c =
    ap (λ known. Some known) c.in_ok-new-in-Some.ensures ∙ sym c.in-Some.is ∙ c.in_ok-state.ensures
    ∙ ap (λ (ram : RamRange). state_in ram.lo ram.hi c.args.node.now c.args.text.now) c.ram-ram.ensures.range

pub returns-in-None : goal.returns-in-None
returns-in-None c =
    sym c.in-None.is ∙ c.in_ok-state.ensures ∙ ap (λ (ram : RamRange). state_in ram.lo ram.hi c.args.node.now c.args.text.now) c.ram-ram.ensures.range
