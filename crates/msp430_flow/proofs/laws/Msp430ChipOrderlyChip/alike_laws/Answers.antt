use Rattle.std.proofs.Common.{refl}
use Rattle.msp430_flow.specs.Chip.{msp430_analysis}
use Rattle.msp430_flow.proofs.Lawful.{alike_form}
use Rattle.msp430_flow.proofs.laws.Msp430ChipOrderlyChip.alike_laws.Goals as goal

pub returns : goal.returns
unfolding msp430_analysis
returns c = λ a b alike. record { same_form = alike_form a b alike; same_within = λ x y. refl }
