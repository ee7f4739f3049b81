use Rattle.std.proofs.Common.{refl}
use Rattle.mcs51_flow.specs.Chip.{mcs51_analysis}
use Rattle.mcs51_flow.proofs.laws.Mcs51ChipOrderlyChip.alike_laws.Goals as goal

pub returns : goal.returns
unfolding mcs51_analysis
returns c = λ a b alike. record { same_form = λ node state form. form; same_within = λ x y. refl }
