use Rattle.std.proofs.Common.{◌∙◌, ap}
use Rattle.mcs51_state.specs.Known.{Known}
use Rattle.mcs51_results.specs.StatusBytes.{status_with_bit}
use Rattle.mcs51_jumps.proofs.changing.status_changed.Goals as goal

pub returns : goal.returns
returns g c = c.status_with_bit.ensures ∙ ap (λ (a : Known). status_with_bit c.args.operation c.args.bit a.psw) c.state.view_is
