use Rattle.std.proofs.Common.{◌≡◌, false, take, is_some}
use Rattle.std.specs.List.{list_any}
use Rattle.value_set.specs.Form.{members}
use Rattle.msp430_chip.specs.Memory.{hit_at}
use Rattle.msp430_flow.proofs.meeting.may_hit.Given as goal

-- no address so far is one of those
abbrev pub invariant-loop-place : goal.invariant-loop-place
invariant-loop-place l = list_any (λ at. is_some (hit_at l.device l.width at)) (take l.place (members 65536 l.set)) ≡ false
