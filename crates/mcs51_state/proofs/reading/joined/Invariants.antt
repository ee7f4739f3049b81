use Rattle.std.proofs.Common.{◌≡◌, drop}
use Rattle.value_set.specs.Form.{members}
use Rattle.mcs51_state.specs.Joined.{all_joined}
use Rattle.mcs51_state.specs.Reading.{ram_set}
use Rattle.mcs51_state.proofs.reading.joined.Given as goal

abbrev pub invariant-loop-place : goal.invariant-loop-place
invariant-loop-place g l =
    all_joined (ram_set l.state) l.set (drop l.place (members 256 l.at)) ≡ all_joined (ram_set l.state) l.fn.first (drop 1 (members 256 l.at))
