use Rattle.std.proofs.Common.{◌≡◌, drop}
use Rattle.value_set.specs.Form.{members}
use Rattle.mcs51_state.specs.Joined.{all_joined}
use Rattle.mcs51_memories.specs.Codes.{code_set}
use Rattle.mcs51_memories.proofs.code.joined.Given as goal

abbrev pub invariant-loop-place : goal.invariant-loop-place
invariant-loop-place l =
    all_joined (code_set l.image) l.set (drop l.place (members 65536 l.at)) ≡ all_joined (code_set l.image) l.fn.first (drop 1 (members 65536 l.at))
