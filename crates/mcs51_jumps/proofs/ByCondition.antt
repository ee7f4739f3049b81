-- JC, JNC, JZ, JNZ and SJMP.
use Rattle.std.proofs.Common.{ℕ, Bool, true, false, Option, List, [], refl}
use Rattle.choosing.specs.Gives.{Gives, answer_gives}
use Rattle.mcs51_decode.specs.declared.instr.Condition.{Condition}
use Rattle.mcs51_decode.specs.declared.instr.Instr.TheVariants.{JumpOn}
use Rattle.mcs51_decode.specs.Targets.{relative_target}
use Rattle.mcs51_chip.specs.declared.state.ChipState.{ChipState}
use Rattle.mcs51_chip.specs.Step.{branched, effect_of, holds}
use Rattle.mcs51_state.specs.Forms.{IsKnown}
use Rattle.mcs51_state.specs.Known.{Known}
use Rattle.mcs51_state.specs.Under.{IsUnder}
use Rattle.mcs51_branch.specs.Jumps.{condition_cut}
use Rattle.mcs51_state.specs.Doing.{GoesSo}
use Rattle.mcs51_jumps.specs.Jumps.{AreWays, ways_on_condition}
use Rattle.mcs51_jumps.proofs.PartLaws.{PartLaws}
use Rattle.mcs51_jumps.proofs.Branching.{goes}

pub condition_does : (laws : PartLaws) (framed : Bool) (a : Known) (s : ChipState) (first : Option ChipState) (image : List (Option ℕ)) (pc : ℕ) (condition : Condition) (rel : ℕ)
    → IsUnder framed a s first
    → Gives (GoesSo framed first [] pc (relative_target s.pc rel) (ways_on_condition condition a).on (ways_on_condition condition a).jumped s) (effect_of image s (JumpOn condition rel))
unfolding effect_of ways_on_condition
condition_does laws framed a s first image pc condition rel under =
    let (way, cut, there) = laws.branch.ways.condition framed a s first condition under in
    answer_gives (GoesSo framed first [] pc (relative_target s.pc rel) (condition_cut condition false a) (condition_cut condition true a) s) ([], branched (holds condition s) rel s)
    (record { shown = laws.instructions.operands.sums.none [] pc; goes = goes laws framed first (λ taken. condition_cut condition taken a) (holds condition s) way rel s s cut refl there })

pub condition_form : (laws : PartLaws) (framed : Bool) (a : Known) (condition : Condition) → IsKnown framed a
    → AreWays framed (ways_on_condition condition a)
unfolding ways_on_condition
condition_form laws framed a condition form = record {
  on = λ way e. laws.branch.ways.condition_form framed a way condition false form e;
  jumped = λ way e. laws.branch.ways.condition_form framed a way condition true form e;
}
