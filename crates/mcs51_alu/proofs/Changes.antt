-- The accumulator alone.
use Rattle.std.proofs.Common.{Bool, Option, None, refl}
use Rattle.std.specs.Option.{option_map}
use Rattle.mcs51_decode.specs.declared.instr.AccumulatorOperation.{AccumulatorOperation}
use Rattle.mcs51_decode.specs.declared.instr.AccumulatorOperation.TheVariants.{Rr, Rrc, Rl, Rlc, Swap, Da, Clr, Cpl}
use Rattle.mcs51_chip.specs.declared.state.ChipState.{ChipState}
use Rattle.mcs51_chip.specs.Arithmetic.{changed}
use Rattle.mcs51_chip.specs.StateFacts.{changed_kept}
use Rattle.mcs51_state.specs.Forms.{IsKnown}
use Rattle.mcs51_state.specs.Known.{Known}
use Rattle.mcs51_state.specs.Places.{suspended_of}
use Rattle.mcs51_state.specs.Under.{IsUnder}
use Rattle.mcs51_results.specs.Holding.{IsMade}
use Rattle.mcs51_results.specs.Results.{changed_made}
use Rattle.mcs51_alu.specs.Accumulator.{changed_known, changes_carry}
use Rattle.mcs51_results.specs.InstructionLaws.{InstructionLaws}
use Rattle.mcs51_alu.proofs.Written.{Writes, before_form, before_stands, made_before, made_form, made_under}

pub changed_writes : (done : AccumulatorOperation) (s : ChipState) → Writes (changes_carry done) s (changed done s)
changed_writes Rr s = record { state = refl; psw = λ e. refl }
changed_writes Rrc s = record { state = refl; psw = λ e. absurd (cc) }
changed_writes Rl s = record { state = refl; psw = λ e. refl }
changed_writes Rlc s = record { state = refl; psw = λ e. absurd (cc) }
changed_writes Swap s = record { state = refl; psw = λ e. refl }
changed_writes Da s = record { state = refl; psw = λ e. absurd (cc) }
changed_writes Clr s = record { state = refl; psw = λ e. refl }
changed_writes Cpl s = record { state = refl; psw = λ e. refl }

made_is : (laws : InstructionLaws) (framed : Bool) (a : Known) (done : AccumulatorOperation) → IsKnown framed a
    → IsMade framed (changed_made done a.a a.psw)
made_is laws framed a done form = laws.results.accumulations.alone_form framed done (made_before a) (before_form framed a form)

pub change_form : (laws : InstructionLaws) (framed : Bool) (a : Known) (done : AccumulatorOperation) → IsKnown framed a
    → IsKnown framed (changed_known done a)
unfolding changed_known
change_form laws framed a done form =
    made_form framed (changed_made done a.a a.psw) (changes_carry done) None a (made_is laws framed a done form) tt form

pub change_so : (laws : InstructionLaws) (framed : Bool) (a : Known) (s : ChipState) (first : Option ChipState) (done : AccumulatorOperation)
    → IsUnder framed a s first
    → IsUnder framed (changed_known done a) (changed done s) first
unfolding changed_known
change_so laws framed a s first done under =
    made_under framed (changed_made done a.a a.psw) (changes_carry done) None a s (changed done s) first (changed_writes done s)
    (changed_kept s done under.holds.state) (made_is laws framed a done under.form)
    (laws.results.accumulations.alone framed (option_map suspended_of first) done (made_before a) s (before_stands framed a s first under)) tt tt under
