-- What the instructions that write the accumulator do.
use Rattle.std.proofs.Common.{ℕ, ◌+◌, ◌%◌, ◌<◌, Bool, true, false, Option, List, [], refl}
use Rattle.choosing.specs.Gives.{Gives}
use Rattle.mcs51_decode.specs.declared.instr.AccumulatorOperation.{AccumulatorOperation}
use Rattle.mcs51_decode.specs.declared.instr.Instr.TheVariants.{Accumulate, ChangeAccumulator, Decrement, Increment, Load, MoveImmediate}
use Rattle.mcs51_decode.specs.declared.instr.Memory.{Memory}
use Rattle.mcs51_decode.specs.declared.instr.Operation.{Operation}
use Rattle.mcs51_decode.specs.declared.instr.Place.TheVariants.{Accumulator}
use Rattle.mcs51_decode.specs.declared.instr.Source.{Source}
use Rattle.mcs51_decode.specs.declared.instr.Source.TheVariants as source
use Rattle.mcs51_decode.specs.Fitting.{IsMemory, IsSource}
use Rattle.mcs51_chip.specs.declared.state.ChipState.{ChipState}
use Rattle.mcs51_chip.specs.Arithmetic.{accumulated, changed}
use Rattle.mcs51_chip.specs.Leading.{MayRead}
use Rattle.mcs51_chip.specs.Memory.{address_of, address_reads}
use Rattle.mcs51_chip.specs.Registers.{with_accumulator}
use Rattle.mcs51_chip.specs.Step.{effect_of, reading}
use Rattle.mcs51_state.specs.Known.{Known}
use Rattle.mcs51_state.specs.Under.{IsUnder}
use Rattle.mcs51_state.specs.Operands.{addresses_of}
use Rattle.mcs51_state.specs.Showing.{address_accesses}
use Rattle.mcs51_state.specs.Doing.{DoesSo, LeadsSo}
use Rattle.mcs51_state.specs.Accesses.{read_items}
use Rattle.mcs51_alu.specs.Accumulator.{accumulated_known, changed_known, changes_carry, counted, immediate, loaded, sets_carry, source_items}
use Rattle.mcs51_results.specs.InstructionLaws.{InstructionLaws}
use Rattle.mcs51_alu.proofs.Changes.{change_so, changed_writes}
use Rattle.mcs51_alu.proofs.Moves.{count_so, immediate_so, load_so}
use Rattle.mcs51_alu.proofs.Sums.{accumulate_so, accumulated_writes}
use Rattle.mcs51_alu.proofs.Written.{pc_stays}

-- THE FORMATS

-- of an operand that is read, where each number leads there
operand_does : (laws : InstructionLaws) (framed : Bool) (a : Known) (s : ChipState) (first : Option ChipState) (pc : ℕ) (m : Memory) (behind : Known) (leads : ℕ → ChipState)
    → IsUnder framed a s first → IsMemory m
    → ((x : ℕ) → MayRead s (address_of s m) x → LeadsSo framed first behind s (leads x))
    → Gives (DoesSo framed first (read_items pc a m) pc behind s) (reading s (address_reads s m) (address_of s m) leads)
operand_does laws framed a s first pc m behind leads under is each =
    laws.operands.formats.reading framed first (address_accesses pc a m) pc behind s (address_reads s m) (addresses_of a m) (address_of s m) leads (laws.operands.shown.address framed pc a s first under m)
    (laws.operands.stands.operand framed a s first under m) (laws.operands.stands.operand_form framed a under.form m is) each

-- THE INSTRUCTIONS

pub load_does : (laws : InstructionLaws) (framed : Bool) (a : Known) (s : ChipState) (first : Option ChipState) (image : List (Option ℕ)) (pc : ℕ) (m : Memory)
    → IsUnder framed a s first → IsMemory m
    → Gives (DoesSo framed first (read_items pc a m) pc (loaded framed m a) s) (effect_of image s (Load m))
unfolding effect_of
load_does laws framed a s first image pc m under is =
    operand_does laws framed a s first pc m (loaded framed m a) (λ x. with_accumulator x s) under is (λ x may. record { onward = refl; under = load_so laws framed a s first m x under is may })

pub immediate_does : (laws : InstructionLaws) (framed : Bool) (a : Known) (s : ChipState) (first : Option ChipState) (image : List (Option ℕ)) (pc value : ℕ)
    → IsUnder framed a s first → value < 256
    → Gives (DoesSo framed first [] pc (immediate value a) s) (effect_of image s (MoveImmediate Accumulator value))
unfolding effect_of
immediate_does laws framed a s first image pc value under small =
    laws.operands.formats.implied framed first pc (immediate value a) s (with_accumulator value s) (record { onward = refl; under = immediate_so laws framed a s first value under small })

pub increment_does : (laws : InstructionLaws) (framed : Bool) (a : Known) (s : ChipState) (first : Option ChipState) (image : List (Option ℕ)) (pc : ℕ)
    → IsUnder framed a s first
    → Gives (DoesSo framed first [] pc (counted true a) s) (effect_of image s (Increment Accumulator))
unfolding effect_of
increment_does laws framed a s first image pc under =
    laws.operands.formats.implied framed first pc (counted true a) s (with_accumulator ((s.a + 1) % 256) s) (record { onward = refl; under = count_so laws framed a s first true under })

pub decrement_does : (laws : InstructionLaws) (framed : Bool) (a : Known) (s : ChipState) (first : Option ChipState) (image : List (Option ℕ)) (pc : ℕ)
    → IsUnder framed a s first
    → Gives (DoesSo framed first [] pc (counted false a) s) (effect_of image s (Decrement Accumulator))
unfolding effect_of
decrement_does laws framed a s first image pc under =
    laws.operands.formats.implied framed first pc (counted false a) s (with_accumulator ((s.a + 255) % 256) s) (record { onward = refl; under = count_so laws framed a s first false under })

pub accumulate_does : (laws : InstructionLaws) (framed : Bool) (a : Known) (s : ChipState) (first : Option ChipState) (image : List (Option ℕ)) (pc : ℕ) (done : Operation) (origin : Source)
    → IsUnder framed a s first → IsSource origin
    → Gives (DoesSo framed first (source_items pc a origin) pc (accumulated_known framed done origin a) s) (effect_of image s (Accumulate done origin))
unfolding effect_of
accumulate_does laws framed a s first image pc done (source.Immediate value) under is =
    laws.operands.formats.implied framed first pc (accumulated_known framed done (source.Immediate value) a) s (accumulated done value s)
    (record { onward = pc_stays (sets_carry done) s (accumulated done value s) (accumulated_writes done value s); under = accumulate_so laws framed a s first done (source.Immediate value) value under is refl })
accumulate_does laws framed a s first image pc done (source.Memory m) under is =
    operand_does laws framed a s first pc m (accumulated_known framed done (source.Memory m) a) (λ x. accumulated done x s) under is
    (λ x may. record { onward = pc_stays (sets_carry done) s (accumulated done x s) (accumulated_writes done x s); under = accumulate_so laws framed a s first done (source.Memory m) x under is may })

pub change_does : (laws : InstructionLaws) (framed : Bool) (a : Known) (s : ChipState) (first : Option ChipState) (image : List (Option ℕ)) (pc : ℕ) (done : AccumulatorOperation)
    → IsUnder framed a s first
    → Gives (DoesSo framed first [] pc (changed_known done a) s) (effect_of image s (ChangeAccumulator done))
unfolding effect_of
change_does laws framed a s first image pc done under =
    laws.operands.formats.implied framed first pc (changed_known done a) s (changed done s) (record { onward = pc_stays (changes_carry done) s (changed done s) (changed_writes done s); under = change_so laws framed a s first done under })
