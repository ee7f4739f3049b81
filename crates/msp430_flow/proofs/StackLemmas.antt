-- A work of the MSP430 shows words as stack pointers.
use Rattle.std.proofs.Common.{ℕ, ◌+◌, ◌%◌, ◌++◌, Bool, true, false, Option, List}
use Rattle.std.specs.Prelude.{Contains}
use Rattle.value_set.specs.declared.form.Form.{Form}
use Rattle.value_set.specs.Summing.{single}
use Rattle.call_context.specs.declared.node.Unit.{Unit as WorkUnit}
use Rattle.call_context.specs.declared.shown.Item.{Item}
use Rattle.call_context.specs.declared.shown.Item.TheVariants as items
use Rattle.call_context.specs.declared.shown.Set.{Set}
use Rattle.call_context.specs.declared.shown.Set.TheVariants.{B, W}
use Rattle.chip_flow.specs.Stacks.{AreStacksOf, ShowsStacks, both_stacks, stacks_shown}
use Rattle.msp430_decode.specs.declared.instr.Destination.{Destination}
use Rattle.msp430_decode.specs.declared.instr.Destination.TheVariants as destination
use Rattle.msp430_decode.specs.declared.instr.Instr.{Instr}
use Rattle.msp430_decode.specs.declared.instr.Instr.TheVariants.{Double, Jump, Single, ReturnFromInterrupt}
use Rattle.msp430_decode.specs.declared.instr.Operation.{Operation}
use Rattle.msp430_decode.specs.declared.instr.SingleOperation.{SingleOperation}
use Rattle.msp430_decode.specs.declared.instr.SingleOperation.TheVariants.{Rrc, Swpb, Rra, Sxt, Push, Call}
use Rattle.msp430_decode.specs.declared.instr.Register.TheVariants.{Sr}
use Rattle.msp430_decode.specs.declared.instr.Source.{Source}
use Rattle.msp430_decode.specs.declared.instr.Source.TheVariants as source
use Rattle.msp430_decode.specs.declared.instr.Width.{Width}
use Rattle.msp430_decode.specs.declared.instr.Width.TheVariants.{Word}
use Rattle.msp430_decode.specs.Table.{length_of}
use Rattle.msp430_chip.specs.declared.device.Device.{Device}
use Rattle.msp430_chip.specs.Arithmetic.{writes_result, reads_destination}
use Rattle.msp430_state.specs.Known.{Known, is_interrupt, known_joined}
use Rattle.msp430_alu.specs.declared.reach.Reach.{Reach}
use Rattle.msp430_alu.specs.declared.reach.Reach.TheVariants.{InRegister, InMemory, Fixed}
use Rattle.msp430_alu.specs.Formats.{Worked, access_if, access_of, double_worked, lowered_known, push_worked, single_worked}
use Rattle.msp430_alu.specs.Operands.{grown_known}
use Rattle.msp430_status.specs.Status.{single_status_worked, status_worked}
use Rattle.msp430_return.specs.Return.{return_worked}
use Rattle.msp430_flow.specs.declared.setting.Setting.{Setting}
use Rattle.msp430_flow.specs.Chip.{in_front, msp430_analysis, msp430_flow}
use Rattle.msp430_flow.specs.Running.{double_or_status, one_operand, single_or_status, worked}

abbrev IsWordSet : Set → Type 0
IsWordSet (W values) = Unit {0}
IsWordSet (B values) = ⊥

-- if an item shows a stack pointer, it shows a word
abbrev AreWordly : List Item → Type 0
AreWordly = AreStacksOf IsWordSet

joined : (xs ys : List Item) → AreWordly xs → AreWordly ys → AreWordly (xs ++ ys)
joined = both_stacks IsWordSet

-- THE ACCESSES OF AN INSTRUCTION

access_words : (device : Device) (pc : ℕ) (write : Bool) (width : Width) (reach : Reach) → AreWordly (access_of device pc write width reach)
access_words device pc write width (InMemory set) = (tt, tt)
access_words device pc write width (InRegister register) = tt
access_words device pc write width (Fixed value) = tt

access_if_words : (is : Bool) (device : Device) (pc : ℕ) (write : Bool) (width : Width) (reach : Reach)
    → AreWordly (access_if is device pc write width reach)
access_if_words true device pc write width reach = access_words device pc write width reach
access_if_words false device pc write width reach = tt

both_words : (device : Device) (pc : ℕ) (width other : Width) (from to : Reach)
    → AreWordly (access_of device pc false width from ++ access_of device pc true other to)
both_words device pc width other from to =
    joined (access_of device pc false width from) (access_of device pc true other to) (access_words device pc false width from)
    (access_words device pc true other to)

three_words : (device : Device) (pc : ℕ) (width : Width) (reads writes : Bool) (from to : Reach)
    → AreWordly (access_of device pc false width from ++ access_if reads device pc false width to ++ access_if writes device pc true width to)
three_words device pc width reads writes from to =
    joined (access_of device pc false width from ++ access_if reads device pc false width to) (access_if writes device pc true width to)
    (joined (access_of device pc false width from) (access_if reads device pc false width to) (access_words device pc false width from)
    (access_if_words reads device pc false width to))
    (access_if_words writes device pc true width to)

module _ (device : Device) (framed : Bool) (a : Known) (pc : ℕ) where
  abbrev AreShownAsWords : Worked → Type 0
  AreShownAsWords made = AreWordly made.accesses

  double_words : (len : ℕ) (done : Operation) (width : Width) (origin : Source) (target : Destination)
      → AreShownAsWords (double_worked device framed a pc len done width origin target)
  unfolding double_worked
  double_words len done width origin target = three_words device pc width (reads_destination done) (writes_result done) _ _

  status_words : (len : ℕ) (done : Operation) (width : Width) (origin : Source)
      → AreShownAsWords (status_worked device framed a pc len done width origin)
  unfolding status_worked
  status_words len done width origin = access_words device pc false width _

  single_words : (len : ℕ) (done : SingleOperation) (width : Width) (operand : Source)
      → AreShownAsWords (single_worked device framed a pc len done width operand)
  unfolding single_worked
  single_words len done width operand = both_words device pc width width _ _

  single_status_words : (len : ℕ) (done : SingleOperation) (width : Width)
      → AreShownAsWords (single_status_worked device framed a pc len done width)
  unfolding single_status_worked
  single_status_words len done width = tt

  push_words : (len : ℕ) (done : SingleOperation) (width : Width) (operand : Source)
      → AreShownAsWords (push_worked device framed a pc len done width operand)
  unfolding push_worked
  push_words len done width operand =
      both_words device pc width Word _ (InMemory (lowered_known (grown_known a (single ((pc + len) % 65536)) width operand)).sp)

  return_words : AreShownAsWords (return_worked device a pc)
  unfolding return_worked
  return_words = (tt, (tt, tt))

  two_words : (len : ℕ) (done : Operation) (width : Width) (origin : Source) (target : Destination)
      → AreShownAsWords (double_or_status device framed a pc len done width origin target)
  two_words len done width origin (destination.Register Sr) = status_words len done width origin
  two_words len done width origin target = double_words len done width origin target

  one_words : (len : ℕ) (done : SingleOperation) (width : Width) (operand : Source)
      → AreShownAsWords (single_or_status device framed a pc len done width operand)
  one_words len done width (source.Register Sr) = single_status_words len done width
  one_words len done width operand = single_words len done width operand

  operand_words : (len : ℕ) (done : SingleOperation) (width : Width) (operand : Source)
      → AreShownAsWords (one_operand device framed a pc len done width operand)
  operand_words len Push width operand = push_words len Push width operand
  operand_words len Call width operand = push_words len Call width operand
  operand_words len Rrc width operand = one_words len Rrc width operand
  operand_words len Swpb width operand = one_words len Swpb width operand
  operand_words len Rra width operand = one_words len Rra width operand
  operand_words len Sxt width operand = one_words len Sxt width operand

  worked_words : (instr : Instr) → AreShownAsWords (worked device framed a pc instr)
  worked_words (Double done width origin target) = two_words (length_of (Double done width origin target)) done width origin target
  worked_words (Single done width operand) = operand_words (length_of (Single done width operand)) done width operand
  worked_words (Jump condition offset) = tt
  worked_words ReturnFromInterrupt = return_words

-- WORKS

shows_words : (setting : Setting) → ShowsStacks IsWordSet (msp430_flow setting)
shows_words setting = record {
  stack = λ a. tt;
  entry = λ pc coming. (tt, (tt, (tt, tt)));
  accesses = λ frame a pc instr. worked_words setting.device (is_interrupt frame) (in_front setting a pc instr) pc instr;
}

pub no_byte_stack : (setting : Setting) (unit : WorkUnit) (a : Known) (exit : Option Known) (pc : ℕ) (values : Form)
    → Contains ((msp430_analysis setting).work unit a exit).items (items.Stack pc (B values)) → ⊥
unfolding msp430_analysis
no_byte_stack setting unit a exit pc values there = stacks_shown IsWordSet known_joined (msp430_flow setting) (shows_words setting) unit a exit pc (B values) there
