-- What an instruction makes of what is known of a state.
use Rattle.std.specs.Prelude.{ℕ, ◌+◌, ◌%◌, Bool, true, false, Option, None, List, [], is_some}
use Rattle.std.specs.List.{slice_index_or, list_any}
use Rattle.value_bits.specs.declared.tri.Tri.{Tri}
use Rattle.value_bits.specs.declared.tri.Tri.TheVariants.{Either}
use Rattle.value_set.specs.declared.form.Form.{Form}
use Rattle.value_set.specs.Form.{members}
use Rattle.value_set.specs.Summing.{single}
use Rattle.msp430_decode.specs.declared.instr.Instr.{Instr}
use Rattle.msp430_decode.specs.declared.instr.Instr.TheVariants.{Double, Jump, Single as OneOperand, ReturnFromInterrupt}
use Rattle.msp430_decode.specs.declared.instr.SingleOperation.{SingleOperation}
use Rattle.msp430_decode.specs.declared.instr.SingleOperation.TheVariants.{Push, Call}
use Rattle.msp430_decode.specs.declared.instr.Source.{Source}
use Rattle.msp430_decode.specs.declared.instr.Source.TheVariants as source
use Rattle.msp430_decode.specs.declared.instr.Width.{Width}
use Rattle.msp430_decode.specs.declared.instr.Width.TheVariants.{Word}
use Rattle.msp430_decode.specs.Table.{length_of, target_of}
use Rattle.msp430_chip.specs.declared.device.Device.{Device}
use Rattle.msp430_chip.specs.Memory.{hit_at}
use Rattle.msp430_state.specs.declared.fact.FlagFact.{FlagFact}
use Rattle.msp430_state.specs.Known.{Known, known_joined}
use Rattle.msp430_decode.specs.declared.instr.Destination.{Destination}
use Rattle.msp430_decode.specs.declared.instr.Destination.TheVariants as destination
use Rattle.msp430_decode.specs.declared.instr.Operation.{Operation}
use Rattle.msp430_decode.specs.declared.instr.Register.TheVariants.{Sr}
use Rattle.msp430_status.specs.Status.{single_status_worked, status_worked}
use Rattle.msp430_return.specs.Return.{goes_back, return_worked}
use Rattle.call_context.specs.declared.node.Frame.{Frame}
use Rattle.unit_ways.specs.Ways.{Way}
use Rattle.chip_flow.specs.Going.{limited, ways_in}
use Rattle.chip_flow.specs.declared.going.Onward.{Onward}
use Rattle.chip_flow.specs.declared.going.Onward.TheVariants as onward
use Rattle.msp430_branch.specs.Cuts.{known_cut}
use Rattle.msp430_branch.specs.Facts.{fact_behind}
use Rattle.msp430_alu.specs.Formats.{Worked, double_worked, single_worked, push_worked}

-- THE FORMATS

-- SR as the one operand
abbrev pub single_or_status : Device → (framed : Bool) → Known → (pc len : ℕ) → SingleOperation → Width → Source → Worked
single_or_status device framed a pc len operation width (source.Register Sr) = single_status_worked device framed a pc len operation width
single_or_status device framed a pc len operation width other = single_worked device framed a pc len operation width other

abbrev pub one_operand : Device → (framed : Bool) → Known → (pc len : ℕ) → SingleOperation → Width → Source → Worked
one_operand device framed a pc len Push width operand = push_worked device framed a pc len Push width operand
one_operand device framed a pc len Call width operand = push_worked device framed a pc len Call width operand
one_operand device framed a pc len other width operand = single_or_status device framed a pc len other width operand

-- a jump changes PC alone, and shows no access; its ways are told apart
abbrev pub unchanged : Known → (next : ℕ) → Worked
unchanged a next = record { after = a; next = single next; accesses = []; store = None }

abbrev pub double_or_status : Device → (framed : Bool) → Known → (pc len : ℕ) → Operation → Width → Source → Destination → Worked
double_or_status device framed a pc len operation width origin (destination.Register Sr) =
    status_worked device framed a pc len operation width origin
double_or_status device framed a pc len operation width origin other = double_worked device framed a pc len operation width origin other

abbrev pub worked : Device → (framed : Bool) → Known → ℕ → Instr → Worked
worked device framed a pc (Double operation width origin target) =
    double_or_status device framed a pc (length_of (Double operation width origin target)) operation width origin target
worked device framed a pc (OneOperand operation width operand) =
    one_operand device framed a pc (length_of (OneOperand operation width operand)) operation width operand
worked device framed a pc (Jump condition offset) = unchanged a ((pc + 2) % 65536)
worked device framed a pc ReturnFromInterrupt = return_worked device a pc

-- WHAT IS KNOWN BEHIND

-- CMP and SUB with a constant leave a fact
abbrev pub fact_of : Instr → Known → Option FlagFact
fact_of (Double operation width origin target) after = fact_behind operation width origin target after
fact_of (OneOperand operation width operand) after = after.fact
fact_of (Jump condition offset) after = after.fact
fact_of ReturnFromInterrupt after = after.fact

-- GIE, bit 3 of SR
abbrev pub gie_of : Known → Tri
gie_of a = slice_index_or a.status.bits 3 Either

-- Where GIE was set in front of an instruction, an interrupt may still come behind it.
abbrev pub followed : (late : Tri) → Option FlagFact → Known → Known
followed late fact a = record {
  sp = a.sp;
  status = a.status;
  late = late;
  registers = a.registers;
  fact = fact;
  cells = a.cells;
  touched = a.touched;
}

abbrev pub known_behind : Device → (framed : Bool) → Known → ℕ → Instr → Known
known_behind device framed a pc instr = let after = (worked device framed a pc instr).after in followed (gie_of a) (fact_of instr after) after

-- WHERE IT GOES ON

-- a jump goes two ways, and all else to each address that PC may have then
abbrev pub ways_onward : ℕ → Instr → (next : Form) → (behind : Known) → Onward Known
ways_onward pc (Jump condition offset) next a =
    onward.Jumps ((pc + 2) % 65536) (target_of pc offset) (known_cut condition false a) (known_cut condition true a)
ways_onward pc other next a = onward.Lands next a

abbrev pub all_ways : Device → (framed : Bool) → Known → ℕ → Instr → List (Way Known)
all_ways device framed a pc instr =
    ways_in known_joined (ways_onward pc instr (worked device framed a pc instr).next (known_behind device framed a pc instr))

abbrev pub onward_by : (limit : ℕ) → (late : Tri) → ℕ → Instr → (next : Form) → (after : Known) → Onward Known
onward_by limit late pc instr next after = limited limit next (ways_onward pc instr next (followed late (fact_of instr after) after))

-- RETI that goes back to where the interrupt of its frame came
abbrev pub leaves_frame : Device → Frame → Known → Instr → Bool
leaves_frame device frame a ReturnFromInterrupt = goes_back device frame a
leaves_frame device frame a other = false

-- STORES

abbrev pub pushed_width : SingleOperation → Width → Width
pushed_width Push width = Word
pushed_width Call width = Word
pushed_width other width = width

-- the width of what an instruction stores; PUSH and CALL store words
abbrev pub stored_width : Instr → Width
stored_width (Double operation width origin target) = width
stored_width (OneOperand operation width operand) = pushed_width operation width
stored_width (Jump condition offset) = Word
stored_width ReturnFromInterrupt = Word

-- a store that is made at one of some addresses may write a byte of the program
abbrev pub may_hit : Device → Width → Form → Bool
may_hit device width set = list_any (λ at. is_some (hit_at device width at)) (members 65536 set)
