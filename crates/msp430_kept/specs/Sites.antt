-- The instructions of an image that promises may name: those that store through R4 to R15, by the register that points to where
-- they store, and those that go on where a value says (SLAU049, chapter 3, "Addressing Modes" and "Instruction Set").
use Rattle.std.specs.Prelude.{ℕ, ◌+◌, ◌%◌, ◌==◌, if◌then◌else◌, Bool, true, false, Option, None, Some, option_map, Result, Ok, Err, List}
use Rattle.msp430_decode.specs.declared.instr.Destination.{Destination}
use Rattle.msp430_decode.specs.declared.instr.Destination.TheVariants as destination
use Rattle.msp430_decode.specs.declared.instr.Instr.{Instr}
use Rattle.msp430_decode.specs.declared.instr.Instr.TheVariants.{Double, Jump, Single as OneOperand, ReturnFromInterrupt}
use Rattle.msp430_decode.specs.declared.instr.Register.{Register}
use Rattle.msp430_decode.specs.declared.instr.Register.TheVariants.{Pc}
use Rattle.msp430_decode.specs.declared.instr.SingleOperation.{SingleOperation}
use Rattle.msp430_decode.specs.declared.instr.SingleOperation.TheVariants.{Push, Call}
use Rattle.msp430_decode.specs.declared.instr.Source.{Source}
use Rattle.msp430_decode.specs.declared.instr.Source.TheVariants as source
use Rattle.msp430_decode.specs.declared.instr.Width.{Width}
use Rattle.msp430_decode.specs.declared.refusal.NoInstr.{NoInstr}
use Rattle.msp430_decode.specs.Codes.{number}
use Rattle.msp430_decode.specs.Decoding.{decoded}
use Rattle.msp430_chip.specs.Arithmetic.{writes_result}
use Rattle.msp430_chip.specs.Memory.{size_of}
use Rattle.msp430_chip.specs.Operands.{growth}
use Rattle.msp430_branch.specs.Facts.{general_number}
use Rattle.msp430_kept.specs.declared.pointer.Pointer.{Pointer}
use Rattle.promises.specs.Spoken.{Spoken}
use Rattle.promises.specs.declared.spoken.Growth.TheVariants.{Down}
use Rattle.promises.specs.declared.spoken.Site.{Site}
use Rattle.promises.specs.declared.spoken.Site.TheVariants.{Nothing, Store, Way}

-- POINTERS

-- one of R4 to R15, with what is added to it as it stands in front of the instruction
abbrev pub pointer_at : Register → (added : ℕ) → Option Pointer
pointer_at register added = option_map (λ n. record { register = n; added = added % 65536 }) (general_number register)

-- by how much @Rn+ grows a register before a destination is formed by it
abbrev pub grown_by : Width → Source → Register → ℕ
grown_by width (source.IndirectIncrement register) pointer =
    if number register == number pointer then growth width register else 0
grown_by width origin pointer = 0

abbrev pub target_pointer : Width → Source → Destination → Option Pointer
target_pointer width origin (destination.Indexed register offset) = pointer_at register (grown_by width origin register + offset)
target_pointer width origin target = None

abbrev pub operand_pointer : Source → Option Pointer
operand_pointer (source.Indexed register offset) = pointer_at register offset
operand_pointer (source.Indirect register) = pointer_at register 0
operand_pointer (source.IndirectIncrement register) = pointer_at register 0
operand_pointer operand = None

-- PUSH and CALL store by SP
abbrev pub single_pointer : SingleOperation → Source → Option Pointer
single_pointer Push operand = None
single_pointer Call operand = None
single_pointer operation operand = operand_pointer operand

-- the register through which an instruction stores, if it is one of R4 to R15
abbrev pub pointer_of : Instr → Option Pointer
pointer_of (Double operation width origin target) = if writes_result operation then target_pointer width origin target else None
pointer_of (OneOperand operation width operand) = single_pointer operation operand
pointer_of (Jump condition offset) = None
pointer_of ReturnFromInterrupt = None

-- SITES

abbrev pub is_number : Source → Bool
is_number (source.Immediate value) = true
is_number (source.Constant constant) = true
is_number operand = false

-- where PC is written, by a value that isn't a number of the program
abbrev pub target_way : Source → Destination → Site
target_way origin (destination.Register Pc) = if is_number origin then Nothing else Way
target_way origin target = Nothing

abbrev pub call_way : SingleOperation → Source → Site
call_way Call operand = if is_number operand then Nothing else Way
call_way operation operand = Nothing

-- a store through a pointer, or else something other
abbrev pub store_or : Width → Option Pointer → (other : Site) → Site
store_or width None other = other
store_or width (Some pointer) other = Store (size_of width)

abbrev pub site_of : Instr → Site
site_of (Double operation width origin target) =
    if writes_result operation then store_or width (target_pointer width origin target) (target_way origin target) else Nothing
site_of (OneOperand operation width operand) = store_or width (single_pointer operation operand) (call_way operation operand)
site_of (Jump condition offset) = Nothing
site_of ReturnFromInterrupt = Nothing

abbrev pub site_found : Result (Instr × ℕ) NoInstr → Site
site_found (Ok found) = site_of found.0
site_found (Err refusal) = Nothing

-- instructions stand at even addresses
unfoldable pub site_at : (image : List (Option ℕ)) → (pc : ℕ) → Site
site_at image pc = if pc % 2 == 0 then site_found (decoded image pc) else Nothing

-- what an image says of its instructions
abbrev pub spoken : (image : List (Option ℕ)) → Spoken
spoken image = record { growth = Down; at = site_at image }
