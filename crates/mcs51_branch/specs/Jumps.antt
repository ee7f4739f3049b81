-- What is known where a conditional jump is taken, and where it isn't (Intel, MCS-51 Programmer's Guide and Instruction Set:
-- JC, JNC, JZ, JNZ, SJMP, CJNE and DJNZ).
use Rattle.std.specs.Prelude.{◌≡◌, ℕ, if◌then◌else◌, nat_le, not, Bool, Option, None, Some, option_map, slice_set, slice_index_or}
use Rattle.value_set.specs.declared.form.Form.{Form}
use Rattle.value_set.specs.Form.{Has, IsNormal}
use Rattle.value_set.specs.Summing.{single, sub}
use Rattle.value_bits.specs.declared.tri.Tri.{Tri}
use Rattle.value_bits.specs.declared.tri.Tri.TheVariants.{Either}
use Rattle.value_bits.specs.Bits.{known_flag, may_be, tri_not}
use Rattle.value_bits.specs.Flags.{agreed}
use Rattle.mcs51_decode.specs.declared.instr.Condition.{Condition}
use Rattle.mcs51_decode.specs.declared.instr.Condition.TheVariants.{Carry, NoCarry, Zero, NotZero, Always}
use Rattle.mcs51_chip.specs.declared.state.ChipState.{ChipState}
use Rattle.mcs51_state.specs.declared.fact.CarryFact.{CarryFact}
use Rattle.mcs51_state.specs.declared.fact.Compared.TheVariants.{Accumulator}
use Rattle.mcs51_state.specs.Forms.{IsCompared}
use Rattle.mcs51_state.specs.Holding.{compared_in}
use Rattle.mcs51_state.specs.Known.{Known}
use Rattle.mcs51_branch.specs.declared.operand.Operand.{Operand}
use Rattle.mcs51_branch.specs.declared.operand.Operand.TheVariants.{One, Several}
use Rattle.mcs51_branch.specs.declared.window.Window.{Window}
use Rattle.mcs51_branch.specs.Cuts.{equality_window, order_window, cut_to, set_at, place_cut}

-- CY

-- bit 7 of PSW
abbrev pub carry_of : Known → Tri
carry_of known = slice_index_or known.psw.bits 5 Either

-- a jump looked at CY
unfoldable pub with_seen_carry : Bool → Known → Known
with_seen_carry carry known =
    record known { psw = record { bits = slice_set known.psw.bits 5 (known_flag carry); entry = known.psw.entry } }

-- an instruction wrote CY: PSW isn't what it was when an interrupt came
unfoldable pub with_carry_written : Tri → Option CarryFact → Known → Known
with_carry_written carry fact known =
    record known { psw = record { bits = slice_set known.psw.bits 5 carry; entry = None }; carry_fact = fact }

-- JC, JNC, JZ, JNZ AND SJMP

-- where CY is so, the byte that was compared is less than the bound, or isn't
abbrev pub fact_cut : Option CarryFact → (carry : Bool) → Known → Option Known
fact_cut None carry known = Some known
fact_cut (Some fact) carry known = place_cut fact.compared (order_window carry fact.bound) known

abbrev pub carry_cut : (carry : Bool) → Known → Option Known
carry_cut carry known =
    if may_be (carry_of known) carry then option_map (with_seen_carry carry) (fact_cut known.carry_fact carry known) else None

unfoldable pub condition_cut : Condition → (taken : Bool) → Known → Option Known
condition_cut Carry taken known = carry_cut taken known
condition_cut NoCarry taken known = carry_cut (not taken) known
condition_cut Zero taken known = place_cut Accumulator (equality_window taken 0) known
condition_cut NotZero taken known = place_cut Accumulator (equality_window (not taken) 0) known
condition_cut Always taken known = if taken then Some known else None

-- CJNE

-- the byte that is compared with a constant: at one place, or at one of several, with these numbers
abbrev pub numbers_of : Operand → Known → Form
numbers_of (One place) known = set_at place known
numbers_of (Several set) known = set

abbrev pub IsOperand : Operand → Type 0
IsOperand (One place) = IsCompared place
IsOperand (Several set) = IsNormal 256 set

-- what the byte is in a state
abbrev pub IsNumberOf : Operand → ChipState → ℕ → Type 0
IsNumberOf (One place) s x = x ≡ compared_in place s
IsNumberOf (Several set) s x = Has 256 set x

-- whether the first byte is less: it isn't where it is at least the second one
unfoldable pub is_less : (x y : Form) → Tri
is_less x y = tri_not (agreed 256 (λ a b none. nat_le b a) x y (single 0))

-- CY speaks of one place alone
abbrev pub fact_of : Operand → (bound : ℕ) → Option CarryFact
fact_of (One place) bound = Some (record { compared = place; bound = bound })
fact_of (Several set) bound = None

-- of several places it is seen alone whether one can have such a number
abbrev pub operand_cut : Operand → Window → Known → Option Known
operand_cut (One place) window known = place_cut place window known
operand_cut (Several set) window known = option_map (λ part. known) (cut_to window set)

unfoldable pub comparison_cut : Operand → (value : ℕ) → (taken : Bool) → Known → Option Known
comparison_cut operand value taken known =
    option_map (with_carry_written (is_less (numbers_of operand known) (single value)) (fact_of operand value))
    (operand_cut operand (equality_window (not taken) value) known)

-- CJNE A,dir: both ways go on with what is known
unfoldable pub compared_with : Form → Known → Known
compared_with set known = with_carry_written (is_less known.a.set set) None known

-- DJNZ

-- the numbers of the lowered byte
unfoldable pub lowered_cut : (taken : Bool) → Form → Option Form
lowered_cut taken set = cut_to (equality_window (not taken) 0) (sub 256 set (single 1))
