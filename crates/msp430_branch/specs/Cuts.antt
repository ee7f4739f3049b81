-- What is known where a conditional jump is taken, and where it isn't (SLAU049, chapter 3, "Jumps"): the register that the
-- flags speak of is cut to the values with such flags.
use Rattle.std.specs.Prelude.{ℕ, ◌+◌, ◌-◌, ◌/◌, ◌%◌, if◌then◌else◌, nat_lt, length, Bool, Option, None, Some, option_map, List, slice_set}
use Rattle.value_set.specs.declared.form.Form.{Form}
use Rattle.value_set.specs.Cutting.{cut}
use Rattle.value_set.specs.Summing.{single}
use Rattle.value_bits.specs.declared.tri.Tri.{Tri}
use Rattle.value_bits.specs.Sets.{low_set, pair_set}
use Rattle.msp430_decode.specs.declared.instr.Condition.{Condition}
use Rattle.msp430_decode.specs.declared.instr.Condition.TheVariants.{NotEqual, Equal, NoCarry, Carry, Negative, GreaterOrEqual, Less, Always}
use Rattle.msp430_decode.specs.declared.instr.Width.{Width}
use Rattle.msp430_decode.specs.declared.instr.Width.TheVariants.{Word, Byte}
use Rattle.msp430_chip.specs.Arithmetic.{modulus}
use Rattle.msp430_state.specs.declared.fact.FlagFact.{FlagFact}
use Rattle.msp430_state.specs.Known.{Known, word_of}
use Rattle.msp430_branch.specs.declared.window.Window.{Window}
use Rattle.value_bits.specs.Bits.{may_be}
use Rattle.msp430_branch.specs.Conditions.{taken_by, bits_where}

-- WINDOWS

-- what the register is where x is compared
abbrev pub value_for : FlagFact → ℕ → ℕ
value_for fact x = (x + modulus fact.width - fact.added) % modulus fact.width

-- the least signed number: 8000h, or 80h
abbrev pub least_signed : Width → ℕ
least_signed width = modulus width / 2

-- how many signed numbers are less than the one that is compared
abbrev pub lesser_count : FlagFact → ℕ
lesser_count fact = (fact.compared + least_signed fact.width) % modulus fact.width

abbrev pub equal_window : FlagFact → Window
equal_window fact = record { low = value_for fact fact.compared; len = 1 }

abbrev pub other_window : FlagFact → Window
other_window fact = record { low = value_for fact (fact.compared + 1); len = modulus fact.width - 1 }

abbrev pub upper_window : FlagFact → Window
upper_window fact = record { low = value_for fact fact.compared; len = modulus fact.width - fact.compared }

abbrev pub lower_window : FlagFact → Window
lower_window fact = record { low = value_for fact 0; len = fact.compared }

abbrev pub greater_window : FlagFact → Window
greater_window fact = record { low = value_for fact fact.compared; len = modulus fact.width - lesser_count fact }

abbrev pub less_window : FlagFact → Window
less_window fact = record { low = value_for fact (least_signed fact.width); len = lesser_count fact }

-- the values of the register with which a jump is taken, or isn't; N alone tells none
abbrev pub window_of : Condition → (taken : Bool) → FlagFact → Option Window
window_of NotEqual taken fact = Some (if taken then other_window fact else equal_window fact)
window_of Equal taken fact = Some (if taken then equal_window fact else other_window fact)
window_of NoCarry taken fact = Some (if taken then lower_window fact else upper_window fact)
window_of Carry taken fact = Some (if taken then upper_window fact else lower_window fact)
window_of Negative taken fact = None
window_of GreaterOrEqual taken fact = Some (if taken then greater_window fact else less_window fact)
window_of Less taken fact = Some (if taken then less_window fact else greater_window fact)
window_of Always taken fact = None

-- CUTS

-- low bytes with the high byte 0
abbrev pub words_of : Form → Form
words_of bytes = pair_set bytes (single 0)

-- the numbers in a window: words, or low bytes
abbrev pub cut_set : Width → Form → Window → Option Form
cut_set Word set window = cut 65536 set window.low window.len
cut_set Byte set window = option_map words_of (cut 256 (low_set set) window.low window.len)

-- one of R4 to R15 has other values; its relation stays
abbrev pub with_set : Known → (register : ℕ) → Form → Known
with_set a register set = record a { registers = slice_set a.registers (register - 4) (record (word_of a register) { set = set }) }

-- a register that a state speaks of
abbrev pub is_held : Known → (register : ℕ) → Bool
is_held a register = nat_lt (register - 4) (length a.registers)

abbrev pub cut_to : FlagFact → Option Window → Known → Option Known
cut_to fact None a = Some a
cut_to fact (Some window) a =
    if is_held a fact.register then option_map (with_set a fact.register) (cut_set fact.width (word_of a fact.register).set window) else Some a

-- the register of the fact, cut; without a fact all stays
abbrev pub register_cut : Option FlagFact → Condition → (taken : Bool) → Known → Option Known
register_cut None condition taken a = Some a
register_cut (Some fact) condition taken a = cut_to fact (window_of condition taken fact) a

abbrev pub with_bits : List Tri → Known → Known
with_bits bits a = record a { status = record a.status { bits = bits } }

-- What is known where a jump is taken, or isn't. That can't be where the flags say otherwise, or where the register has no
-- such value.
unfoldable pub known_cut : Condition → (taken : Bool) → Known → Option Known
known_cut condition taken a =
    if may_be (taken_by condition a.status.bits) taken
    then option_map (with_bits (bits_where condition taken a.status.bits)) (register_cut a.fact condition taken a)
    else None
