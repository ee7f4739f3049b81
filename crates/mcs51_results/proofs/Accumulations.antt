-- The accumulator and PSW behind operations.
use Rattle.std.proofs.Common.{◌≡◌, ℕ, ◌+◌, ◌-◌, ◌/◌, ◌%◌, ◌<◌, Bool, Option, refl, sym, subst, arith}
use Rattle.std.specs.Int.{bit_at}
use Rattle.std.proofs.lemmas.Nat.Bits.{bit_at_lowest}
use Rattle.entry_value.specs.declared.byte.Byte.{Byte}
use Rattle.entry_value.specs.declared.word.Entry.{Entry}
use Rattle.entry_value.specs.Words.{Suspended, IsFromEntry, HoldsOfByte}
use Rattle.irq_frames.specs.KnownLaws.{KnownLaws}
use Rattle.value_set.specs.declared.form.Form.{Form}
use Rattle.value_set.specs.declared.form.Form.TheVariants.{Values, Run}
use Rattle.value_set.specs.Form.{Has, IsNormal}
use Rattle.value_set.specs.Summing.{add, single, sub, twice}
use Rattle.value_bits.specs.declared.tri.Lowest.TheVariants.{High, Given}
use Rattle.value_bits.specs.declared.tri.Top.TheVariants.{Low, Put}
use Rattle.value_bits.specs.declared.tri.Tri.{Tri}
use Rattle.value_bits.specs.declared.tri.Tri.TheVariants.{Either}
use Rattle.value_bits.specs.BitFacts.{flag_bit}
use Rattle.value_bits.specs.Bits.{IsBit, logic_of}
use Rattle.chip_numbers.specs.Numbers.{shifted_right, shifted_left, exchanged, decimal_adjusted, adjusted_carry}
use Rattle.value_bits.specs.Sets.{chosen}
use Rattle.mcs51_decode.specs.declared.instr.Operation.{Operation}
use Rattle.mcs51_decode.specs.declared.instr.Operation.TheVariants.{Add, Addc, Orl, Anl, Xrl, Subb}
use Rattle.mcs51_decode.specs.declared.instr.Logic.{Logic}
use Rattle.mcs51_decode.specs.declared.instr.Logic.TheVariants as logic
use Rattle.mcs51_decode.specs.declared.instr.AccumulatorOperation.{AccumulatorOperation}
use Rattle.mcs51_decode.specs.declared.instr.AccumulatorOperation.TheVariants.{Rr, Rrc, Rl, Rlc, Swap, Da, Clr, Cpl}
use Rattle.mcs51_chip.specs.declared.state.ChipState.{ChipState}
use Rattle.mcs51_chip.specs.Arithmetic.{accumulated, added, changed, masked, carries, differ}
use Rattle.mcs51_chip.specs.Registers.{bit_of, carry_of, half_carry_of}
use Rattle.mcs51_state.specs.declared.status.Status.{Status}
use Rattle.mcs51_state.specs.FormFacts.{and_form, byte_form, or_form}
use Rattle.mcs51_state.specs.Forms.{IsByte, IsRelation}
use Rattle.mcs51_state.specs.Holding.{HoldsOfStatus}
use Rattle.mcs51_state.specs.Known.{byte_of}
use Rattle.mcs51_results.specs.declared.flags.FlagRule.TheVariants as flag
use Rattle.mcs51_results.specs.declared.made.Made.{Made}
use Rattle.mcs51_results.specs.declared.made.Operand.{Operand}
use Rattle.mcs51_results.specs.declared.made.Operand.TheVariants.{Constant, Among}
use Rattle.mcs51_results.specs.Holding.{IsResult, AreOperands, IsOperand, IsStatus, IsMade, HoldsOfMade, StandsMade}
use Rattle.mcs51_results.specs.Results.{carry_in, half_carry_in, known_flag, set_of, add_carry, sub_carry, sum_rules, difference_rules, twice_rules, twice_flags, twice_made, bitwise, masked_entry, masked_made, accumulated_made, changed_set, changed_flags, changed_made}
use Rattle.mcs51_results.specs.Rules.{flag_by}
use Rattle.mcs51_results.proofs.SetLemmas.{single_is, zero_is, chosen_is, member, operand_value, operand_is, add_is, sub_is, carry_is, borrow_is, logic_is}
use Rattle.mcs51_results.proofs.StatusLemmas.{flag_is, flags_row, equal_bit, carry_bit, half_carry_bit, flagged_holds, carried_holds}

-- BYTES

-- of a state the accumulator's set has its number
pub byte_is : (framed : Bool) (first : Option Suspended) (byte : Byte) (x : ℕ) → IsByte framed byte
    → HoldsOfByte first byte x → IsResult 256 byte.set x
byte_is framed first byte x form holds = record { normal = form.normal; has = holds.0 }

pub plain_holds : (first : Option Suspended) (set : Form) (v : ℕ) → IsResult 256 set v → HoldsOfByte first (byte_of set) v
plain_holds first set v is = (is.has, tt)

-- LOGIC

pub masked_logic : (done : Logic) (x mask : ℕ) → logic_of (bitwise done) x mask ≡ masked done x mask
masked_logic logic.Orl x mask = refl
masked_logic logic.Anl x mask = refl
masked_logic logic.Xrl x mask = refl

pub entry_holds : (laws : KnownLaws) (first : Option Suspended) (done : Logic) (operand : Operand) (entry : Option Entry) (x mask : ℕ)
    → IsOperand operand mask
    → IsFromEntry first entry x
    → IsFromEntry first (masked_entry done operand entry) (masked done x mask)
entry_holds laws first logic.Orl (Constant m) entry x mask (small, is) holds = rw is (laws.values.entries.or first entry x m holds)
entry_holds laws first logic.Anl (Constant m) entry x mask (small, is) holds = rw is (laws.values.entries.and first entry x m holds)
entry_holds laws first logic.Xrl (Constant m) entry x mask is holds = tt
entry_holds laws first logic.Orl (Among set) entry x mask is holds = tt
entry_holds laws first logic.Anl (Among set) entry x mask is holds = tt
entry_holds laws first logic.Xrl (Among set) entry x mask is holds = tt

pub entry_form : (framed : Bool) (done : Logic) (operand : Operand) (entry : Option Entry) → AreOperands operand → IsRelation framed entry
    → IsRelation framed (masked_entry done operand entry)
entry_form framed logic.Orl (Constant m) entry small form = or_form framed m entry small form
entry_form framed logic.Anl (Constant m) entry small form = and_form framed m entry form
entry_form framed logic.Xrl (Constant m) entry small form = tt
entry_form framed logic.Orl (Among set) entry small form = tt
entry_form framed logic.Anl (Among set) entry small form = tt
entry_form framed logic.Xrl (Among set) entry small form = tt

pub masked_holds : (laws : KnownLaws) (framed : Bool) (first : Option Suspended) (done : Logic) (byte : Byte) (operand : Operand) (x mask : ℕ)
    → IsByte framed byte → HoldsOfByte first byte x → IsOperand operand mask
    → HoldsOfByte first (masked_made done byte operand) (masked done x mask)
masked_holds laws framed first done byte operand x mask form holds is =
    let set_is = logic_is laws (bitwise done) x mask byte.set (set_of operand) (byte_is framed first byte x form holds) (operand_is laws operand mask is) in
    (subst (Has 256 (masked_made done byte operand).set) (masked_logic done x mask) set_is.has, entry_holds laws first done operand byte.entry x mask is holds.1)

operand_normal : (laws : KnownLaws) (operand : Operand) → AreOperands operand → IsNormal 256 (set_of operand)
operand_normal laws (Constant m) small = (laws.sets.single 256 m small).0
operand_normal laws (Among set) normal = normal

pub masked_form : (laws : KnownLaws) (framed : Bool) (done : Logic) (byte : Byte) (operand : Operand)
    → IsByte framed byte → AreOperands operand
    → IsByte framed (masked_made done byte operand)
masked_form laws framed done byte operand form are = record {
  normal = laws.bits.logic_normal 8 (bitwise done) byte.set (set_of operand) form.normal (operand_normal laws operand are);
  entry = entry_form framed done operand byte.entry are form.entry;
}

-- SUMS AND DIFFERENCES

no_carry : (x y : ℕ) → (x + y) % 256 ≡ (x + y + 0) % 256
no_carry x y = omega arith

pub accumulated_holds : (laws : KnownLaws) (framed : Bool) (first : Option Suspended) (done : Operation) (made : Made) (operand : Operand) (x : ℕ) (s : ChipState)
    → StandsMade framed first made s → IsOperand operand x
    → HoldsOfMade first (accumulated_made done made.a operand made.psw) (accumulated done x s)
accumulated_holds laws framed first Add made operand x s stands is =
    let a = byte_is framed first made.a s.a stands.form.a stands.holds.a in
    let b = operand_is laws operand x is in
    let sum = subst (IsResult 256 (add 256 made.a.set (set_of operand))) (no_carry s.a x) (add_is laws 256 s.a x made.a.set (set_of operand) a b) in record {
      a = (sum.has, tt);
      psw = flags_row laws first sum_rules made.a.set (set_of operand) (single 0) made.psw s.psw s.a x 0 stands.holds.psw a.has b.has (zero_is laws).has;
    }
accumulated_holds laws framed first Addc made operand x s stands is =
    let a = byte_is framed first made.a s.a stands.form.a stands.holds.a in
    let b = operand_is laws operand x is in
    let bit = carry_bit first made.psw s.psw stands.holds.psw in
    let carry = (chosen_is laws (carry_of s) (carry_in made.psw) bit).has in record {
      a = ((carry_is laws s.a x (carry_of s) made.a.set (set_of operand) (carry_in made.psw) a b bit).has, tt);
      psw = flags_row laws first sum_rules made.a.set (set_of operand) (chosen (carry_in made.psw)) made.psw s.psw s.a x (carry_of s) stands.holds.psw a.has b.has carry;
    }
accumulated_holds laws framed first Subb made operand x s stands is =
    let a = byte_is framed first made.a s.a stands.form.a stands.holds.a in
    let b = operand_is laws operand x is in
    let bit = carry_bit first made.psw s.psw stands.holds.psw in
    let carry = (chosen_is laws (carry_of s) (carry_in made.psw) bit).has in record {
      a = ((borrow_is laws s.a x (carry_of s) made.a.set (set_of operand) (carry_in made.psw) a b bit).has, tt);
      psw = flags_row laws first difference_rules made.a.set (set_of operand) (chosen (carry_in made.psw)) made.psw s.psw s.a x (carry_of s) stands.holds.psw a.has b.has carry;
    }
accumulated_holds laws framed first Orl made operand x s stands is = record { a = masked_holds laws framed first logic.Orl made.a operand s.a x stands.form.a stands.holds.a is; psw = stands.holds.psw }
accumulated_holds laws framed first Anl made operand x s stands is = record { a = masked_holds laws framed first logic.Anl made.a operand s.a x stands.form.a stands.holds.a is; psw = stands.holds.psw }
accumulated_holds laws framed first Xrl made operand x s stands is = record { a = masked_holds laws framed first logic.Xrl made.a operand s.a x stands.form.a stands.holds.a is; psw = stands.holds.psw }

pub accumulated_form : (laws : KnownLaws) (framed : Bool) (done : Operation) (made : Made) (operand : Operand)
    → IsMade framed made → AreOperands operand
    → IsMade framed (accumulated_made done made.a operand made.psw)
accumulated_form laws framed Add made operand form are = record {
  a = byte_form framed (add 256 made.a.set (set_of operand)) (laws.sets.add_normal 256 made.a.set (set_of operand) form.a.normal (operand_normal laws operand are));
  psw = record { bits = refl; entry = tt };
}
accumulated_form laws framed Addc made operand form are =
    let (x, a) = member laws 256 made.a.set form.a.normal in
    let (y, is) = operand_value laws operand are in
    let (z, bit) = laws.bits.bit_some (carry_in made.psw) in record {
      a = byte_form framed (add_carry made.a.set (set_of operand) (carry_in made.psw)) (carry_is laws x y z made.a.set (set_of operand) (carry_in made.psw) a (operand_is laws operand y is) bit).normal;
      psw = record { bits = refl; entry = tt };
    }
accumulated_form laws framed Subb made operand form are =
    let (x, a) = member laws 256 made.a.set form.a.normal in
    let (y, is) = operand_value laws operand are in
    let (z, bit) = laws.bits.bit_some (carry_in made.psw) in record {
      a = byte_form framed (sub_carry made.a.set (set_of operand) (carry_in made.psw)) (borrow_is laws x y z made.a.set (set_of operand) (carry_in made.psw) a (operand_is laws operand y is) bit).normal;
      psw = record { bits = refl; entry = tt };
    }
accumulated_form laws framed Orl made operand form are = record { a = masked_form laws framed logic.Orl made.a operand form.a are; psw = form.psw }
accumulated_form laws framed Anl made operand form are = record { a = masked_form laws framed logic.Anl made.a operand form.a are; psw = form.psw }
accumulated_form laws framed Xrl made operand form are = record { a = masked_form laws framed logic.Xrl made.a operand form.a are; psw = form.psw }

-- ADD OF THE ACCUMULATOR TO ITSELF

twice_psw : (laws : KnownLaws) (first : Option Suspended) (set : Form) (psw : Status) (s : ChipState) → Has 256 set s.a
    → HoldsOfStatus first psw s.psw
    → HoldsOfStatus first (twice_flags set psw) (added s.a 0 s).psw
twice_psw laws first (Values xs) psw s h holds =
    let none = (zero_is laws).has in
    flags_row laws first twice_rules (Values xs) (single 0) (single 0) psw s.psw s.a 0 0 holds h none none
twice_psw laws first (Run p) psw s h holds =
    flagged_holds first psw s.psw (bit_of (carries 256 s.a s.a 0)) (bit_of (carries 16 s.a s.a 0)) (bit_of (differ (carries 256 s.a s.a 0) (carries 128 s.a s.a 0))) Either Either Either holds
    (flag_bit Either (carries 256 s.a s.a 0) tt) (flag_bit Either (carries 16 s.a s.a 0) tt) (flag_bit Either (differ (carries 256 s.a s.a 0) (carries 128 s.a s.a 0)) tt)

pub twice_holds : (laws : KnownLaws) (framed : Bool) (first : Option Suspended) (made : Made) (s : ChipState)
    → StandsMade framed first made s
    → HoldsOfMade first (twice_made made.a made.psw) (accumulated Add s.a s)
twice_holds laws framed first made s stands = record {
  a = (subst (Has 256 (twice 256 made.a.set)) (no_carry s.a s.a) (laws.sets.twice 256 s.a made.a.set stands.form.a.normal stands.holds.a.0), tt);
  psw = twice_psw laws first made.a.set made.psw s stands.holds.a.0 stands.holds.psw;
}

twice_status : (framed : Bool) (set : Form) (psw : Status) → IsStatus framed (twice_flags set psw)
twice_status framed (Values xs) psw = record { bits = refl; entry = tt }
twice_status framed (Run p) psw = record { bits = refl; entry = tt }

pub twice_form : (laws : KnownLaws) (framed : Bool) (made : Made) → IsMade framed made → IsMade framed (twice_made made.a made.psw)
twice_form laws framed made form = record {
  a = byte_form framed (twice 256 made.a.set) (laws.sets.twice_normal 256 made.a.set form.a.normal);
  psw = twice_status framed made.a.set made.psw;
}

-- THE ACCUMULATOR ALONE

abbrev number_after : AccumulatorOperation → (x carry half : ℕ) → ℕ
number_after Rr x carry half = shifted_right 7 x (x % 2)
number_after Rrc x carry half = shifted_right 7 x carry
number_after Rl x carry half = shifted_left 7 x (x / 128)
number_after Rlc x carry half = shifted_left 7 x carry
number_after Swap x carry half = exchanged 16 x
number_after Da x carry half = decimal_adjusted x carry half
number_after Clr x carry half = 0
number_after Cpl x carry half = 255 - x

top_bit : (x : ℕ) → x < 256 → x / 128 ≡ bit_at x 7
top_bit x small = omega (arith, small)

other_bits : (x : ℕ) → x < 256 → (255 + 256 - x) % 256 ≡ 255 - x
other_bits x small = omega (arith, small)

changed_is : (laws : KnownLaws) (done : AccumulatorOperation) (a : Form) (c h : Tri) (x carry half : ℕ)
    → IsResult 256 a x → IsBit c carry → IsBit h half
    → IsResult 256 (changed_set done a c h) (number_after done x carry half)
changed_is laws Rr a c h x carry half is first second = record { normal = laws.bits.shift_normal 7 a Low is.normal; has = laws.bits.shift 7 x (x % 2) a Low is.normal is.has (sym (bit_at_lowest x)) }
changed_is laws Rrc a c h x carry half is first second = record { normal = laws.bits.shift_normal 7 a (Put c) is.normal; has = laws.bits.shift 7 x carry a (Put c) is.normal is.has first }
changed_is laws Rl a c h x carry half is first second =
    record { normal = laws.bits.left_normal 7 a High is.normal; has = laws.bits.left 7 x (x / 128) a High is.normal is.has (top_bit x (laws.sets.below 256 x a is.normal is.has)) }
changed_is laws Rlc a c h x carry half is first second = record { normal = laws.bits.left_normal 7 a (Given c) is.normal; has = laws.bits.left 7 x carry a (Given c) is.normal is.has first }
changed_is laws Swap a c h x carry half is first second = record { normal = laws.bits.exchange_normal 4 a is.normal; has = laws.bits.exchange 4 x a is.normal is.has }
changed_is laws Da a c h x carry half is first second = record { normal = laws.bits.adjust_normal a c h is.normal; has = laws.bits.adjust x carry half a c h is.normal is.has first second }
changed_is laws Clr a c h x carry half is first second = zero_is laws
changed_is laws Cpl a c h x carry half is first second =
    subst (IsResult 256 (sub 256 (single 255) a)) (other_bits x (laws.sets.below 256 x a is.normal is.has)) (sub_is laws 256 255 x (single 255) a (single_is laws 256 255 (omega arith)) is)

changed_a : (done : AccumulatorOperation) (s : ChipState) → number_after done s.a (carry_of s) (half_carry_of s) ≡ (changed done s).a
changed_a Rr s = refl
changed_a Rrc s = refl
changed_a Rl s = refl
changed_a Rlc s = refl
changed_a Swap s = refl
changed_a Da s = refl
changed_a Clr s = refl
changed_a Cpl s = refl

low_bit : (x : ℕ) → x % 2 < 2
low_bit x = omega arith

high_bit : (x : ℕ) → x < 256 → x / 128 < 2
high_bit x small = omega (arith, small)

changed_psw : (laws : KnownLaws) (first : Option Suspended) (done : AccumulatorOperation) (a : Form) (psw : Status) (s : ChipState)
    → IsResult 256 a s.a
    → HoldsOfStatus first psw s.psw
    → HoldsOfStatus first (changed_flags done a psw) (changed done s).psw
changed_psw laws first Rr a psw s is holds = holds
changed_psw laws first Rl a psw s is holds = holds
changed_psw laws first Swap a psw s is holds = holds
changed_psw laws first Clr a psw s is holds = holds
changed_psw laws first Cpl a psw s is holds = holds
changed_psw laws first Rrc a psw s is holds =
    let none = (zero_is laws).has in
    let t = known_flag flag.LowestBit a (single 0) (single 0) in
    carried_holds first psw s.psw (s.a % 2) t holds (equal_bit t (s.a % 2) (low_bit s.a) (laws.bits.flags 256 s.a 0 0 (flag_by flag.LowestBit) a (single 0) (single 0) is.has none none))
changed_psw laws first Rlc a psw s is holds =
    let none = (zero_is laws).has in
    let t = known_flag flag.HighestBit a (single 0) (single 0) in
    carried_holds first psw s.psw (s.a / 128) t holds
    (equal_bit t (s.a / 128) (high_bit s.a (laws.sets.below 256 s.a a is.normal is.has)) (laws.bits.flags 256 s.a 0 0 (flag_by flag.HighestBit) a (single 0) (single 0) is.has none none))
changed_psw laws first Da a psw s is holds =
    let c = carry_in psw in
    let h = half_carry_in psw in
    let t = known_flag flag.Adjusted a (chosen c) (chosen h) in
    let carry = chosen_is laws (carry_of s) c (carry_bit first psw s.psw holds) in
    let half = chosen_is laws (half_carry_of s) h (half_carry_bit first psw s.psw holds) in
    carried_holds first psw s.psw (bit_of (adjusted_carry s.a (carry_of s) (half_carry_of s))) t holds
    (flag_is laws flag.Adjusted s.a (carry_of s) (half_carry_of s) a (chosen c) (chosen h) is.has carry.has half.has)

pub changed_holds : (laws : KnownLaws) (framed : Bool) (first : Option Suspended) (done : AccumulatorOperation) (made : Made) (s : ChipState)
    → StandsMade framed first made s
    → HoldsOfMade first (changed_made done made.a made.psw) (changed done s)
changed_holds laws framed first done made s stands =
    let a = byte_is framed first made.a s.a stands.form.a stands.holds.a in
    let is = changed_is laws done made.a.set (carry_in made.psw) (half_carry_in made.psw) s.a (carry_of s) (half_carry_of s) a
    (carry_bit first made.psw s.psw stands.holds.psw) (half_carry_bit first made.psw s.psw stands.holds.psw) in record {
      a = (subst (Has 256 (changed_set done made.a.set (carry_in made.psw) (half_carry_in made.psw))) (changed_a done s) is.has, tt);
      psw = changed_psw laws first done made.a.set made.psw s a stands.holds.psw;
    }

changed_status : (framed : Bool) (done : AccumulatorOperation) (a : Form) (psw : Status) → IsStatus framed psw
    → IsStatus framed (changed_flags done a psw)
changed_status framed Rr a psw form = form
changed_status framed Rl a psw form = form
changed_status framed Swap a psw form = form
changed_status framed Clr a psw form = form
changed_status framed Cpl a psw form = form
changed_status framed Rrc a psw form = record { bits = refl; entry = tt }
changed_status framed Rlc a psw form = record { bits = refl; entry = tt }
changed_status framed Da a psw form = record { bits = refl; entry = tt }

pub changed_form : (laws : KnownLaws) (framed : Bool) (done : AccumulatorOperation) (made : Made) → IsMade framed made
    → IsMade framed (changed_made done made.a made.psw)
changed_form laws framed done made form =
    let (x, a) = member laws 256 made.a.set form.a.normal in
    let (c, carry) = laws.bits.bit_some (carry_in made.psw) in
    let (h, half) = laws.bits.bit_some (half_carry_in made.psw) in record {
      a = byte_form framed (changed_set done made.a.set (carry_in made.psw) (half_carry_in made.psw))
          (changed_is laws done made.a.set (carry_in made.psw) (half_carry_in made.psw) x c h a carry half).normal;
      psw = changed_status framed done made.a.set made.psw form.psw;
    }
