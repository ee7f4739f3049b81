-- A bit of PSW, and one of another byte.
use Rattle.std.proofs.Common.{◌≡◌, ℕ, ◌*◌, ◌/◌, ◌%◌, ◌<◌, Bool, true, false, Option, List, [], cond, refl, subst, sym, arith}
use Rattle.std.specs.Int.{bit_at}
use Rattle.std.specs.Option.{option_map}
use Rattle.std.proofs.lemmas.Bool.{cond_both, eqb-true}
use Rattle.choosing.specs.Gives.{Gives}
use Rattle.mcs51_decode.specs.declared.instr.BitOperation.{BitOperation}
use Rattle.mcs51_decode.specs.declared.instr.Instr.TheVariants.{ChangeBit}
use Rattle.mcs51_chip.specs.declared.place.Address.{Address}
use Rattle.mcs51_chip.specs.declared.place.Address.TheVariants.{InSfr}
use Rattle.mcs51_chip.specs.declared.state.ChipState.{ChipState}
use Rattle.mcs51_chip.specs.Arithmetic.{bit_after}
use Rattle.mcs51_chip.specs.Leading.{MayRead}
use Rattle.mcs51_chip.specs.Memory.{bit_address, write}
use Rattle.mcs51_chip.specs.Registers.{carry_of, with_bit}
use Rattle.mcs51_chip.specs.Step.{effect_of}
use Rattle.mcs51_state.specs.Forms.{IsKnown}
use Rattle.mcs51_state.specs.Known.{Known}
use Rattle.mcs51_state.specs.Places.{suspended_of}
use Rattle.mcs51_state.specs.Under.{IsUnder}
use Rattle.mcs51_state.specs.Operands.{bit_addresses}
use Rattle.mcs51_state.specs.Reading.{carry, read_byte}
use Rattle.mcs51_results.specs.HoldingFacts.{status_of_known}
use Rattle.mcs51_results.specs.StatusBytes.{status_with_bit}
use Rattle.mcs51_state.specs.Following.{IsValue}
use Rattle.mcs51_state.specs.Writing.{byte_written, status_written}
use Rattle.mcs51_state.specs.Doing.{DoesSo, LeadsSo}
use Rattle.mcs51_state.specs.Accesses.{update_at}
use Rattle.mcs51_jumps.specs.Bits.{bit_changed, byte_changed, is_of_status}
use Rattle.mcs51_results.specs.InstructionLaws.{InstructionLaws}

-- what the chip writes in place of a byte
abbrev pub after : BitOperation → (bit : ℕ) → ChipState → ℕ → ℕ
after operation bit s x = with_bit x (bit % 8) (bit_after operation (carry_of s) (bit_at x (bit % 8)))

-- THE BYTE

value_is : (laws : InstructionLaws) (framed : Bool) (a : Known) (s : ChipState) (first : Option ChipState) (operation : BitOperation) (bit x : ℕ)
    → IsUnder framed a s first → bit < 256 → MayRead s (bit_address bit) x
    → IsValue framed first (byte_changed framed operation bit a) (after operation bit s x)
value_is laws framed a s first operation bit x under inside may =
    let at = laws.operands.stands.bit bit inside in
    let byte = read_byte framed a (bit_addresses bit) in
    let form = laws.operands.reads.form framed a under.form (bit_addresses bit) at.1 in
    let holds = laws.operands.reads.byte framed a s first under (bit_addresses bit) (bit_address bit) x at.0 at.1 may in
    record {
      form = laws.results.bits.byte_form framed operation bit (carry a) byte form;
      holds = laws.results.bits.byte framed (option_map suspended_of first) operation bit (carry a) byte x (carry_of s) form holds (laws.operands.reads.carry framed a s first under);
    }

after_small : (laws : InstructionLaws) (framed : Bool) (a : Known) (s : ChipState) (first : Option ChipState) (operation : BitOperation) (bit x : ℕ)
    → IsUnder framed a s first → bit < 256 → MayRead s (bit_address bit) x
    → after operation bit s x < 256
after_small laws framed a s first operation bit x under inside may =
    let value = value_is laws framed a s first operation bit x under inside may in
    laws.known.sets.below 256 (after operation bit s x) (byte_changed framed operation bit a).set value.form.normal value.holds.0

-- PSW

psw_address : (bit : ℕ) → bit / 8 * 8 ≡ 208 → bit_address bit ≡ InSfr 208
psw_address bit at = grind (arith, at)

psw_under : (laws : InstructionLaws) (framed : Bool) (a : Known) (s : ChipState) (first : Option ChipState) (operation : BitOperation) (bit x : ℕ)
    → after operation bit s x < 256 → IsUnder framed a s first → MayRead s (InSfr 208) x
    → IsUnder framed (status_written (status_with_bit operation bit a.psw) a) (write (InSfr 208) (after operation bit s x) s) first
unfolding write
psw_under laws framed a s first operation bit x small under may =
    let form = status_of_known framed a under.form in
    let is = laws.results.bits.status_form framed operation bit a.psw form in
    let holds = laws.results.bits.status framed first operation bit a.psw s x under.holds.state form under.holds.parts.psw may in
    laws.stores.flags.status framed first (status_with_bit operation bit a.psw) (after operation bit s x) small is.bits is.entry holds a s under

-- EITHER

pub of_status : (framed : Bool) (operation : BitOperation) (bit : ℕ) (a : Known) → is_of_status bit ≡ true
    → status_written (status_with_bit operation bit a.psw) a ≡ bit_changed framed operation bit a
unfolding bit_changed
of_status framed operation bit a is =
    let written = status_written (status_with_bit operation bit a.psw) a in
    cond_both (is_of_status bit) written (byte_written framed (bit_addresses bit) (byte_changed framed operation bit a) a) (λ (behind : Known). written ≡ behind) (λ e. refl) (λ e. absurd cc)

pub bit_form : (laws : InstructionLaws) (framed : Bool) (a : Known) (operation : BitOperation) (bit : ℕ) → IsKnown framed a → bit < 256
    → IsKnown framed (bit_changed framed operation bit a)
unfolding bit_changed
bit_form laws framed a operation bit form inside =
    let at = laws.operands.stands.bit bit inside in
    let is = laws.results.bits.status_form framed operation bit a.psw (status_of_known framed a form) in
    let byte = laws.results.bits.byte_form framed operation bit (carry a) (read_byte framed a (bit_addresses bit)) (laws.operands.reads.form framed a form (bit_addresses bit) at.1) in
    cond_both (is_of_status bit) (status_written (status_with_bit operation bit a.psw) a) (byte_written framed (bit_addresses bit) (byte_changed framed operation bit a) a) (IsKnown framed)
    (λ e. laws.stores.forms.status framed (status_with_bit operation bit a.psw) is.bits is.entry a form)
    (λ e. laws.stores.forms.byte framed (bit_addresses bit) (byte_changed framed operation bit a) at.1 byte a form)

under_either : (laws : InstructionLaws) (framed : Bool) (a : Known) (s : ChipState) (first : Option ChipState) (operation : BitOperation) (bit x : ℕ) (of_status : Bool)
    → is_of_status bit ≡ of_status → IsUnder framed a s first
    → bit < 256 → MayRead s (bit_address bit) x
    → IsUnder framed (cond of_status (status_written (status_with_bit operation bit a.psw) a) (byte_written framed (bit_addresses bit) (byte_changed framed operation bit a) a)) (write (bit_address bit) (after operation bit s x) s) first
under_either laws framed a s first operation bit x true is under inside may =
    let at = psw_address bit (eqb-true (bit / 8 * 8) 208 is) in
    subst (λ (address : Address). IsUnder framed (status_written (status_with_bit operation bit a.psw) a) (write address (after operation bit s x) s) first) (sym at)
    (psw_under laws framed a s first operation bit x (after_small laws framed a s first operation bit x under inside may) under (subst (λ (address : Address). MayRead s address x) at may))
under_either laws framed a s first operation bit x false is under inside may =
    let at = laws.operands.stands.bit bit inside in
    laws.stores.writes.byte framed first (bit_addresses bit) (bit_address bit) (byte_changed framed operation bit a) (after operation bit s x) (value_is laws framed a s first operation bit x under inside may) at.1 at.0 a s under

pub changed_leads : (laws : InstructionLaws) (framed : Bool) (a : Known) (s : ChipState) (first : Option ChipState) (operation : BitOperation) (bit x : ℕ)
    → IsUnder framed a s first → bit < 256 → MayRead s (bit_address bit) x
    → LeadsSo framed first (bit_changed framed operation bit a) s (write (bit_address bit) (after operation bit s x) s)
unfolding bit_changed
changed_leads laws framed a s first operation bit x under inside may = record {
  onward = laws.operands.formats.write_keeps (bit_address bit) (after operation bit s x) s;
  under = under_either laws framed a s first operation bit x (is_of_status bit) refl under inside may;
}

pub bit_does : (laws : InstructionLaws) (framed : Bool) (a : Known) (s : ChipState) (first : Option ChipState) (image : List (Option ℕ)) (pc : ℕ) (operation : BitOperation) (bit : ℕ)
    → IsUnder framed a s first → bit < 256
    → Gives (DoesSo framed first (update_at pc (bit_addresses bit)) pc (bit_changed framed operation bit a) s) (effect_of image s (ChangeBit operation bit))
unfolding effect_of
bit_does laws framed a s first image pc operation bit under inside =
    let at = laws.operands.stands.bit bit inside in
    laws.operands.formats.updating framed first [] pc (bit_changed framed operation bit a) s [] (bit_addresses bit) (bit_address bit)
    (λ x. write (bit_address bit) (after operation bit s x) s) (laws.operands.sums.none [] pc) at.0 at.1
    (λ x may. changed_leads laws framed a s first operation bit x under inside may)
