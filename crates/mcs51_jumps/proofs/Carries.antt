-- CY alone, and CY by a bit.
use Rattle.std.proofs.Common.{ℕ, ◌+◌, ◌-◌, ◌*◌, ◌%◌, ◌<◌, Bool, Option, None, List, [], refl, arith}
use Rattle.std.specs.Int.{bit_at}
use Rattle.std.specs.Option.{option_map}
use Rattle.std.proofs.lemmas.Nat.Bits.{bit_at-lt}
use Rattle.choosing.specs.Gives.{Gives}
use Rattle.mcs51_decode.specs.declared.instr.CarryByBit.{CarryByBit}
use Rattle.mcs51_decode.specs.declared.instr.CarryOperation.{CarryOperation}
use Rattle.mcs51_decode.specs.declared.instr.Instr.TheVariants.{CarryBit, ChangeCarry}
use Rattle.mcs51_chip.specs.declared.state.ChipState.{ChipState}
use Rattle.mcs51_chip.specs.Arithmetic.{carry_after, carry_with}
use Rattle.mcs51_chip.specs.Leading.{MayRead}
use Rattle.mcs51_chip.specs.Memory.{bit_address}
use Rattle.mcs51_chip.specs.NumberFacts.{carry_after_below, carry_below, carry_with_below}
use Rattle.mcs51_chip.specs.Registers.{carry_of, with_carry}
use Rattle.mcs51_chip.specs.StateFacts.{carry_kept}
use Rattle.mcs51_chip.specs.Step.{effect_of}
use Rattle.mcs51_state.specs.declared.status.Status.{Status}
use Rattle.mcs51_state.specs.Forms.{IsKnown}
use Rattle.mcs51_state.specs.Holding.{HoldsOfCarry, HoldsOfStatus}
use Rattle.mcs51_state.specs.Known.{Known}
use Rattle.mcs51_state.specs.Places.{suspended_of}
use Rattle.mcs51_state.specs.Under.{IsUnder}
use Rattle.mcs51_state.specs.Operands.{bit_addresses}
use Rattle.mcs51_results.specs.Holding.{IsStatus}
use Rattle.mcs51_results.specs.StatusBytes.{carry_bit_made, carry_made}
use Rattle.mcs51_state.specs.FactsStay.{linear_stays}
use Rattle.mcs51_state.specs.Writing.{status_written}
use Rattle.mcs51_state.specs.Doing.{DoesSo, LeadsSo}
use Rattle.mcs51_state.specs.Accesses.{read_at}
use Rattle.mcs51_jumps.specs.Bits.{bit_read, carry_changed, carry_joined}
use Rattle.mcs51_results.specs.InstructionLaws.{InstructionLaws}

-- CY IS WRITTEN

carry_under : (framed : Bool) (a : Known) (s : ChipState) (first : Option ChipState) (psw : Status) (c : ℕ) → c < 2
    → IsUnder framed a s first → IsStatus framed psw
    → HoldsOfStatus (option_map suspended_of first) psw (s.psw % 128 + 128 * c)
    → IsUnder framed (status_written psw a) (with_carry c s) first
carry_under framed a s first psw c small under form holds =
    let state = carry_kept s c under.holds.state small in
    let linear = linear_stays a.linear_fact s (with_carry c s) refl refl under.holds.parts.linear_fact in
    let carry : HoldsOfCarry None (with_carry c s) = tt in
    assumption (under, state, form, holds, linear, carry)

-- CPL, CLR AND SETB

pub carry_form : (laws : InstructionLaws) (framed : Bool) (a : Known) (operation : CarryOperation) → IsKnown framed a
    → IsKnown framed (carry_changed operation a)
unfolding carry_changed
carry_form laws framed a operation form =
    let is = laws.results.bits.carry_form framed operation a.psw in
    laws.stores.forms.status framed (carry_made operation a.psw) is.bits is.entry a form

pub carry_does : (laws : InstructionLaws) (framed : Bool) (a : Known) (s : ChipState) (first : Option ChipState) (image : List (Option ℕ)) (pc : ℕ) (operation : CarryOperation)
    → IsUnder framed a s first
    → Gives (DoesSo framed first [] pc (carry_changed operation a) s) (effect_of image s (ChangeCarry operation))
unfolding carry_changed effect_of
carry_does laws framed a s first image pc operation under =
    let c = carry_after operation (carry_of s) in
    let made = carry_made operation a.psw in
    let holds = laws.results.bits.carry (option_map suspended_of first) operation a.psw s under.holds.parts.psw in
    laws.operands.formats.implied framed first pc (status_written made a) s (with_carry c s) (record {
      onward = refl;
      under = carry_under framed a s first made c (carry_after_below operation (carry_of s)) under (laws.results.bits.carry_form framed operation a.psw) holds;
    })

-- ORL, ANL AND MOV

pub carry_bit_form : (laws : InstructionLaws) (framed : Bool) (a : Known) (operation : CarryByBit) (bit : ℕ)
    → IsKnown framed a → IsKnown framed (carry_joined operation bit a)
unfolding carry_joined
carry_bit_form laws framed a operation bit form =
    let is = laws.results.bits.carry_bit_form framed operation a.psw (bit_read a bit) in
    laws.stores.forms.status framed (carry_bit_made operation (bit_read a bit) a.psw) is.bits is.entry a form

joined_leads : (laws : InstructionLaws) (framed : Bool) (a : Known) (s : ChipState) (first : Option ChipState) (operation : CarryByBit) (bit x : ℕ)
    → IsUnder framed a s first → bit < 256 → MayRead s (bit_address bit) x
    → LeadsSo framed first (carry_joined operation bit a) s (with_carry (carry_with operation (carry_of s) (bit_at x (bit % 8))) s)
unfolding carry_joined
joined_leads laws framed a s first operation bit x under inside may =
    let at = laws.operands.stands.bit bit inside in
    let is = laws.operands.reads.bit framed a s first under (bit_addresses bit) (bit_address bit) x (bit % 8) at.0 at.1 may (omega arith) in
    let made = carry_bit_made operation (bit_read a bit) a.psw in
    let y = bit_at x (bit % 8) in
    let holds = laws.results.bits.carry_bit (option_map suspended_of first) operation a.psw (bit_read a bit) y s under.holds.parts.psw is in
    record {
      onward = refl;
      under = carry_under framed a s first made (carry_with operation (carry_of s) y) (carry_with_below operation (carry_of s) y (carry_below s) (bit_at-lt x (bit % 8))) under
          (laws.results.bits.carry_bit_form framed operation a.psw (bit_read a bit)) holds;
    }

pub carry_bit_does : (laws : InstructionLaws) (framed : Bool) (a : Known) (s : ChipState) (first : Option ChipState) (image : List (Option ℕ)) (pc : ℕ) (operation : CarryByBit) (bit : ℕ)
    → IsUnder framed a s first → bit < 256
    → Gives (DoesSo framed first (read_at pc (bit_addresses bit)) pc (carry_joined operation bit a) s) (effect_of image s (CarryBit operation bit))
unfolding effect_of
carry_bit_does laws framed a s first image pc operation bit under inside =
    let at = laws.operands.stands.bit bit inside in
    laws.operands.formats.reading framed first [] pc (carry_joined operation bit a) s [] (bit_addresses bit) (bit_address bit)
    (λ x. with_carry (carry_with operation (carry_of s) (bit_at x (bit % 8))) s) (laws.operands.sums.none [] pc) at.0 at.1
    (λ x may. joined_leads laws framed a s first operation bit x under inside may)
