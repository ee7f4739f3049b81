-- What is known where CY was seen, and where it is written.
use Rattle.std.proofs.Common.{◌≡◌, ℕ, ◌<◌, ◌==◌, Bool, Option, None, Some, set, refl, sym, ap, ◌∙◌}
use Rattle.std.specs.Prelude.{nat_lt}
use Rattle.std.specs.Option.{option_map}
use Rattle.value_bits.specs.declared.tri.Tri.{Tri}
use Rattle.value_bits.specs.Bits.{IsBit, known_flag}
use Rattle.value_bits.specs.BitFacts.{bit_known}
use Rattle.mcs51_chip.specs.declared.state.ChipState.{ChipState}
use Rattle.mcs51_chip.specs.Registers.{bit_of, carry_of, with_carry}
use Rattle.mcs51_chip.specs.NumberFacts.{carry_below}
use Rattle.mcs51_chip.specs.StateFacts.{carry_kept}
use Rattle.mcs51_state.specs.declared.fact.CarryFact.{CarryFact}
use Rattle.mcs51_state.specs.declared.fact.LinearFact.{LinearFact}
use Rattle.mcs51_state.specs.declared.fact.Compared.{Compared}
use Rattle.mcs51_state.specs.declared.fact.Compared.TheVariants.{Accumulator, Ram}
use Rattle.mcs51_state.specs.FormFacts.{no_own_relation}
use Rattle.mcs51_state.specs.Forms.{IsCarry, IsKnown}
use Rattle.mcs51_state.specs.Holding.{HoldsOfCarry, HoldsOfLinear, HoldsOfStatus, compared_in}
use Rattle.mcs51_state.specs.Known.{Known}
use Rattle.mcs51_state.specs.Places.{psw_place, suspended_of}
use Rattle.mcs51_state.specs.Under.{IsUnder}
use Rattle.mcs51_branch.specs.Jumps.{with_seen_carry, with_carry_written}
use Rattle.mcs51_branch.proofs.CarryBits.{carry_put, carry_seen, put_long, written_carry}

-- SEEN

pub seen_form : (framed : Bool) (carry : Bool) (known : Known) → IsKnown framed known → IsKnown framed (with_seen_carry carry known)
unfolding with_seen_carry
seen_form framed carry known form =
    let bits = put_long known.psw.bits (known_flag carry) form.bits in
    assumption (form, bits)

pub seen_under : (framed : Bool) (known : Known) (s : ChipState) (first : Option ChipState) → IsUnder framed known s first
    → IsUnder framed (with_seen_carry (carry_of s == 1) known) s first
unfolding with_seen_carry
seen_under framed known s first under =
    let seen = known_flag (carry_of s == 1) in
    let long = put_long known.psw.bits seen under.form.bits in
    let bits = carry_seen known.psw.bits s.psw seen under.form.bits under.holds.parts.psw.bits (bit_known (carry_of s) (carry_below s)) in
    assumption (under, long, bits)

-- WRITTEN

pub written_form : (framed : Bool) (carry : Tri) (fact : Option CarryFact) (known : Known) → IsCarry fact → IsKnown framed known
    → IsKnown framed (with_carry_written carry fact known)
unfolding with_carry_written
written_form framed carry fact known is form =
    let bits = put_long known.psw.bits carry form.bits in
    assumption (form, bits, no_own_relation framed psw_place 3, is)

linear_stays : (fact : Option LinearFact) (s : ChipState) (carry : ℕ) → HoldsOfLinear fact s → HoldsOfLinear fact (with_carry carry s)
linear_stays None s carry holds = holds
linear_stays (Some fact) s carry holds = holds

pub written_under : (framed : Bool) (bit : Tri) (fact : Option CarryFact) (carry : ℕ) (known : Known) (s : ChipState) (first : Option ChipState)
    → carry < 2 → IsBit bit carry → IsCarry fact → HoldsOfCarry fact (with_carry carry s)
    → IsUnder framed known s first → IsUnder framed (with_carry_written bit fact known) (with_carry carry s) first
unfolding with_carry_written
written_under framed bit fact carry known s first small is fact_is told under =
    let parts = under.holds.parts in
    let form = written_form framed bit fact known fact_is under.form in
    let state = carry_kept s carry under.holds.state small in
    let bits = carry_put known.psw.bits s.psw carry bit under.form.bits parts.psw.bits small is in
    let psw : HoldsOfStatus (option_map suspended_of first) (record { bits = set known.psw.bits 5 bit; entry = None }) (with_carry carry s).psw =
    record { bits = bits; entry = tt } in
    let linear = linear_stays known.linear_fact s carry parts.linear_fact in
    assumption (under, form, state, psw, linear, told)

-- WHAT IT SAYS OF A BYTE

same_compared : (place : Compared) (s : ChipState) (carry : ℕ) → compared_in place (with_carry carry s) ≡ compared_in place s
same_compared Accumulator s carry = refl
same_compared (Ram at) s carry = refl

-- CY as CJNE leaves it
pub told_of_place : (place : Compared) (bound carry : ℕ) (s : ChipState) → carry < 2 → carry ≡ bit_of (nat_lt (compared_in place s) bound)
    → HoldsOfCarry (Some (record { compared = place; bound = bound })) (with_carry carry s)
told_of_place place bound carry s small e =
    written_carry s.psw carry small ∙ e ∙ ap (λ v. bit_of (nat_lt v bound)) (sym (same_compared place s carry))
