-- What is known where the accumulator and PSW are written.
use Rattle.std.proofs.Common.{◌≡◌, ℕ, Bool, true, false, Option, None, Some, refl, sym, ap, ◌∙◌, subst}
use Rattle.std.specs.Int.{bit_at}
use Rattle.std.specs.Option.{option_map}
use Rattle.std.proofs.lemmas.Bool.{cond_both}
use Rattle.entry_value.specs.declared.byte.Byte.{Byte}
use Rattle.entry_value.specs.Words.{HoldsOfByte}
use Rattle.mcs51_chip.specs.declared.state.ChipState.{ChipState}
use Rattle.mcs51_chip.specs.Registers.{with_accumulator}
use Rattle.mcs51_chip.specs.State.{IsChipState}
use Rattle.mcs51_chip.specs.StateFacts.{set_a}
use Rattle.mcs51_state.specs.declared.fact.CarryFact.{CarryFact}
use Rattle.mcs51_state.specs.declared.fact.Compared.{Compared}
use Rattle.mcs51_state.specs.declared.fact.Compared.TheVariants.{Accumulator, Ram}
use Rattle.mcs51_state.specs.declared.fact.LinearFact.{LinearFact}
use Rattle.mcs51_state.specs.Forms.{IsByte, IsCarry, IsKnown, IsLinear}
use Rattle.mcs51_state.specs.Holding.{HoldsOfCarry, HoldsOfLinear}
use Rattle.mcs51_state.specs.Known.{Known}
use Rattle.mcs51_state.specs.Places.{suspended_of}
use Rattle.mcs51_state.specs.Under.{IsUnder}
use Rattle.mcs51_results.specs.declared.made.Made.{Made}
use Rattle.mcs51_results.specs.Holding.{HoldsOfMade, IsMade, StandsMade}
use Rattle.mcs51_state.specs.Writing.{is_accumulator}
use Rattle.mcs51_alu.specs.Accumulator.{carry_left, with_byte, with_made}
use Rattle.mcs51_results.specs.InstructionLaws.{InstructionLaws}

abbrev pub made_state : (x p : ℕ) → ChipState → ChipState
made_state x p s = record s { a = x; psw = p }

-- An instruction writes A and PSW alone, and PSW only where it sets CY.
pub record Writes (sets_carry : Bool) (s t : ChipState) : Type 0 where
  pub state : t ≡ made_state t.a t.psw s
  pub psw : sets_carry ≡ false → s.psw ≡ t.psw

pub pc_stays : (sets_carry : Bool) (s t : ChipState) → Writes sets_carry s t → t.pc ≡ s.pc
pc_stays sets_carry s t writes = ap (λ (u : ChipState). u.pc) writes.state

-- THE FACT OF CY

pub left_is : (sets : Bool) (fact : Option CarryFact) → IsCarry fact → IsCarry (carry_left sets fact)
left_is true fact is = tt
left_is false None is = tt
left_is false (Some fact) is = cond_both (is_accumulator fact.compared) None (Some fact) IsCarry (λ e. tt) (λ e. is)

beside_stays : (place : Compared) (bound x p : ℕ) (s : ChipState) → s.psw ≡ p → is_accumulator place ≡ false
    → HoldsOfCarry (Some (record { compared = place; bound = bound })) s
    → HoldsOfCarry (Some (record { compared = place; bound = bound })) (made_state x p s)
beside_stays Accumulator bound x p s same other holds = absurd (cc)
beside_stays (Ram at) bound x p s same other holds = ap (λ n. bit_at n 7) (sym same) ∙ holds

left_holds : (sets : Bool) (fact : Option CarryFact) (x p : ℕ) (s : ChipState) → (sets ≡ false → s.psw ≡ p) → HoldsOfCarry fact s
    → HoldsOfCarry (carry_left sets fact) (made_state x p s)
left_holds true fact x p s same holds = tt
left_holds false None x p s same holds = tt
left_holds false (Some fact) x p s same holds =
    cond_both (is_accumulator fact.compared) None (Some fact) (λ (left : Option CarryFact). HoldsOfCarry left (made_state x p s)) (λ e. tt)
    (λ e. beside_stays fact.compared fact.bound x p s (same refl) e holds)

-- WRITTEN

pub made_form : (framed : Bool) (made : Made) (sets : Bool) (linear : Option LinearFact) (a : Known)
    → IsMade framed made → IsLinear linear → IsKnown framed a
    → IsKnown framed (with_made made sets linear a)
made_form framed made sets linear a is linear_is form = let carry_is = left_is sets a.carry_fact form.carry_fact in assumption (form, is, linear_is, carry_is)

pub made_under : (framed : Bool) (made : Made) (sets : Bool) (linear : Option LinearFact) (a : Known) (s t : ChipState) (first : Option ChipState)
    → Writes sets s t → IsChipState t → IsMade framed made → HoldsOfMade (option_map suspended_of first) made t
    → IsLinear linear → HoldsOfLinear linear t
    → IsUnder framed a s first → IsUnder framed (with_made made sets linear a) t first
made_under framed made sets linear a s t first writes state is holds linear_is linear_holds under =
    let after : ChipState = made_state t.a t.psw s in
    let state_after = subst IsChipState writes.state state in
    let holds_after = subst (HoldsOfMade (option_map suspended_of first) made) writes.state holds in
    let linear_after = subst (HoldsOfLinear linear) writes.state linear_holds in
    let form = made_form framed made sets linear a is linear_is under.form in
    let carry = left_holds sets a.carry_fact t.a t.psw s writes.psw under.holds.parts.carry_fact in
    let there : IsUnder framed (with_made made sets linear a) after first = assumption (under, state_after, holds_after, linear_after, form, carry) in
    subst (λ (u : ChipState). IsUnder framed (with_made made sets linear a) u first) (sym writes.state) there

-- what is known of the accumulator and PSW in front of an instruction
abbrev pub made_before : Known → Made
made_before a = record { a = a.a; psw = a.psw }

pub before_form : (framed : Bool) (a : Known) → IsKnown framed a → IsMade framed (made_before a)
before_form framed a form = record { a = form.a; psw = record { bits = form.bits; entry = form.psw } }

pub before_stands : (framed : Bool) (a : Known) (s : ChipState) (first : Option ChipState) → IsUnder framed a s first
    → StandsMade framed (option_map suspended_of first) (made_before a) s
before_stands framed a s first under = record {
  state = under.holds.state;
  form = before_form framed a under.form;
  holds = record { a = under.holds.parts.a; psw = under.holds.parts.psw };
}

-- the accumulator alone
pub byte_form : (framed : Bool) (byte : Byte) (linear : Option LinearFact) (a : Known) → IsByte framed byte
    → IsLinear linear → IsKnown framed a
    → IsKnown framed (with_byte byte linear a)
byte_form framed byte linear a is linear_is form =
    made_form framed (record { a = byte; psw = a.psw }) false linear a (record { a = is; psw = record { bits = form.bits; entry = form.psw } }) linear_is form

pub byte_under : (laws : InstructionLaws) (framed : Bool) (byte : Byte) (linear : Option LinearFact) (a : Known) (s : ChipState) (first : Option ChipState) (x : ℕ)
    → IsByte framed byte → HoldsOfByte (option_map suspended_of first) byte x → IsLinear linear
    → HoldsOfLinear linear (with_accumulator x s)
    → IsUnder framed a s first → IsUnder framed (with_byte byte linear a) (with_accumulator x s) first
byte_under laws framed byte linear a s first x is holds linear_is linear_holds under =
    made_under framed (record { a = byte; psw = a.psw }) false linear a s (with_accumulator x s) first (record { state = refl; psw = λ e. refl })
    (set_a s x under.holds.state (laws.known.sets.below 256 x byte.set is.normal holds.0)) (record { a = is; psw = record { bits = under.form.bits; entry = under.form.psw } })
    (record { a = holds; psw = under.holds.parts.psw }) linear_is linear_holds under
