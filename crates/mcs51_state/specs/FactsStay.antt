-- Facts of the accumulator and of CY stay where a state keeps A, PSW and RAM: lemmas, also for the proofs of crates above.
use Rattle.std.proofs.Common.{◌≡◌, ◌+◌, ◌*◌, ◌%◌, Option, None, Some, sym, ap, ◌∙◌}
use Rattle.std.specs.Prelude.{nat_lt, slice_index}
use Rattle.std.specs.Int.{bit_at}
use Rattle.mcs51_chip.specs.declared.state.ChipState.{ChipState}
use Rattle.mcs51_chip.specs.Registers.{bit_of}
use Rattle.mcs51_state.specs.declared.fact.CarryFact.{CarryFact}
use Rattle.mcs51_state.specs.declared.fact.Compared.{Compared}
use Rattle.mcs51_state.specs.declared.fact.Compared.TheVariants.{Accumulator, Ram}
use Rattle.mcs51_state.specs.declared.fact.LinearFact.{LinearFact}
use Rattle.mcs51_state.specs.Holding.{HoldsOfCarry, HoldsOfLinear, HoldsOfParts, compared_in}
use Rattle.mcs51_state.specs.Known.{Known}

pub linear_stays : (fact : Option LinearFact) (s t : ChipState) → s.a ≡ t.a → s.ram ≡ t.ram → HoldsOfLinear fact s → HoldsOfLinear fact t
linear_stays None s t a ram holds = tt
linear_stays (Some fact) s t a ram holds = sym a ∙ holds ∙ ap (λ list. (fact.factor * slice_index list fact.place + fact.added) % 256) ram

compared_stays : (compared : Compared) (s t : ChipState) → s.a ≡ t.a → s.ram ≡ t.ram → compared_in compared s ≡ compared_in compared t
compared_stays Accumulator s t a ram = a
compared_stays (Ram place) s t a ram = ap (λ list. slice_index list place) ram

pub carry_stays : (fact : Option CarryFact) (s t : ChipState) → s.psw ≡ t.psw → s.a ≡ t.a → s.ram ≡ t.ram
    → HoldsOfCarry fact s → HoldsOfCarry fact t
carry_stays None s t psw a ram holds = tt
carry_stays (Some fact) s t psw a ram holds =
    ap (λ n. bit_at n 7) (sym psw) ∙ holds ∙ ap (λ v. bit_of (nat_lt v fact.bound)) (compared_stays fact.compared s t a ram)

pub record FactsHold (known : Known) (s : ChipState) : Type 0 where
  pub linear_fact : HoldsOfLinear known.linear_fact s
  pub carry_fact : HoldsOfCarry known.carry_fact s

pub facts_stay : (known : Known) (s t : ChipState) (first : Option ChipState) → s.psw ≡ t.psw → s.a ≡ t.a → s.ram ≡ t.ram
    → HoldsOfParts known s first → FactsHold known t
facts_stay known s t first psw a ram parts = record {
  linear_fact = linear_stays known.linear_fact s t a ram parts.linear_fact;
  carry_fact = carry_stays known.carry_fact s t psw a ram parts.carry_fact;
}
