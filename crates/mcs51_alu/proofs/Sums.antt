-- The accumulator and a byte.
use Rattle.std.proofs.Common.{◌≡◌, ℕ, ◌+◌, ◌*◌, ◌-◌, ◌%◌, ◌<◌, ◌==◌, Bool, true, Option, None, Some, refl, sym, ap, ◌∙◌, subst, inl, inr, arith}
use Rattle.std.specs.Prelude.{if◌then◌else◌, slice_index}
use Rattle.std.specs.Option.{option_map}
use Rattle.std.proofs.lemmas.Bool.{cases_lt, cond_both, eqb-true}
use Rattle.value_set.specs.Form.{Has}
use Rattle.mcs51_decode.specs.declared.instr.Memory.TheVariants.{Direct, Working}
use Rattle.mcs51_decode.specs.declared.instr.Operation.{Operation}
use Rattle.mcs51_decode.specs.declared.instr.Operation.TheVariants.{Add, Addc, Orl, Anl, Xrl, Subb}
use Rattle.mcs51_decode.specs.declared.instr.Source.{Source}
use Rattle.mcs51_decode.specs.declared.instr.Source.TheVariants as source
use Rattle.mcs51_decode.specs.Fitting.{IsSource}
use Rattle.mcs51_chip.specs.declared.state.ChipState.{ChipState}
use Rattle.mcs51_chip.specs.Arithmetic.{accumulated}
use Rattle.mcs51_chip.specs.Leading.{MayRead}
use Rattle.mcs51_chip.specs.Memory.{address_of, direct_address}
use Rattle.mcs51_chip.specs.StateFacts.{accumulated_kept}
use Rattle.mcs51_state.specs.declared.fact.LinearFact.{LinearFact}
use Rattle.mcs51_state.specs.FormFacts.{byte_form as plain_byte}
use Rattle.mcs51_state.specs.Forms.{IsKnown, IsLinear}
use Rattle.mcs51_state.specs.Holding.{HoldsOfLinear}
use Rattle.mcs51_state.specs.Known.{Known}
use Rattle.mcs51_state.specs.Places.{suspended_of}
use Rattle.mcs51_state.specs.Under.{IsUnder}
use Rattle.mcs51_state.specs.Operands.{addresses_of}
use Rattle.mcs51_state.specs.Reading.{read_byte}
use Rattle.mcs51_results.specs.declared.made.Made.{Made}
use Rattle.mcs51_results.specs.Holding.{AreOperands, HoldsOfMade, IsMade, IsOperand}
use Rattle.mcs51_results.specs.Results.{accumulated_made, twice_made}
use Rattle.mcs51_alu.specs.Accumulator.{MayBe, accumulated_known, gathered_made, is_add, is_itself, made_of, operand_of, sets_carry}
use Rattle.mcs51_alu.specs.LinearFacts.{added_fact, fact_behind, linear_values, once_more, only_address, raised_by, with_byte}
use Rattle.mcs51_results.specs.InstructionLaws.{InstructionLaws}
use Rattle.mcs51_alu.proofs.Gathers.{values_have, values_normal}
use Rattle.mcs51_alu.proofs.OnlyBytes.{only_read}
use Rattle.mcs51_alu.proofs.Written.{Writes, before_form, before_stands, made_before, made_form, made_state, made_under}

-- OPERANDS

operand_form : (laws : InstructionLaws) (framed : Bool) (a : Known) (origin : Source) → IsKnown framed a
    → IsSource origin → AreOperands (operand_of framed a origin)
operand_form laws framed a (source.Immediate value) form is = is
operand_form laws framed a (source.Memory m) form is = (laws.operands.reads.form framed a form (addresses_of a m) (laws.operands.stands.operand_form framed a form m is)).normal

operand_so : (laws : InstructionLaws) (framed : Bool) (a : Known) (s : ChipState) (first : Option ChipState) (origin : Source) (x : ℕ)
    → IsUnder framed a s first
    → IsSource origin → MayBe s origin x → IsOperand (operand_of framed a origin) x
operand_so laws framed a s first (source.Immediate value) x under is may = (is, may)
operand_so laws framed a s first (source.Memory m) x under is may =
    let are = laws.operands.stands.operand_form framed a under.form m is in record {
      normal = (laws.operands.reads.form framed a under.form (addresses_of a m) are).normal;
      has = (laws.operands.reads.byte framed a s first under (addresses_of a m) (address_of s m) x (laws.operands.stands.operand framed a s first under m) are may).0;
    }

-- ACC is the accumulator
itself_reads : (s : ChipState) (origin : Source) (x : ℕ) → is_itself origin ≡ true → MayBe s origin x → x ≡ s.a
itself_reads s (source.Immediate value) x is may = absurd (cc)
itself_reads s (source.Memory (Direct direct)) x is may = subst (λ n. MayRead s (direct_address n) x) (eqb-true direct 0xE0 is) may
itself_reads s (source.Memory (Working w)) x is may = absurd (cc)

add_so : (done : Operation) → is_add done ≡ true → done ≡ Add
add_so Add is = refl
add_so Addc is = absurd (cc)
add_so Orl is = absurd (cc)
add_so Anl is = absurd (cc)
add_so Xrl is = absurd (cc)
add_so Subb is = absurd (cc)

-- RESULTS

made_is : (laws : InstructionLaws) (framed : Bool) (a : Known) (done : Operation) (origin : Source) → IsKnown framed a
    → IsSource origin → IsMade framed (made_of framed done origin a)
made_is laws framed a done origin form is =
    let two = accumulated_made done a.a (operand_of framed a origin) a.psw in
    let twice = twice_made a.a a.psw in
    let two_is = laws.results.accumulations.two_form framed done (made_before a) (operand_of framed a origin) (before_form framed a form) (operand_form laws framed a origin form is) in
    cond_both (is_itself origin) (if is_add done then twice else two) two (IsMade framed)
    (λ e. cond_both (is_add done) twice two (IsMade framed) (λ add. laws.results.accumulations.twice_form framed (made_before a) (before_form framed a form)) (λ add. two_is)) (λ e. two_is)

made_holds : (laws : InstructionLaws) (framed : Bool) (a : Known) (s : ChipState) (first : Option ChipState) (done : Operation) (origin : Source) (x : ℕ)
    → IsUnder framed a s first → IsSource origin → MayBe s origin x
    → HoldsOfMade (option_map suspended_of first) (made_of framed done origin a) (accumulated done x s)
made_holds laws framed a s first done origin x under is may =
    let first_so = option_map suspended_of first in
    let two = accumulated_made done a.a (operand_of framed a origin) a.psw in
    let twice = twice_made a.a a.psw in
    let stands = before_stands framed a s first under in
    let two_holds = laws.results.accumulations.two framed first_so done (made_before a) (operand_of framed a origin) x s stands (operand_so laws framed a s first origin x under is may) in
    let twice_holds = laws.results.accumulations.twice framed first_so (made_before a) s stands in
    cond_both (is_itself origin) (if is_add done then twice else two) two (λ (made : Made). HoldsOfMade first_so made (accumulated done x s))
    (λ own. cond_both (is_add done) twice two (λ (made : Made). HoldsOfMade first_so made (accumulated done x s))
    (λ add. subst (λ (d : Operation). HoldsOfMade first_so twice (accumulated d x s)) (sym (add_so done add))
    (subst (λ n. HoldsOfMade first_so twice (accumulated Add n s)) (sym (itself_reads s origin x own may)) twice_holds))
    (λ add. two_holds))
    (λ own. two_holds)

-- THE LINEAR FACT

-- a number behind ADD, whatever a product is
sum_so : (n added value : ℕ) → ((n + added) % 256 + value + 0) % 256 ≡ (n + (added + value) % 256) % 256
sum_so n added value = omega arith

more_so : (factor r added : ℕ) → factor < 256 → ((factor * r + added) % 256 + r + 0) % 256 ≡ ((factor + 1) % 256 * r + added) % 256
more_so factor r added small = elim (cases_lt (factor + 1) 256) [
  | inl below ↦
      let next : (factor + 1) % 256 ≡ factor + 1 = omega (arith, below) in
      let product : (factor + 1) * r ≡ factor * r + r = grind arith in
      let n = factor * r in
      let left : ((n + added) % 256 + r + 0) % 256 ≡ (n + r + added) % 256 = omega arith in
      left ∙ ap (λ k. (k + added) % 256) (sym product) ∙ ap (λ k. (k * r + added) % 256) (sym next)
  | inr above ↦
      let top : factor ≡ 255 = omega (arith, above, small) in
      subst (λ k. ((k * r + added) % 256 + r + 0) % 256 ≡ ((k + 1) % 256 * r + added) % 256) (sym top) (omega arith)
]

abbrev IsFact : Option LinearFact → ChipState → Type 0
IsFact fact t = IsLinear fact × HoldsOfLinear fact t

raised_fact : (fact : LinearFact) (value p : ℕ) (s : ChipState) → value < 256 → IsFact (Some fact) s
    → IsFact (Some (raised_by value fact)) (made_state ((s.a + value + 0) % 256) p s)
raised_fact fact value p s small is =
    ((is.0.0, is.0.1, omega arith), ap (λ n. (n + value + 0) % 256) is.1 ∙ sum_so (fact.factor * slice_index s.ram fact.place) fact.added value)

more_fact : (fact : LinearFact) (x p : ℕ) (s : ChipState) → x ≡ slice_index s.ram fact.place → IsFact (Some fact) s
    → IsFact (Some (once_more fact)) (made_state ((s.a + x + 0) % 256) p s)
more_fact fact x p s reads is = (
  (is.0.0, omega arith, is.0.2),
  ap (λ n. (n + x + 0) % 256) is.1 ∙ ap (λ n. ((fact.factor * slice_index s.ram fact.place + fact.added) % 256 + n + 0) % 256) reads
      ∙ more_so fact.factor (slice_index s.ram fact.place) fact.added is.0.1,
)

with_fact : (fact : LinearFact) (only : Option ℕ) (x p : ℕ) (s : ChipState)
    → ((at : ℕ) → only ≡ Some at → x ≡ slice_index s.ram at) → IsFact (Some fact) s
    → IsFact (with_byte only fact) (made_state ((s.a + x + 0) % 256) p s)
with_fact fact None x p s reads is = (tt, tt)
with_fact fact (Some at) x p s reads is =
    cond_both (at == fact.place) (Some (once_more fact)) None (λ (f : Option LinearFact). IsFact f (made_state ((s.a + x + 0) % 256) p s))
    (λ e. more_fact fact x p s (reads at refl ∙ ap (slice_index s.ram) (eqb-true at fact.place e)) is) (λ e. (tt, tt))

behind_fact : (laws : InstructionLaws) (framed : Bool) (a : Known) (s : ChipState) (first : Option ChipState) (held : Option LinearFact) (origin : Source) (x p : ℕ)
    → IsUnder framed a s first → IsSource origin → MayBe s origin x
    → IsFact held s → IsFact (fact_behind a origin held) (made_state ((s.a + x + 0) % 256) p s)
behind_fact laws framed a s first None origin x p under is may fact = (tt, tt)
behind_fact laws framed a s first (Some fact) (source.Immediate value) x p under is may held =
    subst (λ n. IsFact (Some (raised_by value fact)) (made_state ((s.a + n + 0) % 256) p s)) (sym may) (raised_fact fact value p s is held)
behind_fact laws framed a s first (Some fact) (source.Memory m) x p under is may held =
    with_fact fact (only_address (addresses_of a m)) x p s (λ at e. only_read (addresses_of a m) (address_of s m) s at x e (laws.operands.stands.operand framed a s first under m) may) held

-- its form needs no state
with_is : (only : Option ℕ) (fact : LinearFact) → IsLinear (Some fact) → IsLinear (with_byte only fact)
with_is None fact is = tt
with_is (Some at) fact is = cond_both (at == fact.place) (Some (once_more fact)) None IsLinear (λ e. (is.0, omega arith, is.2)) (λ e. tt)

behind_is : (a : Known) (origin : Source) (held : Option LinearFact) → IsLinear held → IsLinear (fact_behind a origin held)
behind_is a origin None is = tt
behind_is a (source.Immediate value) (Some fact) is = (is.0, is.1, omega arith)
behind_is a (source.Memory m) (Some fact) is = with_is (only_address (addresses_of a m)) fact is

-- GATHERED

gathered_is : (laws : InstructionLaws) (framed : Bool) (a : Known) (fact : Option LinearFact) (made : Made)
    → IsKnown framed a → IsLinear fact → IsMade framed made
    → IsMade framed (gathered_made a fact made)
gathered_is laws framed a None made form linear is = is
gathered_is laws framed a (Some fact) made form linear is = record { a = plain_byte framed (linear_values a fact) (values_normal laws framed a fact linear form); psw = is.psw }

gathered_holds : (laws : InstructionLaws) (framed : Bool) (a : Known) (s : ChipState) (first : Option ChipState) (fact : Option LinearFact) (made : Made) (x p : ℕ)
    → IsUnder framed a s first → IsFact fact (made_state x p s)
    → HoldsOfMade (option_map suspended_of first) made (made_state x p s)
    → HoldsOfMade (option_map suspended_of first) (gathered_made a fact made) (made_state x p s)
gathered_holds laws framed a s first None made x p under fact holds = holds
gathered_holds laws framed a s first (Some fact) made x p under is holds = record {
  a = (subst (Has 256 (linear_values a fact)) (sym is.1) (values_have laws framed a s first fact is.0 under), tt);
  psw = holds.psw;
}

-- BEHIND THE OPERATION

added_is : (laws : InstructionLaws) (framed : Bool) (a : Known) (done : Operation) (origin : Source) → IsKnown framed a
    → IsLinear (added_fact done a origin)
added_is laws framed a Add origin form = behind_is a origin a.linear_fact form.linear_fact
added_is laws framed a Addc origin form = tt
added_is laws framed a Orl origin form = tt
added_is laws framed a Anl origin form = tt
added_is laws framed a Xrl origin form = tt
added_is laws framed a Subb origin form = tt

added_holds : (laws : InstructionLaws) (framed : Bool) (a : Known) (s : ChipState) (first : Option ChipState) (done : Operation) (origin : Source) (x p : ℕ)
    → IsUnder framed a s first → IsSource origin → MayBe s origin x
    → IsFact (added_fact done a origin) (made_state (accumulated done x s).a p s)
added_holds laws framed a s first Add origin x p under is may =
    behind_fact laws framed a s first a.linear_fact origin x p under is may (under.form.linear_fact, under.holds.parts.linear_fact)
added_holds laws framed a s first Addc origin x p under is may = (tt, tt)
added_holds laws framed a s first Orl origin x p under is may = (tt, tt)
added_holds laws framed a s first Anl origin x p under is may = (tt, tt)
added_holds laws framed a s first Xrl origin x p under is may = (tt, tt)
added_holds laws framed a s first Subb origin x p under is may = (tt, tt)

pub accumulate_form : (laws : InstructionLaws) (framed : Bool) (a : Known) (done : Operation) (origin : Source)
    → IsKnown framed a → IsSource origin
    → IsKnown framed (accumulated_known framed done origin a)
unfolding accumulated_known
accumulate_form laws framed a done origin form is =
    let fact = added_fact done a origin in
    let fact_is = added_is laws framed a done origin form in
    made_form framed (gathered_made a fact (made_of framed done origin a)) (sets_carry done) fact a
    (gathered_is laws framed a fact (made_of framed done origin a) form fact_is (made_is laws framed a done origin form is)) fact_is form

-- flags are set by sums and differences alone
pub accumulated_writes : (done : Operation) (x : ℕ) (s : ChipState) → Writes (sets_carry done) s (accumulated done x s)
accumulated_writes Add x s = record { state = refl; psw = λ e. absurd (cc) }
accumulated_writes Addc x s = record { state = refl; psw = λ e. absurd (cc) }
accumulated_writes Orl x s = record { state = refl; psw = λ e. refl }
accumulated_writes Anl x s = record { state = refl; psw = λ e. refl }
accumulated_writes Xrl x s = record { state = refl; psw = λ e. refl }
accumulated_writes Subb x s = record { state = refl; psw = λ e. absurd (cc) }

number_below : (laws : InstructionLaws) (framed : Bool) (a : Known) (s : ChipState) (first : Option ChipState) (origin : Source) (x : ℕ)
    → IsUnder framed a s first → IsSource origin → MayBe s origin x → x < 256
number_below laws framed a s first (source.Immediate value) x under is may = subst (λ n. n < 256) (sym may) is
number_below laws framed a s first (source.Memory m) x under is may =
    let set = operand_so laws framed a s first (source.Memory m) x under is may in
    laws.known.sets.below 256 x (read_byte framed a (addresses_of a m)).set set.normal set.has

pub accumulate_so : (laws : InstructionLaws) (framed : Bool) (a : Known) (s : ChipState) (first : Option ChipState) (done : Operation) (origin : Source) (x : ℕ)
    → IsUnder framed a s first → IsSource origin → MayBe s origin x
    → IsUnder framed (accumulated_known framed done origin a) (accumulated done x s) first
unfolding accumulated_known
accumulate_so laws framed a s first done origin x under is may =
    let t = accumulated done x s in
    let made = made_of framed done origin a in
    let fact = added_fact done a origin in
    let writes = accumulated_writes done x s in
    let fact_so = added_holds laws framed a s first done origin x t.psw under is may in
    let holds = subst (HoldsOfMade (option_map suspended_of first) made) writes.state (made_holds laws framed a s first done origin x under is may) in
    let gathered = gathered_holds laws framed a s first fact made t.a t.psw under fact_so holds in
    made_under framed (gathered_made a fact made) (sets_carry done) fact a s t first writes
    (accumulated_kept s done x under.holds.state (number_below laws framed a s first origin x under is may))
    (gathered_is laws framed a fact made under.form fact_so.0 (made_is laws framed a done origin under.form is))
    (subst (HoldsOfMade (option_map suspended_of first) (gathered_made a fact made)) (sym writes.state) gathered)
    fact_so.0 (subst (HoldsOfLinear fact) (sym writes.state) fact_so.1) under
