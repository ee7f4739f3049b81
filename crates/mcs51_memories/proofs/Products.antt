-- DPTR, and the accumulator with B.
use Rattle.std.proofs.Common.{◌≡◌, ℕ, ◌+◌, ◌*◌, ◌/◌, ◌%◌, ◌<◌, ◌==◌, Bool, true, false, Option, None, List, [], refl, sym, subst, arith}
use Rattle.std.specs.Option.{option_map}
use Rattle.choosing.specs.Gives.{Gives, weaken}
use Rattle.value_set.specs.Summing.{single}
use Rattle.mcs51_decode.specs.declared.instr.Instr.TheVariants.{Divide, IncrementDataPointer, LoadDataPointer, Multiply}
use Rattle.mcs51_chip.specs.declared.state.ChipState.{ChipState}
use Rattle.mcs51_chip.specs.Arithmetic.{divided, divided_by_zero, multiplied}
use Rattle.mcs51_chip.specs.Leading.{MayDivide}
use Rattle.mcs51_chip.specs.Registers.{data_pointer, with_data_pointer}
use Rattle.mcs51_chip.specs.State.{IsChipState}
use Rattle.mcs51_chip.specs.StateFacts.{divided_kept, multiplied_kept, zero_kept}
use Rattle.mcs51_chip.specs.Step.{Effect, dividing, effect_of}
use Rattle.mcs51_state.specs.FormFacts.{byte_form}
use Rattle.mcs51_state.specs.Forms.{IsCarry, IsKnown}
use Rattle.mcs51_state.specs.Holding.{HoldsOfCarry}
use Rattle.mcs51_state.specs.Known.{Known, byte_of}
use Rattle.mcs51_state.specs.Places.{suspended_of}
use Rattle.mcs51_state.specs.Under.{IsUnder}
use Rattle.mcs51_results.specs.declared.made.MadePair.{MadePair}
use Rattle.mcs51_results.specs.Holding.{HoldsOfPair, IsPair, StandsPair}
use Rattle.mcs51_results.specs.HoldingFacts.{status_of_known}
use Rattle.mcs51_results.specs.Results.{divided_made, multiplied_made, pointer_increased}
use Rattle.mcs51_state.specs.ValueFacts.{plain_value}
use Rattle.mcs51_state.specs.Doing.{DoesSo}
use Rattle.mcs51_state.specs.ShowingFacts.{none_shown}
use Rattle.mcs51_memories.specs.Pairs.{divided_known, multiplied_known, pointer_loaded, pointer_raised, with_pair}
use Rattle.mcs51_results.specs.InstructionLaws.{InstructionLaws}

-- DPTR

pub load_form : (laws : InstructionLaws) (framed : Bool) (a : Known) (value : ℕ) → IsKnown framed a → value < 65536
    → IsKnown framed (pointer_loaded value a)
unfolding pointer_loaded
load_form laws framed a value form small =
    let low = laws.known.sets.single 256 (value % 256) (omega arith) in
    let high = laws.known.sets.single 256 (value / 256) (omega (arith, small)) in
    laws.stores.forms.data_pointer framed (byte_of (single (value % 256))) (byte_of (single (value / 256))) (byte_form framed (single (value % 256)) low.0) (byte_form framed (single (value / 256)) high.0) a form

load_under : (laws : InstructionLaws) (framed : Bool) (a : Known) (s : ChipState) (first : Option ChipState) (value : ℕ)
    → IsUnder framed a s first → value < 65536
    → IsUnder framed (pointer_loaded value a) (with_data_pointer value s) first
unfolding pointer_loaded
load_under laws framed a s first value under small =
    let low = laws.known.sets.single 256 (value % 256) (omega arith) in
    let high = laws.known.sets.single 256 (value / 256) (omega (arith, small)) in
    laws.stores.writes.data_pointer framed first (byte_of (single (value % 256))) (byte_of (single (value / 256))) value
    (plain_value framed first (single (value % 256)) (value % 256) low.0 low.1) (plain_value framed first (single (value / 256)) (value / 256) high.0 high.1) a s under

pub load_does : (laws : InstructionLaws) (framed : Bool) (a : Known) (s : ChipState) (first : Option ChipState) (image : List (Option ℕ)) (pc value : ℕ)
    → IsUnder framed a s first → value < 65536
    → Gives (DoesSo framed first [] pc (pointer_loaded value a) s) (effect_of image s (LoadDataPointer value))
unfolding effect_of
load_does laws framed a s first image pc value under small =
    laws.operands.formats.implied framed first pc (pointer_loaded value a) s (with_data_pointer value s) (record { onward = refl; under = load_under laws framed a s first value under small })

pub raise_form : (laws : InstructionLaws) (framed : Bool) (a : Known) → IsKnown framed a → IsKnown framed (pointer_raised a)
unfolding pointer_raised
raise_form laws framed a form =
    let is = laws.results.changes.pointer_form framed a.dpl a.dph form.dpl form.dph in
    laws.stores.forms.data_pointer framed (pointer_increased a.dpl a.dph).0 (pointer_increased a.dpl a.dph).1 is.0 is.1 a form

raise_under : (laws : InstructionLaws) (framed : Bool) (a : Known) (s : ChipState) (first : Option ChipState) → IsUnder framed a s first
    → IsUnder framed (pointer_raised a) (with_data_pointer ((data_pointer s + 1) % 65536) s) first
unfolding pointer_raised
raise_under laws framed a s first under =
    let form = under.form in
    let parts = under.holds.parts in
    let is = laws.results.changes.pointer_form framed a.dpl a.dph form.dpl form.dph in
    let holds = laws.results.changes.pointer framed (option_map suspended_of first) a.dpl a.dph s form.dpl form.dph parts.dpl parts.dph in
    laws.stores.writes.data_pointer framed first (pointer_increased a.dpl a.dph).0 (pointer_increased a.dpl a.dph).1 ((data_pointer s + 1) % 65536)
    (record { form = is.0; holds = holds.0 }) (record { form = is.1; holds = holds.1 }) a s under

pub raise_does : (laws : InstructionLaws) (framed : Bool) (a : Known) (s : ChipState) (first : Option ChipState) (image : List (Option ℕ)) (pc : ℕ)
    → IsUnder framed a s first
    → Gives (DoesSo framed first [] pc (pointer_raised a) s) (effect_of image s IncrementDataPointer)
unfolding effect_of
raise_does laws framed a s first image pc under =
    laws.operands.formats.implied framed first pc (pointer_raised a) s (with_data_pointer ((data_pointer s + 1) % 65536) s) (record { onward = refl; under = raise_under laws framed a s first under })

-- THE ACCUMULATOR AND B

-- in front of the instruction
abbrev pair_before : Known → MadePair
pair_before a = record { a = a.a; b = a.b; psw = a.psw }

before_form : (framed : Bool) (a : Known) → IsKnown framed a → IsPair framed (pair_before a)
before_form framed a form = record { a = form.a; b = form.b; psw = status_of_known framed a form }

before_stands : (framed : Bool) (a : Known) (s : ChipState) (first : Option ChipState) → IsUnder framed a s first
    → StandsPair framed (option_map suspended_of first) (pair_before a) s
before_stands framed a s first under =
    let parts = under.holds.parts in
    record { state = under.holds.state; form = before_form framed a under.form; holds = record { a = parts.a; b = parts.b; psw = parts.psw } }

-- behind it
pair_form : (framed : Bool) (made : MadePair) (a : Known) → IsPair framed made → IsKnown framed a → IsKnown framed (with_pair made a)
pair_form framed made a is form = let none : IsCarry None = tt in assumption (form, is, none)

abbrev pair_state : (x y p : ℕ) → ChipState → ChipState
pair_state x y p s = record s { a = x; b = y; psw = p }

pair_under : (framed : Bool) (made : MadePair) (a : Known) (s : ChipState) (first : Option ChipState) (x y p : ℕ)
    → IsChipState (pair_state x y p s)
    → IsPair framed made → HoldsOfPair (option_map suspended_of first) made (pair_state x y p s)
    → IsUnder framed a s first → IsUnder framed (with_pair made a) (pair_state x y p s) first
pair_under framed made a s first x y p state is holds under =
    let form = pair_form framed made a is under.form in
    let none : HoldsOfCarry None (pair_state x y p s) = tt in
    assumption (under, state, form, holds, none)

-- MUL

pub multiply_form : (laws : InstructionLaws) (framed : Bool) (a : Known) → IsKnown framed a → IsKnown framed (multiplied_known a)
unfolding multiplied_known
multiply_form laws framed a form = pair_form framed (multiplied_made a.a a.b a.psw) a (laws.results.products.multiplied_form framed (pair_before a) (before_form framed a form)) form

multiply_under : (laws : InstructionLaws) (framed : Bool) (a : Known) (s : ChipState) (first : Option ChipState) → IsUnder framed a s first
    → IsUnder framed (multiplied_known a) (multiplied s) first
unfolding multiplied_known
multiply_under laws framed a s first under =
    let made = multiplied_made a.a a.b a.psw in
    let is = laws.results.products.multiplied_form framed (pair_before a) (before_form framed a under.form) in
    let holds = laws.results.products.multiplied framed (option_map suspended_of first) (pair_before a) s (before_stands framed a s first under) in
    pair_under framed made a s first (s.a * s.b % 256) (s.a * s.b / 256) (multiplied s).psw (multiplied_kept s under.holds.state) is holds under

pub multiply_does : (laws : InstructionLaws) (framed : Bool) (a : Known) (s : ChipState) (first : Option ChipState) (image : List (Option ℕ)) (pc : ℕ)
    → IsUnder framed a s first
    → Gives (DoesSo framed first [] pc (multiplied_known a) s) (effect_of image s Multiply)
unfolding effect_of
multiply_does laws framed a s first image pc under =
    laws.operands.formats.implied framed first pc (multiplied_known a) s (multiplied s) (record { onward = refl; under = multiply_under laws framed a s first under })

-- DIV

pub divide_form : (laws : InstructionLaws) (framed : Bool) (a : Known) → IsKnown framed a → IsKnown framed (divided_known a)
unfolding divided_known
divide_form laws framed a form = pair_form framed (divided_made a.a a.b a.psw) a (laws.results.products.divided_form framed (pair_before a) (before_form framed a form)) form

divide_so : (laws : InstructionLaws) (framed : Bool) (a : Known) (s : ChipState) (first : Option ChipState) (pc : ℕ) (none : Bool) (effect : Effect)
    → (s.b == 0) ≡ none → IsUnder framed a s first → MayDivide none s effect
    → HoldsOfPair (option_map suspended_of first) (divided_made a.a a.b a.psw) effect.1
    → DoesSo framed first [] pc (with_pair (divided_made a.a a.b a.psw) a) s effect
divide_so laws framed a s first pc true effect zero under (x, y, x_small, y_small, same) holds =
    let made = divided_made a.a a.b a.psw in
    let is = laws.results.products.divided_form framed (pair_before a) (before_form framed a under.form) in
    let behind = pair_under framed made a s first x y (divided_by_zero x y s).psw (zero_kept s x y under.holds.state x_small y_small) is
    (subst (λ (e : Effect). HoldsOfPair (option_map suspended_of first) made e.1) same holds) under in
    subst (DoesSo framed first [] pc (with_pair made a) s) (sym same) (record { shown = none_shown [] pc; leads = record { onward = refl; under = behind } })
divide_so laws framed a s first pc false effect some under same holds =
    let made = divided_made a.a a.b a.psw in
    let is = laws.results.products.divided_form framed (pair_before a) (before_form framed a under.form) in
    let behind = pair_under framed made a s first (s.a / s.b) (s.a % s.b) (divided s).psw (divided_kept s under.holds.state some) is
    (subst (λ (e : Effect). HoldsOfPair (option_map suspended_of first) made e.1) same holds) under in
    subst (DoesSo framed first [] pc (with_pair made a) s) (sym same) (record { shown = none_shown [] pc; leads = record { onward = refl; under = behind } })

pub divide_does : (laws : InstructionLaws) (framed : Bool) (a : Known) (s : ChipState) (first : Option ChipState) (image : List (Option ℕ)) (pc : ℕ)
    → IsUnder framed a s first
    → Gives (DoesSo framed first [] pc (divided_known a) s) (effect_of image s Divide)
unfolding divided_known effect_of
divide_does laws framed a s first image pc under =
    weaken (MayDivide (s.b == 0) s) (DoesSo framed first [] pc (with_pair (divided_made a.a a.b a.psw) a) s) (dividing s)
    (λ effect may. divide_so laws framed a s first pc (s.b == 0) effect refl under may
    (laws.results.products.divided framed (option_map suspended_of first) (pair_before a) s effect (before_stands framed a s first under) may))
    (laws.chip.dividing s)
