-- Relations of results, and of SR as it is written: lemmas, also for the proofs of crates above.
use Rattle.std.proofs.Common.{◌≡◌, ℕ, ◌-◌, ◌/◌, ◌%◌, ◌<◌, ◌≤◌, ◌==◌, Bool, true, false, Option, None, Some, List, refl, sym, ap, ◌∙◌, subst, arith}
use Rattle.std.specs.Prelude.{bit_and, bit_or}
use Rattle.std.specs.Int.Bits.{or_zero_r}
use Rattle.std.specs.Option.{option_map}
use Rattle.std.proofs.Math.Nat.{mod-eq_of_lt}
use Rattle.std.proofs.lemmas.Bool.{cond_both, eqb-true}
use Rattle.std.proofs.lemmas.Nat.{and_le_l, and_le_r, and_mask, and_mod, le_or_r, or_lt, or_mod, or_shr}
use Rattle.std.proofs.lemmas.Nat.Bits.{and_high_mask}
use Rattle.std.proofs.lemmas.Option.{same_Some}
use Rattle.entry_value.specs.declared.word.Entry.{Entry}
use Rattle.entry_value.specs.Words.{IsFromEntry, Reads, Suspended}
use Rattle.irq_frames.specs.KnownLaws.{KnownLaws}
use Rattle.msp430_decode.specs.declared.instr.Constant.{Constant}
use Rattle.msp430_decode.specs.declared.instr.Constant.TheVariants.{Zero}
use Rattle.msp430_decode.specs.declared.instr.Operation.{Operation}
use Rattle.msp430_decode.specs.declared.instr.Operation.TheVariants as operation
use Rattle.msp430_decode.specs.declared.instr.Source.{Source}
use Rattle.msp430_decode.specs.declared.instr.Source.TheVariants as source
use Rattle.msp430_decode.specs.declared.instr.Width.TheVariants.{Word as Words}
use Rattle.msp430_decode.specs.Operands.{IsSource, constant_value}
use Rattle.msp430_chip.specs.declared.device.Device.{Device}
use Rattle.msp430_chip.specs.declared.state.ChipState.{ChipState}
use Rattle.msp430_chip.specs.Arithmetic.{Made, complement, logic}
use Rattle.msp430_chip.specs.Leading.{MayMake, MayStandAt}
use Rattle.msp430_chip.specs.Operands.{source_place, with_free_bits}
use Rattle.msp430_state.specs.FormFacts.{and_form, no_relation, or_form}
use Rattle.msp430_state.specs.Forms.{IsRelation, IsStatusRelation, is_place}
use Rattle.msp430_state.specs.Holding.{suspended_of}
use Rattle.msp430_alu.specs.Formats.{constant_of, masked_and, masked_clear, masked_or, relation_of}
use Rattle.msp430_alu.specs.Registers.{status_relation}

-- CONSTANTS

pub constant_small : (constant : Constant) → constant_value constant < 65536
constant_small Zero = omega arith
constant_small other = omega arith

constant_plain : (constant : Constant) → constant_value constant % 65536 ≡ constant_value constant
constant_plain Zero = refl
constant_plain other = refl

pub constant_below : (origin : Source) (m : ℕ) → IsSource origin → constant_of origin ≡ Some m → m < 65536
constant_below (source.Immediate value) m is e = subst (λ n. n < 65536) (same_Some value m e) is
constant_below (source.Constant constant) m is e = subst (λ n. n < 65536) (same_Some (constant_value constant) m e) (constant_small constant)
constant_below other m is e = absurd (cc)

-- a source that is a constant has its value
pub constant_value_is : (device : Device) (ram registers : List ℕ) (pc : ℕ) (origin : Source) (x bits m : ℕ)
    → IsSource origin → constant_of origin ≡ Some m
    → MayStandAt device ram registers Words (source_place pc registers origin) x
    → with_free_bits Words (source_place pc registers origin) bits x ≡ m
constant_value_is device ram registers pc (source.Immediate value) x bits m is e stands =
    stands ∙ mod-eq_of_lt {n = value} {m = 65536} is ∙ same_Some value m e
constant_value_is device ram registers pc (source.Constant constant) x bits m is e stands =
    stands ∙ constant_plain constant ∙ same_Some (constant_value constant) m e
constant_value_is device ram registers pc other x bits m is e stands = absurd (cc)

-- RELATIONS OF RESULTS

and_related : (laws : KnownLaws) (first : Option Suspended) (constant : Option ℕ) (entry : Option Entry) (s d : ℕ)
    → ((m : ℕ) → constant ≡ Some m → s ≡ m)
    → IsFromEntry first entry d
    → IsFromEntry first (masked_and constant entry) (bit_and d s)
and_related laws first None entry s d is holds = tt
and_related laws first (Some m) entry s d is holds =
    subst (λ n. IsFromEntry first (masked_and (Some m) entry) (bit_and d n)) (sym (is m refl)) (laws.values.entries.and first entry d m holds)

pub clear_related : (laws : KnownLaws) (first : Option Suspended) (constant : Option ℕ) (entry : Option Entry) (s d : ℕ)
    → ((m : ℕ) → constant ≡ Some m → s ≡ m)
    → IsFromEntry first entry d
    → IsFromEntry first (masked_clear constant entry) (bit_and d (65535 - s))
clear_related laws first None entry s d is holds = tt
clear_related laws first (Some m) entry s d is holds =
    subst (λ n. IsFromEntry first (masked_clear (Some m) entry) (bit_and d (65535 - n))) (sym (is m refl)) (laws.values.entries.and first entry d (65535 - m) holds)

pub or_related : (laws : KnownLaws) (first : Option Suspended) (constant : Option ℕ) (entry : Option Entry) (s d : ℕ)
    → ((m : ℕ) → constant ≡ Some m → s ≡ m)
    → IsFromEntry first entry d
    → IsFromEntry first (masked_or constant entry) (bit_or d s)
or_related laws first None entry s d is holds = tt
or_related laws first (Some m) entry s d is holds =
    subst (λ n. IsFromEntry first (masked_or (Some m) entry) (bit_or d n)) (sym (is m refl)) (laws.values.entries.or first entry d m holds)

result_of_made : (one other : Made) → one ≡ other → one.0 ≡ other.0
result_of_made one other e = ap (λ (made_so : Made). made_so.0) e

pub related : (laws : KnownLaws) (first : Option Suspended) (done : Operation) (constant : Option ℕ) (one other : Option Entry) (s d carry : ℕ) (made_so : Made)
    → MayMake done Words s d carry made_so
    → ((m : ℕ) → constant ≡ Some m → s ≡ m) → IsFromEntry first one s → IsFromEntry first other d
    → IsFromEntry first (relation_of done constant one other) made_so.0
related laws first operation.Mov constant one other s d carry made_so may is h k =
    subst (IsFromEntry first one) (result_of_made (s, None) made_so (same_Some (s, None) made_so may)) h
related laws first operation.And constant one other s d carry made_so may is h k =
    subst (IsFromEntry first (masked_and constant other)) (result_of_made (logic Words (bit_and d s)) made_so (same_Some (logic Words (bit_and d s)) made_so may))
    (and_related laws first constant other s d is k)
related laws first operation.Bic constant one other s d carry made_so may is h k =
    subst (IsFromEntry first (masked_clear constant other))
    (result_of_made (bit_and d (complement Words s), None) made_so (same_Some (bit_and d (complement Words s), None) made_so may))
    (clear_related laws first constant other s d is k)
related laws first operation.Bis constant one other s d carry made_so may is h k =
    subst (IsFromEntry first (masked_or constant other)) (result_of_made (bit_or d s, None) made_so (same_Some (bit_or d s, None) made_so may))
    (or_related laws first constant other s d is k)
related laws first other constant one two s d carry made_so may is h k = tt

masked_and_form : (framed : Bool) (constant : Option ℕ) (entry : Option Entry) → IsRelation framed entry
    → IsRelation framed (masked_and constant entry)
masked_and_form framed None entry form = no_relation framed
masked_and_form framed (Some m) entry form = and_form framed m entry form

masked_clear_form : (framed : Bool) (constant : Option ℕ) (entry : Option Entry) → IsRelation framed entry
    → IsRelation framed (masked_clear constant entry)
masked_clear_form framed None entry form = no_relation framed
masked_clear_form framed (Some m) entry form = and_form framed (65535 - m) entry form

masked_or_form : (framed : Bool) (constant : Option ℕ) (entry : Option Entry)
    → ((m : ℕ) → constant ≡ Some m → m < 65536) → IsRelation framed entry
    → IsRelation framed (masked_or constant entry)
masked_or_form framed None entry small form = no_relation framed
masked_or_form framed (Some m) entry small form = or_form framed m entry (small m refl) form

pub relation_form : (framed : Bool) (done : Operation) (constant : Option ℕ) (one other : Option Entry)
    → ((m : ℕ) → constant ≡ Some m → m < 65536) → IsRelation framed one
    → IsRelation framed other
    → IsRelation framed (relation_of done constant one other)
relation_form framed operation.Mov constant one other small h k = h
relation_form framed operation.And constant one other small h k = masked_and_form framed constant other k
relation_form framed operation.Bic constant one other small h k = masked_clear_form framed constant other k
relation_form framed operation.Bis constant one other small h k = masked_or_form framed constant other small k
relation_form framed other constant one two small h k = no_relation framed

-- SR

-- the relation of SR is one of a word
pub own_relation : (framed : Bool) (entry : Option Entry) → IsStatusRelation framed entry → IsRelation framed entry
own_relation framed None form = tt
own_relation false (Some entry) form = form
own_relation true (Some entry) (place, and_small, high, or_small) = (ap is_place place, and_small, omega (arith, or_small))

-- a mask of nine bits leaves none above
low_mask : (w m : ℕ) → w < 512 → bit_and w m ≡ bit_and w (m % 512)
low_mask w m small =
    let under : bit_and w m ≤ w = and_le_l w m in
    let whole : bit_and w m ≡ bit_and w m % 512 = omega (arith, under, small) in
    let same : w % 512 ≡ w = omega (arith, small) in
    whole ∙ and_mod w m 9 ∙ ap (λ n. bit_and n (m % 512)) same

-- what SR doesn't hold can be in the AND mask, and needn't be in the OR mask
masked_low : (word and or : ℕ) → bit_or (bit_and word and) or % 512 ≡ bit_or (bit_and (word % 512) (bit_or and 65024)) (bit_and or 511)
masked_low word and or =
    let mask : bit_or and 65024 % 512 ≡ and % 512 = or_mod and 65024 9 ∙ or_zero_r (and % 512) in
    let inner : bit_and (word % 512) (bit_or and 65024) ≡ bit_and word and % 512 =
    low_mask (word % 512) (bit_or and 65024) (omega arith) ∙ ap (bit_and (word % 512)) mask ∙ sym (and_mod word and 9) in
    or_mod (bit_and word and) or 9 ∙ ap (λ n. bit_or n (or % 512)) (sym inner) ∙ ap (bit_or (bit_and (word % 512) (bit_or and 65024))) (sym (and_mask or 9))

low_reads : (f : ChipState) (word : ℕ) → Reads (suspended_of f) 2 word → Reads (suspended_of f) 2 (word % 512)
low_reads f word (small, agrees) =
    let same : bit_and (word % 512) 511 ≡ bit_and word 511 = and_mask (word % 512) 9 ∙ omega arith ∙ sym (and_mask word 9) in
    (omega arith, same ∙ agrees)

low_from : (f : ChipState) (entry : Option Entry) (v : ℕ) → IsFromEntry (Some (suspended_of f)) entry v
    → IsFromEntry (Some (suspended_of f)) (status_relation entry) (v % 512)
low_from f None v holds = tt
low_from f (Some entry) v (word, reads, is) =
    cond_both (entry.place == 2) (Some (record { place = 2; and = bit_or entry.and 65024; or = bit_and entry.or 511 })) None
    (λ left. IsFromEntry (Some (suspended_of f)) left (v % 512))
    (λ e. let at : entry.place ≡ 2 = eqb-true entry.place 2 e in
    (word % 512, low_reads f word (subst (λ place. Reads (suspended_of f) place word) at reads), ap (λ n. n % 512) is ∙ masked_low word entry.and entry.or))
    (λ e. tt)

-- SR holds the lowest nine bits of what is written, and its relation is told of these
pub status_related : (first : Option ChipState) (entry : Option Entry) (v : ℕ) → IsFromEntry (option_map suspended_of first) entry v
    → IsFromEntry (option_map suspended_of first) (status_relation entry) (v % 512)
status_related (Some f) entry v holds = low_from f entry v holds
status_related None None v holds = tt
status_related None (Some entry) v holds = absurd holds

-- all bits above the ninth are in the mask
upper_mask : (m : ℕ) → m < 65536 → bit_and (bit_or m 65024) 65024 ≡ 65024
upper_mask m small =
    let wide : bit_or m 65024 < 65536 = or_lt 16 m 65024 small (omega arith) in
    let high : bit_or m 65024 / 512 ≡ bit_or (m / 512) 127 = or_shr m 65024 9 in
    let few : bit_or (m / 512) 127 < 128 = or_lt 7 (m / 512) 127 (omega (arith, small)) (omega arith) in
    let all : 127 ≤ bit_or (m / 512) 127 = le_or_r (m / 512) 127 in
    and_high_mask 16 9 (omega arith) (bit_or m 65024) wide ∙ omega (arith, high, few, all)

pub status_relation_form : (framed : Bool) (entry : Option Entry) → IsRelation framed entry → IsStatusRelation framed (status_relation entry)
status_relation_form framed None form = tt
status_relation_form false (Some entry) form = absurd form
status_relation_form true (Some entry) form =
    cond_both (entry.place == 2) (Some (record { place = 2; and = bit_or entry.and 65024; or = bit_and entry.or 511 })) None (IsStatusRelation true)
    (λ e. let under : bit_and entry.or 511 ≤ 511 = and_le_r entry.or 511 in
    (refl, or_lt 16 entry.and 65024 form.1 (omega arith), upper_mask entry.and form.1, omega (arith, under)))
    (λ e. tt)
