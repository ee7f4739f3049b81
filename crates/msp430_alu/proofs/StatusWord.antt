-- SR as a word: its bits 9 to 15 may be any, and its relation holds whatever they are.
use Rattle.std.proofs.Common.{◌≡◌, ℕ, ◌+◌, ◌*◌, ◌/◌, ◌%◌, ◌^◌, ◌<◌, Bool, true, false, Option, None, Some, ◌++◌, length, replicate, refl, sym, ap, ◌∙◌, subst, arith}
use Rattle.std.specs.Prelude.{bit_and, bit_or}
use Rattle.std.specs.Int.Bits.{or_zero_r}
use Rattle.std.proofs.Math.Path.{ap₂}
use Rattle.std.proofs.lemmas.List.{length-append, length-replicate}
use Rattle.std.proofs.lemmas.Nat.{and_mask, and_mod, and_shr, or_mod, or_shr}
use Rattle.std.proofs.lemmas.Nat.Bits.{and_high_mask}
use Rattle.entry_value.specs.declared.word.Entry.{Entry}
use Rattle.entry_value.specs.Words.{Suspended, IsFromEntry, HoldsOfWord}
use Rattle.value_set.specs.Form.{IsNormal}
use Rattle.value_bits.specs.declared.tri.Tri.TheVariants.{Either}
use Rattle.value_bits.specs.BitFacts.{bits_any, bits_append}
use Rattle.value_bits.specs.Bits.{Agrees}
use Rattle.msp430_chip.specs.declared.state.ChipState.{ChipState}
use Rattle.msp430_state.specs.declared.status.Status.{Status}
use Rattle.msp430_state.specs.Forms.{IsStatusRelation}
use Rattle.msp430_state.specs.Holding.{suspended_of, HoldsOfStatus}
use Rattle.std.specs.Option.{option_map}
use Rattle.msp430_results.specs.InstructionLaws.{InstructionLaws}
use Rattle.msp430_alu.specs.Registers.{status_set}

-- the relation of SR with other bits 9 to 15
relation_wider : (framed : Bool) (f : Suspended) (entry : Option Entry) (sr x : ℕ) → f.held 2 ≡ 511
    → IsStatusRelation framed entry → sr < 512 → x < 128
    → IsFromEntry (Some f) entry sr
    → IsFromEntry (Some f) entry (sr + 512 * x)
relation_wider framed f None sr x held form small few holds = tt
relation_wider false f (Some entry) sr x held form small few holds = absurd form
relation_wider true f (Some entry) sr x held (place, and_small, high_and, or_small) small few (word, (word_small, reads), is) =
    let wider = word % 512 + 512 * x in
    let wide = bit_or (bit_and wider entry.and) entry.or in
    let mask : f.held entry.place ≡ 511 = ap f.held place ∙ held in
    let same_low : wider % 512 ≡ word % 512 = omega arith in
    let same_reads : bit_and wider (f.held entry.place) ≡ bit_and word (f.held entry.place) =
    ap (bit_and wider) mask ∙ and_mask wider 9 ∙ same_low ∙ sym (and_mask word 9) ∙ ap (bit_and word) (sym mask) in
    let low : wide % 512 ≡ sr % 512 =
    or_mod (bit_and wider entry.and) entry.or 9
    ∙ ap (λ n. bit_or n (entry.or % 512)) (and_mod wider entry.and 9 ∙ ap (λ n. bit_and n (entry.and % 512)) same_low ∙ sym (and_mod word entry.and 9))
    ∙ sym (or_mod (bit_and word entry.and) entry.or 9) ∙ ap (λ n. n % 512) (sym is) in
    let masked : bit_and entry.and 65024 ≡ entry.and / 512 * 512 = and_high_mask 16 9 (omega arith) entry.and and_small in
    let upper : entry.and / 512 ≡ 127 = omega (arith, masked, high_and) in
    let shifted : wider / 512 ≡ x = omega arith in
    let none : entry.or / 512 ≡ 0 = omega (arith, or_small) in
    let kept : bit_and x 127 ≡ x = and_mask x 7 ∙ omega (arith, few) in
    let high : wide / 512 ≡ x =
    or_shr (bit_and wider entry.and) entry.or 9
    ∙ ap₂ (λ a b. bit_or a b) (and_shr wider entry.and 9 ∙ ap₂ (λ a b. bit_and a b) shifted upper ∙ kept) none
    ∙ or_zero_r x in
    let whole : sr + 512 * x ≡ wide = omega (arith, low, high, small) in
    (wider, (omega (arith, few), same_reads ∙ reads), whole)

relation_under : (framed : Bool) (first : Option ChipState) (entry : Option Entry) (sr x : ℕ)
    → IsStatusRelation framed entry → sr < 512 → x < 128
    → IsFromEntry (option_map suspended_of first) entry sr → IsFromEntry (option_map suspended_of first) entry (sr + 512 * x)
relation_under framed (Some f) entry sr x form small few holds = relation_wider framed (suspended_of f) entry sr x refl form small few holds
relation_under framed None None sr x form small few holds = tt
relation_under framed None (Some entry) sr x form small few holds = absurd holds

pub status_set_is : (laws : InstructionLaws) (framed : Bool) (first : Option ChipState) (status : Status) (sr x : ℕ)
    → length status.bits ≡ 9 → IsStatusRelation framed status.entry
    → sr < 512 → x < 128
    → HoldsOfStatus (option_map suspended_of first) status sr
    → IsNormal 65536 (status_set status) × HoldsOfWord (option_map suspended_of first) (record { set = status_set status; entry = status.entry }) (sr + 512 * x)
status_set_is laws framed first status sr x long form small few holds =
    let bits = status.bits ++ replicate 7 Either in
    let count : length bits ≡ 16 = length-append status.bits (replicate 7 Either) ∙ omega (arith, long, length-replicate 7 Either) in
    let power : 2 ^ length status.bits ≡ 512 = ap (λ n. 2 ^ n) long in
    let number : sr + 2 ^ length status.bits * x ≡ sr + 512 * x = ap (λ n. sr + n * x) power in
    let agrees : Agrees bits (sr + 512 * x) = subst (Agrees bits) number (bits_append status.bits (replicate 7 Either) sr x holds.bits (bits_any 7 x few)) in (
      laws.known.bits.from_normal 16 bits count,
      (laws.known.bits.from 16 (sr + 512 * x) bits count agrees, relation_under framed first status.entry sr x form small few holds.entry),
    )
