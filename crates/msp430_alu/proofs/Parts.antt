-- What is known of the registers behind a write holds of them.
use Rattle.std.proofs.Common.{◌≡◌, ℕ, zero, suc, ◌+◌, ◌-◌, ◌*◌, ◌/◌, ◌%◌, ◌^◌, ◌<◌, ◌==◌, Option, None, Some, List, [], ◌∷◌, length, get_or, set, refl, sym, ap, ◌∙◌, subst, inl, inr, arith, get_or-set_same, get_or-set_other}
use Rattle.std.proofs.Math.Nat.{pow-suc}
use Rattle.std.proofs.lemmas.List.{length-set, set-get_or}
use Rattle.std.specs.Option.{option_map}
use Rattle.std.proofs.lemmas.Bool.{cond_both, cases_eq, eqb-false}
use Rattle.entry_value.specs.declared.word.Word.{Word}
use Rattle.entry_value.specs.Cells.{unknown}
use Rattle.entry_value.specs.Words.{HoldsOfWord}
use Rattle.value_set.specs.declared.form.Form.{Form}
use Rattle.value_set.specs.Form.{Has}
use Rattle.value_bits.specs.declared.tri.Tri.{Tri}
use Rattle.value_bits.specs.BitFacts.{bit_below, flag_bit}
use Rattle.value_bits.specs.Bits.{IsBit, Agrees}
use Rattle.msp430_decode.specs.declared.instr.Width.TheVariants.{Byte}
use Rattle.msp430_chip.specs.declared.device.Device.{Device}
use Rattle.msp430_chip.specs.declared.place.Flags.{Flags}
use Rattle.msp430_chip.specs.declared.state.ChipState.{ChipState}
use Rattle.msp430_chip.specs.Arithmetic.{modulus, bit_from, with_flags, with_made_flags}
use Rattle.msp430_chip.specs.State.{even}
use Rattle.msp430_state.specs.declared.fact.FlagFact.{FlagFact}
use Rattle.msp430_state.specs.Forms.{IsFact}
use Rattle.msp430_state.specs.Holding.{suspended_of, HasFlagsOf, HoldsOfStatus, HoldsOfFact, HoldsOfParts}
use Rattle.msp430_state.specs.Known.{Known, word_of}
use Rattle.msp430_results.specs.declared.flag_bits.FlagBits.{FlagBits}
use Rattle.msp430_results.specs.FlagSets.{AreFlags, HoldsOfFlags}
use Rattle.msp430_alu.specs.StateFacts.{status_written}
use Rattle.msp430_alu.specs.Registers.{even_parts, fact_without, with_word, with_sp, put_flags, with_flag_bits}

-- REGISTERS THAT ARE ALIKE

abbrev SaysOf : FlagFact → (value sr : ℕ) → Type 0
SaysOf fact value sr = HasFlagsOf fact.width ((value + fact.added) % modulus fact.width) fact.compared sr × (fact.width ≡ Byte → value < 256)

-- a fact speaks of SR and of one of R4 to R15
fact_alike : (fact : Option FlagFact) (one other : List ℕ) → IsFact fact
    → ((r : ℕ) → 1 < r → get_or one r 0 ≡ get_or other r 0) → HoldsOfFact fact one → HoldsOfFact fact other
fact_alike None one other form same holds = tt
fact_alike (Some fact) one other form same holds =
    let value = same fact.register (omega (arith, form.0)) in
    let status = same 2 (omega arith) in
    subst (SaysOf fact (get_or other fact.register 0)) status (subst (λ v. SaysOf fact v (get_or one 2 0)) value holds)

-- what is known of registers holds of others that are alike, but for PC, and for SP which is known apart
parts_alike : {device : Device} {a : Known} {first : Option ChipState} {one : List ℕ} (other : List ℕ) {ram : List ℕ} (sp : Form)
    → IsFact a.fact
    → ((r : ℕ) → 1 < r → get_or one r 0 ≡ get_or other r 0)
    → Has 65536 sp (get_or other 1 0) → HoldsOfParts device a first one ram → HoldsOfParts device (record a { sp = sp }) first other ram
parts_alike {a} {first} {one} other sp form same has holds = record {
  sp = has;
  status = subst (HoldsOfStatus (option_map suspended_of first) a.status) (same 2 (omega arith)) holds.status;
  words = λ register low high. subst (HoldsOfWord (option_map suspended_of first) (word_of a register)) (same register (omega (arith, low))) (holds.words register low high);
  fact = fact_alike a.fact one other form same holds.fact;
  cells = holds.cells;
  untouched = holds.untouched;
}

pub parts_counted : {device : Device} {a : Known} {first : Option ChipState} {registers ram : List ℕ} (pc : ℕ) → IsFact a.fact
    → HoldsOfParts device a first registers ram → HoldsOfParts device a first (set registers 0 pc) ram
parts_counted {a} {registers} pc form holds =
    parts_alike (set registers 0 pc) a.sp form (λ r some. sym (get_or-set_other registers 0 r pc 0 (λ e. omega (arith, e, some))))
    (subst (Has 65536 a.sp) (sym (get_or-set_other registers 0 1 pc 0 (λ e. omega (arith, e)))) holds.sp) holds

-- ONE OF R4 TO R15

fact_kept : (register value : ℕ) (fact : Option FlagFact) (registers : List ℕ) → 3 < register → HoldsOfFact fact registers
    → HoldsOfFact (fact_without register fact) (set registers register value)
fact_kept register value None registers low holds = tt
fact_kept register value (Some fact) registers low holds =
    cond_both (fact.register == register) None (Some fact) (λ left. HoldsOfFact left (set registers register value)) (λ e. tt)
    (λ e. let apart : fact.register ≡ register → ⊥ = eqb-false fact.register register e in
    let kept : get_or registers fact.register 0 ≡ get_or (set registers register value) fact.register 0 = sym (get_or-set_other registers register fact.register value 0 apart) in
    let status : get_or registers 2 0 ≡ get_or (set registers register value) 2 0 = sym (get_or-set_other registers register 2 value 0 (λ same. omega (arith, same, low))) in
    subst (SaysOf fact (get_or (set registers register value) fact.register 0)) status (subst (λ v. SaysOf fact v (get_or registers 2 0)) kept holds))

pub word_written : {device : Device} {a : Known} {first : Option ChipState} {registers ram : List ℕ} (register value : ℕ) (word : Word)
    → length registers ≡ 16
    → length a.registers ≡ 12
    → 3 < register → register < 16 → HoldsOfWord (option_map suspended_of first) word value
    → HoldsOfParts device a first registers ram → HoldsOfParts device (with_word a register word) first (set registers register value) ram
word_written {a} {first} {registers} register value word long as_long low high is holds =
    let under = option_map suspended_of first in
    let inside : register < length registers = omega arith in
    let place : register - 4 < length a.registers = omega arith in
    record {
      sp = subst (Has 65536 a.sp) (sym (get_or-set_other registers register 1 value 0 (λ e. omega (arith, e, low)))) holds.sp;
      status = subst (HoldsOfStatus under a.status) (sym (get_or-set_other registers register 2 value 0 (λ e. omega (arith, e, low)))) holds.status;
      words = λ r above below. elim (cases_eq r register) [
        | inl same ↦ subst (λ n. HoldsOfWord under (get_or (set a.registers (register - 4) word) (n - 4) (unknown 2)) (get_or (set registers register value) n 0)) (sym same)
            (subst (λ held. HoldsOfWord under held (get_or (set registers register value) register 0)) (sym (get_or-set_same a.registers (register - 4) word (unknown 2) place))
            (subst (HoldsOfWord under word) (sym (get_or-set_same registers register value 0 inside)) is))
        | inr other ↦
            let elsewhere : r - 4 ≡ register - 4 → ⊥ = λ e. other (omega (arith, e, above, low)) in
            subst (λ held. HoldsOfWord under held (get_or (set registers register value) r 0))
            (sym (get_or-set_other a.registers (register - 4) (r - 4) word (unknown 2) elsewhere))
            (subst (HoldsOfWord under (word_of a r)) (sym (get_or-set_other registers register r value 0 other)) (holds.words r above below))
      ];
      fact = fact_kept register value a.fact registers low holds.fact;
      cells = holds.cells;
      untouched = holds.untouched;
    }

-- SP

pub sp_written : {device : Device} {a : Known} {first : Option ChipState} {registers ram : List ℕ} (value : ℕ) (set_so : Form)
    → length registers ≡ 16 → IsFact a.fact
    → Has 65536 (even_parts set_so) (even value)
    → HoldsOfParts device a first registers ram → HoldsOfParts device (with_sp a set_so) first (set registers 1 (even value)) ram
sp_written {registers} value set_so long form has holds =
    parts_alike (set registers 1 (even value)) (even_parts set_so) form (λ r some. sym (get_or-set_other registers 1 r (even value) 0 (λ e. omega (arith, e, some))))
    (subst (Has 65536 (even_parts set_so)) (sym (get_or-set_same registers 1 (even value) 0 (omega (arith, long)))) has) holds

-- FLAGS

agrees_below : (bits : List Tri) (v : ℕ) → Agrees bits v → v < 2 ^ length bits
agrees_below [] v h = omega (arith, h)
agrees_below (bit ∷ bits) v h =
    let power : 2 ^ suc (length bits) ≡ 2 ^ length bits * 2 = pow-suc 2 (length bits) in
    let rest = agrees_below bits (v / 2) h.1 in
    omega (arith, power, rest)

-- a number with one bit in the place of another
set_agrees : (bits : List Tri) (place low old new high : ℕ) (t : Tri) → place < length bits → low < 2 ^ place → old < 2 → IsBit t new
    → Agrees bits (low + 2 ^ place * (old + 2 * high)) → Agrees (set bits place t) (low + 2 ^ place * (new + 2 * high))
set_agrees [] place low old new high t inside small bit is agrees = absurd (omega (arith, inside))
set_agrees (held ∷ bits) zero low old new high t inside small bit is agrees =
    let below = bit_below t new is in
    let first : new ≡ (low + 2 ^ 0 * (new + 2 * high)) % 2 = omega (arith, small, below) in
    let rest : (low + 2 ^ 0 * (old + 2 * high)) / 2 ≡ (low + 2 ^ 0 * (new + 2 * high)) / 2 = omega (arith, small, bit, below) in
    (subst (IsBit t) first is, subst (Agrees bits) rest agrees.1)
set_agrees (held ∷ bits) (suc place) low old new high t inside small bit is agrees =
    let power : 2 ^ suc place ≡ 2 ^ place * 2 = pow-suc 2 place in
    let before : 2 ^ suc place * (old + 2 * high) ≡ 2 * (2 ^ place * (old + 2 * high)) = omega (arith, ap (λ (n : ℕ). n * (old + 2 * high)) power) in
    let after : 2 ^ suc place * (new + 2 * high) ≡ 2 * (2 ^ place * (new + 2 * high)) = omega (arith, ap (λ (n : ℕ). n * (new + 2 * high)) power) in
    let first : (low + 2 ^ suc place * (old + 2 * high)) % 2 ≡ (low + 2 ^ suc place * (new + 2 * high)) % 2 = omega (arith, before, after) in
    let half : (low + 2 ^ suc place * (old + 2 * high)) / 2 ≡ low / 2 + 2 ^ place * (old + 2 * high) = omega (arith, before) in
    let other : low / 2 + 2 ^ place * (new + 2 * high) ≡ (low + 2 ^ suc place * (new + 2 * high)) / 2 = omega (arith, after) in
    let rest = set_agrees bits place (low / 2) old new high t (omega (arith, inside)) (omega (arith, small, power)) bit is (subst (Agrees bits) half agrees.1) in
    (subst (IsBit held) first agrees.0, subst (Agrees (set bits place t)) other rest)

put_agrees : (bits : List Tri) (flags_so : FlagBits) (sr : ℕ) (flags : Flags) → length bits ≡ 9 → AreFlags flags_so flags → Agrees bits sr
    → Agrees (put_flags bits flags_so) (with_flags sr flags)
put_agrees bits flags_so sr flags long are agrees =
    let c = bit_from flags.carry in
    let z = bit_from flags.zero in
    let n = bit_from flags.negative in
    let v = bit_from flags.overflow in
    let carry = flag_bit flags_so.carry flags.carry are.carry in
    let zero_so = flag_bit flags_so.zero flags.zero are.zero in
    let negative = flag_bit flags_so.negative flags.negative are.negative in
    let overflow = flag_bit flags_so.overflow flags.overflow are.overflow in
    let cs = bit_below flags_so.carry c carry in
    let zs = bit_below flags_so.zero z zero_so in
    let ns = bit_below flags_so.negative n negative in
    let small : sr < 512 = subst (λ (k : ℕ). sr < 2 ^ k) long (agrees_below bits sr agrees) in
    let middle = 8 * (sr / 8 % 32) in
    let one = set bits 0 flags_so.carry in
    let two = set one 1 flags_so.zero in
    let three = set two 2 flags_so.negative in
    let one_long : length one ≡ 9 = length-set bits 0 flags_so.carry ∙ long in
    let two_long : length two ≡ 9 = length-set one 1 flags_so.zero ∙ one_long in
    let three_long : length three ≡ 9 = length-set two 2 flags_so.negative ∙ two_long in
    let e0 : sr ≡ 0 + 2 ^ 0 * (sr % 2 + 2 * (sr / 2)) = omega arith in
    let e1 : 0 + 2 ^ 0 * (c + 2 * (sr / 2)) ≡ c + 2 ^ 1 * (sr / 2 % 2 + 2 * (sr / 4)) = omega arith in
    let e2 : c + 2 ^ 1 * (z + 2 * (sr / 4)) ≡ c + 2 * z + 2 ^ 2 * (sr / 4 % 2 + 2 * (sr / 8)) = omega arith in
    let e8 : c + 2 * z + 2 ^ 2 * (n + 2 * (sr / 8)) ≡ c + 2 * z + 4 * n + middle + 2 ^ 8 * (sr / 256 + 2 * 0) = omega (arith, small) in
    let end : c + 2 * z + 4 * n + middle + 2 ^ 8 * (v + 2 * 0) ≡ with_flags sr flags = omega arith in
    let a1 = set_agrees bits 0 0 (sr % 2) c (sr / 2) flags_so.carry (omega (arith, long)) (omega arith) (omega arith) carry (subst (Agrees bits) e0 agrees) in
    let a2 = set_agrees one 1 c (sr / 2 % 2) z (sr / 4) flags_so.zero (omega (arith, one_long)) (omega (arith, cs)) (omega arith) zero_so (subst (Agrees one) e1 a1) in
    let a3 = set_agrees two 2 (c + 2 * z) (sr / 4 % 2) n (sr / 8) flags_so.negative (omega (arith, two_long)) (omega (arith, cs, zs)) (omega arith) negative
    (subst (Agrees two) e2 a2) in
    let a4 = set_agrees three 8 (c + 2 * z + 4 * n + middle) (sr / 256) v 0 flags_so.overflow (omega (arith, three_long)) (omega (arith, cs, zs, ns))
    (omega (arith, small)) overflow (subst (Agrees three) e8 a3) in
    subst (Agrees (put_flags bits flags_so)) end a4

-- SR behind a result
pub flags_written : {device : Device} {a : Known} {first : Option ChipState} {registers ram : List ℕ} (flags_so : Option FlagBits) (flags : Option Flags)
    → length registers ≡ 16
    → length a.status.bits ≡ 9 → IsFact a.fact
    → HoldsOfFlags flags_so flags → HoldsOfParts device a first registers ram
    → HoldsOfParts device (with_flag_bits a flags_so) first (set registers 2 (with_made_flags (get_or registers 2 0) flags)) ram
flags_written {registers} None None long as_long form are holds = rw (set-get_or registers 2 0) holds
flags_written None (Some flags) long as_long form are holds = absurd are
flags_written (Some flags_so) None long as_long form are holds = absurd are
flags_written {a} {registers} (Some flags_so) (Some flags) long as_long form are holds =
    let sr = get_or registers 2 0 in
    status_written registers (record { bits = put_flags a.status.bits flags_so; entry = None }) (with_flags sr flags) long
    (record { bits = put_agrees a.status.bits flags_so sr flags as_long are holds.status.bits; entry = tt }) (λ r low. refl) holds
