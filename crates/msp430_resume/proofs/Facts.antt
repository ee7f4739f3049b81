-- SR and the flag fact where a suspended state goes on.
use Rattle.std.proofs.Common.{◌≡◌, ℕ, ◌+◌, ◌*◌, ◌/◌, ◌%◌, ◌^◌, ◌<◌, Bool, true, false, Option, None, Some, length, sym, ap, ◌∙◌, subst, arith, bit_and}
use Rattle.std.specs.Prelude.{◌==◌, ◌&&◌}
use Rattle.std.specs.Option.{option_map}
use Rattle.std.proofs.lemmas.Bool.{and_parts, ne_eqb, cond_both}
use Rattle.std.proofs.lemmas.Nat.{and_le_l, and_assoc, or_lt}
use Rattle.value_bits.specs.Bits.{Agrees}
use Rattle.entry_value.specs.declared.word.Entry.{Entry}
use Rattle.entry_value.specs.Words.{Reads, IsFromEntry, entry_and}
use Rattle.msp430_chip.specs.Arithmetic.{modulus}
use Rattle.msp430_chip.specs.declared.device.Device.{Device}
use Rattle.msp430_chip.specs.declared.state.ChipState.{ChipState}
use Rattle.msp430_chip.specs.State.{IsChipState, register_of}
use Rattle.msp430_decode.specs.declared.instr.Width.TheVariants.{Byte}
use Rattle.msp430_state.specs.declared.fact.FlagFact.{FlagFact}
use Rattle.msp430_state.specs.declared.status.Status.{Status}
use Rattle.msp430_state.specs.Forms.{IsFact, IsStatusRelation}
use Rattle.msp430_state.specs.Holding.{HasFlagsOf, HoldsOfFact, HoldsOfStatus, suspended_of}
use Rattle.msp430_state.specs.Known.{Known, word_of}
use Rattle.msp430_state.specs.FormFacts.{no_status_relation}
use Rattle.irq_frames.specs.Masking.{masked_bits, masked_entry}
use Rattle.irq_frames.specs.MaskFacts.{Low, itself_read, low_agrees, low_from, low_wider, masked_length, masked_low}
use Rattle.irq_frames.specs.Resuming.{is_itself}
use Rattle.plain_lemmas.specs.Small.{word_alone}
use Rattle.msp430_resume.specs.Resume.{fact_resumed, status_by, status_resumed}
use Rattle.msp430_alu.specs.Laws.{MemoryLaws}
use Rattle.msp430_resume.proofs.HeldWords.{IsSuspended, reads_itself, reads_status, status_held}

-- SR

by_holds : (laws : MemoryLaws) (device : Device) (framed : Bool) (a : Known) (f : ChipState) (first : Option ChipState) (exit : Status) (entry : Option Entry) (sr : ℕ)
    → IsSuspended device framed a f first
    → IsStatusRelation true entry → sr < 512 → Agrees exit.bits sr → IsFromEntry (Some (suspended_of f)) entry sr
    → HoldsOfStatus (option_map suspended_of first) (status_by a.status exit entry) sr
by_holds laws device framed a f first exit None sr is form small agrees from = record { bits = agrees; entry = tt }
by_holds laws device framed a f first exit (Some entry) sr is (place, and_small, and_high, or_small) small agrees (word, reads, made) =
    let status_reads : Reads (suspended_of f) 2 word = subst (λ p. Reads (suspended_of f) p word) place reads in
    let number = reads_status device f is.state word status_reads in
    let bits = a.status.bits in
    let power : 2 ^ length bits ≡ 512 = ap (λ n. 2 ^ n) is.form.bits in
    let wide : register_of f 2 + 2 ^ length bits * (word / 512) ≡ word = ap (λ n. register_of f 2 + n * (word / 512)) power ∙ sym number in
    let low : Low bits word = subst (Low bits) wide (low_wider bits (register_of f 2) (word / 512) (low_from bits (register_of f 2) is.parts.status.bits)) in
    let all = masked_bits entry.and entry.or bits in
    let count : length all ≡ 9 = masked_length entry.and entry.or bits ∙ is.form.bits in
    let room : 2 ^ length all ≡ 512 = ap (λ n. 2 ^ n) count in
    let held = status_held laws device framed a f first is word status_reads in
    let under = option_map suspended_of first in
    record {
      bits = low_agrees all sr (omega (arith, room, small)) (subst (Low all) (sym made) (masked_low bits entry.and entry.or word low));
      entry = subst (IsFromEntry under (masked_entry entry a.status.entry)) (sym made)
          (laws.known.values.entries.or under (option_map (entry_and entry.and) a.status.entry) (bit_and word entry.and) entry.or (laws.known.values.entries.and under a.status.entry word entry.and held.1));
    }

pub status_holds : (laws : MemoryLaws) (device : Device) (framed : Bool) (a : Known) (f : ChipState) (first : Option ChipState) (exit : Status) (sr : ℕ)
    → IsSuspended device framed a f first
    → IsStatusRelation true exit.entry → sr < 512 → HoldsOfStatus (Some (suspended_of f)) exit sr
    → HoldsOfStatus (option_map suspended_of first) (status_resumed a.status exit) sr
status_holds laws device framed a f first exit sr is form small holds = by_holds laws device framed a f first exit exit.entry sr is form small holds.bits holds.entry

-- its form
masked_form : (framed : Bool) (entry : Entry) (held : Option Entry) → IsStatusRelation true (Some entry)
    → IsStatusRelation framed held → IsStatusRelation framed (masked_entry entry held)
masked_form framed entry None masks form = no_status_relation framed
masked_form false entry (Some held) masks form = form
masked_form true entry (Some held) (place, and_small, and_high, or_small) (held_place, held_and, held_high, held_or) =
    let less = and_le_l held.and entry.and in
    let high : bit_and (bit_and held.and entry.and) 65024 ≡ 65024 = and_assoc 65024 held.and entry.and ∙ ap (bit_and held.and) and_high ∙ held_high in
    let or_less = and_le_l held.or entry.and in
    (held_place, omega (arith, less, held_and), high, or_lt 9 (bit_and held.or entry.and) entry.or (omega (arith, or_less, held_or)) or_small)

by_form : (framed : Bool) (held exit : Status) (entry : Option Entry) → length held.bits ≡ 9 → length exit.bits ≡ 9
    → IsStatusRelation framed held.entry → IsStatusRelation true entry
    → (length (status_by held exit entry).bits ≡ 9) × IsStatusRelation framed (status_by held exit entry).entry
by_form framed held exit None long exit_long form masks = (exit_long, no_status_relation framed)
by_form framed held exit (Some entry) long exit_long form masks = (masked_length entry.and entry.or held.bits ∙ long, masked_form framed entry held.entry masks form)

pub status_form : (framed : Bool) (held exit : Status) → length held.bits ≡ 9 → length exit.bits ≡ 9
    → IsStatusRelation framed held.entry → IsStatusRelation true exit.entry
    → (length (status_resumed held exit).bits ≡ 9) × IsStatusRelation framed (status_resumed held exit).entry
status_form framed held exit = by_form framed held exit exit.entry

-- THE FACT

word_is : (word v : ℕ) → word < 65536 → v ≡ word % 65536 → v ≡ word
word_is word v below is = is ∙ word_alone word below

-- a value that is what a place held is a number that the place may be read as
itself_is : (f : ChipState) (place v : ℕ) (entry : Option Entry) → is_itself 65535 place entry ≡ true
    → IsFromEntry (Some (suspended_of f)) entry v → Reads (suspended_of f) place v
itself_is f place v entry is from =
    let (word, reads, made) = itself_read 16 (suspended_of f) place v entry is from in
    subst (Reads (suspended_of f) place) (sym (word_is word v reads.0 made)) reads

past_status : (register : ℕ) → 3 < register → register ≡ 2 → ⊥
past_status register lt is = absurd (omega (arith, lt, is))

not_status : (register : ℕ) → 3 < register → (register == 2) ≡ false
not_status register lt = ne_eqb register 2 (past_status register lt)

abbrev SaysOfFlags : FlagFact → (value sr : ℕ) → Type 0
SaysOfFlags fact value sr = HasFlagsOf fact.width ((value + fact.added) % modulus fact.width) fact.compared sr × (fact.width ≡ Byte → value < 256)

pub fact_holds : (device : Device) (exit : Known) (f t : ChipState) (fact : Option FlagFact) → IsChipState device f
    → IsChipState device t → IsFact fact → HoldsOfFact fact f.registers
    → IsFromEntry (Some (suspended_of f)) exit.status.entry (register_of t 2)
    → ((register : ℕ) → 3 < register → register < 16 → IsFromEntry (Some (suspended_of f)) (word_of exit register).entry (register_of t register))
    → HoldsOfFact (fact_resumed exit fact) t.registers
fact_holds device exit f t None f_is t_is form holds status words = tt
fact_holds device exit f t (Some fact) f_is t_is (above, below, added, compared) holds status words =
    let first = is_itself 65535 2 exit.status.entry in
    let second = is_itself 65535 fact.register (word_of exit fact.register).entry in
    cond_both (first && second) (Some fact) None (λ kept. HoldsOfFact kept t.registers)
    (λ e. let both = and_parts first second e in
    let sr_number = reads_status device f f_is (register_of t 2) (itself_is f 2 (register_of t 2) exit.status.entry both.0 status) in
    let sr : register_of f 2 ≡ register_of t 2 = omega (arith, sr_number, t_is.status) in
    let value : register_of f fact.register ≡ register_of t fact.register = sym (reads_itself device f f_is fact.register (register_of t fact.register) (not_status fact.register above) below
    (itself_is f fact.register (register_of t fact.register) (word_of exit fact.register).entry both.1 (words fact.register above below))) in
    subst (λ (n : ℕ). SaysOfFlags fact n (register_of t 2)) value (subst (λ (n : ℕ). SaysOfFlags fact (register_of f fact.register) n) sr holds))
    (λ e. tt)

pub fact_form : (exit : Known) (fact : Option FlagFact) → IsFact fact → IsFact (fact_resumed exit fact)
fact_form exit None form = tt
fact_form exit (Some fact) form =
    cond_both (is_itself 65535 2 exit.status.entry && is_itself 65535 fact.register (word_of exit fact.register).entry) (Some fact) None IsFact (λ e. form) (λ e. tt)
