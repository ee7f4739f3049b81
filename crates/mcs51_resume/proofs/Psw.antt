-- PSW where it goes on.
use Rattle.std.proofs.Common.{◌≡◌, ℕ, ◌/◌, ◌^◌, ◌<◌, Bool, true, Option, None, Some, length, refl, sym, ap, ◌∙◌, subst, arith}
use Rattle.std.specs.Prelude.{bit_and, bit_or}
use Rattle.std.specs.Option.{option_map}
use Rattle.std.proofs.lemmas.Nat.{and_shr, or_shr}
use Rattle.entry_value.specs.declared.word.Entry.{Entry}
use Rattle.entry_value.specs.Words.{Reads, IsFromEntry, entry_and}
use Rattle.value_bits.specs.Bits.{Agrees}
use Rattle.mcs51_chip.specs.declared.state.ChipState.{ChipState}
use Rattle.mcs51_state.specs.declared.status.Status.{Status}
use Rattle.mcs51_state.specs.Forms.{IsOwnRelation}
use Rattle.mcs51_state.specs.Holding.{HoldsOfStatus}
use Rattle.mcs51_state.specs.Places.{psw_place, suspended_of}
use Rattle.mcs51_state.specs.Under.{IsUnder}
use Rattle.mcs51_state.specs.Known.{Known}
use Rattle.mcs51_results.specs.InstructionLaws.{InstructionLaws}
use Rattle.irq_frames.specs.Masking.{masked_bits, masked_entry}
use Rattle.irq_frames.specs.MaskFacts.{Low, low_agrees, low_from, masked_length, masked_low}
use Rattle.mcs51_state.specs.FormFacts.{no_own_relation}
use Rattle.mcs51_resume.specs.Resume.{status_by, status_resumed}
use Rattle.mcs51_resume.proofs.Masks.{own_masked}
use Rattle.mcs51_resume.proofs.Numbers.{reads_status}

by_holds : (laws : InstructionLaws) (framed : Bool) (a : Known) (f : ChipState) (first : Option ChipState) (exit : Status) (entry : Option Entry) (psw : ℕ)
    → IsUnder framed a f first → exit.entry ≡ entry
    → IsOwnRelation true psw_place 3 entry → psw < 256 → HoldsOfStatus (Some (suspended_of f)) exit psw
    → HoldsOfStatus (option_map suspended_of first) (status_by a.psw exit entry) psw
by_holds laws framed a f first exit None psw under is form small holds =
    record { bits = holds.bits; entry = subst (λ e. IsFromEntry (option_map suspended_of first) e psw) (sym is) tt }
by_holds laws framed a f first exit (Some entry) psw under is (place, and_small, and_free, or_small, or_free) small holds =
    let from : IsFromEntry (Some (suspended_of f)) (Some entry) psw = subst (λ e. IsFromEntry (Some (suspended_of f)) e psw) is holds.entry in
    let word = from.0 in
    let reads : Reads (suspended_of f) psw_place word = subst (λ p. Reads (suspended_of f) p word) place from.1 in
    let (y, few, number) = reads_status f under.holds.state word reads in
    let held = under.holds.parts.psw in
    let none = under.holds.state.psw_held in
    let bits = a.psw.bits in
    let same : f.psw / 4 ≡ word / 4 = omega (arith, number, few, none) in
    let low = low_from bits (word / 4) (subst (Agrees bits) same held.bits) in
    let all = masked_bits (entry.and / 4) (entry.or / 4) bits in
    let count : length all ≡ 6 = masked_length (entry.and / 4) (entry.or / 4) bits ∙ under.form.bits in
    let room : 2 ^ length all ≡ 64 = ap (λ n. 2 ^ n) count in
    let high : bit_or (bit_and (word / 4) (entry.and / 4)) (entry.or / 4) ≡ psw / 4 =
    ap (λ n. bit_or n (entry.or / 4)) (sym (and_shr word entry.and 2)) ∙ sym (or_shr (bit_and word entry.and) entry.or 2) ∙ ap (λ n. n / 4) (sym from.2) in
    let below : psw / 4 < 2 ^ length all = omega (arith, room, small) in
    let first_of = option_map suspended_of first in
    let related : IsFromEntry first_of a.psw.entry word = (laws.operands.reads.status framed a f first under word y few number).1 in
    record {
      bits = low_agrees all (psw / 4) below (subst (Low all) high (masked_low bits (entry.and / 4) (entry.or / 4) (word / 4) low));
      entry = subst (IsFromEntry first_of (masked_entry entry a.psw.entry)) (sym from.2)
          (laws.known.values.entries.or first_of (option_map (entry_and entry.and) a.psw.entry) (bit_and word entry.and) entry.or (laws.known.values.entries.and first_of a.psw.entry word entry.and related));
    }

pub status_holds : (laws : InstructionLaws) (framed : Bool) (a : Known) (f : ChipState) (first : Option ChipState) (exit : Status) (psw : ℕ)
    → IsUnder framed a f first
    → IsOwnRelation true psw_place 3 exit.entry → psw < 256 → HoldsOfStatus (Some (suspended_of f)) exit psw
    → HoldsOfStatus (option_map suspended_of first) (status_resumed a.psw exit) psw
status_holds laws framed a f first exit psw under form small holds = by_holds laws framed a f first exit exit.entry psw under refl form small holds

-- its form
by_form : (framed : Bool) (held exit : Status) (entry : Option Entry) → exit.entry ≡ entry → length held.bits ≡ 6
    → length exit.bits ≡ 6 → IsOwnRelation framed psw_place 3 held.entry
    → IsOwnRelation true psw_place 3 entry
    → (length (status_by held exit entry).bits ≡ 6) × IsOwnRelation framed psw_place 3 (status_by held exit entry).entry
by_form framed held exit None is long exit_long form masks = (exit_long, subst (IsOwnRelation framed psw_place 3) (sym is) (no_own_relation framed psw_place 3))
by_form framed held exit (Some entry) is long exit_long form masks =
    (masked_length (entry.and / 4) (entry.or / 4) held.bits ∙ long, own_masked framed psw_place 3 entry held.entry masks form)

pub status_form : (framed : Bool) (held exit : Status) → length held.bits ≡ 6 → length exit.bits ≡ 6
    → IsOwnRelation framed psw_place 3 held.entry → IsOwnRelation true psw_place 3 exit.entry
    → (length (status_resumed held exit).bits ≡ 6) × IsOwnRelation framed psw_place 3 (status_resumed held exit).entry
status_form framed held exit = by_form framed held exit exit.entry refl
