-- Relations of what is read: of a byte that isn't touched, and of PSW with the bits that it doesn't hold.
use Rattle.std.proofs.Common.{◌≡◌, ℕ, ◌+◌, ◌*◌, ◌/◌, ◌%◌, ◌<◌, Bool, true, false, Option, None, Some, List, get_or, refl, sym, ap, ◌∙◌, arith}
use Rattle.std.specs.Prelude.{◌==◌, not, bit_and, bit_or, nat_lt, if◌then◌else◌}
use Rattle.std.specs.Option.{option_map}
use Rattle.std.specs.Int.Bits.{or_zero_r}
use Rattle.std.proofs.Math.Path.{ap₂}
use Rattle.std.proofs.lemmas.Bool.{cond-true, cond_both, lt-ltb}
use Rattle.std.proofs.lemmas.Nat.{and_mask, and_mod, and_shr, or_mod, or_shr}
use Rattle.std.proofs.lemmas.Nat.Bits.{and_high_mask}
use Rattle.entry_value.specs.declared.word.Entry.{Entry}
use Rattle.entry_value.specs.Words.{Suspended, IsFromEntry}
use Rattle.irq_frames.specs.Ranges.{has_address}
use Rattle.mcs51_chip.specs.declared.state.ChipState.{ChipState}
use Rattle.mcs51_state.specs.Forms.{IsOwnRelation}
use Rattle.mcs51_state.specs.Holding.{KeepsUntouched}
use Rattle.mcs51_state.specs.Places.{number_of, psw_place, register_of, sfr_of, suspended_of}
use Rattle.mcs51_state.specs.Under.{IsFramed}
use Rattle.mcs51_state.specs.Reading.{found_or, kept_by, kept_from}

-- BYTES THAT AREN'T TOUCHED

not_true : (b : Bool) → not b ≡ true → b ≡ false
not_true true e = absurd (cc)
not_true false e = refl

kept_holds : (touched : List (ℕ × ℕ)) (s f : ChipState) (at : ℕ) → KeepsUntouched touched s (Some f) → at < 256
    → get_or s.ram at 0 < 256 → not (has_address touched at) ≡ true
    → IsFromEntry (Some (suspended_of f)) (Some (kept_from at)) (get_or s.ram at 0)
kept_holds touched s f at keeps inside small none =
    let word = get_or f.ram at 0 in
    let same : get_or s.ram at 0 ≡ word = keeps at (not_true (has_address touched at) none) in
    let number : number_of f at ≡ word =
    cond-true (nat_lt at 256) word (if nat_lt at 512 then register_of f (sfr_of at) else if at == 512 then f.pc % 256 else f.pc / 256) (lt-ltb at 256 inside) in
    let all : bit_and word 255 ≡ word = and_mask word 8 ∙ omega (arith, same, small) in
    (word, (omega (arith, same, small), ap (λ n. bit_and n ((suspended_of f).held at)) (sym number)), same ∙ sym (or_zero_r (bit_and word 255) ∙ all))

pub kept_is : (framed : Bool) (touched : List (ℕ × ℕ)) (s : ChipState) (first : Option ChipState) (at : ℕ) → IsFramed framed first
    → KeepsUntouched touched s first → at < 256 → get_or s.ram at 0 < 256
    → IsFromEntry (option_map suspended_of first) (kept_by framed touched at) (get_or s.ram at 0)
kept_is false touched s first at base keeps inside small = tt
kept_is true touched s None at base keeps inside small = absurd base
kept_is true touched s (Some f) at base keeps inside small =
    cond_both (not (has_address touched at)) (Some (kept_from at)) None (λ entry. IsFromEntry (Some (suspended_of f)) entry (get_or s.ram at 0))
    (λ none. kept_holds touched s f at keeps inside small none) (λ some. tt)

pub found_is : (first : Option Suspended) (own otherwise : Option Entry) (v : ℕ) → IsFromEntry first own v → IsFromEntry first otherwise v
    → IsFromEntry first (found_or own otherwise) v
found_is first None otherwise v own other = other
found_is first (Some entry) otherwise v own other = own

-- PSW

-- Each mask leaves the two bits as they are, and those may be any of the suspended state.
status_wider : (f : Suspended) (entry : Entry) (psw y : ℕ) → f.held psw_place ≡ 65532
    → IsOwnRelation true psw_place 3 (Some entry) → psw % 4 ≡ 0 → y < 4
    → IsFromEntry (Some f) (Some entry) psw → IsFromEntry (Some f) (Some entry) (psw + y)
status_wider f entry psw y held (place, and_small, low_and, or_small, low_or) none few (word, (word_small, reads), is) =
    let wider = word / 4 * 4 + y in
    let wide = bit_or (bit_and wider entry.and) entry.or in
    let wider_small : wider < 65536 = omega (arith, word_small, few) in
    let mask : f.held entry.place ≡ 65532 = ap f.held place ∙ held in
    let same_high : wider / 4 ≡ word / 4 = omega (arith, few) in
    let same_reads : bit_and wider (f.held entry.place) ≡ bit_and word (f.held entry.place) =
    ap (bit_and wider) mask ∙ and_high_mask 16 2 (omega arith) wider wider_small ∙ ap (λ n. n * 4) same_high ∙ sym (and_high_mask 16 2 (omega arith) word word_small) ∙ ap (bit_and word) (sym mask) in
    let high : wide / 4 ≡ psw / 4 =
    or_shr (bit_and wider entry.and) entry.or 2
    ∙ ap (λ n. bit_or n (entry.or / 4)) (and_shr wider entry.and 2 ∙ ap (λ n. bit_and n (entry.and / 4)) same_high ∙ sym (and_shr word entry.and 2))
    ∙ sym (or_shr (bit_and word entry.and) entry.or 2) ∙ ap (λ n. n / 4) (sym is) in
    let low_wider : wider % 4 ≡ y = omega (arith, few) in
    let all_and : entry.and % 4 ≡ 3 = sym (and_mask entry.and 2) ∙ low_and in
    let no_or : entry.or % 4 ≡ 0 = sym (and_mask entry.or 2) ∙ low_or in
    let kept : bit_and y 3 ≡ y = and_mask y 2 ∙ omega (arith, few) in
    let low : wide % 4 ≡ y =
    or_mod (bit_and wider entry.and) entry.or 2
    ∙ ap₂ (λ a b. bit_or a b) (and_mod wider entry.and 2 ∙ ap₂ (λ a b. bit_and a b) low_wider all_and ∙ kept) no_or
    ∙ or_zero_r y in
    let whole : psw + y ≡ wide = omega (arith, low, high, none) in
    (wider, (wider_small, same_reads ∙ reads), whole)

pub status_is : (framed : Bool) (first : Option ChipState) (entry : Option Entry) (psw y : ℕ)
    → IsOwnRelation framed psw_place 3 entry → psw % 4 ≡ 0 → y < 4
    → IsFromEntry (option_map suspended_of first) entry psw → IsFromEntry (option_map suspended_of first) entry (psw + y)
status_is framed first None psw y form none few holds = tt
status_is false first (Some entry) psw y form none few holds = absurd form
status_is true None (Some entry) psw y form none few holds = absurd holds
status_is true (Some f) (Some entry) psw y form none few holds = status_wider (suspended_of f) entry psw y refl form none few holds
