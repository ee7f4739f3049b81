-- Bytes behind the masks of relations.
use Rattle.std.proofs.Common.{◌≡◌, ℕ, ◌<◌, Bool, true, false, Option, None, Some, refl, sym, ap, ◌∙◌, subst, inl, inr, arith}
use Rattle.std.specs.Prelude.{bit_and, bit_or}
use Rattle.std.specs.Option.{option_map}
use Rattle.std.proofs.lemmas.Bool.{cases_Bool}
use Rattle.std.proofs.lemmas.Nat.{and_assoc, and_le_l, and_or_apart, or_lt}
use Rattle.value_set.specs.Form.{IsNormal}
use Rattle.entry_value.specs.declared.byte.Byte.{Byte}
use Rattle.entry_value.specs.declared.word.Entry.{Entry}
use Rattle.entry_value.specs.Words.{Suspended, Reads, IsFromEntry, HoldsOfByte, byte_and, byte_or, entry_and}
use Rattle.mcs51_state.specs.Forms.{IsByte, IsOwnByte, IsOwnRelation, IsRelation}
use Rattle.irq_frames.specs.KnownLaws.{KnownLaws}
use Rattle.irq_frames.specs.Masking.{masked_entry}
use Rattle.irq_frames.specs.MaskFacts.{unmasked_is}
use Rattle.irq_frames.specs.Resuming.{is_unmasked}
use Rattle.mcs51_state.specs.FormFacts.{and_form, no_own_relation, no_relation, or_form}
use Rattle.plain_lemmas.specs.Small.{byte_alone}
use Rattle.mcs51_resume.specs.Resume.{masked_by, resumed_by, resumed_byte}

-- WHAT THEY HOLD OF

-- a fact of what a place held, behind the masks of a relation unless they keep each bit
behind_masks : (P : Byte → Type 0) (entry : Entry) (held : Byte) → entry.and < 256 → entry.or < 256
    → (is_unmasked 255 entry ≡ true → P held)
    → P (byte_or entry.or (byte_and entry.and held)) → P (masked_by entry held)
behind_masks P entry held and_small or_small whole some = elim (cases_Bool (is_unmasked 255 entry)) [
  | inl keeps ↦ rw keeps (whole keeps)
  | inr masks ↦ rw (masks, byte_alone entry.and and_small, byte_alone entry.or or_small) some
]

pub masked_holds : (laws : KnownLaws) (first : Option Suspended) (entry : Entry) (held : Byte) (word : ℕ)
    → entry.and < 256 → entry.or < 256 → IsNormal 256 held.set
    → HoldsOfByte first held word → HoldsOfByte first (masked_by entry held) (bit_or (bit_and word entry.and) entry.or)
masked_holds laws first entry held word and_small or_small normal holds =
    let bytes = laws.values.bytes.sized in
    let word_small = laws.sets.below 256 word held.set normal holds.0 in
    behind_masks (λ byte. HoldsOfByte first byte (bit_or (bit_and word entry.and) entry.or)) entry held and_small or_small
    (λ whole. subst (λ (v : ℕ). HoldsOfByte first held v) (sym (unmasked_is 8 entry word whole ∙ byte_alone word word_small)) holds)
    (bytes.or first entry.or (bit_and word entry.and) (byte_and entry.and held) or_small (bytes.and_normal entry.and held and_small normal)
    (bytes.and first entry.and word held and_small normal holds))

-- The place that a relation names is known, and the byte there holds of all that the place may be read as. It speaks of the
-- state that was suspended first when this one was.
pub record IsTold (places : ℕ → Byte) (suspended : Suspended) (first : Option Suspended) (entry : Entry) : Type 0 where
  pub normal : IsNormal 256 (places entry.place).set
  pub tells : (word : ℕ) → Reads suspended entry.place word → HoldsOfByte first (places entry.place) word
  pub and_small : entry.and < 256
  pub or_small : entry.or < 256

abbrev pub Tells : (places : ℕ → Byte) → (suspended : Suspended) → (first : Option Suspended) → Option Entry → Type 0
Tells places suspended first None = Unit {0}
Tells places suspended first (Some entry) = IsTold places suspended first entry

pub told_holds : (laws : KnownLaws) (places : ℕ → Byte) (f : Suspended) (first : Option Suspended) (entry : Entry) (v : ℕ)
    → IsTold places f first entry
    → IsFromEntry (Some f) (Some entry) v → HoldsOfByte first (masked_by entry (places entry.place)) v
told_holds laws places f first entry v told (word, reads, made) =
    subst (λ (n : ℕ). HoldsOfByte first (masked_by entry (places entry.place)) n) (sym made)
    (masked_holds laws first entry (places entry.place) word told.and_small told.or_small told.normal (told.tells word reads))

by_holds : (laws : KnownLaws) (places : ℕ → Byte) (f : Suspended) (first : Option Suspended) (exit : Byte) (entry : Option Entry) (v : ℕ)
    → exit.entry ≡ entry
    → Tells places f first entry → HoldsOfByte (Some f) exit v → HoldsOfByte first (resumed_by places exit entry) v
by_holds laws places f first exit None v is tells holds = (holds.0, subst (λ (entry : Option Entry). IsFromEntry first entry v) (sym is) tt)
by_holds laws places f first exit (Some entry) v is tells holds =
    told_holds laws places f first entry v tells (subst (λ (one : Option Entry). IsFromEntry (Some f) one v) is holds.1)

pub byte_holds : (laws : KnownLaws) (places : ℕ → Byte) (f : Suspended) (first : Option Suspended) (exit : Byte) (v : ℕ)
    → Tells places f first exit.entry → HoldsOfByte (Some f) exit v → HoldsOfByte first (resumed_byte places exit) v
byte_holds laws places f first exit v tells holds = by_holds laws places f first exit exit.entry v refl tells holds

-- THEIR FORM

masked_normal : (laws : KnownLaws) (entry : Entry) (held : Byte) → entry.and < 256 → entry.or < 256 → IsNormal 256 held.set
    → IsNormal 256 (byte_or entry.or (byte_and entry.and held)).set
masked_normal laws entry held and_small or_small normal =
    laws.values.bytes.sized.or_normal entry.or (byte_and entry.and held) or_small (laws.values.bytes.sized.and_normal entry.and held and_small normal)

pub masked_form : (laws : KnownLaws) (framed : Bool) (entry : Entry) (held : Byte) → entry.and < 256 → entry.or < 256
    → IsByte framed held → IsByte framed (masked_by entry held)
masked_form laws framed entry held and_small or_small form = behind_masks (IsByte framed) entry held and_small or_small (λ whole. form) record {
  normal = masked_normal laws entry held and_small or_small form.normal;
  entry = or_form framed entry.or (option_map (entry_and entry.and) held.entry) or_small (and_form framed entry.and held.entry form.entry);
}

-- what the places that relations name are known as
abbrev pub AreFormed : (framed : Bool) → (places : ℕ → Byte) → Option Entry → Type 0
AreFormed framed places None = Unit {0}
AreFormed framed places (Some entry) = IsByte framed (places entry.place)

by_form : (laws : KnownLaws) (framed : Bool) (places : ℕ → Byte) (exit : Byte) (entry : Option Entry)
    → exit.entry ≡ entry → AreFormed framed places entry → IsRelation true entry
    → IsNormal 256 exit.set → IsByte framed (resumed_by places exit entry)
by_form laws framed places exit None is formed form normal = record { normal = normal; entry = subst (IsRelation framed) (sym is) (no_relation framed) }
by_form laws framed places exit (Some entry) is formed form normal = masked_form laws framed entry (places entry.place) form.1 form.2 formed

pub byte_form : (laws : KnownLaws) (framed : Bool) (places : ℕ → Byte) (exit : Byte)
    → AreFormed framed places exit.entry → IsByte true exit → IsByte framed (resumed_byte places exit)
byte_form laws framed places exit formed form = by_form laws framed places exit exit.entry refl formed form.entry form.normal

-- REGISTERS THAT DON'T HOLD ALL OF THEIR BITS

-- the masks leave the bits as they are that it doesn't hold
pub own_masked : (framed : Bool) (place unheld : ℕ) (entry : Entry) (held : Option Entry)
    → IsOwnRelation true place unheld (Some entry) → IsOwnRelation framed place unheld held
    → IsOwnRelation framed place unheld (masked_entry entry held)
own_masked framed place unheld entry None masks form = no_own_relation framed place unheld
own_masked false place unheld entry (Some held) masks form = form
own_masked true place unheld entry (Some held) (named, and_small, and_free, or_small, or_free) (own, held_and, held_free, held_or, held_none) =
    let less = and_le_l held.and entry.and in
    let or_less = and_le_l held.or entry.and in
    let free : bit_and (bit_and held.and entry.and) unheld ≡ unheld = and_assoc unheld held.and entry.and ∙ ap (bit_and held.and) and_free ∙ held_free in
    let none : bit_and (bit_and held.or entry.and) unheld ≡ 0 = and_assoc unheld held.or entry.and ∙ ap (bit_and held.or) and_free ∙ held_none in (
      own,
      omega (arith, less, held_and),
      free,
      or_lt 8 (bit_and held.or entry.and) entry.or (omega (arith, or_less, held_or)) or_small,
      and_or_apart unheld (bit_and held.or entry.and) entry.or or_free ∙ none,
    )

pub own_is_relation : (framed : Bool) (place unheld : ℕ) (entry : Option Entry)
    → IsRelation true (Some (record { place = place; and = 0; or = 0 })) → IsOwnRelation framed place unheld entry
    → IsRelation framed entry
own_is_relation framed place unheld None named form = no_relation framed
own_is_relation false place unheld (Some entry) named form = form
own_is_relation true place unheld (Some entry) named (own, and_small, and_free, or_small, or_free) =
    ((subst (λ p. IsRelation true (Some (record { place = p; and = 0; or = 0 }))) (sym own) named).0, and_small, or_small)

own_masked_by : (laws : KnownLaws) (framed : Bool) (place unheld : ℕ) (entry : Entry) (held : Byte)
    → IsOwnRelation true place unheld (Some entry) → IsOwnByte framed place unheld held
    → IsOwnByte framed place unheld (masked_by entry held)
own_masked_by laws framed place unheld entry held masks form =
    let (named, and_small, and_free, or_small, or_free) = masks in
    behind_masks (IsOwnByte framed place unheld) entry held and_small or_small (λ whole. form) record {
      normal = masked_normal laws entry held and_small or_small form.normal;
      entry = own_masked framed place unheld entry held.entry masks form.entry;
    }

own_by_form : (laws : KnownLaws) (framed : Bool) (place unheld : ℕ) (places : ℕ → Byte) (exit : Byte) (entry : Option Entry)
    → exit.entry ≡ entry → IsOwnByte framed place unheld (places place)
    → IsOwnRelation true place unheld entry → IsNormal 256 exit.set → IsOwnByte framed place unheld (resumed_by places exit entry)
own_by_form laws framed place unheld places exit None is held masks normal =
    record { normal = normal; entry = subst (IsOwnRelation framed place unheld) (sym is) (no_own_relation framed place unheld) }
own_by_form laws framed place unheld places exit (Some entry) is held masks normal =
    own_masked_by laws framed place unheld entry (places entry.place) masks (subst (λ p. IsOwnByte framed place unheld (places p)) (sym masks.0) held)

pub own_form : (laws : KnownLaws) (framed : Bool) (place unheld : ℕ) (places : ℕ → Byte) (exit : Byte)
    → IsOwnByte framed place unheld (places place) → IsOwnByte true place unheld exit
    → IsOwnByte framed place unheld (resumed_byte places exit)
own_form laws framed place unheld places exit held form = own_by_form laws framed place unheld places exit exit.entry refl held form.entry form.normal
