-- Words and bytes: a set, and perhaps the relation to a place of the state that an interrupt suspended.
use Rattle.std.specs.Prelude.{◌≡◌, ℕ, ◌^◌, ◌<◌, ◌≤◌, ◌==◌, ◌||◌, Bool, true, false, Option, None, Some, is_none, List}
use Rattle.std.proofs.Common.{refl, arith}
use Rattle.std.proofs.lemmas.Bool.{false≢true}
use Rattle.value_set.specs.Form.{IsNormal}
use Rattle.value_set.specs.declared.form.Form.{Form}
use Rattle.entry_value.specs.declared.word.Entry.{Entry}
use Rattle.entry_value.specs.declared.word.Word.{Word}
use Rattle.entry_value.specs.declared.byte.Byte.{Byte}
use Rattle.plain_lemmas.specs.Cases.{neither}
use Rattle.text_fields.specs.Spelling.{Spelling, IsExact, Avoids}
use Rattle.text_fields.specs.Numbers.{is_digit, hex_number, hex_number_is_exact, number_avoids}
use Rattle.text_fields.specs.Fields.{IfForm, passing, passing_is_exact, passing_avoids, beside, beside_is_exact, beside_avoids, with_tail, with_tail_is_exact, with_tail_avoids, told_by, told_by_is_exact, told_by_avoids, restated, restated_is_exact, restated_avoids}
use Rattle.text_fields.specs.Items.{IsItem, passing_item}
use Rattle.value_bits.specs.declared.tri.Tri.{Tri}
use Rattle.value_text.specs.Sets.{set_field, set_is_exact, set_avoids, is_set_byte}

-- RELATIONS

abbrev pub entry_of : ℕ × (ℕ × ℕ) → Entry
entry_of numbers = record { place = numbers.0; and = numbers.1.0; or = numbers.1.1 }

abbrev pub numbers_of : Entry → ℕ × (ℕ × ℕ)
numbers_of entry = (entry.place, (entry.and, entry.or))

-- a place, the mask of the AND and that of the OR, of so many digits
abbrev pub relation_field : (digits : ℕ) → Spelling ℕ → Spelling Entry
relation_field digits place = told_by (beside 38 place (beside 124 (hex_number digits) (hex_number digits))) entry_of numbers_of

-- a relation names a place, by masks of so many digits; there is none outside of an interrupt's frame
abbrev pub HasRelation : (digits : ℕ) → (IsPlace : ℕ → Type 0) → (framed : Bool) → Option Entry → Type 0
HasRelation digits IsPlace framed None = Unit {0}
HasRelation digits IsPlace false (Some entry) = ⊥
HasRelation digits IsPlace true (Some entry) = IsPlace entry.place × (entry.and < 16 ^ digits) × (entry.or < 16 ^ digits)

-- VALUES

-- a set, and perhaps a relation where the frame is one of an interrupt
abbrev pub remembering : (width digits : ℕ) → Spelling ℕ → (framed : Bool) → Spelling (Form × Option Entry)
remembering width digits place framed =
    passing (with_tail 64 (set_field width) (relation_field digits place)) (λ parts. framed || is_none parts.1)

abbrev pub IsValueIn : (m digits : ℕ) → (IsPlace : ℕ → Type 0) → (framed : Bool) → Form × Option Entry → Type 0
IsValueIn m digits IsPlace framed parts = IsNormal m parts.0 × HasRelation digits IsPlace framed parts.1

-- a value of a set below m, which has so many digits, and perhaps a relation
abbrev pub value_field : {A : Type 0} → (width m digits : ℕ) → Spelling ℕ → (framed : Bool) → (Form × Option Entry → A)
    → (A → Form × Option Entry) → Spelling A
value_field width m digits place framed to from =
    restated (told_by (remembering width digits place framed) to from) (λ a. IsValueIn m digits place.Form framed (from a))

abbrev pub word_of : Form × Option Entry → Word
word_of parts = record { set = parts.0; entry = parts.1 }

abbrev pub word_parts : Word → Form × Option Entry
word_parts word = (word.set, word.entry)

abbrev pub word_field : (digits : ℕ) → Spelling ℕ → (framed : Bool) → Spelling Word
word_field digits place framed = value_field 4 65536 digits place framed word_of word_parts

abbrev pub byte_of : Form × Option Entry → Byte
byte_of parts = record { set = parts.0; entry = parts.1 }

abbrev pub byte_parts : Byte → Form × Option Entry
byte_parts byte = (byte.set, byte.entry)

abbrev pub byte_field : (digits : ℕ) → Spelling ℕ → (framed : Bool) → Spelling Byte
byte_field digits place framed = value_field 2 256 digits place framed byte_of byte_parts

-- the text of a word, and of a byte, whatever the frame
abbrev pub word_text : (digits : ℕ) → Spelling ℕ → Word → List ℕ
word_text digits place = (word_field digits place true).text

abbrev pub byte_text : (digits : ℕ) → Spelling ℕ → Byte → List ℕ
byte_text digits place = (byte_field digits place true).text

-- a relation has an at sign, an ampersand and a bar beside the bytes of its place
abbrev pub is_word_byte : ℕ → Bool
is_word_byte at = is_set_byte at || (64 == at) || (38 == at) || (124 == at)

-- LAWS

pub relation_is_exact : (digits : ℕ) (place : Spelling ℕ) → IsExact place → Avoids place 38 → IsExact (relation_field digits place)
relation_is_exact digits place h apart =
    let masks = beside_is_exact 124 (hex_number digits) (hex_number digits) (hex_number_is_exact digits) (hex_number_is_exact digits)
    (number_avoids digits 124 refl) in
    told_by_is_exact (beside 38 place (beside 124 (hex_number digits) (hex_number digits))) entry_of numbers_of
    (beside_is_exact 38 place (beside 124 (hex_number digits) (hex_number digits)) h masks apart) (λ numbers form. refl)

pub relation_avoids : (digits : ℕ) (place : Spelling ℕ) (at : ℕ) → is_digit at ≡ false → (38 == at) ≡ false
    → (124 == at) ≡ false → Avoids place at
    → Avoids (relation_field digits place) at
relation_avoids digits place at no_digit no_and no_bar apart =
    told_by_avoids (beside 38 place (beside 124 (hex_number digits) (hex_number digits))) entry_of numbers_of at
    (beside_avoids 38 at place (beside 124 (hex_number digits) (hex_number digits)) no_and apart
    (beside_avoids 124 at (hex_number digits) (hex_number digits) no_bar (number_avoids digits at no_digit) (number_avoids digits at no_digit)))

remembering_is_exact : (width digits : ℕ) (place : Spelling ℕ) (framed : Bool) → 2 ≤ width → IsExact place → Avoids place 38
    → IsExact (remembering width digits place framed)
remembering_is_exact width digits place framed two h apart =
    passing_is_exact (with_tail 64 (set_field width) (relation_field digits place)) (λ parts. framed || is_none parts.1)
    (with_tail_is_exact 64 (set_field width) (relation_field digits place) (set_is_exact width two) (relation_is_exact digits place h apart)
    (set_avoids width 64 two refl))

pub word_byte_parts : (at : ℕ) → is_word_byte at ≡ false
    → (is_set_byte at ≡ false) × ((64 == at) ≡ false) × ((38 == at) ≡ false) × ((124 == at) ≡ false)
word_byte_parts at none =
    let last = neither (is_set_byte at || (64 == at) || (38 == at)) (124 == at) none in
    let third = neither (is_set_byte at || (64 == at)) (38 == at) last.0 in
    let first = neither (is_set_byte at) (64 == at) third.0 in
    (first.0, first.1, third.1, last.1)

pub no_digits : (at : ℕ) → is_set_byte at ≡ false → is_digit at ≡ false
no_digits at none = (neither (is_digit at) (42 == at)
    (neither (is_digit at || (42 == at)) (44 == at) (neither (is_digit at || (42 == at) || (44 == at)) (47 == at) none).0).0).0

remembering_avoids : (width digits : ℕ) (place : Spelling ℕ) (framed : Bool) (at : ℕ) → 2 ≤ width
    → is_word_byte at ≡ false → Avoids place at
    → Avoids (remembering width digits place framed) at
remembering_avoids width digits place framed at two none apart =
    let parts = word_byte_parts at none in
    passing_avoids (with_tail 64 (set_field width) (relation_field digits place)) (λ parts. framed || is_none parts.1) at
    (with_tail_avoids 64 at (set_field width) (relation_field digits place) parts.1 (set_avoids width at two parts.0)
    (relation_avoids digits place at (no_digits at parts.0) parts.2 parts.3 apart))

-- the test of the frame says that the relation is one of it
pub frame_back : (width digits : ℕ) (place : Spelling ℕ) (framed : Bool) (entry : Option Entry) → HasRelation digits place.Form framed entry
    → IfForm (relation_field digits place).Form entry × ((framed || is_none entry) ≡ true)
frame_back width digits place false None form = (tt, refl)
frame_back width digits place true None form = (tt, refl)
frame_back width digits place false (Some entry) form = absurd form
frame_back width digits place true (Some entry) form = (((form.0, (form.1, form.2)), refl), refl)

pub frame_only : (width digits : ℕ) (place : Spelling ℕ) (framed : Bool) (entry : Option Entry)
    → IfForm (relation_field digits place).Form entry
    → (framed || is_none entry) ≡ true
    → HasRelation digits place.Form framed entry
frame_only width digits place framed None form test = tt
frame_only width digits place false (Some entry) form test = absurd (false≢true test)
frame_only width digits place true (Some entry) form test = (form.0.0, form.0.1.0, form.0.1.1)

-- a value is made of its parts, which are those of the value again
module _ {A : Type 0} (width digits : ℕ) (place : Spelling ℕ) (framed : Bool) (to : Form × Option Entry → A)
    (from : A → Form × Option Entry) (again : (a : A) → to (from a) ≡ a) where
  value_narrow : (a : A) → IsValueIn (16 ^ width) digits place.Form framed (from a)
      → (told_by (remembering width digits place framed) to from).Form a
  value_narrow a form = let back = frame_back width digits place framed (from a).1 form.1 in (((form.0, back.0), back.1), again a)

  value_wide : (a : A) → (told_by (remembering width digits place framed) to from).Form a
      → IsValueIn (16 ^ width) digits place.Form framed (from a)
  value_wide a form = (form.0.0.0, frame_only width digits place framed (from a).1 form.0.0.1 form.0.1)

  value_is_exact : ((parts : Form × Option Entry) → from (to parts) ≡ parts) → 2 ≤ width → IsExact place → Avoids place 38
      → IsExact (value_field width (16 ^ width) digits place framed to from)
  value_is_exact same two h apart =
      restated_is_exact (told_by (remembering width digits place framed) to from) (λ a. IsValueIn (16 ^ width) digits place.Form framed (from a))
      (told_by_is_exact (remembering width digits place framed) to from (remembering_is_exact width digits place framed two h apart) (λ parts form. same parts))
      value_narrow value_wide

  value_avoids : (at : ℕ) → 2 ≤ width → is_word_byte at ≡ false → Avoids place at
      → Avoids (value_field width (16 ^ width) digits place framed to from) at
  value_avoids at two none apart =
      restated_avoids (told_by (remembering width digits place framed) to from) (λ a. IsValueIn (16 ^ width) digits place.Form framed (from a)) at value_narrow
      (told_by_avoids (remembering width digits place framed) to from at (remembering_avoids width digits place framed at two none apart))

pub word_is_exact : (digits : ℕ) (place : Spelling ℕ) (framed : Bool) → IsExact place → Avoids place 38
    → IsExact (word_field digits place framed)
word_is_exact digits place framed h apart =
    value_is_exact 4 digits place framed word_of word_parts (λ word. refl) (λ parts. refl) (omega arith) h apart

pub word_avoids : (digits : ℕ) (place : Spelling ℕ) (framed : Bool) (at : ℕ) → is_word_byte at ≡ false → Avoids place at
    → Avoids (word_field digits place framed) at
word_avoids digits place framed at none apart =
    value_avoids 4 digits place framed word_of word_parts (λ word. refl) at (omega arith) none apart

-- AS ITEMS OF A LINE

-- the names of places, of which none has an ampersand or a semicolon
pub record ArePlaces (place : Spelling ℕ) : Type 0 where
  pub exact : IsExact place
  pub apart : Avoids place 38
  pub parted : Avoids place 59
  pub no_space : Avoids place 32
  pub no_feed : Avoids place 10

pub relation_item : (digits : ℕ) (place : Spelling ℕ) → ArePlaces place → IsItem (relation_field digits place)
relation_item digits place places = record {
  exact = relation_is_exact digits place places.exact places.apart;
  no_space = relation_avoids digits place 32 refl refl refl places.no_space;
  no_feed = relation_avoids digits place 10 refl refl refl places.no_feed;
}

value_item : {A : Type 0} (width digits : ℕ) (place : Spelling ℕ) (framed : Bool) (to : Form × Option Entry → A) (from : A → Form × Option Entry)
    → ((a : A) → to (from a) ≡ a) → ((parts : Form × Option Entry) → from (to parts) ≡ parts) → 2 ≤ width → ArePlaces place
    → IsItem (value_field width (16 ^ width) digits place framed to from)
value_item width digits place framed to from again same two places = record {
  exact = value_is_exact width digits place framed to from again same two places.exact places.apart;
  no_space = value_avoids width digits place framed to from again 32 two refl places.no_space;
  no_feed = value_avoids width digits place framed to from again 10 two refl places.no_feed;
}

pub word_item : (digits : ℕ) (place : Spelling ℕ) (framed : Bool) → ArePlaces place → IsItem (word_field digits place framed)
word_item digits place framed places =
    value_item 4 digits place framed word_of word_parts (λ word. refl) (λ parts. refl) (omega arith) places

pub byte_item : (digits : ℕ) (place : Spelling ℕ) (framed : Bool) → ArePlaces place → IsItem (byte_field digits place framed)
byte_item digits place framed places =
    value_item 2 digits place framed byte_of byte_parts (λ byte. refl) (λ parts. refl) (omega arith) places

-- bits, and perhaps a relation that passes a test
abbrev pub bits_related : (digits : ℕ) → Spelling ℕ → Spelling (List Tri) → (Option Entry → Bool) → Spelling (List Tri × Option Entry)
bits_related digits place bits test = passing (with_tail 64 bits (relation_field digits place)) (λ parts. test parts.1)

pub bits_related_item : (digits : ℕ) (place : Spelling ℕ) (bits : Spelling (List Tri)) (test : Option Entry → Bool)
    → ArePlaces place → IsItem bits
    → Avoids bits 64 → IsItem (bits_related digits place bits test)
bits_related_item digits place bits test places item apart =
    let relation = relation_item digits place places in
    passing_item (λ parts. test parts.1) (record {
      exact = with_tail_is_exact 64 bits (relation_field digits place) item.exact relation.exact apart;
      no_space = with_tail_avoids 64 32 bits (relation_field digits place) refl item.no_space relation.no_space;
      no_feed = with_tail_avoids 64 10 bits (relation_field digits place) refl item.no_feed relation.no_feed;
    })
