-- Which interrupts come: each that the chip lets come is listed, at a stack pointer that is one of the listed ones.
use Rattle.std.proofs.Common.{◌≡◌, ℕ, ◌+◌, ◌/◌, ◌%◌, ◌<◌, ◌==◌, ◌||◌, Bool, true, false, Option, Some, None, List, [], ◌∷◌, length, refl, sym, ap, subst, inl, inr, arith, Contains}
use Rattle.std.specs.List.{flat_map, range_with_len, slice_index_or}
use Rattle.std.proofs.lemmas.Bool.{cases_Bool, cases_lt, cond-true, cond-false, or_left, or_right}
use Rattle.std.proofs.lemmas.List.{get_or_past}
use Rattle.std.proofs.lemmas.List.Elements.{All-get_or}
use Rattle.image.specs.Image.{byte_at, IsByte}
use Rattle.value_bits.specs.declared.tri.Tri.{Tri}
use Rattle.value_bits.specs.declared.tri.Tri.TheVariants.{Zero, One, Either}
use Rattle.value_bits.specs.Bits.{IsBit, Agrees}
use Rattle.value_bits.specs.Flags.{IsFlag}
use Rattle.value_set.specs.declared.form.Form.{Form}
use Rattle.value_set.specs.declared.form.Form.TheVariants.{Values, Run}
use Rattle.value_set.specs.Form.{Has}
use Rattle.value_set.specs.Summing.{single}
use Rattle.msp430_chip.specs.declared.device.Device.{Device}
use Rattle.msp430_chip.specs.declared.state.ChipState.{ChipState}
use Rattle.msp430_chip.specs.Interrupts.{coming, handler_of, may_come, vector_address}
use Rattle.msp430_chip.specs.State.{allows_interrupts, register_of, word_from}
use Rattle.msp430_state.specs.Forms.{AreEvenWords, IsEntrySp, IsEvenWord, IsFrame, IsKnown}
use Rattle.msp430_state.specs.Holding.{CameAt}
use Rattle.msp430_state.specs.Known.{Known}
use Rattle.msp430_alu.specs.Formats.{IsUnder}
use Rattle.msp430_alu.specs.Memory.{IsDevice}
use Rattle.msp430_entry.specs.declared.coming.Coming.{Coming}
use Rattle.msp430_entry.specs.Entry.{ComesSo, comings_at, comings_of, frame_of_coming, may_be_set, may_interrupt, vectors_of}
use Rattle.msp430_alu.specs.Laws.{MemoryLaws}
use Rattle.plain_lemmas.specs.Members.{in_none, in_first, in_map, from_map, in_flat_map, from_flat_map, in_one, from_filter, in_range}

-- WHERE INTERRUPTS ARE ALLOWED

bit_is_set : (t : Tri) (b : ℕ) → IsBit t b → (b == 1) ≡ true → may_be_set t ≡ true
bit_is_set Zero b is one = let no : (b == 1) ≡ false = ap (λ n. n == 1) is in absurd (cc)
bit_is_set One b is one = refl
bit_is_set Either b is one = refl

flag_is_set : (t : Tri) (flag : Bool) → IsFlag t flag → flag ≡ true → may_be_set t ≡ true
flag_is_set Zero flag is on = absurd (cc)
flag_is_set One flag is on = refl
flag_is_set Either flag is on = refl

pub bit_3 : (bits : List Tri) (v : ℕ) → Agrees bits v → IsBit (slice_index_or bits 3 Either) (v / 8 % 2)
bit_3 [] v agrees = omega arith
bit_3 (a ∷ []) v agrees = omega arith
bit_3 (a ∷ b ∷ []) v agrees = omega arith
bit_3 (a ∷ b ∷ c ∷ []) v agrees = omega arith
bit_3 (a ∷ b ∷ c ∷ d ∷ bits) v agrees = let e : v / 2 / 2 / 2 % 2 ≡ v / 8 % 2 = omega arith in subst (IsBit d) e agrees.1.1.1.0

allowed_or : (one other : Bool) → (one || other) ≡ true → (P : Type 0) → (one ≡ true → P) → (other ≡ true → P) → P
allowed_or true other e P here there = here refl
allowed_or false other e P here there = there e

may_interrupt_so : (device : Device) (framed : Bool) (a : Known) (s : ChipState) (first : Option ChipState)
    → IsUnder device framed a s first
    → (allows_interrupts s || s.late) ≡ true → may_interrupt a ≡ true
may_interrupt_so device framed a s first under e =
    let gie = slice_index_or a.status.bits 3 Either in
    allowed_or (allows_interrupts s) s.late e (may_interrupt a ≡ true)
    (λ on. or_left (may_be_set gie) (may_be_set a.late) (bit_is_set gie (register_of s 2 / 8 % 2) (bit_3 a.status.bits (register_of s 2) under.holds.parts.status.bits) on))
    (λ on. or_right (may_be_set gie) (may_be_set a.late) (flag_is_set a.late s.late under.holds.late on))

record Allowed (device : Device) (s : ChipState) (vector : ℕ) : Type 0 where
  pub allowed : (allows_interrupts s || s.late) ≡ true
  pub vector_so : Contains (vectors_of device) vector

coming_is : (device : Device) (s : ChipState) (vector : ℕ) → Contains (coming device s) vector → Allowed device s vector
unfolding coming
coming_is device s vector h = elim (cases_Bool (allows_interrupts s || s.late)) [
  | inl on ↦ record { allowed = on; vector_so = rw on at h }
  | inr off ↦ absurd (in_none vector (rw off at h))
]

-- WHICH COME

comings_listed : (device : Device) (a : Known) → may_interrupt a ≡ true
    → comings_of device a ≡ flat_map (comings_at a.sp) (vectors_of device)
unfolding comings_of
comings_listed device a on = cond-true (may_interrupt a) (flat_map (comings_at a.sp) (vectors_of device)) [] on

none_listed : (device : Device) (a : Known) → may_interrupt a ≡ false → comings_of device a ≡ []
unfolding comings_of
none_listed device a off = cond-false (may_interrupt a) (flat_map (comings_at a.sp) (vectors_of device)) [] off

-- one of a vector's that comes in a single state
record ComesAt (sp : Form) (vector : ℕ) (s : ChipState) : Type 0 where
  pub coming_so : Coming
  pub vector_is : coming_so.vector ≡ vector
  pub listed : Contains (comings_at sp vector) coming_so
  pub at : Has 65536 coming_so.sp (register_of s 1)
  pub came : CameAt coming_so.known_sp s

comes_at : (sp : Form) (vector : ℕ) (s : ChipState) → Has 65536 sp (register_of s 1) → ComesAt sp vector s
comes_at (Values sps) vector s has =
    let at = register_of s 1 in
    record {
      coming_so = record { vector = vector; known_sp = Some at; sp = single at };
      vector_is = refl;
      listed = in_map (λ (sp : ℕ). let one : Coming = record { vector = vector; known_sp = Some sp; sp = single sp } in one) sps at has;
      at = in_first at [];
      came = refl;
    }
comes_at (Run p) vector s has = let one : Coming = record { vector = vector; known_sp = None; sp = Run p } in
    record { coming_so = one; vector_is = refl; listed = in_first one []; at = has; came = tt }

pub comes : (device : Device) (framed : Bool) (a : Known) (s : ChipState) (first : Option ChipState) (vector : ℕ)
    → IsUnder device framed a s first → Contains (coming device s) vector
    → (coming_so : Coming) × (coming_so.vector ≡ vector) × ComesSo device a s coming_so
comes device framed a s first vector under h =
    let is = coming_is device s vector h in
    let found = comes_at a.sp vector s under.holds.parts.sp in
    let listed = in_flat_map (comings_at a.sp) (vectors_of device) vector found.coming_so is.vector_so found.listed in (
      found.coming_so,
      found.vector_is,
      record {
        listed = subst (λ list. Contains list found.coming_so) (sym (comings_listed device a (may_interrupt_so device framed a s first under is.allowed))) listed;
        at = found.at;
        came = found.came;
      },
    )

-- WHAT IS LISTED

record IsOneOf (vector : ℕ) (coming_so : Coming) : Type 0 where
  pub vector_is : coming_so.vector ≡ vector
  pub words : AreEvenWords coming_so.sp
  pub entry : IsEntrySp coming_so.known_sp

one_of : (laws : MemoryLaws) (sp : Form) (vector : ℕ) (coming_so : Coming) → AreEvenWords sp
    → Contains (comings_at sp vector) coming_so → IsOneOf vector coming_so
one_of laws (Values sps) vector coming_so words h =
    let made : ℕ → Coming = λ sp. record { vector = vector; known_sp = Some sp; sp = single sp } in
    let found = from_map made sps coming_so h in
    let below = laws.known.sets.below 65536 found.0 (Values sps) words.normal found.1 in
    let even_so = words.even found.0 found.1 in
    let one : IsOneOf vector (made found.0) = record {
      vector_is = refl;
      words = record { normal = (laws.known.sets.single 65536 found.0 below).0; even = λ v has. subst (λ n. n % 2 ≡ 0) (in_one found.0 v has) even_so };
      entry = (below, even_so);
    } in
    subst (IsOneOf vector) found.2 one
one_of laws (Run p) vector coming_so words h =
    let one : Coming = record { vector = vector; known_sp = None; sp = Run p } in
    let is : IsOneOf vector one = record { vector_is = refl; words = words; entry = tt } in
    subst (IsOneOf vector) (in_one one coming_so h) is

-- a listed interrupt: its vector, and where SP is
pub record IsListed (device : Device) (coming_so : Coming) : Type 0 where
  pub below : coming_so.vector < 14
  pub may : may_come device coming_so.vector ≡ true
  pub words : AreEvenWords coming_so.sp
  pub entry : IsEntrySp coming_so.known_sp

pub is_listed : (laws : MemoryLaws) (device : Device) (framed : Bool) (a : Known) (coming_so : Coming)
    → IsKnown device.ram.lo device.ram.hi framed a → Contains (comings_of device a) coming_so
    → IsListed device coming_so
is_listed laws device framed a coming_so form h = elim (cases_Bool (may_interrupt a)) [
  | inr off ↦ absurd (in_none coming_so (subst (λ list. Contains list coming_so) (none_listed device a off) h))
  | inl on ↦
      let found = from_flat_map (comings_at a.sp) (vectors_of device) coming_so (subst (λ list. Contains list coming_so) (comings_listed device a on) h) in
      let passes = from_filter (λ vector. may_come device vector) (range_with_len 0 14) found.0 found.1 in
      let one = one_of laws a.sp found.0 coming_so form.sp found.2 in
      record {
        below = subst (λ n. n < 14) (sym one.vector_is) (in_range 14 found.0 passes.there);
        may = subst (λ n. may_come device n ≡ true) (sym one.vector_is) passes.passes;
        words = one.words;
        entry = one.entry;
      }
]

pub frame_so : (laws : MemoryLaws) (device : Device) (framed : Bool) (a : Known) (coming_so : Coming)
    → IsKnown device.ram.lo device.ram.hi framed a → Contains (comings_of device a) coming_so
    → IsFrame (frame_of_coming coming_so) × (may_come device coming_so.vector ≡ true)
frame_so laws device framed a coming_so form h = let is = is_listed laws device framed a coming_so form h in ((is.below, is.entry, refl), is.may)

-- whatever is known, a listed interrupt is one of the fourteen
vector_of : (sp : Form) (vector : ℕ) (coming_so : Coming) → Contains (comings_at sp vector) coming_so → coming_so.vector ≡ vector
vector_of (Values sps) vector coming_so h =
    let made : ℕ → Coming = λ sp. record { vector = vector; known_sp = Some sp; sp = single sp } in
    let found = from_map made sps coming_so h in
    ap (λ (one : Coming). one.vector) (sym found.2)
vector_of (Run p) vector coming_so h =
    let one : Coming = record { vector = vector; known_sp = None; sp = Run p } in
    ap (λ (c : Coming). c.vector) (sym (in_one one coming_so h))

pub vector_below : (device : Device) (a : Known) (coming_so : Coming) → Contains (comings_of device a) coming_so → coming_so.vector < 14
vector_below device a coming_so h = elim (cases_Bool (may_interrupt a)) [
  | inr off ↦ absurd (in_none coming_so (subst (λ list. Contains list coming_so) (none_listed device a off) h))
  | inl on ↦
      let found = from_flat_map (comings_at a.sp) (vectors_of device) coming_so (subst (λ list. Contains list coming_so) (comings_listed device a on) h) in
      let passes = from_filter (λ vector. may_come device vector) (range_with_len 0 14) found.0 found.1 in
      subst (λ n. n < 14) (sym (vector_of a.sp found.0 coming_so found.2)) (in_range 14 found.0 passes.there)
]

-- HANDLERS

byte_small : (device : Device) → IsDevice device → (at byte : ℕ) → byte_at device.image at ≡ Some byte → byte < 256
byte_small device is at byte e = elim (cases_lt at (length device.image)) [
  | inr past ↦ let none : byte_at device.image at ≡ None = get_or_past device.image at None past in absurd (cc)
  | inl inside ↦ subst IsByte e (All-get_or IsByte device.image at None inside is.bytes)
]

word_small : (low high : Option ℕ) → ((byte : ℕ) → low ≡ Some byte → byte < 256)
    → ((byte : ℕ) → high ≡ Some byte → byte < 256) → word_from low high < 65536
word_small None high h k = omega arith
word_small (Some low) None h k = omega arith
word_small (Some low) (Some high) h k = let one = h low refl in let other = k high refl in omega (arith, one, other)

pub handler_even : (device : Device) (vector : ℕ) → IsDevice device → IsEvenWord (handler_of device vector)
handler_even device vector is =
    let at = vector_address vector in
    let small = word_small (byte_at device.image at) (byte_at device.image (at + 1)) (byte_small device is at) (byte_small device is (at + 1)) in
    (omega (arith, small), omega arith)
