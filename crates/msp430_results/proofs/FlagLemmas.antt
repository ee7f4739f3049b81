-- Flags that a set shows, and flags in which all combinations agree.
use Rattle.std.proofs.Common.{◌≡◌, ℕ, zero, suc, ◌+◌, ◌/◌, ◌%◌, ◌^◌, ◌<◌, ◌==◌, Bool, true, false, not, List, [], ◌∷◌, length, refl, sym, ap, ◌∙◌, inl, inr, subst, arith}
use Rattle.std.specs.Prelude.{nat_le}
use Rattle.std.specs.List.{Contains, list_any}
use Rattle.std.proofs.lemmas.Bool.{cases_Bool, cond_both, eq-eqb, eqb-true, ne_eqb, le-leb, lt-leb}
use Rattle.std.proofs.lemmas.Nat.{shr-shr}
use Rattle.value_set.specs.declared.form.Form.{Form}
use Rattle.value_set.specs.Form.{Has, IsNormal, members}
use Rattle.value_set.specs.Joining.{is_in}
use Rattle.value_set.specs.Summing.{count_of}
use Rattle.value_bits.specs.declared.tri.Tri.{Tri}
use Rattle.value_bits.specs.declared.tri.Tri.TheVariants.{Zero, One, Either}
use Rattle.value_bits.specs.Bits.{IsBit, Agrees, known_bits, tri_not}
use Rattle.value_bits.specs.declared.all_flags.FourKnown.{FourKnown}
use Rattle.value_bits.specs.AllFlags.{Place, known_at}
use Rattle.value_bits.specs.AllFlags.Place.{First, Second, Third, Fourth}
use Rattle.value_bits.specs.Flags.{IsFlag, agreed}
use Rattle.irq_frames.specs.KnownLaws.{KnownLaws}
use Rattle.msp430_decode.specs.declared.instr.Width.{Width}
use Rattle.msp430_decode.specs.declared.instr.Width.TheVariants.{Word, Byte}
use Rattle.msp430_chip.specs.declared.place.Flags.{Flags}
use Rattle.msp430_chip.specs.Arithmetic.{modulus, is_negative, flags_of}
use Rattle.msp430_results.specs.declared.flag_bits.FlagBits.{FlagBits}
use Rattle.msp430_results.specs.Rules.{flag_of}
use Rattle.msp430_results.specs.FlagSets.{AreFlags, last_or, negative_by, zero_of, negative_of, shown_flags, shown_logic, is_few, all_agree, flags_or, free_overflow, no_flags}

pub some_numbers : (width : Width) → 2 < modulus width
some_numbers Word = omega arith
some_numbers Byte = omega arith

-- Z AND N

alone : (xs : List ℕ) (v : ℕ) → length xs ≡ 1 → Contains xs v → list_any (λ x. x == 0) xs ≡ true → v ≡ 0
alone [] v one has any = absurd (omega arith)
alone (x ∷ y ∷ xs) v one has any = absurd (omega arith)
alone (x ∷ []) v one (suc k, short, is) any = absurd (omega (arith, short))
alone (x ∷ []) v one (zero, short, is) any =
    elim (cases_Bool (x == 0)) [
      | inl here ↦ sym is ∙ eqb-true x 0 here
      | inr other ↦ let none : false ≡ true = rw other at any in absurd (cc)
    ]

pub zero_holds : (laws : KnownLaws) (width : Width) (set : Form) (v : ℕ) → Has (modulus width) set v → IsFlag (zero_of width set) (v == 0)
zero_holds laws width set v has =
    let m = modulus width in
    elim (cases_Bool (is_in m set 0)) [
      | inl zero_in ↦
          rw zero_in (cond_both (count_of m set == 1) One Either (λ t. IsFlag t (v == 0))
          (λ one. eq-eqb v 0 (alone (members m set) v (eqb-true (count_of m set) 1 one) has zero_in)) (λ more. tt))
      | inr zero_out ↦
          rw zero_out (ne_eqb v 0 (λ none. let zero_in = laws.sets.member m 0 set (subst (Has m set) none has) in absurd (cc)))
    ]

last_is : (bit : Tri) (bits : List Tri) (v : ℕ) → Agrees (bit ∷ bits) v → IsBit (last_or bit bits) (v / 2 ^ length bits)
last_is bit [] v h =
    let whole : v % 2 ≡ v / 2 ^ 0 = omega (arith, h.1) in subst (IsBit bit) whole h.0
last_is bit (next ∷ bits) v h =
    let power : 1 + length bits ≡ suc (length bits) = omega arith in
    let place : v / 2 / 2 ^ length bits ≡ v / 2 ^ suc (length bits) = shr-shr v 1 (length bits) ∙ ap (λ n. v / 2 ^ n) power in
    subst (IsBit (last_or next bits)) place (last_is next bits (v / 2) h.1)

negative_bit : (bits : List Tri) (v n : ℕ) → length bits ≡ suc n → Agrees bits v → IsBit (negative_by bits) (v / 2 ^ n)
negative_bit [] v n long h = absurd (omega arith)
negative_bit (bit ∷ bits) v n long h =
    let same : length bits ≡ n = omega arith in subst (λ k. IsBit (last_or bit bits) (v / 2 ^ k)) same (last_is bit bits v h)

word_flag : (t : Tri) (v : ℕ) → v < 65536 → IsBit t (v / 32768) → IsFlag t (nat_le 32768 v)
word_flag Zero v small h = lt-leb 32768 v (omega (arith, h))
word_flag One v small h = le-leb 32768 v (omega (arith, h))
word_flag Either v small h = tt

byte_flag : (t : Tri) (v : ℕ) → v < 256 → IsBit t (v / 128) → IsFlag t (nat_le 128 v)
byte_flag Zero v small h = lt-leb 128 v (omega (arith, h))
byte_flag One v small h = le-leb 128 v (omega (arith, h))
byte_flag Either v small h = tt

pub negative_is : (laws : KnownLaws) (width : Width) (set : Form) (v : ℕ) → IsNormal (modulus width) set
    → Has (modulus width) set v → IsFlag (negative_of width set) (is_negative width v)
negative_is laws Word set v normal has =
    word_flag (negative_of Word set) v (laws.sets.below 65536 v set normal has)
    (negative_bit (known_bits 16 set) v 15 (laws.bits.known_long 16 set) (laws.bits.known 16 v set normal has))
negative_is laws Byte set v normal has =
    byte_flag (negative_of Byte set) v (laws.sets.below 256 v set normal has)
    (negative_bit (known_bits 8 set) v 7 (laws.bits.known_long 8 set) (laws.bits.known 8 v set normal has))

pub shown_hold : (laws : KnownLaws) (width : Width) (set : Form) (v : ℕ) (c o : Tri) (carry overflow : Bool)
    → IsNormal (modulus width) set → Has (modulus width) set v
    → IsFlag c carry → IsFlag o overflow → AreFlags (shown_flags width set c o) (flags_of width v carry overflow)
shown_hold laws width set v c o carry overflow normal has first last = record {
  carry = first;
  zero = zero_holds laws width set v has;
  negative = negative_is laws width set v normal has;
  overflow = last;
}

pub shown_logic_hold : (laws : KnownLaws) (width : Width) (set : Form) (v : ℕ) (o : Tri) (overflow : Bool)
    → IsNormal (modulus width) set → Has (modulus width) set v
    → IsFlag o overflow → AreFlags (shown_logic width set o) (flags_of width v (not (v == 0)) overflow)
shown_logic_hold laws width set v o overflow normal has last =
    shown_hold laws width set v (tri_not (zero_of width set)) o (not (v == 0)) overflow normal has
    (laws.bits.flag_not (zero_of width set) (v == 0) (zero_holds laws width set v has)) last

-- ALL COMBINATIONS

pub all_hold : (laws : KnownLaws) (m : ℕ) (flags : ℕ → ℕ → ℕ → Flags) (a b c : Form) (x y z : ℕ) → Has m a x → Has m b y
    → Has m c z → AreFlags (all_agree m flags a b c) (flags x y z)
all_hold laws m flags a b c x y z h k l = record {
  carry = laws.bits.flags m x y z (λ x y z. (flags x y z).carry) a b c h k l;
  zero = laws.bits.flags m x y z (λ x y z. (flags x y z).zero) a b c h k l;
  negative = laws.bits.flags m x y z (λ x y z. (flags x y z).negative) a b c h k l;
  overflow = laws.bits.flags m x y z (λ x y z. (flags x y z).overflow) a b c h k l;
}

-- flags that one walk tells
pub told : (m : ℕ) (flags : ℕ → ℕ → ℕ → Flags) (a b c : Form) (known : FourKnown)
    → ((place : Place) → known_at place known ≡ agreed m (λ x y z. flag_of place (flags x y z)) a b c)
    → ◌≡◌ {A = FlagBits} (record { carry = known.first; zero = known.second; negative = known.third; overflow = known.fourth }) (all_agree m flags a b c)
told m flags a b c known same =
    let carry : known.first ≡ agreed m (λ x y z. (flags x y z).carry) a b c = same First in
    let zero : known.second ≡ agreed m (λ x y z. (flags x y z).zero) a b c = same Second in
    let negative : known.third ≡ agreed m (λ x y z. (flags x y z).negative) a b c = same Third in
    let overflow : known.fourth ≡ agreed m (λ x y z. (flags x y z).overflow) a b c = same Fourth in
    rw (carry, zero, negative, overflow) refl

pub either_hold : (laws : KnownLaws) (m : ℕ) (flags : ℕ → ℕ → ℕ → Flags) (a b c : Form) (x y z : ℕ) (shown : FlagBits)
    → Has m a x → Has m b y → Has m c z
    → AreFlags shown (flags x y z) → AreFlags (flags_or m flags a b c shown) (flags x y z)
either_hold laws m flags a b c x y z shown h k l holds =
    cond_both (is_few m a b c) (all_agree m flags a b c) shown (λ bits. AreFlags bits (flags x y z)) (λ e. all_hold laws m flags a b c x y z h k l) (λ e. holds)

-- V is free: the other flags hold whatever it is
pub free_hold : (width : Width) (bits : FlagBits) (v : ℕ) (carry before overflow : Bool)
    → AreFlags bits (flags_of width v carry before) → AreFlags (free_overflow bits) (flags_of width v carry overflow)
free_hold width bits v carry before overflow h = record { carry = h.carry; zero = h.zero; negative = h.negative; overflow = tt }

pub none_hold : (flags : Flags) → AreFlags no_flags flags
none_hold flags = record { carry = tt; zero = tt; negative = tt; overflow = tt }
