-- Differences of numbers that are all negative, or none of which is: V is clear, and N is the opposite of C.
use Rattle.std.proofs.Common.{◌≡◌, ℕ, ◌+◌, ◌-◌, ◌*◌, ◌%◌, ◌<◌, ◌≤◌, ◌==◌, Bool, true, false, not, refl, sym, ap, ◌∙◌, subst, inl, inr, arith}
use Rattle.std.specs.Prelude.{nat_le}
use Rattle.std.proofs.Math.Nat.{add-mod_right, mod-eq_of_lt}
use Rattle.std.proofs.lemmas.Bool.{cases_Bool, eq-eqb, eqb-true, eqb-false, le-leb, leb-true, leb-false, lt-leb, ne_eqb}
use Rattle.value_set.specs.declared.form.Form.{Form}
use Rattle.value_set.specs.Form.{Has, IsNormal}
use Rattle.value_set.specs.Summing.{count_of, single}
use Rattle.value_bits.specs.declared.tri.Tri.{Tri}
use Rattle.value_bits.specs.declared.tri.Tri.TheVariants.{Zero, One, Either}
use Rattle.value_bits.specs.Bits.{tri_not}
use Rattle.value_bits.specs.Flags.{IsFlag, agreed}
use Rattle.irq_frames.specs.KnownLaws.{KnownLaws}
use Rattle.msp430_decode.specs.declared.instr.Width.{Width}
use Rattle.msp430_decode.specs.declared.instr.Width.TheVariants.{Word, Byte}
use Rattle.msp430_chip.specs.declared.place.Flags.{Flags}
use Rattle.msp430_chip.specs.Arithmetic.{modulus, complement, is_negative, overflows, sum}
use Rattle.msp430_results.specs.declared.flag_bits.FlagBits.{FlagBits}
use Rattle.msp430_results.specs.declared.flags.FlagRule.TheVariants.{Difference}
use Rattle.msp430_results.specs.FlagSets.{all_agree, compared, is_few, is_one_sign}
use Rattle.msp430_results.specs.Rules.{flags_by}
use Rattle.msp430_results.proofs.FlagLemmas.{some_numbers}

-- FLAGS THAT ARE TOLD BY OTHERS

-- sets with at most 256 combinations
pub record AreFew (m : ℕ) (a b c : Form) : Type 0 where
  pub first : IsNormal m a
  pub second : IsNormal m b
  pub carry : IsNormal m c
  pub few : count_of m a * (count_of m b * count_of m c) ≤ 256

-- what holds of each combination
abbrev Each : (m : ℕ) → (a b c : Form) → (ℕ → ℕ → ℕ → Type 0) → Type 0
Each m a b c P = (x y z : ℕ) → Has m a x → Has m b y → Has m c z → P x y z

turned : (x y value : Bool) → x ≡ not y → x ≡ value → y ≡ not value
turned x true value e is = ap not (sym e ∙ is)
turned x false value e is = ap not (sym e ∙ is)

module _ (laws : KnownLaws) (m : ℕ) (a b c : Form) (sets : AreFew m a b c) where
  all_set : (flag : ℕ → ℕ → ℕ → Bool) → agreed m flag a b c ≡ One → Each m a b c (λ x y z. flag x y z ≡ true)
  all_set flag is x y z h k l = subst (λ t. IsFlag t (flag x y z)) is (laws.bits.flags m x y z flag a b c h k l)

  all_clear : (flag : ℕ → ℕ → ℕ → Bool) → agreed m flag a b c ≡ Zero → Each m a b c (λ x y z. flag x y z ≡ false)
  all_clear flag is x y z h k l = subst (λ t. IsFlag t (flag x y z)) is (laws.bits.flags m x y z flag a b c h k l)

  set : (flag : ℕ → ℕ → ℕ → Bool) → Each m a b c (λ x y z. flag x y z ≡ true) → agreed m flag a b c ≡ One
  set flag all = laws.bits.flags_set m flag a b c sets.few all

  clear : (flag : ℕ → ℕ → ℕ → Bool) → Each m a b c (λ x y z. flag x y z ≡ false) → agreed m flag a b c ≡ Zero
  clear flag all = laws.bits.flags_clear m flag a b c sets.first sets.second sets.carry sets.few all

  -- one flag is the other one for each combination, or its opposite
  same_by : (f g : ℕ → ℕ → ℕ → Bool) → Each m a b c (λ x y z. f x y z ≡ g x y z)
      → (s t : Tri) → agreed m f a b c ≡ s → agreed m g a b c ≡ t → s ≡ t
  same_by f g same One t is other = sym (set g (λ x y z h k l. sym (same x y z h k l) ∙ all_set f is x y z h k l)) ∙ other
  same_by f g same Zero t is other = sym (clear g (λ x y z h k l. sym (same x y z h k l) ∙ all_clear f is x y z h k l)) ∙ other
  same_by f g same Either One is other = sym is ∙ set f (λ x y z h k l. same x y z h k l ∙ all_set g other x y z h k l)
  same_by f g same Either Zero is other = sym is ∙ clear f (λ x y z h k l. same x y z h k l ∙ all_clear g other x y z h k l)
  same_by f g same Either Either is other = refl

  pub same : (f g : ℕ → ℕ → ℕ → Bool) → Each m a b c (λ x y z. f x y z ≡ g x y z) → agreed m f a b c ≡ agreed m g a b c
  same f g each = same_by f g each (agreed m f a b c) (agreed m g a b c) refl refl

  opposite_by : (f g : ℕ → ℕ → ℕ → Bool) → Each m a b c (λ x y z. f x y z ≡ not (g x y z))
      → (s t : Tri) → agreed m f a b c ≡ s → agreed m g a b c ≡ t → s ≡ tri_not t
  opposite_by f g each s One is other = sym is ∙ clear f (λ x y z h k l. each x y z h k l ∙ ap not (all_set g other x y z h k l))
  opposite_by f g each s Zero is other = sym is ∙ set f (λ x y z h k l. each x y z h k l ∙ ap not (all_clear g other x y z h k l))
  opposite_by f g each One Either is other =
      let clears : agreed m g a b c ≡ Zero =
      clear g (λ x y z h k l. turned (f x y z) (g x y z) true (each x y z h k l) (all_set f is x y z h k l)) in absurd (cc)
  opposite_by f g each Zero Either is other =
      let sets_it : agreed m g a b c ≡ One =
      set g (λ x y z h k l. turned (f x y z) (g x y z) false (each x y z h k l) (all_clear f is x y z h k l)) in absurd (cc)
  opposite_by f g each Either Either is other = refl

  pub opposite : (f g : ℕ → ℕ → ℕ → Bool) → Each m a b c (λ x y z. f x y z ≡ not (g x y z))
      → agreed m f a b c ≡ tri_not (agreed m g a b c)
  opposite f g each = opposite_by f g each (agreed m f a b c) (agreed m g a b c) refl refl

-- DIFFERENCES OF NUMBERS

carry_flag : (m x y : ℕ) → x < m → y < m → nat_le m (x + (m - 1 - y) + 1) ≡ nat_le y x
carry_flag m x y h k = elim (cases_Bool (nat_le y x)) [
  | inl is ↦ let le = leb-true y x is in le-leb m (x + (m - 1 - y) + 1) (omega (arith, h, k, le)) ∙ sym is
  | inr is ↦ let less = leb-false y x is in lt-leb m (x + (m - 1 - y) + 1) (omega (arith, h, k, less)) ∙ sym is
]

difference : (m x y : ℕ) → x < m → y < m → y ≤ x → (x + (m - 1 - y) + 1) % m ≡ x - y
difference m x y h k le =
    let whole : x + (m - 1 - y) + 1 ≡ x - y + m = omega (arith, k, le) in
    ap (λ n. n % m) whole ∙ add-mod_right (x - y) m ∙ mod-eq_of_lt {n = x - y} {m = m} (omega (arith, h))

borrowed : (m x y : ℕ) → y < m → x < y → (x + (m - 1 - y) + 1) % m ≡ x + m - y
borrowed m x y k less = mod-eq_of_lt {n = x + (m - 1 - y) + 1} {m = m} (omega (arith, k, less)) ∙ omega (arith, k)

zero_flag : (m x y : ℕ) → x < m → y < m → ((x + (m - 1 - y) + 1) % m == 0) ≡ (x == y)
zero_flag m x y h k = elim (cases_Bool (nat_le y x)) [
  | inl is ↦
      let le = leb-true y x is in
      rw (difference m x y h k le) (elim (cases_Bool (x == y)) [
        | inl same ↦ let e = eqb-true x y same in eq-eqb (x - y) 0 (omega (arith, e)) ∙ sym same
        | inr other ↦ ne_eqb (x - y) 0 (λ none. eqb-false x y other (omega (arith, none, le))) ∙ sym other
      ])
  | inr is ↦
      let less = leb-false y x is in
      rw (borrowed m x y k less) (ne_eqb (x + m - y) 0 (λ none. omega (arith, none, k)) ∙ sym (ne_eqb x y (λ same. omega (arith, same, less))))
]

-- numbers nearer than a half
negative_flag : (m half x y : ℕ) → half + half ≡ m → x < m → y < m → x < y + half → y ≤ x + half
    → nat_le half ((x + (m - 1 - y) + 1) % m) ≡ not (nat_le y x)
negative_flag m half x y whole h k above below = elim (cases_Bool (nat_le y x)) [
  | inl is ↦ let le = leb-true y x is in rw (difference m x y h k le) (lt-leb half (x - y) (omega (arith, above)) ∙ sym (ap not is))
  | inr is ↦ let less = leb-false y x is in rw (borrowed m x y k less) (le-leb half (x + m - y) (omega (arith, below, whole, k)) ∙ sym (ap not is))
]

no_overflow : (s result : Bool) → overflows s (not s) result ≡ false
no_overflow true result = refl
no_overflow false result = refl

complement_sign : (m half y : ℕ) → half + half ≡ m → y < m → nat_le half (m - 1 - y) ≡ not (nat_le half y)
complement_sign m half y whole k = elim (cases_Bool (nat_le half y)) [
  | inl is ↦ let le = leb-true half y is in lt-leb half (m - 1 - y) (omega (arith, whole, le, k)) ∙ sym (ap not is)
  | inr is ↦ let less = leb-false half y is in le-leb half (m - 1 - y) (omega (arith, whole, less, k)) ∙ sym (ap not is)
]

near : (half x y : ℕ) (s : Bool) → x < half + half → y < half + half → nat_le half x ≡ s → nat_le half y ≡ s
    → (x < y + half) × (y ≤ x + half)
near half x y true h k p q = let low = leb-true half x p in let low_too = leb-true half y q in (omega (arith, h, low_too), omega (arith, k, low))
near half x y false h k p q = let high = leb-false half x p in let high_too = leb-false half y q in (omega (arith, high), omega (arith, high_too))

-- the four flags of a difference
record AreTold (flags : Flags) (x y : ℕ) : Type 0 where
  carry : flags.carry ≡ nat_le y x
  zero : flags.zero ≡ (x == y)
  negative : flags.negative ≡ not (nat_le y x)
  overflow : flags.overflow ≡ false

flags_told : (width : Width) (half x y z : ℕ) (s : Bool) → half + half ≡ modulus width → ((v : ℕ) → is_negative width v ≡ nat_le half v)
    → x < modulus width → y < modulus width
    → is_negative width x ≡ s → is_negative width y ≡ s → AreTold (flags_by Difference width x y z) x y
unfolding sum
flags_told width half x y z s whole sign h k p q =
    let m = modulus width in
    let apart = near half x y s (omega (arith, h, whole)) (omega (arith, k, whole)) (sym (sign x) ∙ p) (sym (sign y) ∙ q) in
    let total = (x + (m - 1 - y) + 1) % m in
    let other : is_negative width (complement width y) ≡ not s = sign (m - 1 - y) ∙ complement_sign m half y whole k ∙ ap not (sym (sign y) ∙ q) in
    record {
      carry = carry_flag m x y h k;
      zero = zero_flag m x y h k;
      negative = sign total ∙ negative_flag m half x y whole h k apart.0 apart.1;
      overflow = rw (p, other) (no_overflow s (is_negative width total));
    }

sign_told : (width : Width) (x y z : ℕ) (s : Bool) → x < modulus width → y < modulus width → is_negative width x ≡ s
    → is_negative width y ≡ s
    → AreTold (flags_by Difference width x y z) x y
sign_told Word x y z s = flags_told Word 32768 x y z s refl (λ v. refl)
sign_told Byte x y z s = flags_told Byte 128 x y z s refl (λ v. refl)

-- DIFFERENCES OF SETS

abbrev bits : (c z n v : Tri) → FlagBits
bits c z n v = record { carry = c; zero = z; negative = n; overflow = v }

four : (c z n v p q r s : Tri) → c ≡ p → z ≡ q → n ≡ r → v ≡ s → bits c z n v ≡ bits p q r s
four c z n v p q r s h i j k = rw (h, i, j, k) refl

abbrev pub HaveSign : Width → Form → Bool → Type 0
HaveSign width set s = (v : ℕ) → Has (modulus width) set v → is_negative width v ≡ s

ends_tell : (laws : KnownLaws) (width : Width) (a b : Form) (s : Bool) → AreFew (modulus width) a b (single 0)
    → HaveSign width a s → HaveSign width b s
    → compared (modulus width) a b ≡ all_agree (modulus width) (flags_by Difference width) a b (single 0)
ends_tell laws width a b s sets first second =
    let m = modulus width in
    let of : (x y z : ℕ) → Has m a x → Has m b y → AreTold (flags_by Difference width x y z) x y =
    λ x y z h k. sign_told width x y z s (laws.sets.below m x a sets.first h) (laws.sets.below m y b sets.second k) (first x h) (second y k) in
    four _ _ _ _ _ _ _ _
    (sym (same laws m a b (single 0) sets (λ x y z. (flags_by Difference width x y z).carry) (λ x y z. nat_le y x) (λ x y z h k l. (of x y z h k).carry)))
    (sym (same laws m a b (single 0) sets (λ x y z. (flags_by Difference width x y z).zero) (λ x y z. x == y) (λ x y z h k l. (of x y z h k).zero)))
    (sym (opposite laws m a b (single 0) sets (λ x y z. (flags_by Difference width x y z).negative) (λ x y z. nat_le y x)
    (λ x y z h k l. (of x y z h k).negative)))
    (sym (clear laws m a b (single 0) sets (λ x y z. (flags_by Difference width x y z).overflow) (λ x y z h k l. (of x y z h k).overflow)))

pub one_sign_tells : (laws : KnownLaws) (width : Width) (a b : Form) (s t : Tri) → is_one_sign s t ≡ true
    → AreFew (modulus width) a b (single 0)
    → ((v : ℕ) → Has (modulus width) a v → IsFlag s (is_negative width v))
    → ((v : ℕ) → Has (modulus width) b v → IsFlag t (is_negative width v))
    → compared (modulus width) a b ≡ all_agree (modulus width) (flags_by Difference width) a b (single 0)
one_sign_tells laws width a b Zero Zero one sets first second = ends_tell laws width a b false sets first second
one_sign_tells laws width a b One One one sets first second = ends_tell laws width a b true sets first second
one_sign_tells laws width a b Zero One one sets first second = absurd (cc)
one_sign_tells laws width a b Zero Either one sets first second = absurd (cc)
one_sign_tells laws width a b One Zero one sets first second = absurd (cc)
one_sign_tells laws width a b One Either one sets first second = absurd (cc)
one_sign_tells laws width a b Either Zero one sets first second = absurd (cc)
one_sign_tells laws width a b Either One one sets first second = absurd (cc)
one_sign_tells laws width a b Either Either one sets first second = absurd (cc)

pub few_sets : (laws : KnownLaws) (width : Width) (a b : Form) → IsNormal (modulus width) a → IsNormal (modulus width) b
    → is_few (modulus width) a b (single 0) ≡ true → AreFew (modulus width) a b (single 0)
few_sets laws width a b first second few = record {
  first = first;
  second = second;
  carry = (laws.sets.single (modulus width) 0 (omega (arith, some_numbers width))).0;
  few = leb-true (count_of (modulus width) a * (count_of (modulus width) b * count_of (modulus width) (single 0))) 256 few;
}
