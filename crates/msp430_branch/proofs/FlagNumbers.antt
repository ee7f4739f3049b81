-- The flags of a comparison, and on which side of the other number they say that a number stands.
use Rattle.std.proofs.Common.{◌≡◌, ℕ, ◌+◌, ◌-◌, ◌/◌, ◌%◌, ◌<◌, ◌≤◌, ◌==◌, Bool, true, false, Some, refl, sym, ◌∙◌, subst, arith}
use Rattle.std.specs.Prelude.{nat_le}
use Rattle.std.proofs.lemmas.Bool.{leb-true, leb-false, eqb-true, eqb-false}
use Rattle.msp430_decode.specs.declared.instr.Width.{Width}
use Rattle.msp430_decode.specs.declared.instr.Width.TheVariants.{Word, Byte}
use Rattle.msp430_chip.specs.declared.place.Flags.{Flags}
use Rattle.msp430_chip.specs.Arithmetic.{bit_from, complement, flags_of, is_negative, modulus, overflows, sum, with_flags, with_made_flags}
use Rattle.msp430_state.specs.Holding.{HasFlagsOf}
use Rattle.msp430_branch.specs.Cuts.{least_signed}

pub modulus_some : (width : Width) → 0 < modulus width
modulus_some Word = omega arith
modulus_some Byte = omega arith

-- FLAGS IN SR

pub record HasFlags (flags : Flags) (sr : ℕ) : Type 0 where
  pub carry : sr % 2 ≡ bit_from flags.carry
  pub zero : sr / 2 % 2 ≡ bit_from flags.zero
  pub negative : sr / 4 % 2 ≡ bit_from flags.negative
  pub overflow : sr / 256 % 2 ≡ bit_from flags.overflow

pub flag_small : (flag : Bool) → bit_from flag < 2
flag_small true = omega arith
flag_small false = omega arith

flags_stand : (flags : Flags) (sr : ℕ) → HasFlags flags (with_flags sr flags)
flags_stand flags sr =
    let c : bit_from flags.carry < 2 = flag_small flags.carry in
    let z : bit_from flags.zero < 2 = flag_small flags.zero in
    let n : bit_from flags.negative < 2 = flag_small flags.negative in
    let v : bit_from flags.overflow < 2 = flag_small flags.overflow in
    record { carry = omega arith; zero = omega arith; negative = omega arith; overflow = omega arith }

pub flags_held : (flags : Flags) (sr : ℕ) → with_flags sr flags ≡ sr → HasFlags flags sr
flags_held flags sr e = subst (HasFlags flags) e (flags_stand flags sr)

pub flags_again : (flags : Flags) (sr : ℕ) → with_flags (with_flags sr flags) flags ≡ with_flags sr flags
flags_again flags sr =
    let c : bit_from flags.carry < 2 = flag_small flags.carry in
    let z : bit_from flags.zero < 2 = flag_small flags.zero in
    let n : bit_from flags.negative < 2 = flag_small flags.negative in
    let v : bit_from flags.overflow < 2 = flag_small flags.overflow in
    omega arith

-- flags as numbers
flag_set : (flag : Bool) (bit : ℕ) → bit ≡ bit_from flag → bit ≡ 1 → flag ≡ true
flag_set true bit is set = refl
flag_set false bit is set = absurd (omega (arith, is, set))

flag_clear : (flag : Bool) (bit : ℕ) → bit ≡ bit_from flag → bit ≡ 0 → flag ≡ false
flag_clear true bit is clear = absurd (omega (arith, is, clear))
flag_clear false bit is clear = refl

-- COMPARISONS

-- what the flags say of a number x that was compared with n, modulo m, where signed numbers begin at h
pub record AreCompared (m h x n sr : ℕ) : Type 0 where
  pub equal : sr / 2 % 2 ≡ 1 → x ≡ n
  pub other : sr / 2 % 2 ≡ 0 → x ≡ n → ⊥
  pub upper : sr % 2 ≡ 1 → n ≤ x
  pub lower : sr % 2 ≡ 0 → x < n
  pub greater : sr / 4 % 2 ≡ sr / 256 % 2 → (n + h) % m ≤ (x + h) % m
  pub less : (sr / 4 % 2 ≡ sr / 256 % 2 → ⊥) → (x + h) % m < (n + h) % m

-- on which side of a number another one stands
abbrev Side : Bool → (t x : ℕ) → Type 0
Side true t x = t ≤ x
Side false t x = x < t

side_of : (t x : ℕ) (b : Bool) → nat_le t x ≡ b → Side b t x
side_of t x true e = leb-true t x e
side_of t x false e = leb-false t x e

-- N and V are equal where the one isn't less than the other
record Signs (m h x n : ℕ) (negative overflow : Bool) : Type 0 where
  greater : bit_from negative ≡ bit_from overflow → (n + h) % m ≤ (x + h) % m
  less : (bit_from negative ≡ bit_from overflow → ⊥) → (x + h) % m < (n + h) % m

signs_of_words : (x n : ℕ) (a b c : Bool) → x < 65536 → n < 65536 → Side a 32768 x → Side b 32768 (65535 - n)
    → Side c 32768 ((x + (65535 - n) + 1) % 65536)
    → Signs 65536 32768 x n c (overflows a b c)
signs_of_words x n true true true xs ns p q r = record { greater = λ e. absurd (omega (arith, e)); less = λ d. omega (arith, xs, ns, p, q, r) }
signs_of_words x n true true false xs ns p q r = record { greater = λ e. absurd (omega (arith, e)); less = λ d. omega (arith, xs, ns, p, q, r) }
signs_of_words x n true false true xs ns p q r = record { greater = λ e. absurd (omega (arith, e)); less = λ d. omega (arith, xs, ns, p, q, r) }
signs_of_words x n true false false xs ns p q r = record { greater = λ e. omega (arith, xs, ns, p, q, r); less = λ d. absurd (d refl) }
signs_of_words x n false true true xs ns p q r = record { greater = λ e. absurd (omega (arith, e)); less = λ d. omega (arith, xs, ns, p, q, r) }
signs_of_words x n false true false xs ns p q r = record { greater = λ e. omega (arith, xs, ns, p, q, r); less = λ d. absurd (d refl) }
signs_of_words x n false false true xs ns p q r = record { greater = λ e. omega (arith, xs, ns, p, q, r); less = λ d. absurd (d refl) }
signs_of_words x n false false false xs ns p q r = record { greater = λ e. omega (arith, xs, ns, p, q, r); less = λ d. absurd (d refl) }

signs_of_bytes : (x n : ℕ) (a b c : Bool) → x < 256 → n < 256 → Side a 128 x → Side b 128 (255 - n) → Side c 128 ((x + (255 - n) + 1) % 256)
    → Signs 256 128 x n c (overflows a b c)
signs_of_bytes x n true true true xs ns p q r = record { greater = λ e. absurd (omega (arith, e)); less = λ d. omega (arith, xs, ns, p, q, r) }
signs_of_bytes x n true true false xs ns p q r = record { greater = λ e. absurd (omega (arith, e)); less = λ d. omega (arith, xs, ns, p, q, r) }
signs_of_bytes x n true false true xs ns p q r = record { greater = λ e. absurd (omega (arith, e)); less = λ d. omega (arith, xs, ns, p, q, r) }
signs_of_bytes x n true false false xs ns p q r = record { greater = λ e. omega (arith, xs, ns, p, q, r); less = λ d. absurd (d refl) }
signs_of_bytes x n false true true xs ns p q r = record { greater = λ e. absurd (omega (arith, e)); less = λ d. omega (arith, xs, ns, p, q, r) }
signs_of_bytes x n false true false xs ns p q r = record { greater = λ e. omega (arith, xs, ns, p, q, r); less = λ d. absurd (d refl) }
signs_of_bytes x n false false true xs ns p q r = record { greater = λ e. omega (arith, xs, ns, p, q, r); less = λ d. absurd (d refl) }
signs_of_bytes x n false false false xs ns p q r = record { greater = λ e. omega (arith, xs, ns, p, q, r); less = λ d. absurd (d refl) }

-- the flags of a comparison
abbrev pub compared_flags : Width → (x n : ℕ) → Flags
compared_flags width x n = let total = x + complement width n + 1 in
    flags_of width (total % modulus width) (nat_le (modulus width) total)
    (overflows (is_negative width x) (is_negative width (complement width n)) (is_negative width (total % modulus width)))

pub compared : (width : Width) (x n : ℕ) → (sum width x (complement width n) 1).1 ≡ Some (compared_flags width x n)
unfolding sum
compared width x n = refl

compared_held : (width : Width) (x n sr : ℕ) → HasFlagsOf width x n sr → HasFlags (compared_flags width x n) sr
compared_held width x n sr h =
    flags_held (compared_flags width x n) sr (subst (λ flags. with_made_flags sr flags ≡ sr) (compared width x n) h)

-- numbers of a width
pub narrow : (width : Width) (v : ℕ) → v < 65536 → (width ≡ Byte → v < 256) → v < modulus width
narrow Word v small byte = small
narrow Byte v small byte = byte refl

equal_from : (width : Width) (x n : ℕ) → x < modulus width → n < modulus width → (x + complement width n + 1) % modulus width ≡ 0 → x ≡ n
equal_from Word x n xs ns z = omega (arith, xs, ns, z)
equal_from Byte x n xs ns z = omega (arith, xs, ns, z)

equal_to : (width : Width) (x n : ℕ) → n < modulus width → x ≡ n → (x + complement width n + 1) % modulus width ≡ 0
equal_to Word x n ns same = omega (arith, ns, same)
equal_to Byte x n ns same = omega (arith, ns, same)

upper_from : (width : Width) (x n : ℕ) → n < modulus width → modulus width ≤ x + complement width n + 1 → n ≤ x
upper_from Word x n ns c = omega (arith, ns, c)
upper_from Byte x n ns c = omega (arith, ns, c)

lower_from : (width : Width) (x n : ℕ) → n < modulus width → x + complement width n + 1 < modulus width → x < n
lower_from Word x n ns c = omega (arith, ns, c)
lower_from Byte x n ns c = omega (arith, ns, c)

signs_of : (width : Width) (x n : ℕ) → x < modulus width → n < modulus width
    → Signs (modulus width) (least_signed width) x n (is_negative width ((x + complement width n + 1) % modulus width))
    (overflows (is_negative width x) (is_negative width (complement width n)) (is_negative width ((x + complement width n + 1) % modulus width)))
signs_of Word x n xs ns =
    let total = (x + (65535 - n) + 1) % 65536 in
    signs_of_words x n (nat_le 32768 x) (nat_le 32768 (65535 - n)) (nat_le 32768 total) xs ns (side_of 32768 x (nat_le 32768 x) refl)
    (side_of 32768 (65535 - n) (nat_le 32768 (65535 - n)) refl) (side_of 32768 total (nat_le 32768 total) refl)
signs_of Byte x n xs ns =
    let total = (x + (255 - n) + 1) % 256 in
    signs_of_bytes x n (nat_le 128 x) (nat_le 128 (255 - n)) (nat_le 128 total) xs ns (side_of 128 x (nat_le 128 x) refl)
    (side_of 128 (255 - n) (nat_le 128 (255 - n)) refl) (side_of 128 total (nat_le 128 total) refl)

pub compared_so : (width : Width) (x n sr : ℕ) → x < modulus width → n < modulus width → HasFlagsOf width x n sr
    → AreCompared (modulus width) (least_signed width) x n sr
compared_so width x n sr xs ns h =
    let flags = compared_held width x n sr h in
    let m = modulus width in
    let total = x + complement width n + 1 in
    let signs = signs_of width x n xs ns in
    record {
      equal = λ e. equal_from width x n xs ns (eqb-true (total % m) 0 (flag_set (total % m == 0) (sr / 2 % 2) flags.zero e));
      other = λ e same. eqb-false (total % m) 0 (flag_clear (total % m == 0) (sr / 2 % 2) flags.zero e) (equal_to width x n ns same);
      upper = λ e. upper_from width x n ns (leb-true m total (flag_set (nat_le m total) (sr % 2) flags.carry e));
      lower = λ e. lower_from width x n ns (leb-false m total (flag_clear (nat_le m total) (sr % 2) flags.carry e));
      greater = λ e. signs.greater (sym flags.negative ∙ (e ∙ flags.overflow));
      less = λ d. signs.less (λ e. d (flags.negative ∙ (e ∙ sym flags.overflow)));
    }
