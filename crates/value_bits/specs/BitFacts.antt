-- One bit, one flag, and the bits of a number by their places: lemmas, also for the proofs of crates above.
use Prim.Native.Nat.{zero, suc, max, min}
use Rattle.std.proofs.Common.{◌≡◌, ℕ, ◌*◌, ◌+◌, ◌-◌, ◌/◌, ◌%◌, ◌^◌, ◌<◌, ◌==◌, ◌∙◌, if◌then◌else◌, Bool, true, false, List, [], ◌∷◌, ◌++◌, drop, length, replicate, set, take, refl, sym, ap, subst, arith}
use Rattle.std.specs.Prelude.{not, slice_index_or}
use Rattle.std.specs.Int.{bit_at}
use Rattle.std.proofs.lemmas.Bool.{eq-eqb, ne_eqb}
use Rattle.std.proofs.Math.Nat.{pow-suc}
use Rattle.std.proofs.lemmas.Nat.{shr-shr}
use Rattle.std.proofs.lemmas.Nat.Bits.{bit_at-lt}
use Rattle.value_bits.specs.declared.tri.Tri.{Tri}
use Rattle.value_bits.specs.declared.tri.Tri.TheVariants.{Zero, One, Either}
use Rattle.value_bits.specs.Bits.{IsBit, Agrees, known_flag, may_be, tri_and, tri_not, tri_or, tri_xor}
use Rattle.value_bits.specs.Flags.{IsFlag}

-- FLAGS

pub flag_bit : (t : Tri) (flag : Bool) → IsFlag t flag → IsBit t (if flag then 1 else 0)
flag_bit Zero true is = absurd (cc)
flag_bit Zero false is = refl
flag_bit One true is = refl
flag_bit One false is = absurd (cc)
flag_bit Either true is = omega arith
flag_bit Either false is = omega arith

pub flag_may : (t : Tri) (flag : Bool) → IsFlag t flag → may_be t flag ≡ true
flag_may Zero flag is = ap not is
flag_may One flag is = is
flag_may Either flag is = refl

pub flag_known : (flag : Bool) → IsFlag (known_flag flag) flag
flag_known true = refl
flag_known false = refl

pub flag_not : (t : Tri) (flag : Bool) → IsFlag t flag → IsFlag (tri_not t) (not flag)
flag_not Zero flag is = ap not is
flag_not One flag is = ap not is
flag_not Either flag is = is

-- ONE BIT

pub bit_below : (t : Tri) (bit : ℕ) → IsBit t bit → bit < 2
bit_below Zero bit is = omega (arith, is)
bit_below One bit is = omega (arith, is)
bit_below Either bit is = is

pub bit_some : (t : Tri) → (bit : ℕ) × IsBit t bit
bit_some Zero = (0, refl)
bit_some One = (1, refl)
bit_some Either = (0, omega arith)

pub bit_may : (t : Tri) (bit : ℕ) → IsBit t bit → may_be t (bit == 1) ≡ true
bit_may Zero bit is = ap not (ne_eqb bit 1 (λ e. omega (arith, is, e)))
bit_may One bit is = eq-eqb bit 1 is
bit_may Either bit is = refl

pub bit_known : (bit : ℕ) → bit < 2 → IsBit (known_flag (bit == 1)) bit
bit_known zero small = refl
bit_known (suc zero) small = refl
bit_known (suc (suc n)) small = absurd (omega (arith, small))

pub bit_not : (t : Tri) (x : ℕ) → IsBit t x → IsBit (tri_not t) (1 - x)
bit_not Zero x is = omega (arith, is)
bit_not One x is = omega (arith, is)
bit_not Either x is = omega (arith, is)

pub and_bit : (a b : Tri) (x y : ℕ) → IsBit a x → IsBit b y → IsBit (tri_and a b) (min x y)
and_bit Zero b x y h k = omega (arith, h)
and_bit One b x y h k = let small = bit_below b y k in let same : y ≡ min x y = omega (arith, h, small) in subst (λ (bit : ℕ). IsBit b bit) same k
and_bit Either Zero x y h k = omega (arith, h, k)
and_bit Either One x y h k = omega (arith, h, k)
and_bit Either Either x y h k = omega (arith, h, k)

pub or_bit : (a b : Tri) (x y : ℕ) → IsBit a x → IsBit b y → IsBit (tri_or a b) (max x y)
or_bit Zero b x y h k = let same : y ≡ max x y = omega (arith, h) in subst (λ (bit : ℕ). IsBit b bit) same k
or_bit One b x y h k = let small = bit_below b y k in omega (arith, h, small)
or_bit Either Zero x y h k = omega (arith, h, k)
or_bit Either One x y h k = omega (arith, h, k)
or_bit Either Either x y h k = omega (arith, h, k)

pub xor_bit : (a b : Tri) (x y : ℕ) → IsBit a x → IsBit b y → IsBit (tri_xor a b) ((x + y) % 2)
xor_bit Zero b x y h k = let small = bit_below b y k in let same : y ≡ (x + y) % 2 = omega (arith, h, small) in subst (λ (bit : ℕ). IsBit b bit) same k
xor_bit One b x y h k = let small = bit_below b y k in let other : 1 - y ≡ (x + y) % 2 = omega (arith, h, small) in
    subst (λ (bit : ℕ). IsBit (tri_not b) bit) other (bit_not b y k)
xor_bit Either b x y h k = omega arith

-- THE BITS OF A NUMBER, by their places

lowest : (v : ℕ) → bit_at v 0 ≡ v % 2
lowest v = omega arith

halved : (v width : ℕ) → v / 2 / 2 ^ width ≡ v / 2 ^ suc width
halved v width = let turn : 1 + width ≡ suc width = omega arith in shr-shr v 1 width ∙ ap (λ (k : ℕ). v / 2 ^ k) turn

next : (v place : ℕ) → bit_at (v / 2) place ≡ bit_at v (suc place)
next v place = ap (λ (n : ℕ). n % 2) (halved v place)

pub bits_at : (bits : List Tri) (place v : ℕ) → Agrees bits v → IsBit (slice_index_or bits place Either) (bit_at v place)
bits_at [] place v agrees = bit_at-lt v place
bits_at (t ∷ bits) zero v agrees = subst (IsBit t) (sym (lowest v)) agrees.0
bits_at (t ∷ bits) (suc place) v agrees =
    subst (IsBit (slice_index_or bits place Either)) (next v place) (bits_at bits place (v / 2) agrees.1)

pub bits_put : (bits : List Tri) (place v : ℕ) (t : Tri) → place < length bits → Agrees bits v
    → IsBit t (bit_at v place) → Agrees (set bits place t) v
bits_put [] place v t inside agrees is = absurd (omega (arith, inside))
bits_put (held ∷ bits) zero v t inside agrees is = (subst (IsBit t) (lowest v) is, agrees.1)
bits_put (held ∷ bits) (suc place) v t inside agrees is =
    (agrees.0, bits_put bits place (v / 2) t (omega (arith, inside)) agrees.1 (subst (IsBit t) (sym (next v place)) is))

pub bits_any : (width v : ℕ) → v < 2 ^ width → Agrees (replicate width Either) v
bits_any zero v small = omega (arith, small)
bits_any (suc width) v small =
    let power : 2 ^ suc width ≡ 2 ^ width * 2 = pow-suc 2 width in
    (omega arith, bits_any width (v / 2) (omega (arith, small, power)))

pub bits_zero : (width : ℕ) → Agrees (replicate width Zero) 0
bits_zero zero = refl
bits_zero (suc width) = (refl, bits_zero width)

pub bits_append : (bits more : List Tri) (v w : ℕ) → Agrees bits v → Agrees more w → Agrees (bits ++ more) (v + 2 ^ length bits * w)
bits_append [] more v w h k = let same : w ≡ v + 2 ^ 0 * w = omega (arith, h) in subst (Agrees more) same k
bits_append (t ∷ bits) more v w h k =
    let power : 2 ^ suc (length bits) ≡ 2 ^ length bits * 2 = pow-suc 2 (length bits) in
    let double : 2 ^ suc (length bits) * w ≡ 2 * (2 ^ length bits * w) = omega (arith, ap (λ (n : ℕ). n * w) power) in
    let low : v % 2 ≡ (v + 2 ^ suc (length bits) * w) % 2 = omega (arith, double) in
    let high : v / 2 + 2 ^ length bits * w ≡ (v + 2 ^ suc (length bits) * w) / 2 = omega (arith, double) in
    (subst (IsBit t) low h.0, subst (Agrees (bits ++ more)) high (bits_append bits more (v / 2) w h.1 k))

pub bits_take : (width : ℕ) (bits : List Tri) (v low high : ℕ) → v ≡ low + 2 ^ width * high → low < 2 ^ width
    → Agrees bits v → Agrees (take width bits) low
bits_take zero bits v low high is small h = omega (arith, small)
bits_take (suc width) [] v low high is small h = omega (arith, is, h)
bits_take (suc width) (t ∷ bits) v low high is small h =
    let power : 2 ^ suc width ≡ 2 ^ width * 2 = pow-suc 2 width in
    let double : 2 ^ suc width * high ≡ 2 ^ width * high * 2 = omega (arith, ap (λ (n : ℕ). n * high) power) in
    let first : v % 2 ≡ low % 2 = omega (arith, is, double) in
    (subst (IsBit t) first h.0, bits_take width bits (v / 2) (low / 2) high (omega (arith, is, double)) (omega (arith, small, power)) h.1)

none_halved : (width : ℕ) → 0 / 2 ^ width ≡ 0
none_halved zero = refl
none_halved (suc width) = sym (halved 0 width) ∙ none_halved width

pub bits_drop : (width : ℕ) (bits : List Tri) (v : ℕ) → Agrees bits v → Agrees (drop width bits) (v / 2 ^ width)
bits_drop zero bits v h = let whole : v ≡ v / 2 ^ 0 = omega arith in subst (Agrees bits) whole h
bits_drop (suc width) [] v h = ap (λ (n : ℕ). n / 2 ^ suc width) h ∙ none_halved (suc width)
bits_drop (suc width) (t ∷ bits) v h = subst (Agrees (drop width bits)) (halved v width) (bits_drop width bits (v / 2) h.1)
