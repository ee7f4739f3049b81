-- Bits of results, of as many places as SR has.
use Rattle.std.proofs.Common.{◌≡◌, true, false, ℕ, zero, suc, ◌-◌, ◌+◌, ◌*◌, ◌/◌, ◌%◌, ◌^◌, ◌<◌, ◌≤◌, List, [], ◌∷◌, length, take, set, refl, sym, ap, ◌∙◌, subst, arith}
use Rattle.std.specs.Prelude.{bit_and, bit_or, slice_index_or}
use Rattle.std.specs.Int.{bit_at}
use Rattle.std.proofs.Math.Nat.{pow-suc}
use Rattle.std.proofs.lemmas.List.{length-set, length-replicate}
use Rattle.std.proofs.lemmas.Nat.{and_le_l, or_lt}
use Rattle.std.proofs.lemmas.Nat.Bits.{bit_at-lt, bit_at-suc, bit_at_and, bit_at_cat_low, bit_at_lowest, bit_at_or}
use Rattle.value_bits.specs.declared.tri.Tri.{Tri}
use Rattle.value_bits.specs.declared.tri.Tri.TheVariants.{Zero, Either}
use Rattle.value_bits.specs.BitFacts.{and_bit, bit_not, bits_any, bits_at, bits_take, or_bit}
use Rattle.value_bits.specs.Bits.{IsBit, Agrees, tri_and, tri_not, tri_or}
use Rattle.msp430_decode.specs.declared.instr.Operation.{Operation}
use Rattle.msp430_decode.specs.declared.instr.Operation.TheVariants as operation
use Rattle.msp430_decode.specs.declared.instr.Width.{Width}
use Rattle.msp430_decode.specs.declared.instr.Width.TheVariants.{Word as Words, Byte}
use Rattle.msp430_chip.specs.Arithmetic.{complement, modulus, reads_destination, sets_flags}
use Rattle.value_bits.specs.Pointwise.{each_with}
use Rattle.msp430_status.specs.Status.{bit_behind, free_bits, moved_bits}

-- the lowest bits of a number: the list may hold fewer, or more
abbrev pub AgreesBelow : (n : ℕ) → List Tri → ℕ → Type 0
AgreesBelow n bits v = (i : ℕ) → i < n → IsBit (slice_index_or bits i Either) (bit_at v i)

-- numbers that differ by a multiple have the same lowest bits
below_same : (n : ℕ) (bits : List Tri) (v w p q : ℕ) → p * 2 ^ n + v ≡ q * 2 ^ n + w → AgreesBelow n bits v → AgreesBelow n bits w
below_same n bits v w p q e h i lt =
    let same : bit_at v i ≡ bit_at w i = sym (bit_at_cat_low p n v i lt) ∙ ap (λ m. bit_at m i) e ∙ bit_at_cat_low q n w i lt in
    subst (IsBit (slice_index_or bits i Either)) same (h i lt)

below_half : (n : ℕ) (b : Tri) (bs : List Tri) (v : ℕ) → AgreesBelow (suc n) (b ∷ bs) v → AgreesBelow n bs (v / 2)
below_half n b bs v h i lt = subst (IsBit (slice_index_or bs i Either)) (bit_at-suc v i) (h (suc i) (omega (arith, lt)))

below_lowest : (n : ℕ) (b : Tri) (bs : List Tri) (v : ℕ) → AgreesBelow (suc n) (b ∷ bs) v → IsBit b (v % 2)
below_lowest n b bs v h = subst (IsBit b) (bit_at_lowest v) (h 0 (omega arith))

-- a number of so many bits has no others
below_whole : (n : ℕ) (bits : List Tri) (v : ℕ) → length bits ≡ n → v < 2 ^ n → AgreesBelow n bits v → Agrees bits v
below_whole zero [] v long small h = omega (arith, small)
below_whole zero (b ∷ bs) v long small h = absurd (omega (arith, long))
below_whole (suc n) [] v long small h = absurd (omega (arith, long))
below_whole (suc n) (b ∷ bs) v long small h =
    let power : 2 ^ suc n ≡ 2 ^ n * 2 = pow-suc 2 n in
    (below_lowest n b bs v h, below_whole n bs (v / 2) (omega (arith, long)) (omega (arith, small, power)) (below_half n b bs v h))

-- one bit above them is clear
below_clear : (n : ℕ) (bits : List Tri) (v : ℕ) → length bits ≡ suc n → v < 2 ^ n → AgreesBelow n bits v → Agrees (set bits n Zero) v
below_clear n [] v long small h = absurd (omega (arith, long))
below_clear zero (b ∷ []) v long small h = (omega (arith, small), omega (arith, small))
below_clear zero (b ∷ c ∷ bs) v long small h = absurd (omega (arith, long))
below_clear (suc n) (b ∷ bs) v long small h =
    let power : 2 ^ suc n ≡ 2 ^ n * 2 = pow-suc 2 n in
    (below_lowest n b bs v h, below_clear n bs (v / 2) (omega (arith, long)) (omega (arith, small, power)) (below_half n b bs v h))

-- ALL BITS, of a source x and of what SR held, y

-- z has each bit that x hasn't
opposite : (k i x z : ℕ) → i < k → x + z + 1 ≡ 2 ^ k → 1 - bit_at x i ≡ bit_at z i
opposite zero i x z lt e = absurd (omega (arith, lt))
opposite (suc k) zero x z lt e =
    let power : 2 ^ suc k ≡ 2 ^ k * 2 = pow-suc 2 k in
    let one = bit_at_lowest x in
    let other = bit_at_lowest z in omega (arith, e, power, one, other)
opposite (suc k) (suc i) x z lt e =
    let power : 2 ^ suc k ≡ 2 ^ k * 2 = pow-suc 2 k in
    ap (λ bit. 1 - bit) (bit_at-suc x i) ∙ opposite k i (x / 2) (z / 2) (omega (arith, lt)) (omega (arith, e, power)) ∙ sym (bit_at-suc z i)

each_bit : (f : Tri → Tri → Tri) (xs ys : List Tri) (i bit : ℕ) → bit < 2
    → IsBit (f (slice_index_or xs i Either) (slice_index_or ys i Either)) bit
    → IsBit (slice_index_or (each_with f xs ys) i Either) bit
each_bit f [] ys i bit two is = two
each_bit f (a ∷ xs) [] i bit two is = two
each_bit f (a ∷ xs) (b ∷ ys) zero bit two is = is
each_bit f (a ∷ xs) (b ∷ ys) (suc i) bit two is = each_bit f xs ys i bit two is

pub length-each_with : (f : Tri → Tri → Tri) (xs ys : List Tri) → length xs ≡ length ys → length (each_with f xs ys) ≡ length ys
length-each_with f [] [] e = refl
length-each_with f [] (y ∷ ys) e = absurd (omega (arith, e))
length-each_with f (x ∷ xs) [] e = absurd (omega (arith, e))
length-each_with f (x ∷ xs) (y ∷ ys) e = ap suc (length-each_with f xs ys (omega (arith, e)))

-- THE RESULT

-- the number that is written, by the source x, what SR held, y, and the bits that x hasn't, z
abbrev pub number_behind : Operation → (x y z : ℕ) → ℕ
number_behind operation.Mov x y z = x
number_behind operation.Bic x y z = bit_and y z
number_behind operation.Bis x y z = bit_or y x
number_behind other x y z = 0

one_behind : (done : Operation) (k i : ℕ) (a b : Tri) (x y z : ℕ) → sets_flags done ≡ false → i < k → x + z + 1 ≡ 2 ^ k
    → IsBit a (bit_at x i)
    → (reads_destination done ≡ true → IsBit b (bit_at y i)) → IsBit (bit_behind done a b) (bit_at (number_behind done x y z) i)
one_behind operation.Mov k i a b x y z none lt other h held = h
one_behind operation.Bic k i a b x y z none lt other h held =
    let clear = subst (IsBit (tri_not a)) (opposite k i x z lt other) (bit_not a (bit_at x i) h) in
    subst (IsBit (tri_and b (tri_not a))) (sym (bit_at_and y z i)) (and_bit b (tri_not a) (bit_at y i) (bit_at z i) (held refl) clear)
one_behind operation.Bis k i a b x y z none lt other h held =
    subst (IsBit (tri_or b a)) (sym (bit_at_or y x i)) (or_bit b a (bit_at y i) (bit_at x i) (held refl) h)
one_behind other k i a b x y z none lt one h held = absurd (cc)

below_behind : (done : Operation) (n k : ℕ) (xs ys : List Tri) (x y z : ℕ) → sets_flags done ≡ false → n ≤ k
    → x + z + 1 ≡ 2 ^ k → AgreesBelow n xs x
    → (reads_destination done ≡ true → AgreesBelow n ys y) → AgreesBelow n (each_with (bit_behind done) xs ys) (number_behind done x y z)
below_behind done n k xs ys x y z none le other h held i lt =
    let r = number_behind done x y z in
    let far : i < k = omega (arith, le, lt) in
    each_bit (bit_behind done) xs ys i (bit_at r i) (bit_at-lt r i)
    (one_behind done k i (slice_index_or xs i Either) (slice_index_or ys i Either) x y z none far other (h i lt) (λ reads. held reads i lt))

byte_behind : (done : Operation) (x y z : ℕ) → sets_flags done ≡ false → x < 256
    → (reads_destination done ≡ true → y < 256) → number_behind done x y z < 256
byte_behind operation.Mov x y z none small few = small
byte_behind operation.Bic x y z none small few = let under = and_le_l y z in let less = few refl in omega (arith, under, less)
byte_behind operation.Bis x y z none small few = or_lt 8 y x (few refl) small
byte_behind other x y z none small few = absurd (cc)

pub length_moved : (done : Operation) (width : Width) (given held : List Tri) → length given ≡ 9 → length held ≡ 9
    → length (moved_bits done width given held) ≡ 9
length_moved done Words given held long nine = length-each_with (bit_behind done) given held (long ∙ sym nine) ∙ nine
length_moved done Byte given held long nine =
    length-set (each_with (bit_behind done) given held) 8 Zero ∙ (length-each_with (bit_behind done) given held (long ∙ sym nine) ∙ nine)

-- the bits of SR that a width has
abbrev pub places : Width → ℕ
places Words = 9
places Byte = 8

-- SR as an operand of a width, with any bits above those that it holds
pub held_agrees : (width : Width) (held : List Tri) (y sr above : ℕ) → Agrees held sr
    → y ≡ sr % modulus width + 512 * above → (width ≡ Byte → above ≡ 0)
    → AgreesBelow (places width) held y
held_agrees Words held y sr above agrees is bytes =
    below_same 9 held sr y above (sr / 65536 * 128) (omega (arith, is)) (λ i lt. bits_at held i sr agrees)
held_agrees Byte held y sr above agrees is bytes =
    let no_more = bytes refl in
    below_same 8 held sr y 0 (sr / 256) (omega (arith, is, no_more)) (λ i lt. bits_at held i sr agrees)

pub taken_agrees : (width : Width) (bits : List Tri) (x : ℕ) → Agrees bits x → AgreesBelow (places width) (take 9 bits) x
taken_agrees width bits x agrees =
    let low = bits_take 9 bits x (x % 512) (x / 512) (omega arith) (omega arith) agrees in
    elim width as (λ k. AgreesBelow (places k) (take 9 bits) x) [
      | Words ↦ below_same 9 (take 9 bits) (x % 512) x (x / 512) 0 (omega arith) (λ i lt. bits_at (take 9 bits) i (x % 512) low)
      | Byte ↦ below_same 8 (take 9 bits) (x % 512) x (x / 512 * 2) 0 (omega arith) (λ i lt. bits_at (take 9 bits) i (x % 512) low)
    ]

pub moved_agrees : (done : Operation) (width : Width) (given held : List Tri) (x y : ℕ) → sets_flags done ≡ false
    → length given ≡ 9 → length held ≡ 9
    → x < modulus width → AgreesBelow (places width) given x → (reads_destination done ≡ true → AgreesBelow (places width) held y)
    → (reads_destination done ≡ true → width ≡ Byte → y < 256)
    → Agrees (moved_bits done width given held) (number_behind done x y (complement width x) % 512)
moved_agrees done Words given held x y none long nine small first second bytes =
    let r = number_behind done x y (complement Words x) in
    let made_so = each_with (bit_behind done) given held in
    let whole : x + (65536 - 1 - x) + 1 ≡ 2 ^ 16 = omega (arith, small) in
    let under : AgreesBelow 9 made_so r = below_behind done 9 16 given held x y (complement Words x) none (omega arith) whole first second in
    below_whole 9 made_so (r % 512) (length-each_with (bit_behind done) given held (long ∙ sym nine) ∙ nine) (omega arith)
    (below_same 9 made_so r (r % 512) 0 (r / 512) (omega arith) under)
moved_agrees done Byte given held x y none long nine small first second bytes =
    let r = number_behind done x y (complement Byte x) in
    let made_so = each_with (bit_behind done) given held in
    let whole : x + (256 - 1 - x) + 1 ≡ 2 ^ 8 = omega (arith, small) in
    let under : AgreesBelow 8 made_so r = below_behind done 8 8 given held x y (complement Byte x) none (omega arith) whole first second in
    let few : r < 256 = byte_behind done x y (complement Byte x) none small (λ e. bytes e refl) in
    let same : r ≡ r % 512 = omega (arith, few) in
    subst (Agrees (set made_so 8 Zero)) same (below_clear 8 made_so r (length-each_with (bit_behind done) given held (long ∙ sym nine) ∙ nine) few under)

-- BITS THAT MAY BE ANY

pub free_agree : (v : ℕ) → v < 512 → Agrees free_bits v
free_agree = bits_any 9

pub length_free : length free_bits ≡ 9
length_free = length-replicate 9 Either
