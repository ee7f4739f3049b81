-- The numbers that have some bits.
use Rattle.std.proofs.Common.{◌≡◌, ℕ, ◌+◌, ◌-◌, ◌*◌, ◌^◌, ◌<◌, ◌≤◌, cond, List, [], ◌∷◌, map, length, take, drop, get_or, refl, sym, ap, subst, arith}
use Prim.Native.Nat.{zero, suc}
use Rattle.std.specs.List.{flat_map}
use Rattle.std.proofs.Math.Nat.{pow-suc, pow-le-pow_right}
use Rattle.std.proofs.lemmas.Nat.{pow_pos}
use Rattle.std.proofs.lemmas.List.Sums.{sum_by-cons}
use Rattle.std.proofs.Math.Seq.{take-length}
use Rattle.value_bits.specs.declared.tri.Tri.{Tri}
use Rattle.value_bits.specs.declared.tri.Tri.TheVariants.{Zero, One, Either}
use Rattle.value_bits.specs.Bits.{filled, filled_bit, choices, numbers, unknown_count, is_unknown}

-- what stands behind the first bit
pub rest_of : (b : Tri) (bs : List Tri) → take (length (b ∷ bs) - 1) bs ≡ bs
rest_of b bs = let e : length (b ∷ bs) - 1 ≡ length bs = omega arith in rw e (take-length bs)

pub filled_none : (given : ℕ) (bits : List Tri) → length bits ≡ 0 → filled given bits ≡ 0
unfolding filled
filled_none given [] h = refl
filled_none given (b ∷ bs) h = absurd (omega arith)

pub filled_more : (given : ℕ) (bits : List Tri) → 1 ≤ length bits
    → filled given bits ≡ filled_bit given (get_or bits 0 Zero) + 2 * filled given (take (length bits - 1) (drop 1 bits))
unfolding filled
filled_more given [] h = absurd (omega arith)
filled_more given (b ∷ bs) h = ap (λ (rest : List Tri). filled_bit given b + 2 * filled given rest) (sym (rest_of b bs))

pub numbers_none : (bits : List Tri) → length bits ≡ 0 → numbers bits ≡ 0 ∷ []
unfolding numbers
numbers_none [] h = refl
numbers_none (b ∷ bs) h = absurd (omega arith)

pub numbers_more : (bits : List Tri) → 1 ≤ length bits
    → numbers bits ≡ flat_map (λ v. map (λ low. 2 * v + low) (choices (get_or bits 0 Zero))) (numbers (take (length bits - 1) (drop 1 bits)))
unfolding numbers
numbers_more [] h = absurd (omega arith)
numbers_more (b ∷ bs) h = ap (λ (rest : List Tri). flat_map (λ v. map (λ low. 2 * v + low) (choices b)) (numbers rest)) (sym (rest_of b bs))

-- ---- how many they are, and how large

pub length-longer : (b : Tri) (xs : List ℕ)
    → length (flat_map (λ v. map (λ low. 2 * v + low) (choices b)) xs) ≡ length xs * length (choices b)
length-longer b [] = omega arith
length-longer Zero (x ∷ xs) = let rest = length-longer Zero xs in omega (arith, rest)
length-longer One (x ∷ xs) = let rest = length-longer One xs in omega (arith, rest)
length-longer Either (x ∷ xs) = let rest = length-longer Either xs in omega (arith, rest)

pub length-numbers : (bits : List Tri) → length (numbers bits) ≡ 2 ^ unknown_count bits
unfolding numbers
length-numbers [] = refl
length-numbers (Zero ∷ bs) = let rest = length-numbers bs in let more = length-longer Zero (numbers bs) in omega (arith, rest, more)
length-numbers (One ∷ bs) = let rest = length-numbers bs in let more = length-longer One (numbers bs) in omega (arith, rest, more)
length-numbers (Either ∷ bs) =
    let rest = length-numbers bs in
    let more = length-longer Either (numbers bs) in
    let power = pow-suc 2 (unknown_count bs) in
    let split : unknown_count (Either ∷ bs) ≡ 1 + unknown_count bs = sum_by-cons (λ (b : Tri). cond (is_unknown b) 1 0) Either bs in
    let one_more : unknown_count (Either ∷ bs) ≡ suc (unknown_count bs) = omega (arith, split) in
    omega (arith, rest, more, power, ap (λ (n : ℕ). 2 ^ n) one_more)

-- so that they and one more bit have room
pub numbers_room : (bits : List Tri) → 1 ≤ length bits → unknown_count bits ≤ 4
    → length (numbers (take (length bits - 1) (drop 1 bits))) * length (choices (get_or bits 0 Zero)) ≤ 16
numbers_room bits some few =
    let all = ap (λ (xs : List ℕ). length xs) (numbers_more bits some) in
    let longer = length-longer (get_or bits 0 Zero) (numbers (take (length bits - 1) (drop 1 bits))) in
    let count = length-numbers bits in
    let most : 2 ^ unknown_count bits ≤ 2 ^ 4 = pow-le-pow_right {n = 2} (omega arith) {i = unknown_count bits} {j = 4} few in
    omega (arith, all, longer, count, most)

pub few_numbers : (bits : List Tri) → unknown_count bits ≤ 4 → (1 ≤ length (numbers bits)) × (length (numbers bits) ≤ 16)
few_numbers bits few =
    let count = length-numbers bits in
    let most : 2 ^ unknown_count bits ≤ 2 ^ 4 = pow-le-pow_right {n = 2} (omega arith) {i = unknown_count bits} {j = 4} few in
    let least = pow_pos (unknown_count bits) in
    (omega (arith, count, least), omega (arith, count, most))

abbrev pub AllBelow : ℕ → List ℕ → Type 0
AllBelow n [] = Unit {0}
AllBelow n (x ∷ xs) = (x < n) × AllBelow n xs

pub all_below_at : (n : ℕ) (xs : List ℕ) → AllBelow n xs → (k d : ℕ) → k < length xs → get_or xs k d < n
all_below_at n [] h k d short = absurd (omega arith)
all_below_at n (x ∷ xs) h zero d short = h.0
all_below_at n (x ∷ xs) h (suc k) d short = all_below_at n xs h.1 k d (omega arith)

longer_below : (n : ℕ) (b : Tri) (xs : List ℕ) → AllBelow n xs → AllBelow (2 * n) (flat_map (λ v. map (λ low. 2 * v + low) (choices b)) xs)
longer_below n b [] h = tt
longer_below n Zero (x ∷ xs) h = (omega (arith, h.0), longer_below n Zero xs h.1)
longer_below n One (x ∷ xs) h = (omega (arith, h.0), longer_below n One xs h.1)
longer_below n Either (x ∷ xs) h = (omega (arith, h.0), (omega (arith, h.0), longer_below n Either xs h.1))

pub numbers_below : (bits : List Tri) → AllBelow (2 ^ length bits) (numbers bits)
unfolding numbers
numbers_below [] = (omega arith, tt)
numbers_below (b ∷ bs) =
    let power : 2 * 2 ^ length bs ≡ 2 ^ length (b ∷ bs) = (let p = pow-suc 2 (length bs) in omega (arith, p)) in
    subst (λ (n : ℕ). AllBelow n (numbers (b ∷ bs))) power (longer_below (2 ^ length bs) b (numbers bs) (numbers_below bs))
