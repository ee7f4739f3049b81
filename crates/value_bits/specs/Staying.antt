-- Each operation on numbers below a modulus stays below it.
use Rattle.std.specs.Prelude.{◌≡◌, ℕ, ◌+◌, ◌*◌, ◌/◌, ◌%◌, ◌^◌, ◌<◌, ◌≤◌}
use Prim.Native.Nat.{zero, suc}
use Rattle.std.proofs.Common.{arith}
use Rattle.std.proofs.Math.Nat.{mod-lt, pow-suc}
use Rattle.std.proofs.lemmas.Nat.{and_le_l, or_lt, xor_lt, pow_pos, pow-add, mul-add-lt, div_below}
use Rattle.std.proofs.lemmas.Nat.Bits.{bit_at-lt}
use Rattle.value_set.specs.Operations.{StaysBelow}
use Rattle.value_bits.specs.declared.tri.Top.{Top}
use Rattle.value_bits.specs.declared.tri.Top.TheVariants.{Sign, Low, Put}
use Rattle.value_bits.specs.declared.tri.Lowest.{Lowest}
use Rattle.value_bits.specs.declared.tri.Lowest.TheVariants.{High, Given}
use Rattle.value_bits.specs.declared.tri.Logic.{Logic}
use Rattle.value_bits.specs.declared.tri.Logic.TheVariants.{And, Or, Xor}
use Rattle.chip_numbers.specs.Numbers.{exchanged, sign_extended, decimal_digits, decimal_sum, decimal_adjusted, high_adjusted, low_adjusted, decimal_total}
use Rattle.value_bits.specs.Bits.{logic_of}
use Rattle.value_bits.specs.Sets.{shift_answer, top_answer}
use Rattle.value_bits.specs.Lefts.{left_answer, lowest_answer}

pub logic_stays : (width : ℕ) (logic : Logic) → StaysBelow (2 ^ width) (λ x y z. logic_of logic x y)
logic_stays width And x y z h k l = let small = and_le_l x y in omega (arith, small)
logic_stays width Or x y z h k l = or_lt width x y h k
logic_stays width Xor x y z h k l = xor_lt width x y h k

pub top_answer_below : (place : ℕ) (top : Top) (x z : ℕ) → top_answer place top x z < 2
top_answer_below place Sign x z = bit_at-lt x place
top_answer_below place Low x z = bit_at-lt x 0
top_answer_below place (Put given) x z = mod-lt z {m = 2} (omega arith)

pub shifted_below : (place x bit : ℕ) → x < 2 ^ (place + 1) → bit < 2 → x / 2 + bit * 2 ^ place < 2 ^ (place + 1)
shifted_below place x bit h b =
    let double : 2 ^ (place + 1) ≡ 2 ^ place * 2 ^ 1 = pow-add 2 place 1 in
    let half : x / 2 < 2 ^ place = omega arith in
    let most : bit * 2 ^ place ≤ 2 ^ place = grind arith in
    omega (arith, half, most, double)

pub shift_stays : (place : ℕ) (top : Top) → StaysBelow (2 ^ (place + 1)) (shift_answer place top)
shift_stays place top x y z h k l = shifted_below place x (top_answer place top x z) h (top_answer_below place top x z)

pub lowest_answer_below : (place : ℕ) (lowest : Lowest) (x z : ℕ) → lowest_answer place lowest x z < 2
lowest_answer_below place High x z = bit_at-lt x place
lowest_answer_below place (Given given) x z = mod-lt z {m = 2} (omega arith)

pub left_below : (place x bit : ℕ) → bit < 2 → x % 2 ^ place * 2 + bit < 2 ^ (place + 1)
left_below place x bit b =
    let double : 2 ^ (place + 1) ≡ 2 ^ place * 2 ^ 1 = pow-add 2 place 1 in
    let rest = mod-lt x {m = 2 ^ place} (pow_pos place) in
    omega (arith, rest, b, double)

pub left_stays : (place : ℕ) (lowest : Lowest) → StaysBelow (2 ^ (place + 1)) (left_answer place lowest)
left_stays place lowest x y z h k l = left_below place x (lowest_answer place lowest x z) (lowest_answer_below place lowest x z)

pub exchanged_below : (n x : ℕ) → x < n * n → exchanged n x < n * n
exchanged_below n x h =
    let positive : 0 < n = grind arith in
    mul-add-lt (x % n) n (x / n) n (mod-lt x {m = n} positive) (div_below x n n positive h)

pub exchange_stays : (n : ℕ) → StaysBelow (n * n) (λ x y z. exchanged n x)
exchange_stays n x y z h k l = exchanged_below n x h

pub sign_stays : StaysBelow 65536 (λ x y z. sign_extended x)
sign_stays x y z h k l = let bit = bit_at-lt x 7 in let low = mod-lt x {m = 256} (omega arith) in omega (arith, bit, low)

pub digits_below : (digits n : ℕ) → decimal_digits digits n < 16 ^ digits
unfolding decimal_digits
digits_below zero n = omega arith
digits_below (suc digits) n =
    let rest = digits_below digits (n / 10) in
    let more : 16 ^ suc digits ≡ 16 ^ digits * 16 = pow-suc 16 digits in
    let low = mod-lt n {m = 10} (omega arith) in
    omega (arith, rest, more, low)

pub decimal_stays : (digits : ℕ) → StaysBelow (16 ^ digits) (decimal_sum digits)
decimal_stays digits x y z h k l = digits_below digits (decimal_total digits x y z)

pub adjust_stays : StaysBelow 256 decimal_adjusted
adjust_stays x y z h k l = mod-lt (high_adjusted (low_adjusted x z) y) {m = 256} (omega arith)

pub adjusted_below : (x y z : ℕ) → decimal_adjusted x y z < 256
adjusted_below x y z = mod-lt (high_adjusted (low_adjusted x z) y) {m = 256} (omega arith)
