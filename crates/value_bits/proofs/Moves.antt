-- Bits of numbers that move: the parts of a number, and numbers put together.
use Rattle.std.proofs.Common.{◌≡◌, ℕ, ◌+◌, ◌-◌, ◌*◌, ◌/◌, ◌%◌, ◌^◌, List, [], ◌∷◌, ◌++◌, length, take, drop, replicate, get_or, sym, ap, subst, arith}
use Prim.Native.Nat.{zero, suc}
use Rattle.std.specs.Int.{bit_at}
use Rattle.std.proofs.Math.Nat.{mod-lt, pow-suc}
use Rattle.std.proofs.lemmas.Nat.{pow_pos}
use Rattle.std.proofs.lemmas.List.{length-take-le, length-drop}
use Rattle.value_bits.specs.declared.tri.Tri.{Tri}
use Rattle.value_bits.specs.declared.tri.Tri.TheVariants.{Either}
use Rattle.value_bits.specs.declared.tri.Top.{Top}
use Rattle.value_bits.specs.declared.tri.Top.TheVariants.{Sign, Low, Put}
use Rattle.value_bits.specs.declared.tri.Lowest.{Lowest}
use Rattle.value_bits.specs.declared.tri.Lowest.TheVariants.{High, Given}
use Rattle.chip_numbers.specs.Numbers.{shifted_left, shifted_right, exchanged, sign_extended, low_byte, high_byte, word_of}
use Rattle.value_bits.specs.Bits.{IsBit, Agrees}
use Rattle.value_bits.specs.Sets.{IsTop, top_bit, shift_bits}
use Rattle.value_bits.specs.Lefts.{IsLowest, lowest_bit, left_bits}
use Rattle.value_bits.specs.BitFacts.{bit_below, bits_append, bits_at, bits_drop, bits_take}

agrees_zero : (b : Tri) (bit : ℕ) → IsBit b bit → Agrees (b ∷ []) bit
agrees_zero b bit h = let small = bit_below b bit h in let same : bit % 2 ≡ bit = omega (arith, small) in
    (subst (λ (n : ℕ). IsBit b n) (sym same) h, omega (arith, small))

agrees_append : (low_bits bs : List Tri) (x y : ℕ) → Agrees low_bits x → Agrees bs y → Agrees (low_bits ++ bs) (x + y * 2 ^ length low_bits)
agrees_append low_bits bs x y h k =
    let turned : x + 2 ^ length low_bits * y ≡ x + y * 2 ^ length low_bits = omega arith in
    subst (λ (n : ℕ). Agrees (low_bits ++ bs) n) turned (bits_append low_bits bs x y h k)

agrees_take : (k : ℕ) (bs : List Tri) (v : ℕ) → Agrees bs v → Agrees (take k bs) (v % 2 ^ k)
agrees_take k bs v h =
    let some = pow_pos k in
    bits_take k bs v (v % 2 ^ k) (v / 2 ^ k) (omega (arith, some)) (mod-lt v {m = 2 ^ k} some) h

agrees_repeat : (n : ℕ) (b : Tri) (bit : ℕ) → IsBit b bit → Agrees (replicate n b) (bit * (2 ^ n - 1))
agrees_repeat zero b bit h = omega arith
agrees_repeat (suc n) b bit h =
    let small = bit_below b bit h in
    let power = pow-suc 2 n in
    let some = pow_pos n in
    let whole : bit * (2 ^ suc n - 1) ≡ bit + 2 * (bit * (2 ^ n - 1)) = (let parts : 2 ^ suc n - 1 ≡ 2 * (2 ^ n - 1) + 1 = omega (arith, power, some) in omega (arith, ap (λ (k : ℕ). bit * k) parts)) in
    let low : bit * (2 ^ suc n - 1) % 2 ≡ bit = omega (arith, whole, small) in
    let high : bit * (2 ^ suc n - 1) / 2 ≡ bit * (2 ^ n - 1) = omega (arith, whole, small) in
    (subst (λ (m : ℕ). IsBit b m) (sym low) h, subst (λ (m : ℕ). Agrees (replicate n b) m) (sym high) (agrees_repeat n b bit h))

-- ---- shifts

top_agrees : (place : ℕ) (top : Top) (bits : List Tri) (x bit : ℕ) → Agrees bits x → IsTop place top x bit
    → IsBit (top_bit place top bits) bit
top_agrees place Sign bits x bit h is = subst (λ (n : ℕ). IsBit (get_or bits place Either) n) (sym is) (bits_at bits place x h)
top_agrees place Low bits x bit h is = subst (λ (n : ℕ). IsBit (get_or bits 0 Either) n) (sym is) (bits_at bits 0 x h)
top_agrees place (Put given) bits x bit h is = is

pub shift_agrees : (place : ℕ) (top : Top) (bits : List Tri) (x bit : ℕ) → length bits ≡ place + 1 → Agrees bits x → IsTop place top x bit
    → Agrees (shift_bits place top bits) (shifted_right place x bit)
shift_agrees place top bits x bit long h is =
    let rest = bits_drop 1 bits x h in
    let last = agrees_zero (top_bit place top bits) bit (top_agrees place top bits x bit h is) in
    let size : length (drop 1 bits) ≡ place = omega (arith, length-drop 1 bits) in
    subst (λ (n : ℕ). Agrees (shift_bits place top bits) (x / 2 + bit * 2 ^ n)) size (agrees_append (drop 1 bits) (top_bit place top bits ∷ []) (x / 2) bit rest last)

lowest_agrees : (place : ℕ) (lowest : Lowest) (bits : List Tri) (x bit : ℕ) → Agrees bits x
    → IsLowest place lowest x bit → IsBit (lowest_bit place lowest bits) bit
lowest_agrees place High bits x bit h is = subst (λ (n : ℕ). IsBit (get_or bits place Either) n) (sym is) (bits_at bits place x h)
lowest_agrees place (Given given) bits x bit h is = is

pub left_agrees : (place : ℕ) (lowest : Lowest) (bits : List Tri) (x bit : ℕ) → length bits ≡ place + 1 → Agrees bits x
    → IsLowest place lowest x bit
    → Agrees (left_bits place lowest bits) (shifted_left place x bit)
left_agrees place lowest bits x bit long h is =
    let first = lowest_agrees place lowest bits x bit h is in
    let small = bit_below (lowest_bit place lowest bits) bit first in
    let low : shifted_left place x bit % 2 ≡ bit = omega (arith, small) in
    let high : shifted_left place x bit / 2 ≡ x % 2 ^ place = omega (arith, small) in (
      subst (λ (n : ℕ). IsBit (lowest_bit place lowest bits) n) (sym low) first,
      subst (λ (n : ℕ). Agrees (take place bits) n) (sym high) (agrees_take place bits x h),
    )

-- ---- halves

pub exchange_agrees : (half : ℕ) (bits : List Tri) (x : ℕ) → length bits ≡ half + half → Agrees bits x
    → Agrees (drop half bits ++ take half bits) (exchanged (2 ^ half) x)
exchange_agrees half bits x long h =
    let low = agrees_take half bits x h in
    let high = bits_drop half bits x h in
    let size : length (drop half bits) ≡ half = omega (arith, length-drop half bits) in
    let turned : x / 2 ^ half + x % 2 ^ half * 2 ^ length (drop half bits) ≡ exchanged (2 ^ half) x = omega (arith, ap (λ (n : ℕ). x % 2 ^ half * 2 ^ n) size) in
    subst (λ (n : ℕ). Agrees (drop half bits ++ take half bits) n) turned (agrees_append (drop half bits) (take half bits) (x / 2 ^ half) (x % 2 ^ half) high low)

pub sign_agrees : (bits : List Tri) (x : ℕ) → length bits ≡ 16 → Agrees bits x
    → Agrees (take 8 bits ++ replicate 8 (get_or bits 7 Either)) (sign_extended x)
sign_agrees bits x long h =
    let low = agrees_take 8 bits x h in
    let high = agrees_repeat 8 (get_or bits 7 Either) (bit_at x 7) (bits_at bits 7 x h) in
    let size : length (take 8 bits) ≡ 8 = length-take-le 8 bits (omega arith) in
    let whole : x % 256 + bit_at x 7 * 255 * 2 ^ length (take 8 bits) ≡ sign_extended x = omega (arith, ap (λ (n : ℕ). bit_at x 7 * 255 * 2 ^ n) size) in
    subst (λ (n : ℕ). Agrees (take 8 bits ++ replicate 8 (get_or bits 7 Either)) n) whole (agrees_append (take 8 bits) (replicate 8 (get_or bits 7 Either)) (x % 256) (bit_at x 7 * 255) low high)

pub low_agrees : (bits : List Tri) (x : ℕ) → length bits ≡ 16 → Agrees bits x → Agrees (take 8 bits) (low_byte x)
low_agrees bits x long h = agrees_take 8 bits x h

pub high_agrees : (bits : List Tri) (x : ℕ) → length bits ≡ 16 → Agrees bits x → Agrees (drop 8 bits) (high_byte x)
high_agrees bits x long h = bits_drop 8 bits x h

pub pair_agrees : (lows highs : List Tri) (x y : ℕ) → length lows ≡ 8 → Agrees lows x → Agrees highs y
    → Agrees (lows ++ highs) (word_of x y)
pair_agrees lows highs x y long h k =
    subst (λ (n : ℕ). Agrees (lows ++ highs) (x + y * 2 ^ n)) long (agrees_append lows highs x y h k)
