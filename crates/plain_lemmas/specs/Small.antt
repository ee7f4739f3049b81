-- Numbers that are small enough to stay as they are, and the two bytes of a word.
use Prim.Native.Nat.{zero, suc}
use Rattle.std.proofs.Common.{◌≡◌, ℕ, ◌+◌, ◌*◌, ◌/◌, ◌%◌, ◌<◌, ◌==◌, false, refl, arith}

pub byte_alone : (v : ℕ) → v < 256 → v % 256 ≡ v
byte_alone v small = omega arith

pub word_alone : (v : ℕ) → v < 65536 → v % 65536 ≡ v
word_alone v small = omega arith

pub low_of : (x y : ℕ) → x < 256 → (x + 256 * y) % 256 ≡ x
low_of x y small = omega arith

pub high_of : (x y : ℕ) → x < 256 → (x + 256 * y) / 256 ≡ y
high_of x y small = omega arith

pub not_one : (n : ℕ) → n < 2 → (n == 1) ≡ false → n ≡ 0
not_one zero small other = refl
not_one (suc zero) small other = absurd (cc)
not_one (suc (suc n)) small other = absurd (omega (arith, small))
