-- Bits and addresses as numbers.
use Rattle.std.proofs.Common.{◌≡◌, ℕ, ◌+◌, ◌*◌, ◌/◌, ◌%◌, ◌<◌, ◌==◌, Bool, true, false, refl, arith}
use Rattle.std.specs.Prelude.{nat_lt, not}
use Rattle.std.specs.Int.{bit_at}
use Rattle.std.proofs.lemmas.Bool.{cond_both}
use Rattle.std.proofs.lemmas.Bool.Decides.{nat_tests}
use Rattle.mcs51_chip.specs.declared.place.Address.TheVariants.{InRam, InSfr}
use Rattle.mcs51_chip.specs.Memory.{bit_address}
use Rattle.mcs51_chip.specs.Registers.{bit_of}
use Rattle.mcs51_branch.specs.Testing.{IsPlace}

-- BITS

pub set_bit : (v : ℕ) → v < 2 → v ≡ bit_of (v == 1)
set_bit v small = cond_both (v == 1) 1 0 (λ n. v ≡ n) (λ e. grind (arith, nat_tests, e)) (λ e. grind (arith, nat_tests, e, small))

other_bit : (flag : Bool) (v : ℕ) → (flag ≡ true → v ≡ 0) → (flag ≡ false → v ≡ 1) → v ≡ bit_of (not flag)
other_bit true v clear set = clear refl
other_bit false v clear set = set refl

pub clear_bit : (v : ℕ) → v < 2 → v ≡ bit_of (not (v == 0))
clear_bit v small = other_bit (v == 0) v (λ e. grind (arith, nat_tests, e)) (λ e. grind (arith, nat_tests, e, small))

pub bit_small : (x place : ℕ) → bit_at x place < 2
bit_small x place = omega arith

pub bit_so : (v : ℕ) → (v == 1) ≡ true → v ≡ 1
bit_so v e = grind (arith, nat_tests, e)

-- ADDRESSES

pub bit_place : (bit : ℕ) → bit < 256 → IsPlace (bit_address bit)
bit_place bit small = cond_both (nat_lt bit 128) (InRam (32 + bit / 8)) (InSfr (bit / 8 * 8)) IsPlace (λ e. omega (arith, small)) (λ e. tt)

pub place_small : (bit : ℕ) → bit % 8 < 8
place_small bit = omega arith
