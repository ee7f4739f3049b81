-- The bits of a set, and the set of a bit.
use Rattle.std.proofs.Common.{◌≡◌, ℕ, ◌≤◌, length, arith}
use Rattle.std.proofs.lemmas.List.FromFn.{length-map-range_with_len}
use Rattle.value_set.specs.declared.form.Form.{Form}
use Rattle.value_set.specs.Form.{IsNormal}
use Rattle.value_bits.specs.Sets.{chosen}
use Rattle.value_bits.specs.declared.tri.Tri.{Tri}
use Rattle.value_bits.specs.declared.tri.Tri.TheVariants.{Zero, One, Either}
use Rattle.value_bits.specs.Bits.{known_bit, known_bits}

pub known_long : (width : ℕ) (set_so : Form) → length (known_bits width set_so) ≡ width
known_long width set_so = length-map-range_with_len (λ place. known_bit width place set_so) 0 width

pub chosen_normal : (m : ℕ) (t : Tri) → 2 ≤ m → IsNormal m (chosen t)
chosen_normal m Zero wide = (omega arith, omega arith, (omega arith, omega (arith, wide), tt))
chosen_normal m One wide = (omega arith, omega arith, (omega arith, omega (arith, wide), tt))
chosen_normal m Either wide = (omega arith, omega arith, (omega arith, omega (arith, wide), (omega arith, omega (arith, wide), tt)))
