-- Sets of two numbers.
use Rattle.std.proofs.Common.{ℕ, ◌<◌, [], ◌∷◌, arith}
use Rattle.value_set.specs.declared.form.Form.TheVariants.{Values}
use Rattle.value_set.specs.Form.{IsNormal}

pub two_normal : (m low high : ℕ) → low < high → high < m → IsNormal m (Values (low ∷ high ∷ []))
two_normal m low high less below = (omega arith, omega arith, (omega arith, omega (arith, less, below), (omega (arith, less), below, tt)))
