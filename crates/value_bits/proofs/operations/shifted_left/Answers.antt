use Rattle.std.proofs.Common.{◌≡◌, ℕ, ◌+◌, ◌*◌, ◌%◌, ◌^◌, ap, arith}
use Rattle.std.proofs.Math.Nat.{mod-lt}
use Rattle.value_bits.proofs.Powers.{power_of_word, half_power}
use Rattle.value_bits.proofs.operations.shifted_left.Goals as goal

pub overflow_shl-result : goal.overflow_shl-result
overflow_shl-result c = let few = power_of_word (c.args.place + 1) c.requires.small in omega (arith, few)

pub nonzero_rem-result : goal.nonzero_rem-result
nonzero_rem-result c = let half = half_power c.args.place c.requires.small in omega (arith, half.0, half.2)

pub overflow_mul-result : goal.overflow_mul-result
overflow_mul-result c =
    let half = half_power c.args.place c.requires.small in
    let same : c.args.x % (1 * 2 ^ c.args.place % 65536) ≡ c.args.x % 2 ^ c.args.place = ap (λ (n : ℕ). c.args.x % n) half.0 in
    let rest = mod-lt c.args.x {m = 2 ^ c.args.place} half.2 in
    omega (arith, same, rest, half.1)

pub overflow_add-result : goal.overflow_add-result
overflow_add-result c =
    let half = half_power c.args.place c.requires.small in
    let same : c.args.x % (1 * 2 ^ c.args.place % 65536) ≡ c.args.x % 2 ^ c.args.place = ap (λ (n : ℕ). c.args.x % n) half.0 in
    let rest = mod-lt c.args.x {m = 2 ^ c.args.place} half.2 in
    let bit = c.requires.bit in
    omega (arith, same, rest, half.1, bit)

pub overflow_cast-result : goal.overflow_cast-result
overflow_cast-result c = let few = power_of_word (c.args.place + 1) c.requires.small in omega (arith, few)
