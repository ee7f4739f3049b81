use Rattle.std.proofs.Common.{ℕ, length, ap, arith}
use Rattle.std.proofs.lemmas.List.FromFn.{length-map-range_with_len, map-range_with_len_more}
use Rattle.value_bits.specs.Bits.{known_bit}
use Rattle.value_bits.proofs.knowing.known_bits.Goals as goal

pub push-requires : goal.push-requires
push-requires c =
    let made = ap length c.loop-place.invariant in
    let long = length-map-range_with_len (λ (p : ℕ). known_bit c.args.width p c.args.set.now) 0 c.loop-place.place in
    omega (arith, made, long)

pub loop-place-preserved : goal.loop-place-preserved
loop-place-preserved c =
    let more = map-range_with_len_more (λ (p : ℕ). known_bit c.args.width p c.args.set.now) 0 c.loop-place.place c.loop-place.place (omega arith) in cc
