use Rattle.std.proofs.Common.{◌≡◌, ◌-◌, ◌^◌, ◌≤◌, length, take, drop, arith}
use Rattle.std.proofs.lemmas.List.{length-take-le, length-drop}
use Rattle.std.proofs.Math.Nat.{pow-le-pow_right}
use Rattle.value_bits.specs.Bits.{numbers}
use Rattle.value_bits.proofs.Fillings.{numbers_none, numbers_more, numbers_room, numbers_below, all_below_at}
use Rattle.value_bits.proofs.making.+numbers.Goals as goal

pub longer-requires-clause-few : goal.longer-requires-clause-few
longer-requires-clause-few t c =
    let room = numbers_room c.args.all.now (omega arith) c.requires.few in
    let same : c.as_slice.result.now ≡ numbers (take (length c.args.all.now - 1) (drop 1 c.args.all.now)) = cc in
    rw same room

pub longer-requires-clause-small : goal.longer-requires-clause-small
longer-requires-clause-small t c =
    let rest = take (length c.args.all.now - 1) (drop 1 c.args.all.now) in
    let same : c.as_slice.result.now ≡ numbers (take (length c.args.all.now - 1) (drop 1 c.args.all.now)) = cc in
    rw same (λ k d short. let low = all_below_at (2 ^ length rest) (numbers rest) (numbers_below rest) k d short in
    let less : length rest ≤ 15 = omega (arith, length-drop 1 c.args.all.now, length-take-le (length c.args.all.now - 1) (drop 1 c.args.all.now)) in
    let most : 2 ^ length rest ≤ 2 ^ 15 = pow-le-pow_right {n = 2} (omega arith) {i = length rest} {j = 15} less in
    omega (arith, low, most))

pub returns-in-empty : goal.returns-in-empty
returns-in-empty t c = let none = numbers_none c.args.all.now (omega arith) in cc (none, c.push.ensures.items, c.new-alone.ensures)

pub returns-in-len1-up : goal.returns-in-len1-up
returns-in-len1-up t c =
    let more = numbers_more c.args.all.now (omega arith) in
    let same : c.as_slice.result.now ≡ numbers (take (length c.args.all.now - 1) (drop 1 c.args.all.now)) = cc in
    let made = rw same at c.longer.ensures in cc (made, more)
