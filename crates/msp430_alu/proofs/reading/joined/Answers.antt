use Rattle.std.proofs.Common.{◌≡◌, ◌+◌, ◌∙◌, ap, sym, drop, get_or, arith}
use Rattle.value_set.specs.Form.{members}
use Rattle.value_set.specs.Joining.{join}
use Rattle.msp430_chip.specs.Memory.{size_of}
use Rattle.msp430_alu.specs.Memory.{read_one, read_each}
use Rattle.msp430_alu.proofs.ReadLists.{member_fits, each_more, each_end}
use Rattle.msp430_alu.proofs.reading.joined.Goals as goal

pub read_one-requires : goal.read_one-requires
read_one-requires g c = member_fits c.args.at.now c.loop-place.place (size_of c.args.width) c.nth.result (omega (arith, c.loop-place-test.true, c.count-place-end.ensures)) c.nth.ensures c.requires

pub loop-place-preserved : goal.loop-place-preserved
loop-place-preserved g c =
    let ms = members 65536 c.args.at.now in
    let one = read_one c.args.device.now c.args.state.now c.args.width in
    let place = c.loop-place.place in
    let next = join 65536 c.loop-place.set (one (get_or ms place 0)).set in
    let reads : c.read_one.result ≡ one (get_or ms place 0) = c.read_one.ensures ∙ ap one c.nth.ensures in
    let is : c.join-set.result ≡ next = c.join-set.ensures.value ∙ ap (λ word. join 65536 c.loop-place.set word.set) reads in
    ap (λ set. read_each c.args.device.now c.args.state.now c.args.width set (drop (place + 1) ms)) is
    ∙ sym (each_more c.args.device.now c.args.state.now c.args.width c.loop-place.set ms place 0 (omega (arith, c.loop-place-test.true, c.count-place-end.ensures))) ∙ c.loop-place.invariant

pub returns : goal.returns
returns g c =
    sym (each_end c.args.device.now c.args.state.now c.args.width c.loop-place.set (members 65536 c.args.at.now) c.loop-place.place (omega (arith, c.loop-place-test.false, c.count-place-end.ensures))) ∙ c.loop-place.invariant
