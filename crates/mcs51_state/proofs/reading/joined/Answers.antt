use Rattle.std.proofs.Common.{◌≡◌, ◌+◌, ◌∙◌, ap, sym, drop, get_or, arith}
use Rattle.value_set.specs.Form.{members}
use Rattle.value_set.specs.Joining.{join}
use Rattle.mcs51_state.specs.Joined.{all_joined}
use Rattle.mcs51_state.specs.JoinedFacts.{joined_end, joined_more}
use Rattle.mcs51_state.specs.Reading.{ram_set}
use Rattle.mcs51_state.proofs.reading.joined.Goals as goal

pub loop-place-preserved : goal.loop-place-preserved
loop-place-preserved g c =
    let known = c.args.state.now in
    let ms = members 256 c.args.at.now in
    let place = c.loop-place.place in
    let next = join 256 c.loop-place.set (ram_set known (get_or ms place 0)) in
    let reads : c.ram_set.result ≡ ram_set known (get_or ms place 0) = c.ram_set.ensures ∙ ap (ram_set known) c.nth.ensures in
    let is : c.join-set.result ≡ next = c.join-set.ensures.value ∙ ap (join 256 c.loop-place.set) reads in
    ap (λ set. all_joined (ram_set known) set (drop (place + 1) ms)) is
    ∙ sym (joined_more (ram_set known) c.loop-place.set ms place 0 (omega (arith, c.loop-place-test.true, c.requires))) ∙ c.loop-place.invariant

pub returns : goal.returns
returns g c =
    sym (joined_end (ram_set c.args.state.now) c.loop-place.set (members 256 c.args.at.now) c.loop-place.place (omega (arith, c.loop-place-test.false, c.requires))) ∙ c.loop-place.invariant
