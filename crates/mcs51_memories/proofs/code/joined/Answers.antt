use Rattle.std.proofs.Common.{◌≡◌, ◌+◌, ◌∙◌, ap, sym, drop, get_or, arith}
use Rattle.value_set.specs.Form.{members}
use Rattle.value_set.specs.Joining.{join}
use Rattle.mcs51_state.specs.Joined.{all_joined}
use Rattle.mcs51_state.specs.JoinedFacts.{joined_end, joined_more}
use Rattle.mcs51_memories.specs.Codes.{code_set}
use Rattle.mcs51_memories.proofs.code.joined.Goals as goal

pub loop-place-preserved : goal.loop-place-preserved
loop-place-preserved c =
    let image = c.args.image.now in
    let ms = members 65536 c.args.at.now in
    let place = c.loop-place.place in
    let next = join 256 c.loop-place.set (code_set image (get_or ms place 0)) in
    let reads : c.code_set.result ≡ code_set image (get_or ms place 0) = c.code_set.ensures ∙ ap (code_set image) c.nth.ensures in
    let is : c.join-set.result ≡ next = c.join-set.ensures.value ∙ ap (join 256 c.loop-place.set) reads in
    ap (λ set. all_joined (code_set image) set (drop (place + 1) ms)) is
    ∙ sym (joined_more (code_set image) c.loop-place.set ms place 0 (omega (arith, c.loop-place-test.true, c.requires))) ∙ c.loop-place.invariant

pub returns : goal.returns
returns c =
    sym (joined_end (code_set c.args.image.now) c.loop-place.set (members 65536 c.args.at.now) c.loop-place.place (omega (arith, c.loop-place-test.false, c.requires))) ∙ c.loop-place.invariant
