use Rattle.std.proofs.Common.{◌≤◌, ◌∙◌, List, ℕ, length, ap, subst, sym, arith}
use Rattle.value_set.specs.Form.{Ascends, members, set_of}
use Rattle.value_set.proofs.BytesAsWords.{all_gathered, bytes_ascend, bytes_some}
use Rattle.value_set.proofs.Promises.{not_more_than_all}
use Rattle.value_set.proofs.widths.gathered.Goals as goal

pub set_of-requires-clause-some : goal.set_of-requires-clause-some
set_of-requires-clause-some c =
    let all = all_gathered c.loop-place.place c.loop-place.values.items c.as_slice.result.now (members 256 c.args.bytes.now)
    c.loop-place.invariant.items c.as_slice.ensures.value (omega arith) in
    subst (λ (xs : List ℕ). 1 ≤ length xs) (sym all) (bytes_some c.args.bytes.now c.requires)

pub set_of-requires-clause-ascending : goal.set_of-requires-clause-ascending
set_of-requires-clause-ascending c =
    let all = all_gathered c.loop-place.place c.loop-place.values.items c.as_slice.result.now (members 256 c.args.bytes.now)
    c.loop-place.invariant.items c.as_slice.ensures.value (omega arith) in
    subst (λ (xs : List ℕ). Ascends 0 65536 xs) (sym all) (bytes_ascend c.args.bytes.now c.requires)

pub returns : goal.returns
returns c =
    let all = all_gathered c.loop-place.place c.loop-place.values.items c.as_slice.result.now (members 256 c.args.bytes.now)
    c.loop-place.invariant.items c.as_slice.ensures.value (omega arith) in
    c.set_of.ensures ∙ ap (λ (xs : List ℕ). set_of 65536 xs) all

pub put-requires-clause-room : goal.put-requires-clause-room
put-requires-clause-room c =
    let most = not_more_than_all 256 c.args.bytes.now c.requires in
    omega (arith, most, c.count-place-end.ensures, c.loop-place.invariant.longer, c.loop-place-test.true)
