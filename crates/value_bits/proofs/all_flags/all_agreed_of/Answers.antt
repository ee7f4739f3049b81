use Rattle.std.proofs.Common.{◌∙◌}
use Rattle.value_bits.specs.AllFlags.{flag_at}
use Rattle.value_bits.proofs.OneWalk.{kept_each, told_of}
use Rattle.value_bits.proofs.all_flags.all_agreed_of.Goals as goal

pub returns : goal.returns
returns g c = λ place.
    let flag = g.F.AllFlags.value c.args.operation.now place in
    let xs = c.args.xs.now in let ys = c.args.ys.now in let zs = c.args.carries.now in
    let wanted = flag_at place c.flags_of-wanted.result in
    let kept = flag_at place c.carries_keep.result in
    c.told-2.ensures place ∙ told_of flag xs ys zs wanted kept c.requires.xs_some c.requires.ys_some c.requires.carries_some (c.flags_of-wanted.ensures place)
    (kept_each place flag xs ys zs wanted kept (c.carries_keep.ensures place))
