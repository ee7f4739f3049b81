use Rattle.std.proofs.Common.{arith, ap, ◌∙◌, subst, sym, length, List, ℕ, ◌+◌, ◌*◌, ◌%◌}
use Rattle.value_set.specs.Form.{Ascends, put}
use Rattle.value_set.proofs.Gathers.{steps_none, steps_ascend, steps_room, one_more_step, Ascends-wider}
use Rattle.value_set.proofs.gathering.few_steps.Goals as goal

pub loop-place-init : goal.loop-place-init
loop-place-init c = c.new-values.ensures ∙ steps_none c.args.modulus c.args.base c.args.stride

pub put-requires-clause-room : goal.put-requires-clause-room
put-requires-clause-room c = omega (arith, steps_room c.args.modulus c.args.base c.args.stride c.loop-place.place, ap length c.loop-place.invariant)

pub put-requires-clause-ascending : goal.put-requires-clause-ascending
put-requires-clause-ascending c = subst (λ (xs : List ℕ). Ascends 0 65536 xs) (sym c.loop-place.invariant)
    (Ascends-wider 0 c.args.modulus 65536 _ c.requires.small (steps_ascend c.args.modulus c.args.base c.args.stride c.loop-place.place c.requires.fits.positive))

pub loop-place-preserved : goal.loop-place-preserved
loop-place-preserved c = c.put.ensures.items ∙ ap (λ (xs : List ℕ). put ((c.args.base + c.loop-place.place * c.args.stride) % c.args.modulus) xs) c.loop-place.invariant ∙ sym (one_more_step c.args.modulus c.args.base c.args.stride c.loop-place.place)

pub from_slice-requires : goal.from_slice-requires
from_slice-requires c = omega (arith, steps_room c.args.modulus c.args.base c.args.stride c.loop-place.place, ap length c.loop-place.invariant, ap length c.as_slice.ensures.value)
