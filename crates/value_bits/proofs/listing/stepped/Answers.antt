use Rattle.std.proofs.Common.{ℕ, ◌+◌, ◌*◌, ◌%◌, ◌++◌, ◌∙◌, List, [], ◌∷◌, length, length-append, sym, ap, arith}
use Rattle.value_set.specs.StepFacts.{steps_more}
use Rattle.value_bits.proofs.Combinations.{steps_none}
use Rattle.value_bits.proofs.listing.stepped.Goals as goal

pub loop-place-init : goal.loop-place-init
loop-place-init c = record {
  items = c.new-all.ensures ∙ steps_none c.args.modulus c.args.run.now.base c.args.run.now.stride;
  room = ap length c.new-all.ensures;
}

pub loop-place-preserved : goal.loop-place-preserved
loop-place-preserved c =
    let run = c.args.run.now in
    let next = (run.base + c.loop-place.place * run.stride) % c.args.modulus in
    record {
      items = c.push.ensures.items ∙ ap (λ (xs : List ℕ). xs ++ next ∷ []) c.loop-place.invariant.items ∙ sym (steps_more c.args.modulus run.base run.stride c.loop-place.place);
      room = (let room = c.loop-place.invariant.room in let len = ap length c.push.ensures.items in grind (arith, len, room, length-append));
    }
