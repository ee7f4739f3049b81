use Rattle.std.proofs.lemmas.List.{take_all}
use Rattle.image_gen.specs.LengthFacts.{length-msp430_program}
use Rattle.image_gen.proofs.msp430.program.Goals as goal

pub returns-clause-size : goal.returns-clause-size
returns-clause-size c =
    let all = take_all c.loop-word.word-index c.deref-word-items.result.now c.loop-word-test.false in
    rw (c.loop-word.invariant, all, c.deref-word-items.ensures.value, c.in_ok-words.ensures) (length-msp430_program c.args.number)
