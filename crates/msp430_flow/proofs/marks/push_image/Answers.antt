use Rattle.chip_flow.specs.MarkFacts.{all_marks, more_marks}
use Rattle.msp430_flow.specs.Marks.{marks_at}
use Rattle.msp430_flow.proofs.marks.push_image.Goals as goal

pub loop-word-preserved : goal.loop-word-preserved
loop-word-preserved c =
    more_marks (marks_at c.args.image.now) c.loop-word.word 32768 c.loop-word.marks.items _ _ c.loop-word-test.true c.in_ok-push_found.ensures c.loop-word.invariant

pub returns : goal.returns
returns c = all_marks (marks_at c.args.image.now) c.loop-word.word 32768 c.loop-word.marks.items _ c.loop-word-test.false c.loop-word.invariant
