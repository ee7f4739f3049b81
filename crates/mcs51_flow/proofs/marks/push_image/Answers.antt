use Rattle.chip_flow.specs.MarkFacts.{all_marks, more_marks}
use Rattle.mcs51_flow.specs.Marks.{marks_at}
use Rattle.mcs51_flow.proofs.marks.push_image.Goals as goal

pub loop-at-preserved : goal.loop-at-preserved
loop-at-preserved c =
    more_marks (marks_at c.args.image.now) c.loop-at.at 65536 c.loop-at.marks.items _ _ c.loop-at-test.true c.in_ok-push_found.ensures c.loop-at.invariant

pub returns : goal.returns
returns c = all_marks (marks_at c.args.image.now) c.loop-at.at 65536 c.loop-at.marks.items _ c.loop-at-test.false c.loop-at.invariant
