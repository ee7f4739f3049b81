use Rattle.std.proofs.Common.{◌∙◌}
use Rattle.ihex_read.proofs.PlacingLemmas.{any_more, differs_held, differs_free}
use Rattle.ihex_read.specs.Loading.{is_taken}
use Rattle.ihex_read.proofs.placing.clashes.Goals as goal
use Rattle.ihex_read.proofs.placing.clashes.Goals.{in-Some+else-held-byte, in_default}

pub loop-i-preserved : goal.loop-i-preserved
loop-i-preserved c = any_more (is_taken c.args.image.now) c.args.start c.loop-i.i c.args.bytes.now c.loop-i-test.true
    (elim c.match-image-start.branch [ in-Some+else-held-byte w ↦ differs_held _ w.in-Some.held _ w.in-Some.is w.if-held-byte.false | in_default w ↦ differs_free _ _ w.in_default.not-Some ]) ∙ c.loop-i.invariant
