use Rattle.cert_check.proofs.WalkLemmas.{least_step}
use Rattle.cert_check.proofs.walk.least_of.Goals as goal

pub loop-site-preserved : goal.loop-site-preserved
loop-site-preserved c =
    least_step c.args.first c.loop-site.least c.in_ok-least.least c.site-item.result c.args.others.now c.loop-site.site-index
    c.loop-site-test.true c.site-item.is c.loop-site.invariant c.in_ok-least.ensures
