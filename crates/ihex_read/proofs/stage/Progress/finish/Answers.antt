use Rattle.std.proofs.Common.{sym, subst}
use Rattle.ihex_read.specs.ImageText.{Denotes}
use Rattle.ihex_read.proofs.StageLemmas.{over_image, going_fault}
use Rattle.ihex_read.proofs.stage.Progress.finish.Goals as goal

pub returns-then-not-self-clause-no_end : goal.returns-then-not-self-clause-no_end
returns-then-not-self-clause-no_end c = λ tail lines stands size.
    going_fault c.args.self.loader.rules tail lines _ _ _ _ c.if-not-self.true stands size

pub returns-clause-image : goal.returns-clause-image
returns-clause-image c = λ tail lines stands.
    subst (Denotes c.args.self.loader.rules tail lines) (sym c.into_image.ensures)
    (over_image c.args.self.loader.rules tail lines _ _ _ c.if-not-self.false stands)
