use Rattle.promises.proofs.Kept.{kept}
use Rattle.promises.proofs.breaking.every_line_kept.Goals as goal

pub returns : goal.returns
returns c = kept
