use Rattle.made_programs.proofs.Denoted.{denoted, fits}
use Rattle.made_programs.proofs.laws.made_texts_denote.Goals as goal

pub returns-clause-image : goal.returns-clause-image
returns-clause-image c = denoted c.image_or_fault.ensures.one

pub returns-clause-size : goal.returns-clause-size
returns-clause-size c = fits
