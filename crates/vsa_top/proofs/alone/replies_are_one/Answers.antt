use Rattle.vsa_top.proofs.AloneLemmas.{one_reply}
use Rattle.vsa_top.proofs.alone.replies_are_one.Goals as goal

pub returns : goal.returns
returns c = one_reply c.families_have_laws.ensures.one c.image_or_fault.ensures.one_image
