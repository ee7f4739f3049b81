use Rattle.script_text.proofs.TextLemmas.{refusal_stays}
use Rattle.script_text.proofs.laws.refusals_stay.Goals as goal

pub returns : goal.returns
returns c = refusal_stays
