use Rattle.round_core.proofs.PlaceLemmas.{sorted-different}
use Rattle.round_core.proofs.parts.Parts.claimable_candidates.Goals as goal

pub returns-clause-once : goal.returns-clause-once
returns-clause-once g c = sorted-different c.args.self.now.agenda.candidates.keys c.iter.ensures.ordered
