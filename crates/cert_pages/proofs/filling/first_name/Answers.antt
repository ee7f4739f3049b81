use Rattle.cert_pages.proofs.BlockLemmas.{cut_first, cut_last}
use Rattle.cert_pages.proofs.filling.first_name.Goals as goal

pub returns-in-Some-clause-first : goal.returns-in-Some-clause-first
returns-in-Some-clause-first c = cut_first 44 c.args.names.now c.in-Some.name.now c.in-Some.rest.now c.in-Some.ensures.parts

pub returns-in-None-clause-first : goal.returns-in-None-clause-first
returns-in-None-clause-first c = cut_last 44 c.args.names.now c.in-None.ensures.parts
