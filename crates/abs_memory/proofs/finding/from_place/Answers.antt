use Rattle.std.proofs.lemmas.List.{take_rest}
use Rattle.abs_memory.proofs.Places.{ascend_from_place}
use Rattle.abs_memory.proofs.finding.from_place.Goals as goal

pub returns-clause-ascend : goal.returns-clause-ascend
returns-clause-ascend c = rw (take_rest, c.walked_below.ensures.value) (ascend_from_place 0 c.args.place c.args.cells.now c.requires)
