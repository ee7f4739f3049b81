use Rattle.std.proofs.Common.{◌∙◌, sym, arith}
use Rattle.std.proofs.lemmas.List.{take_rest}
use Rattle.abs_memory.proofs.Places.{ascend_from_place, cell_from_place}
use Rattle.abs_memory.proofs.finding.cell_at.Goals as goal

pub first_at-requires : goal.first_at-requires
first_at-requires c = rw (take_rest, c.places_below.ensures.value) (ascend_from_place 0 c.args.place c.args.cells.now c.requires)

pub returns : goal.returns
returns c = c.first_at.ensures ∙ (rw (take_rest, c.places_below.ensures.value) (sym (cell_from_place c.args.cells.now c.args.place c.args.place c.args.size (omega arith))))
