use Rattle.std.proofs.Common.{◌≡◌, List, refl, arith}
use Rattle.std.proofs.lemmas.Result.{on_ok_weaker}
use Rattle.entry_value.specs.declared.cells.Cell.{Cell}
use Rattle.entry_value.specs.Cells.{write_one}
use Rattle.entry_value.specs.Representing.{IsWritten, is_written}
use Rattle.abs_pages.specs.Paging.{flat}
use Rattle.abs_pages.proofs.Seen.{map_of, seen}
use Rattle.abs_pages.proofs.Written.{paged_behind}
use Rattle.abs_pages.proofs.pages.CellPagesCells.write_one.Goals as goal
use Rattle.abs_pages.proofs.pages.CellPagesCells.write_one.Goals.{After-write_one}

-- cells that are those behind the write, as callers see them
written : (c : After-write_one) (made : List Cell) → let held = c.self.inside in let map = map_of held.lo held.hi held.pages.items in
    made ≡ (write_one map c.args.at c.args.size c.args.value).cells → IsWritten map c.args.self.now c.args.at c.args.size c.args.value made
unfolding write_one
written c made = is_written c.cell_laws.ensures _ _ _ _ _ made (seen c.self.invariant c.self.view_is) (omega arith)
    (record { sized = c.requires.size; normal = c.form-normal.ensures.normal; byte = c.requires.byte })

pub invariant_of-self : goal.invariant_of-self
unfolding write_one
invariant_of-self c =
    let held = c.self.inside in
    let made = (write_one (map_of held.lo held.hi held.pages.items) c.args.at c.args.size c.args.value).cells in
    paged_behind held.lo held.hi held.pages.items c.write_one.new.pages.items made c.write_one.result c.self.invariant
    (written c made refl).are c.write_one.ensures.pages c.write_one.ensures.value c.write_one.ensures.kept

pub returns-clause-value : goal.returns-clause-value
unfolding write_one
returns-clause-value c = on_ok_weaker c.write_one.result (λ value. (written c (flat c.write_one.new.pages.items) value).value) c.write_one.ensures.value

pub returns-clause-covers : goal.returns-clause-covers
unfolding write_one
returns-clause-covers c = on_ok_weaker c.write_one.result (λ value. (written c (flat c.write_one.new.pages.items) value).covers) c.write_one.ensures.value
