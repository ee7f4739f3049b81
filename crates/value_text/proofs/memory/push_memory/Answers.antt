use Rattle.std.proofs.Common.{◌++◌, ◌∙◌, ap}
use Rattle.std.specs.Prelude.{codes}
use Rattle.value_text.specs.Cells.{cells_text}
use Rattle.value_text.specs.Ranges.{ranges_text}
use Rattle.value_text.proofs.MemoryLemmas.{memory_written}
use Rattle.value_text.proofs.memory.push_memory.Goals as goal

pub returns : goal.returns
returns g c =
    let width = g.P.Places.width c.args.places in
    let cells = cells_text width (g.P.Places.names c.args.places) (g.M.Cells.map c.args.cells.now).cells in
    memory_written c.args.out.now.items c.extend_from_slice.new.self.items c.push_cells.new.out.items c.extend_from_slice-2.new.self.items
    c.push_ranges.new.out.items (codes "M=") cells (codes "T=") (ranges_text width c.args.touched.now)
    c.in_ok-extend_from_slice.ensures.items c.in_ok-push_cells.ensures c.in_ok-extend_from_slice-2.ensures.items
    (c.in_ok-push_ranges.ensures ∙ ap (λ digits. c.extend_from_slice-2.new.self.items ++ ranges_text digits c.args.touched.now) c.digits.ensures.value)
