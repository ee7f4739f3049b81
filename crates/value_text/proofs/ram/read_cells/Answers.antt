use Rattle.std.proofs.Common.{◌∙◌, ap, sym, subst}
use Rattle.std.specs.Option.{option_map}
use Rattle.entry_value.specs.Cells.{AreCells}
use Rattle.value_text.specs.Cells.{cells_is_exact}
use Rattle.value_text.proofs.ram.read_cells.Goals as goal

pub ram_of-requires-clause-are : goal.ram_of-requires-clause-are
ram_of-requires-clause-are g c =
    let digits = g.P.Places.width c.args.ram.places in
    let names = g.P.Places.names c.args.ram.places in
    let exact = cells_is_exact digits names c.args.ram.framed (g.P.Places.keeps c.args.ram.places) c.args.ram.lo c.args.ram.hi c.requires.short c.names_are_exact.ensures.exact
    c.names_are_exact.ensures.apart c.names_are_exact.ensures.parted in
    subst (AreCells c.args.ram.lo c.args.ram.hi c.args.ram.lo) (sym c.deref.ensures.value) (exact.only c.args.text.now c.in-Some.cells.items (sym
    c.in_ok-cells.ensures ∙ ap (option_map (λ cells. cells.items)) c.in-Some.is)).0.0
