use Rattle.std.proofs.Common.{◌≡◌, ◌<◌, ◌∙◌, get_or, length, refl, sym, subst, ap, arith}
use Rattle.std.specs.Option.{option_map}
use Rattle.entry_value.specs.declared.cells.Cell.{Cell}
use Rattle.abs_memory.specs.Finding.{places_below}
use Rattle.abs_memory.proofs.Places.{next_is_there, next_is_none}
use Rattle.abs_memory.proofs.finding.next.Goals as goal

pub returns-then-below-cells : goal.returns-then-below-cells
returns-then-below-cells c =
    rw (next_is_none c.args.cells.now c.args.from (sym c.places_below-below.ensures.value ∙ c.if-below-cells.true)) refl

pub returns : goal.returns
returns c =
    let cells = c.args.cells.now in
    let cell = c.index-cells-below.result in
    let lt : places_below cells c.args.from < length cells = omega (arith, c.places_below-below.ensures.value) in
    let is : cell ≡ get_or cells (places_below cells c.args.from) cell =
    subst (λ below. cell ≡ get_or cells below cell) c.places_below-below.ensures.value c.index-cells-below.is in
    ap (option_map (λ (one : Cell). (one.place, one.size, one.word))) (sym (next_is_there cells c.args.from cell lt is))
