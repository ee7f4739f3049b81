use Rattle.std.proofs.Common.{◌-◌, ◌∙◌, ap, sym, arith}
use Rattle.std.proofs.lemmas.List.{get_or_read}
use Rattle.entry_value.specs.Cells.{has_byte}
use Rattle.abs_memory.proofs.Places.{none_at_front, none_at_last}
use Rattle.abs_memory.proofs.finding.owner.Goals as goal

pub returns-then-below-eq0 : goal.returns-then-below-eq0
returns-then-below-eq0 c = none_at_front 0 c.args.cells.now c.args.at c.requires (sym c.places_below-below.ensures.value ∙ c.if-below-eq0.true)

pub returns-then-not-has_byte : goal.returns-then-not-has_byte
returns-then-not-has_byte c =
    none_at_last 0 c.args.cells.now c.args.at (c.places_below-below.result - 1) c.index-cells-below.result c.requires
    (omega arith)
    (ap (λ cell. has_byte cell c.args.at) (sym c.index-cells-below.is) ∙ sym c.has_byte.ensures ∙ c.if-not-has_byte.true)

pub returns : goal.returns
returns c = (
  omega arith,
  λ d.
      ap (λ cell. has_byte cell c.args.at) (sym (get_or_read c.args.cells.now _ _ (omega arith) c.index-cells-below.is d))
      ∙ sym c.has_byte.ensures ∙ c.if-not-has_byte.false,
)
