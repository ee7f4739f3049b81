use Rattle.std.proofs.Common.{◌≡◌, drop}
use Rattle.std.specs.Prelude.{filter, fold, flat_map}
use Rattle.std.specs.Map.{values_of}
use Rattle.item_lines.specs.Line.{item_line_of}
use Rattle.assert_check.specs.Assertions.{breaks_item, least_of, lesser}
use Rattle.assert_check.proofs.deciding.least_broken.Given as goal

-- what is left gives what all give
abbrev pub invariant-loop-work : goal.invariant-loop-work
invariant-loop-work g l =
    let line_of = item_line_of (g.C.InstrText.text_of l.chip) in
    let left = flat_map (λ work. work.items) (values_of (drop l.work-index l.works)) in
    fold (lesser line_of) l.least (filter (breaks_item l.assertion) left)
    ≡ least_of line_of (filter (breaks_item l.assertion) (flat_map (λ work. work.items) (values_of l.works)))
