use Rattle.std.proofs.Common.{◌/◌, ◌∙◌, ap, refl}
use Rattle.std.specs.Option.{option_map}
use Rattle.entry_value.specs.Cells.{next}
use Rattle.abs_pages.specs.Paging.{flat}
use Rattle.abs_pages.proofs.Lists.{shown}
use Rattle.abs_pages.proofs.Flat.{next_skips}
use Rattle.abs_pages.proofs.finding.next.Goals as goal

pub returns : goal.returns
returns c =
    c.first_from.ensures
    ∙ ap (option_map shown) (ap (λ pages. next (flat pages) c.args.from) c.pages_from.ensures
    ∙ next_skips c.args.pages.now c.args.from (c.args.from / 32) c.requires.each refl)
