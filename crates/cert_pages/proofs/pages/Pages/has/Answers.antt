use Rattle.std.proofs.Common.{ap, ◌∙◌}
use Rattle.cert_pages.specs.Pages.{has_page}
use Rattle.cert_pages.proofs.PageLemmas.{any_has}
use Rattle.cert_pages.proofs.pages.Pages.has.Goals as goal

pub returns : goal.returns
returns c =
    c.contains.ensures ∙ any_has (λ page. page.items) c.args.page.now c.self.inside.cells.keys
    ∙ ap (λ ps. has_page ps c.args.page.now) c.self.view_is
