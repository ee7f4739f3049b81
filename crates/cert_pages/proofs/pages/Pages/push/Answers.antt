use Rattle.std.proofs.Common.{ap, sym, ◌∙◌, ◌++◌, ◌∷◌, [], List, map, length}
use Rattle.std.proofs.lemmas.List.{length-map}
use Rattle.cert_pages.specs.Numbers.{name_of}
use Rattle.cert_pages.specs.Pages.{Page, has_page, names_from}
use Rattle.cert_pages.proofs.PageLemmas.{goes_last, name_last, names_pushed}
use Rattle.cert_pages.proofs.pages.Pages.push.Goals as goal

pub invariant_of-self-2 : goal.invariant_of-self-2
invariant_of-self-2 c =
    let old = c.self.inside.cells.keys in
    let pages = map (λ page. page.items) old in
    let absent = ap (λ ps. has_page ps c.args.page.items) c.self.view_is ∙ c.requires in
    let cells = goes_last (λ page. page.items) old c.insert.new.self.keys c.args.page c.in_ok-insert.ensures.keys absent in
    let number = c.in_ok-name.ensures ∙ ap name_of (c.len.ensures.len ∙ sym (length-map old (λ page. page.items))) in
    let are = ap (map (λ name. name.items)) c.in_ok-reserve.ensures.keys ∙ c.self.invariant in
    name_last (λ name. name.items) c.reserve.new.self.keys c.insert-2.new.self.keys c.in_ok-name.name pages c.in-Ok.ensures.keys are number
    ∙ names_pushed pages c.args.page.items ∙ ap (names_from 0) (sym cells)

pub returns-clause-pushed : goal.returns-clause-pushed
returns-clause-pushed c =
    let old = c.self.inside.cells.keys in
    let absent = ap (λ ps. has_page ps c.args.page.items) c.self.view_is ∙ c.requires in
    goes_last (λ page. page.items) old c.insert.new.self.keys c.args.page c.in_ok-insert.ensures.keys absent
    ∙ ap (λ (ps : List Page). ps ++ c.args.page.items ∷ []) c.self.view_is
