use Rattle.std.proofs.Common.{ap, sym, ◌∙◌, ◌≤◌, ℕ, Some, arith, length}
use Rattle.std.proofs.lemmas.Option.{slice_get_past}
use Rattle.std.specs.Borrow.{Bor}
use Rattle.std.specs.Option.{option_map}
use Rattle.cert_pages.specs.Pages.{Page, page_at}
use Rattle.cert_pages.proofs.PageLemmas.{no_number, numbered, some_number}
use Rattle.cert_pages.proofs.pages.Pages.find.Goals as goal

abbrev seen : ℕ × Bor Page → ℕ × Page
seen found = (found.0, found.1.now)

pub returns-in_err-number-clause-found : goal.returns-in_err-number-clause-found
returns-in_err-number-clause-found c =
    let names = c.self.inside.names.keys in
    let keys = c.self.inside.cells.keys in
    ap (option_map seen) c.from_residual.ensures
    ∙ sym (no_number (λ page. page.items) names keys c.args.name.now c.self.invariant c.in_err-number.ensures.index)
    ∙ ap (λ ps. page_at 0 ps c.args.name.now) c.self.view_is

pub returns-then-number-len-clause-found : goal.returns-then-number-len-clause-found
returns-then-number-len-clause-found c =
    let names = c.self.inside.names.keys in
    let keys = c.self.inside.cells.keys in
    let past : length keys ≤ c.in_ok-number.number = omega (arith, c.len.ensures.len, c.if-number-len.true) in
    ap (option_map (numbered (λ page. page.items) c.in_ok-number.number)) (sym (slice_get_past keys c.in_ok-number.number past))
    ∙ sym (some_number (λ page. page.items) names keys c.args.name.now c.in_ok-number.number c.self.invariant c.in_ok-number.ensures.index)
    ∙ ap (λ ps. page_at 0 ps c.args.name.now) c.self.view_is

pub returns-in_err-page-clause-found : goal.returns-in_err-page-clause-found
returns-in_err-page-clause-found c =
    let names = c.self.inside.names.keys in
    let keys = c.self.inside.cells.keys in
    ap (option_map seen) c.from_residual-in_err-page.ensures
    ∙ ap (option_map (numbered (λ page. page.items) c.in_ok-number.number)) c.in_err-page.ensures.key
    ∙ sym (some_number (λ page. page.items) names keys c.args.name.now c.in_ok-number.number c.self.invariant c.in_ok-number.ensures.index)
    ∙ ap (λ ps. page_at 0 ps c.args.name.now) c.self.view_is

pub returns-clause-found : goal.returns-clause-found
returns-clause-found c =
    let names = c.self.inside.names.keys in
    let keys = c.self.inside.cells.keys in
    ap (λ (text : Page). Some (c.in_ok-number.number, text)) c.as_slice.ensures.value
    ∙ ap (option_map (numbered (λ page. page.items) c.in_ok-number.number)) c.in_ok-page.ensures.key
    ∙ sym (some_number (λ page. page.items) names keys c.args.name.now c.in_ok-number.number c.self.invariant c.in_ok-number.ensures.index)
    ∙ ap (λ ps. page_at 0 ps c.args.name.now) c.self.view_is
