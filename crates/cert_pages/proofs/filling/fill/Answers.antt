use Rattle.std.proofs.Common.{◌≡◌, ◌++◌, Bool, Option, ap, sym, ◌∙◌, Some, true, List, ℕ}
use Rattle.std.specs.Option.{option_map}
use Rattle.state_text.specs.Cells.{Parts, whole}
use Rattle.cert_pages.specs.Pages.{Filled, dashed_cells}
use Rattle.cert_pages.proofs.FillLemmas.{no_cells, put, put_back}
use Rattle.cert_pages.proofs.filling.fill.Goals as goal

abbrev text_of : ℕ → Bool → List ℕ → Option (Filled (List ℕ))
text_of used turn text = Some (record { read = text; used = used; in_turn = turn })

pub returns-in_default : goal.returns-in_default
returns-in_default c =
    let a = c.args in
    ap (text_of a.used true) (c.in_ok-extend_from_slice.ensures.items ∙ ap (λ (t : List ℕ). t ++ a.text.now) c.new-same.ensures.items)
    ∙ no_cells a.digits a.pages.now a.used a.text.now c.in_default.ensures

pub returns-in_default-2 : goal.returns-in_default-2
returns-in_default-2 c =
    let a = c.args in
    let parts : Parts = (c.in-Some.front.now, c.in-Some.names.now, c.in-Some.rest.now) in
    ap (option_map (put parts)) (sym c.in_default-2.is)
    ∙ put_back a.digits a.pages.now a.used a.text.now parts c.in_ok-found.field-0 c.in-Some.ensures c.in_ok-found.ensures

pub returns : goal.returns
returns c =
    let a = c.args in
    let parts : Parts = (c.in-Some.front.now, c.in-Some.names.now, c.in-Some.rest.now) in
    ap (text_of c.found.inside.used c.found.inside.in_turn) (c.in_ok-text.ensures
    ∙ ap (λ cells. whole (c.in-Some.front.now, dashed_cells cells, c.in-Some.rest.now)) c.deref.ensures.value)
    ∙ ap (λ found. Some (put parts found)) c.found.view_is ∙ ap (option_map (put parts)) (sym c.in-Some-2.is)
    ∙ put_back a.digits a.pages.now a.used a.text.now parts c.in_ok-found.field-0 c.in-Some.ensures c.in_ok-found.ensures
