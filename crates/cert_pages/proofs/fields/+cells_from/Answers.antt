use Rattle.std.proofs.Common.{◌≡◌, ◌+◌, ◌≤◌, length, length-append, take, drop, arith, ap, ap₂, sym, subst, ◌∙◌, Some, None, List, [], ℕ}
use Rattle.std.specs.Borrow.{Bor}
use Rattle.std.specs.Option.{option_map}
use Rattle.text_fields.specs.Fields.{cut_at}
use Rattle.state_text.specs.Cells.{Parts, cells_in}
use Rattle.cert_pages.specs.Pages.{behind_front}
use Rattle.cert_pages.proofs.FieldLemmas.{field_fits, first_named, last_named, last_other, next_field, place_behind}
use Rattle.cert_pages.proofs.fields.+cells_from.Goals as goal

abbrev seen : Bor (List ℕ) × Bor (List ℕ) × Bor (List ℕ) → Parts
seen parts = (parts.0.now, parts.1.now, parts.2.now)

pub returns-in_err-cells : goal.returns-in_err-cells
returns-in_err-cells t c =
    let a = c.args in
    ap (option_map seen) c.from_residual.ensures
    ∙ last_other (take a.place a.text.now) c.split_at.result.1.now c.in_default.ensures.parts c.in_err-cells.ensures
    ∙ ap (λ text. option_map (behind_front (take a.place a.text.now)) (cells_in text)) c.split_at.ensures.back

pub returns-in_default : goal.returns-in_default
returns-in_default t c =
    let a = c.args in
    last_named c.split_at.result.0.now c.split_at.result.1.now c.in_ok-cells.cells.now c.in_default.ensures.parts c.in_ok-cells.ensures
    ∙ ap₂ (λ front text. option_map (behind_front front) (cells_in text)) c.split_at.ensures.front c.split_at.ensures.back

pub split_at-requires-in-Some-behind : goal.split_at-requires-in-Some-behind
split_at-requires-in-Some-behind t c = field_fits c.split_at.result.1.now c.in-Some.field.now c.in-Some.field-0-1.now c.in-Some.ensures.parts

pub cells_from-requires : goal.cells_from-requires
cells_from-requires t c =
    let a = c.args in
    let cut = c.in-Some.ensures.parts ∙ ap (cut_at 32) c.split_at.ensures.back in
    let at = place_behind a.text.now c.in-Some.field.now c.in-Some.field-0-1.now a.place c.requires cut in
    (omega (arith, at.2, c.decreases), at.2)

pub returns-in-Some-behind : goal.returns-in-Some-behind
returns-in-Some-behind t c =
    let text = c.split_at.result.1.now in
    ap (λ rest. Some (c.split_at.result.0.now, c.in-Some-behind.cells.now, rest)) c.split_at-in-Some-behind.ensures.back
    ∙ first_named c.split_at.result.0.now text c.in-Some.field.now c.in-Some.field-0-1.now c.in-Some-behind.cells.now c.in-Some.ensures.parts
    c.in-Some-behind.ensures
    ∙ ap₂ (λ front text. option_map (behind_front front) (cells_in text)) c.split_at.ensures.front c.split_at.ensures.back

pub returns-in-None : goal.returns-in-None
returns-in-None t c =
    let a = c.args in
    let cut = c.in-Some.ensures.parts ∙ ap (cut_at 32) c.split_at.ensures.back in
    c.cells_from.ensures ∙ next_field a.text.now c.in-Some.field.now c.in-Some.field-0-1.now a.place c.requires cut c.in-None.ensures
