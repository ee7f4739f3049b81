use Rattle.std.proofs.Common.{Bool, ◌≡◌, ◌++◌, ◌∷◌, ◌+◌, [], ap, ap₂, sym, ◌∙◌, true, List, ℕ, Option}
use Rattle.std.specs.Prelude.{◌&&◌, nat_le}
use Rattle.std.specs.Borrow.{Bor}
use Rattle.std.specs.Option.{option_map}
use Rattle.cert_pages.specs.Pages.{Filled, block_in, left, names_in, onto_named, pages_named, used_with}
use Rattle.cert_pages.proofs.FillLemmas.{no_more, none_left, one_more, with_page}
use Rattle.cert_pages.proofs.filling.cells_named.Goals as goal

pub loop-rest-init : goal.loop-rest-init
loop-rest-init c =
    let a = c.args in
    ap₂ (λ (text : List ℕ) names. option_map (onto_named text true) (pages_named a.digits a.pages.now a.used 0 names))
    c.new-text.ensures.items c.some_names-rest.ensures

pub returns-in_default-next_page : goal.returns-in_default-next_page
returns-in_default-next_page c =
    let a = c.args in
    let l = c.loop-rest in
    let names = left (option_map (λ rest. rest.now) c.first_name.result.1) in
    sym (no_more a.digits a.pages.now l.used l.least c.first_name.result.0.now names l.text.items l.in_turn c.in_default-next_page.ensures.found)
    ∙ ap (λ ns. option_map (onto_named l.text.items l.in_turn) (pages_named a.digits a.pages.now l.used l.least ns)) (sym c.first_name.ensures.first)
    ∙ ap (λ rest. option_map (onto_named l.text.items l.in_turn) (pages_named a.digits a.pages.now l.used l.least (left (option_map (λ r. r.now) rest))))
    (sym c.in-Some.is) ∙ l.invariant

pub loop-rest-preserved : goal.loop-rest-preserved
loop-rest-preserved c =
    let a = c.args in
    let l = c.loop-rest in
    let n = c.in-Some-next_page in
    let names = left (option_map (λ rest. rest.now) c.first_name.result.1) in
    let text = c.in_ok-extend_from_slice.ensures.items ∙ ap (λ (t : List ℕ). t ++ n.page.now) c.in_ok-push.ensures.items in
    let turn = c.stays_in_turn-in_turn.ensures in
    ap₂ (λ (t : List ℕ) (b : Bool). option_map (onto_named t b) (pages_named a.digits a.pages.now c.used_with-used.result (c.block_in.result + 1) names))
    text turn
    ∙ ap₂ (λ used block. option_map (onto_named (with_page a.digits a.pages.now l.text.items n.page.now) (l.in_turn && nat_le n.number l.used))
    (pages_named a.digits a.pages.now used (block + 1) names)) c.used_with-used.ensures c.block_in.ensures
    ∙ sym (one_more a.digits a.pages.now l.used l.least c.first_name.result.0.now names l.text.items l.in_turn (n.number, n.page.now) n.ensures.found)
    ∙ ap (λ ns. option_map (onto_named l.text.items l.in_turn) (pages_named a.digits a.pages.now l.used l.least ns)) (sym c.first_name.ensures.first)
    ∙ ap (λ rest. option_map (onto_named l.text.items l.in_turn) (pages_named a.digits a.pages.now l.used l.least (left (option_map (λ r. r.now) rest))))
    (sym c.in-Some.is) ∙ l.invariant

pub returns : goal.returns
returns c =
    let a = c.args in
    let l = c.loop-rest in
    sym (none_left a.digits a.pages.now l.used l.text.items l.in_turn)
    ∙ ap (λ rest. option_map (onto_named l.text.items l.in_turn) (pages_named a.digits a.pages.now l.used l.least (left (option_map (λ r. r.now) rest))))
    (sym c.in_default.is) ∙ l.invariant
