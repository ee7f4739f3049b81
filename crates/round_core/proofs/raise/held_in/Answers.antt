use Rattle.std.proofs.Common.{◌≡◌, ◌∙◌, ap, sym, subst, Some, None, MatchOption, slice_get}
use Rattle.book_rules.specs.Machine.{place_of, held_at}
use Rattle.round_core.specs.Raise.{with_all, held_rows}
use Rattle.round_core.proofs.Cases.{get-index}
use Rattle.round_core.proofs.ListLemmas.{get-in}
use Rattle.round_core.proofs.NodesLemmas.{at-none}
use Rattle.round_core.proofs.RaiseLemmas.{held_at-with_all-none, held_at-with_all-some}
use Rattle.round_core.proofs.RaisedLemmas.{row-there, place-beside, index-bound}
use Rattle.round_core.proofs.raise.held_in.Goals as goal

pub returns-in-Some : goal.returns-in-Some
returns-in-Some g c =
    let rs = c.args.earlier.now.rows.items in
    let node = c.args.node.now in
    let i = c.in-Some.index in
    let r = c.index-risen.result.now in
    let e : place_of (held_rows rs) node ≡ Some i = ap (λ t. place_of (held_rows t) node) (sym c.as_slice.ensures.value) ∙ sym c.in-Some.ensures.index in
    let at : slice_get rs i ≡ Some r = get-index rs i r (index-bound rs node i e) c.index-risen.ensures in
    let there = row-there rs node i e r at in
    record {
      place = sym (ap (λ n. place_of (with_all c.args.nodes.now.rows (held_rows rs)) n) (sym there.0) ∙ c.requires.placed r (get-in rs i r at));
      held = held_at-with_all-some c.args.nodes.now.rows (held_rows rs) node _ c.requires.distinct there.1;
    }

pub returns-in-None : goal.returns-in-None
returns-in-None g c =
    let rs = c.args.earlier.now.rows.items in
    let node = c.args.node.now in
    let none : held_at (held_rows rs) node ≡ None =
    at-none node (held_rows rs) (ap (λ t. place_of (held_rows t) node) (sym c.as_slice.ensures.value) ∙ sym c.in-None.ensures.index) in
    record {
      place = c.find_near.ensures.place ∙ sym (place-beside c.args.nodes.now.rows (held_rows rs) node none);
      held = subst (λ o. MatchOption c.find_near.result (o ≡ None) (λ found. o ≡ Some (record { node = node; state = found.1.now; rises = found.2 })))
          (sym (held_at-with_all-none c.args.nodes.now.rows (held_rows rs) node none)) c.find_near.ensures.held;
    }
