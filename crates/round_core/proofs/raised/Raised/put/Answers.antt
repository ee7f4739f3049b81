use Rattle.std.proofs.Common.{◌≡◌, ◌∙◌, ap, sym, subst, Some, None, slice_set}
use Rattle.round_core.specs.Agenda.{IsIn}
use Rattle.book_rules.specs.Machine.{place_of, with_held}
use Rattle.round_core.specs.Raise.{held_of, held_rows}
use Rattle.round_core.proofs.RaisedLemmas.{rows-replaced, rows-pushed, in-set, in-pushed, put-distinct, put-placed, put-next, put-there}
use Rattle.round_core.proofs.raised.Raised.put.Goals as goal

pub returns-in-Some-clause-rows : goal.returns-in-Some-clause-rows
returns-in-Some-clause-rows g c =
    let rs = c.args.self.now.rows.items in
    let x = c.args.risen in
    rows-replaced rs c.in-Some.index x (ap (λ t. place_of (held_rows t) x.node) (sym c.as_slice.ensures.value) ∙ sym c.in-Some.ensures.index)

pub returns-in-Some-clause-over : goal.returns-in-Some-clause-over
returns-in-Some-clause-over g c = λ ns over own.
    let rs = c.args.self.now.rows.items in
    let x = c.args.risen in
    let i = c.in-Some.index in
    let at : place_of (held_rows rs) x.node ≡ Some i = ap (λ t. place_of (held_rows t) x.node) (sym c.as_slice.ensures.value) ∙ sym c.in-Some.ensures.index in
    let rows = rows-replaced rs i x at in
    record {
      distinct = put-distinct ns rs (slice_set rs i x) x over.distinct rows;
      placed = put-placed ns rs (slice_set rs i x) x over.distinct rows own over.placed (λ r h. in-set rs i x r h);
      next = put-there ns rs (slice_set rs i x) x over.distinct rows own i c.args.self.now.next at over.next;
    }

pub returns-in_ok-push-in-None-clause-rows : goal.returns-in_ok-push-in-None-clause-rows
returns-in_ok-push-in-None-clause-rows g c =
    let rs = c.args.self.now.rows.items in
    let x = c.args.risen in
    ap (λ t. held_rows t) c.in_ok-push-in-None.ensures.items
    ∙ rows-pushed rs x (ap (λ t. place_of (held_rows t) x.node) (sym c.as_slice.ensures.value) ∙ sym c.in-None.ensures.index)

pub returns-in_ok-push-in-None-clause-over : goal.returns-in_ok-push-in-None-clause-over
returns-in_ok-push-in-None-clause-over g c = λ ns over own.
    let rs = c.args.self.now.rows.items in
    let rs' = c.push.new.self.items in
    let x = c.args.risen in
    let none : place_of (held_rows rs) x.node ≡ None = ap (λ t. place_of (held_rows t) x.node) (sym c.as_slice.ensures.value) ∙ sym c.in-None.ensures.index in
    let more = c.in_ok-push-in-None.ensures.items in
    let rows : held_rows rs' ≡ with_held (held_rows rs) (held_of x) = ap (λ t. held_rows t) more ∙ rows-pushed rs x none in
    record {
      distinct = put-distinct ns rs rs' x over.distinct rows;
      placed = put-placed ns rs rs' x over.distinct rows own over.placed (λ r h. in-pushed rs x r (subst (λ t. IsIn r t) more h));
      next = put-next ns rs rs' x over.distinct rows own c.args.self.now.next c.in_ok-next-in-None.next over.next c.in_ok-next-in-None.ensures;
    }
