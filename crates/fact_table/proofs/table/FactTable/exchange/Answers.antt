use Rattle.std.proofs.Common.{◌≡◌, true, List, ◌++◌, refl, ap, sym, ◌∙◌, subst}
use Rattle.std.specs.List.{AllByRecursion}
use Rattle.std.proofs.lemmas.Option.{same_Some}
use Rattle.fact_table.specs.Exchange.{AreAhead, ExchangesOn, IsWorked, tickets_of}
use Rattle.fact_table.specs.declared.exchange.Last.TheVariants.{Memory}
use Rattle.fact_table.proofs.TurnLemmas.{exchange_none, exchange_turn, grows_exchange, pass_adds, IsTurn, begun_by, outs_at_turn}
use Rattle.book_rules.specs.Counts.{seat_of}
use Rattle.book_rules.specs.declared.event.Event.{Event}
use Rattle.turn_table.specs.Events.{AllOf}
use Rattle.turn_table.specs.Shown.{turn_ended}
use Rattle.fact_table.proofs.table.FactTable.exchange.Goals as goal

pub exchange_on-exchanged-requires-clause-out : goal.exchange_on-exchanged-requires-clause-out
exchange_on-exchanged-requires-clause-out g c κs within =
    outs_at_turn g.C.Chip.analysis c.args.seat.now c.turn-turn.new.seat c.deref_mut-book.result.now (tickets_of c.args.done.items) c.outs_stay.ensures
    (begun_by c.deref_mut-book.ensures.value c.turn-turn.ensures.base c.requires.idle c.turn-turn.ensures.seat c.turn-turn.ensures.begins)
    c.number.ensures.own c.turn-turn.ensures.own c.journal.ensures.legal c.requires.tickets

pub exchange_on-exchanged-requires-clause-works : goal.exchange_on-exchanged-requires-clause-works
exchange_on-exchanged-requires-clause-works g c κs within =
    let start = begun_by c.deref_mut-book.ensures.value c.turn-turn.ensures.base c.requires.idle c.turn-turn.ensures.seat c.turn-turn.ensures.begins in
    subst (λ base. AllByRecursion (IsWorked (g.C.Chip.analysis base)) c.args.done.items)
    (same_Some (g.C.Chip.base c.args.chip.now) c.deref_mut-book.result.now.base (c.requires.chip ∙ sym start.base)) c.requires.works

pub exchange_on-exchanged-requires-clause-ahead : goal.exchange_on-exchanged-requires-clause-ahead
exchange_on-exchanged-requires-clause-ahead g c κs within =
    let start = begun_by c.deref_mut-book.ensures.value c.turn-turn.ensures.base c.requires.idle c.turn-turn.ensures.seat c.turn-turn.ensures.begins in
    subst (λ base. AreAhead (g.C.Chip.analysis base) c.args.done.items c.look_ahead-ahead.result.items)
    (same_Some (g.C.Chip.base c.args.chip.now) c.deref_mut-book.result.now.base (c.requires.chip ∙ sym start.base))
    (subst (λ done. AreAhead (g.C.Chip.analysis (g.C.Chip.base c.args.chip.now)) done c.look_ahead-ahead.result.items) c.as_slice.ensures.value c.look_ahead-ahead.ensures)

pub pass-requires-clause-adds : goal.pass-requires-clause-adds
pass-requires-clause-adds g c =
    let begun = c.turn-turn.new.seat in
    let k = c.deref_mut-book.result.now in
    let m = g.C.Chip.analysis k.base in
    let k' = c.exchange_on-exchanged.new.book in
    let r = c.exchange_on-exchanged.result in
    let number = ap (λ s. s.number) c.turn-turn.ensures.seat in
    subst (λ b. (added : List Event) × (b.journal ≡ begun.seen ++ added) × AllOf seat_of begun.number added) (sym c.exchange_spent-spent.ensures)
    (pass_adds c.args.seat.now begun k k'
    (begun_by c.deref_mut-book.ensures.value c.turn-turn.ensures.base c.requires.idle c.turn-turn.ensures.seat c.turn-turn.ensures.begins)
    (grows_exchange m begun.number k k' c.args.done.items c.args.want c.args.share r.unposted.items r.tickets.items r.last
    (subst (λ n. AllByRecursion (λ t. t.seat ≡ n) (tickets_of c.args.done.items)) (sym number) c.requires.tickets.seat)
    (subst (λ n. ExchangesOn m n k c.args.done.items c.args.want c.args.share r.unposted.items r.tickets.items r.last k') c.number-number.ensures.number c.exchange_on-exchanged.ensures.exchanges)))

pub returns-clause-exchanges : goal.returns-clause-exchanges
returns-clause-exchanges g c =
    let k = c.deref_mut-book.result.now in
    let k' = c.exchange_on-exchanged.new.book in
    let r = c.exchange_on-exchanged.result in
    let turn : IsTurn c.args.seat.now c.turn-turn.new.seat c.pass.new.seat k k' = record {
      start = begun_by c.deref_mut-book.ensures.value c.turn-turn.ensures.base c.requires.idle c.turn-turn.ensures.seat c.turn-turn.ensures.begins;
      new_is = c.pass.ensures.seat ∙ ap (λ b. turn_ended c.turn-turn.new.seat b.journal) c.exchange_spent-spent.ensures;
    } in
    let out = outs_at_turn g.C.Chip.analysis _ _ k (tickets_of c.args.done.items) c.outs_stay.ensures turn.start
    c.number.ensures.own c.turn-turn.ensures.own c.journal.ensures.legal c.requires.tickets in
    exchange_turn g.C.Chip.analysis _ _ _ k k' c.args.done.items c.args.want c.args.share r turn out c.requires.tickets.seat
    (subst (λ n. ExchangesOn (g.C.Chip.analysis k.base) n k c.args.done.items c.args.want c.args.share r.unposted.items r.tickets.items r.last k')
    (c.number-number.ensures.number ∙ ap (λ s. s.number) turn.start.begun_is) c.exchange_on-exchanged.ensures.exchanges)
    c.exchange_on-exchanged.ensures.left

pub returns-in_default-clause-exchanges : goal.returns-in_default-clause-exchanges
returns-in_default-clause-exchanges g c =
    exchange_none g.C.Chip.analysis c.args.seat.now c.args.done.items c.args.want c.args.share (record { unposted = c.args.done; tickets = c.new.result; last = Memory; left = true })
    c.requires.tickets refl c.new.ensures.items refl refl
