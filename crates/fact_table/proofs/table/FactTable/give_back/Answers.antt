use Rattle.std.proofs.Common.{refl, ap, sym, ◌∙◌}
use Rattle.fact_table.proofs.TurnLemmas.{IsTurn, begun_by, ends, grows_by, out_at_turn, outs_behind, pass_adds}
use Rattle.book_rules.specs.declared.event.Event.TheVariants.{GiveBack}
use Rattle.fact_table.proofs.table.FactTable.give_back.Goals as goal

pub give_back-requires-after_bounds : goal.give_back-requires-after_bounds
give_back-requires-after_bounds g c κs within =
    out_at_turn g.C.Chip.analysis c.args.seat.now c.turn-turn.new.seat c.deref_mut-book.result.now c.args.ticket c.outs_stay.ensures
    (begun_by c.deref_mut-book.ensures.value c.turn-turn.ensures.base c.requires.idle c.turn-turn.ensures.seat c.turn-turn.ensures.begins)
    c.number.ensures.own c.turn-turn.ensures.own c.journal.ensures.legal c.requires.ticket

pub returns : goal.returns
returns g c =
    let k = c.deref_mut-book.result.now in
    let ticket = c.args.ticket in
    let turn : IsTurn c.args.seat.now c.turn-turn.new.seat c.pass.new.seat k c.give_back.new.self = record {
      start = begun_by c.deref_mut-book.ensures.value c.turn-turn.ensures.base c.requires.idle c.turn-turn.ensures.seat c.turn-turn.ensures.begins;
      new_is = c.pass.ensures.seat;
    } in
    let out = out_at_turn g.C.Chip.analysis _ _ k ticket c.outs_stay.ensures turn.start c.number.ensures.own c.turn-turn.ensures.own c.journal.ensures.legal c.requires.ticket in
    record {
      given_back = ends g.C.Chip.analysis _ _ _ k _ ticket (GiveBack ticket.seat ticket.unit) turn out c.give_back.ensures;
      others_out = λ others h. outs_behind g.C.Chip.analysis _ _ _ k _ ticket (GiveBack ticket.seat ticket.unit) others
          c.outs_stay.ensures c.outs_stay_beside.ensures refl turn c.number.ensures.own c.turn-turn.ensures.own c.journal.ensures.legal c.give_back.ensures h;
      own = c.number-2.ensures.own;
    }

pub pass-requires-clause-adds : goal.pass-requires-clause-adds
pass-requires-clause-adds g c =
    let ticket = c.args.ticket in
    pass_adds c.args.seat.now c.turn-turn.new.seat c.deref_mut-book.result.now c.give_back.new.self
    (begun_by c.deref_mut-book.ensures.value c.turn-turn.ensures.base c.requires.idle c.turn-turn.ensures.seat c.turn-turn.ensures.begins)
    (grows_by _ _ c.give_back.new.self (GiveBack ticket.seat ticket.unit) c.give_back.ensures
    (c.requires.ticket.seat ∙ sym (ap (λ s. s.number) c.turn-turn.ensures.seat)))
