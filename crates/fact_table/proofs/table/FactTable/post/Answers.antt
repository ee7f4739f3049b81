use Rattle.std.proofs.Common.{ap, sym, ◌∙◌}
use Rattle.fact_table.proofs.TurnLemmas.{grows_post, looks, pass_adds, IsTurn, begun_by, ends, still_out, out_at_turn, on_ok, on_err}
use Rattle.book_rules.specs.declared.event.Event.TheVariants.{Post}
use Rattle.fact_table.proofs.table.FactTable.post.Goals as goal

pub post_one-posted-requires-clause-out : goal.post_one-posted-requires-clause-out
post_one-posted-requires-clause-out g c κs within =
    out_at_turn g.C.Chip.analysis c.args.seat.now c.turn-turn.new.seat c.deref_mut-book.result.now c.args.done.ticket c.outs_stay.ensures
    (begun_by c.deref_mut-book.ensures.value c.turn-turn.ensures.base c.requires.idle c.turn-turn.ensures.seat c.turn-turn.ensures.begins)
    c.number.ensures.own c.turn-turn.ensures.own c.journal.ensures.legal c.requires.ticket

pub pass-requires-clause-adds : goal.pass-requires-clause-adds
pass-requires-clause-adds g c =
    let k = c.deref_mut-book.result.now in
    let k' = c.post_one-posted.new.book in
    let ticket = c.args.done.ticket in
    pass_adds c.args.seat.now c.turn-turn.new.seat k k'
    (begun_by c.deref_mut-book.ensures.value c.turn-turn.ensures.base c.requires.idle c.turn-turn.ensures.seat c.turn-turn.ensures.begins)
    (grows_post c.turn-turn.new.seat.number k k' (Post ticket.seat ticket.unit) c.post_one-posted.result.0 c.post_one-posted.ensures.posted c.post_one-posted.ensures.refused
    (c.requires.ticket.seat ∙ sym (ap (λ s. s.number) c.turn-turn.ensures.seat)))

pub returns : goal.returns
returns g c =
    let k = c.deref_mut-book.result.now in
    let ticket = c.args.done.ticket in
    let post = c.post_one-posted.ensures in
    let turn : IsTurn c.args.seat.now c.turn-turn.new.seat c.pass.new.seat k c.post_one-posted.new.book = record {
      start = begun_by c.deref_mut-book.ensures.value c.turn-turn.ensures.base c.requires.idle c.turn-turn.ensures.seat c.turn-turn.ensures.begins;
      new_is = c.pass.ensures.seat;
    } in
    let out = out_at_turn g.C.Chip.analysis _ _ k ticket c.outs_stay.ensures turn.start c.number.ensures.own c.turn-turn.ensures.own c.journal.ensures.legal c.requires.ticket in
    record {
      posted = on_ok c.post_one-posted.result.0 post.posted (ends g.C.Chip.analysis _ _ _ k _ ticket (Post ticket.seat ticket.unit) turn out);
      refused = on_err c.post_one-posted.result.0 post.refused (looks g.C.Chip.analysis _ _ _ k _ turn);
      still_out = on_err c.post_one-posted.result.0 post.refused
          (λ same. still_out g.C.Chip.analysis _ _ _ k _ ticket turn same out c.requires.ticket);
      handed_back = post.handed_back;
      own = c.number-2.ensures.own;
    }
