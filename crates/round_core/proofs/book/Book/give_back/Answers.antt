use Rattle.std.proofs.Common.{◌∙◌, ap, sym}
use Rattle.book_rules.specs.declared.event.Event.TheVariants.{GiveBack}
use Rattle.book_rules.specs.Machine.{replay, out_at}
use Rattle.round_core.specs.Turns.{place_out}
use Rattle.round_core.proofs.Cases.{is_some_of}
use Rattle.round_core.proofs.ClaimEvent.{given_back, legal-out, legal-more}
use Rattle.round_core.proofs.book.Book.give_back.Goals as goal

pub invariant_of-self : goal.invariant_of-self
invariant_of-self g c =
    let m = g.C.Chip.analysis (g.C.Chip.base c.self.inside.chip.value) in
    let journal = c.self.inside.parts.turns.journal in
    let b = replay m journal in
    let out = legal-out (λ base. g.C.Chip.analysis base) c.args.self.now (g.C.Chip.base c.self.inside.chip.value) journal c.args.ticket c.self.view_is c.requires in
    let own = c.into_parts-seat.ensures.1 in
    let unit = c.into_parts-seat.result.1 in
    let found = ap (λ u. out_at b.out u) own ∙ out in
    record {
      shows = given_back m journal c.give_back.new.self c.into_parts-seat.result.0 unit c.give_back.ensures.journal
          (c.give_back.ensures.home b c.args.ticket c.self.invariant.shows found);
      legal = legal-more m journal c.give_back.new.self.turns.journal (GiveBack c.into_parts-seat.result.0 unit) c.give_back.ensures.journal
          c.self.invariant.legal (c.args.ticket, found, sym c.into_parts-seat.ensures.0);
    }

pub give_back-requires : goal.give_back-requires
give_back-requires g c =
    let p = c.self.inside.parts in
    let t = c.args.ticket in
    let out = legal-out (λ base. g.C.Chip.analysis base) c.args.self.now (g.C.Chip.base c.self.inside.chip.value) p.turns.journal t c.self.view_is c.requires in
    let x = c.self.invariant.shows.out t.unit t out in
    is_some_of (place_out p.turns.out c.into_parts-seat.result.1) x.0 (ap (λ u. place_out p.turns.out u) c.into_parts-seat.ensures.1 ∙ x.1)
