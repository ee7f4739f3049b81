use Rattle.std.proofs.Common.{◌≡◌, ◌∙◌, ◌++◌, ◌∷◌, [], ap, sym, subst}
use Rattle.std.proofs.Math.Path.{ap₂}
use Rattle.round_core.specs.Ahead.{AreLooked}
use Rattle.book_rules.specs.declared.event.Event.TheVariants.{Post}
use Rattle.book_rules.specs.Machine.{all_raised, replay, with_done}
use Rattle.round_core.specs.Raise.{held_rows, with_all, ArePlaced}
use Rattle.book_rules.specs.Stays.{AllStay}
use Rattle.round_core.specs.Turns.{place_out, TakesHome}
use Rattle.round_core.proofs.Cases.{is_some_of}
use Rattle.round_core.proofs.ClaimEvent.{legal-out, book-stays, legal-more}
use Rattle.round_core.proofs.PostEvent.{journal-posted, posted-shown}
use Rattle.round_core.proofs.book.Book.post_ahead.Goals as goal

pub invariant_of-self : goal.invariant_of-self
invariant_of-self g c =
    let m = g.C.Chip.analysis (g.C.Chip.base c.self.inside.chip.value) in
    let p = c.self.inside.parts in
    let q = c.prepare.new.parts in
    let p' = c.post.new.self in
    let t = c.args.done.ticket in
    let work = c.args.done.work in
    let raised = held_rows c.in-Ok.raised.rows.items in
    let seat = c.into_parts-seat.result.0 in
    let parts = c.into_parts-seat.ensures in
    let same_base : (g.C.Chip.base c.self.inside.chip.value) ≡ c.args.self.now.base = ap (λ k. k.base) c.self.view_is in
    let out = legal-out (λ base. g.C.Chip.analysis base) c.args.self.now (g.C.Chip.base c.self.inside.chip.value) p.turns.journal t c.self.view_is c.requires.out in
    let own : work ≡ m.work t.unit t.at t.exit =
    c.requires.work ∙ ap (λ base. (g.C.Chip.analysis base).work t.unit t.at t.exit) (sym same_base) in
    let rise : with_all p.nodes.rows raised ≡ all_raised m p.nodes.rows work.posts =
    c.in-Ok.ensures.raised ∙ ap (λ base. all_raised (g.C.Chip.analysis base) p.nodes.rows work.posts) (c.requires.chip ∙ sym same_base) in
    let more = c.post.ensures.journal ∙ ap (λ u. q.turns.journal ++ Post seat u ∷ []) parts.1 in
    record {
      shows = journal-posted m p.turns.journal p'.turns.journal p' seat t.unit
          (more ∙ ap (λ j. j ++ Post seat t.unit ∷ []) c.prepare.ensures.journal)
          (posted-shown m (replay m p.turns.journal) p q p' seat t work raised c.self.invariant.shows out own c.in-Ok.ensures.prepared rise
          c.post.ensures.nodes
          (c.post.ensures.works ∙ ap₂ (λ u v. with_done q.works.rows (record { unit = u; work = work; versions = v })) parts.1 parts.2)
          (subst (λ u. TakesHome q.turns.out u p'.turns.out) parts.1 c.post.ensures.out)
          c.post.ensures.returned c.post.ensures.agenda);
      legal = legal-more m p.turns.journal p'.turns.journal (Post seat t.unit) (more ∙ ap (λ j. j ++ Post seat t.unit ∷ []) c.prepare.ensures.journal)
          c.self.invariant.legal (t, out, sym parts.0);
    }

pub invariant_of-self-in-Err : goal.invariant_of-self-in-Err
invariant_of-self-in-Err g c =
    let m = g.C.Chip.analysis (g.C.Chip.base c.self.inside.chip.value) in
    book-stays m c.self.inside.parts c.prepare.new.parts c.prepare.ensures.shown c.prepare.ensures.journal c.self.invariant

pub post-requires-clause-out : goal.post-requires-clause-out
post-requires-clause-out g c =
    let m = g.C.Chip.analysis (g.C.Chip.base c.self.inside.chip.value) in
    let p = c.self.inside.parts in
    let q = c.prepare.new.parts in
    let t = c.args.done.ticket in
    let out = legal-out (λ base. g.C.Chip.analysis base) c.args.self.now (g.C.Chip.base c.self.inside.chip.value) p.turns.journal t c.self.view_is c.requires.out in
    let x = (c.prepare.ensures.shown (replay m p.turns.journal) c.self.invariant.shows).out t.unit t out in
    is_some_of (place_out q.turns.out c.into_parts-seat.result.1) x.0 (ap (λ u. place_out q.turns.out u) c.into_parts-seat.ensures.1 ∙ x.1)

pub post-requires-clause-placed : goal.post-requires-clause-placed
post-requires-clause-placed g c =
    subst (λ hs. ArePlaced hs c.in-Ok.raised.rows.items) (sym c.in-Ok.ensures.prepared.nodes) c.in-Ok.ensures.placed

pub prepare-requires-clause-ahead : goal.prepare-requires-clause-ahead
prepare-requires-clause-ahead g c κs within =
    let m = g.C.Chip.analysis (g.C.Chip.base c.self.inside.chip.value) in
    let p = c.self.inside.parts in
    let t = c.args.done.ticket in
    let b = replay m p.turns.journal in
    let out = legal-out (λ base. g.C.Chip.analysis base) c.args.self.now (g.C.Chip.base c.self.inside.chip.value) p.turns.journal t c.self.view_is c.requires.out in
    let stay = c.outs_have_their_nodes.ensures (g.C.Chip.base c.self.inside.chip.value) p.turns.journal t.unit t c.self.invariant.legal out in
    record {
      then = t.nodes;
      stay = subst (λ hs. AllStay t.nodes hs) (sym c.self.invariant.shows.nodes) stay;
      looked = subst (λ base. AreLooked (g.C.Chip.analysis base) t.nodes c.args.done.work.posts c.args.ahead) (sym c.requires.chip) c.requires.ahead;
    }
