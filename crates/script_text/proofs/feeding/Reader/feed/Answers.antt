use Rattle.std.proofs.Common.{refl}
use Rattle.std.proofs.lemmas.List.{append-nil}
use Rattle.script_text.proofs.TextLemmas.{none_refused, piece_step, tells_piece}
use Rattle.script_text.proofs.feeding.Reader.feed.Goals as goal

pub loop-i-init : goal.loop-i-init
loop-i-init c = rw (← c.self.view_is) (rw append-nil refl, λ line. none_refused _ _ _ line c.self.invariant)

pub returns-in-Err-clause-bad : goal.returns-in-Err-clause-bad
returns-in-Err-clause-bad c = λ none.
    let tells = rw c.loop-i.invariant.0 at c.in-Err.ensures.bad in
    tells_piece c.args.self.now.text c.args.piece.now c.loop-i.i c.in-Err.error c.loop-i-test.true tells

pub loop-i-preserved : goal.loop-i-preserved
loop-i-preserved c = (
  rw (c.in_default-take.ensures.text, c.loop-i.invariant.0, piece_step c.args.self.now.text c.args.piece.now c.loop-i.i c.loop-i-test.true) refl,
  c.in_default-take.ensures.good,
)
