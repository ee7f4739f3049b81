use Rattle.std.proofs.Common.{refl}
use Rattle.std.proofs.lemmas.List.{append-nil}
use Rattle.cert_text.proofs.TextLemmas.{none_refused, tells_piece}
use Rattle.cert_text.proofs.reader.Reader.feed.Goals as goal

pub loop-i-init : goal.loop-i-init
loop-i-init g c = rw (← c.self.view_is) (rw append-nil refl, λ number fault. none_refused _ _ _ _ _ number fault c.self.invariant.1)

pub returns-in-Err-clause-bad : goal.returns-in-Err-clause-bad
returns-in-Err-clause-bad g c = λ none.
    let tells = rw c.loop-i.invariant.0 at c.in-Err.ensures.bad in
    tells_piece _ _ c.args.self.now.text c.args.piece.now c.loop-i.i c.in-Err.error c.loop-i-test.true tells
