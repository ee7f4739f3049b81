use Rattle.std.proofs.Common.{refl, map}
use Rattle.std.proofs.lemmas.Bool.{ne_eqb}
use Rattle.cert_text.proofs.TextLemmas.{joined_more, read_byte, none_refused}
use Rattle.cert_text.proofs.reader.Reader.take.Goals as goal

pub invariant_of-self-2 : goal.invariant_of-self-2
invariant_of-self-2 g c =
    let room = rw (← c.self.view_is) at c.requires.room in
    rw c.in_ok-push.ensures.items (c.self.invariant.0, read_byte _ _ _ _ _ _ c.self.invariant.1 (ne_eqb c.args.byte 10 c.if-byte-eq10.false) room)

pub returns-clause-text : goal.returns-clause-text
returns-clause-text g c =
    rw (← c.self.view_is, c.in_ok-push.ensures.items)
    (rw (joined_more (map (λ line. line.value.items) c.self.inside.lines.items) c.self.inside.line.items) refl)

pub returns-clause-good : goal.returns-clause-good
returns-clause-good g c = rw (← c.self.view_is) (λ number fault. none_refused _ _ _ _ _ number fault (invariant_of-self-2 g c).1)
