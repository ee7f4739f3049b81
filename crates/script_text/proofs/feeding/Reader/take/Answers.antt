use Rattle.std.proofs.Common.{refl, map}
use Rattle.std.proofs.lemmas.Bool.{ne_eqb}
use Rattle.script_text.proofs.TextLemmas.{joined_more, read_byte, none_refused}
use Rattle.script_text.proofs.feeding.Reader.take.Goals as goal

pub invariant_of-self-2 : goal.invariant_of-self-2
invariant_of-self-2 c =
    let room = rw (← c.self.view_is) at c.requires.room in
    rw c.in_ok-push.ensures.items (read_byte _ _ _ _ c.self.invariant (ne_eqb c.args.byte 10 c.if-byte-eq10.false) room)

pub returns-clause-text : goal.returns-clause-text
returns-clause-text c =
    rw (← c.self.view_is, c.in_ok-push.ensures.items)
    (rw (joined_more (map (λ line. line.value.items) c.self.inside.lines.items) c.self.inside.line.items) refl)

pub returns-clause-good : goal.returns-clause-good
returns-clause-good c = λ line. none_refused _ _ _ line (invariant_of-self-2 c)
