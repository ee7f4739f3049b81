use Rattle.std.proofs.Common.{refl, map, arith}
use Rattle.std.proofs.lemmas.List.{map-append}
use Rattle.cert_text.proofs.TextLemmas.{count_lines, has_number, joined_feed, read_feed, tells_feed, none_refused}
use Rattle.cert_text.proofs.reader.Reader.end_line.Goals as goal

pub overflow_cast-number : goal.overflow_cast-number
overflow_cast-number g c =
    omega (arith, has_number (λ line. line.value.items) _ _ _ _ c.len.ensures c.self.inside.lines.ok.0 c.self.invariant.1.small)

pub overflow_add-number : goal.overflow_add-number
overflow_add-number g c =
    omega (arith, has_number (λ line. line.value.items) _ _ _ _ c.len.ensures c.self.inside.lines.ok.0 c.self.invariant.1.small)

pub returns-in-Err-clause-bad : goal.returns-in-Err-clause-bad
returns-in-Err-clause-bad g c =
    let count = count_lines (λ line. line.value.items) c.self.inside.lines.items _ _ c.len.ensures c.self.inside.lines.ok.0 in
    let tells = rw (c.deref.ensures.value, c.requires.same, ← c.self.view_is) at c.in-Err.ensures.bad in
    rw (← c.self.view_is) (tells_feed _ _ _ _ _ _ _ c.self.invariant.1 (omega (arith, count)) tells)

pub invariant_of-self-2 : goal.invariant_of-self-2
invariant_of-self-2 g c =
    let room = rw (← c.self.view_is) at c.requires.room in
    let step = rw (c.deref.ensures.value, c.requires.same, ← c.self.view_is) at c.in_default.ensures.ok in
    rw (c.in_ok-push.ensures.items, c.clear.ensures.items, map-append, c.of.ensures) (c.self.invariant.0, read_feed _ _ _ _ _ _ c.self.invariant.1 step room)

pub returns-clause-text : goal.returns-clause-text
returns-clause-text g c =
    rw (← c.self.view_is, c.in_ok-push.ensures.items, c.clear.ensures.items, map-append, c.of.ensures)
    (rw (joined_feed (map (λ line. line.value.items) c.self.inside.lines.items) c.self.inside.line.items) refl)

pub returns-clause-good : goal.returns-clause-good
returns-clause-good g c = rw (← c.self.view_is) (λ number fault. none_refused _ _ _ _ _ number fault (invariant_of-self-2 g c).1)
