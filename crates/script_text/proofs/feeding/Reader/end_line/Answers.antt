use Rattle.std.proofs.Common.{refl, map}
use Rattle.std.proofs.lemmas.List.{map-append}
use Rattle.script_text.proofs.TextLemmas.{count_lines, joined_feed, read_feed, tells_feed, none_refused}
use Rattle.script_text.proofs.feeding.Reader.end_line.Goals as goal

pub returns-in-Err-clause-bad : goal.returns-in-Err-clause-bad
returns-in-Err-clause-bad c =
    let count = count_lines (λ line. line.value.items) c.self.inside.lines.items _ _ c.len-count.ensures c.self.inside.lines.ok.0 in
    let tells = rw (c.without_return.ensures, c.deref.ensures.value) at c.in-Err.ensures.bad in
    rw (← c.self.view_is) (tells_feed _ _ _ _ _ c.self.invariant count tells)

pub invariant_of-self-2 : goal.invariant_of-self-2
invariant_of-self-2 c =
    let count = count_lines (λ line. line.value.items) c.self.inside.lines.items _ _ c.len-count.ensures c.self.inside.lines.ok.0 in
    let room = rw (← c.self.view_is) at c.requires.room in
    let takes = rw (c.without_return.ensures, c.deref.ensures.value, count) at c.in_default.ensures.ok in
    rw (c.in_ok-push.ensures.items, c.clear.ensures.items, map-append, c.of.ensures) (read_feed _ _ _ _ c.self.invariant takes room)

pub returns-clause-text : goal.returns-clause-text
returns-clause-text c =
    rw (← c.self.view_is, c.in_ok-push.ensures.items, c.clear.ensures.items, map-append, c.of.ensures)
    (rw (joined_feed (map (λ line. line.value.items) c.self.inside.lines.items) c.self.inside.line.items) refl)

pub returns-clause-good : goal.returns-clause-good
returns-clause-good c = λ line. none_refused _ _ _ line (invariant_of-self-2 c)
