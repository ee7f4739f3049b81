use Rattle.std.proofs.Common.{◌≡◌, arith, map}
use Rattle.std.proofs.lemmas.List.{map-append}
use Rattle.ihex_read.proofs.ReaderLemmas.{goes_on, read_line, read_refused, read_bad, read_count, popped, pushed_count}
use Rattle.ihex_read.proofs.feeding.Reader.end_line.Goals as goal

pub overflow_cast-line : goal.overflow_cast-line
overflow_cast-line c =
    let count = pushed_count (λ line. line.value.items) _ _ _ _ _ c.in_ok-push.ensures.items c.len-line.ensures c.push.new.self.ok.0 in
    omega (arith, count, read_count (map (λ line. line.value.items) c.self.inside.lines.items) c.self.inside.line.items, c.self.invariant.small)

pub invariant_of-self-in-Err : goal.invariant_of-self-in-Err
invariant_of-self-in-Err c =
    let going = rw (← c.self.view_is) at c.requires.going in
    let same : c.pop.new.self.items ≡ c.self.inside.lines.items =
    popped c.self.inside.lines.items _ _ _ _ c.in_ok-push.ensures.items c.push.new.self.ok.0 c.pop.ensures.rest in
    let refused = c.in-Err.ensures.err c.self.inside.tail _ c.self.invariant.stands in
    let stands = rw c.in-Err.ensures.rules at refused in
    rw (same, c.in-Err.ensures.rules) (read_refused _ _ _ _ _ _ _ _ _ _ c.self.invariant stands going)

pub returns-in-Err-clause-bad : goal.returns-in-Err-clause-bad
returns-in-Err-clause-bad c =
    let going = rw (← c.self.view_is) at c.requires.going in
    let fault = c.in-Err.ensures.fault c.self.inside.tail _ c.self.invariant.stands in
    let faulty = rw (c.without_return.ensures, c.deref.ensures.value) at fault in
    rw (← c.self.view_is) (read_bad _ _ _ _ _ _ _ _ _ c.self.invariant going faulty
    (pushed_count (λ line. line.value.items) _ _ _ _ _ c.in_ok-push.ensures.items c.len-line.ensures c.push.new.self.ok.0))

pub invariant_of-self-2 : goal.invariant_of-self-2
invariant_of-self-2 c =
    let going = rw (← c.self.view_is) at c.requires.going in
    let room = rw (← c.self.view_is) at c.requires.room in
    let goes = goes_on _ _ _ _ _ _ _ c.self.invariant.cut c.self.invariant.stands going in
    let stands = c.in_default.ensures.ok c.self.inside.tail _ c.self.invariant.stands goes in
    let whole = rw (c.without_return.ensures, c.deref.ensures.value, c.in_default.ensures.rules) at stands in
    rw (c.in_ok-push.ensures.items, c.clear.ensures.items, c.in_default.ensures.rules, map-append, c.of.ensures)
    (read_line _ _ _ _ _ _ _ _ _ _ c.self.invariant whole room)
