use Rattle.std.proofs.Common.{sym, ap, ◌∙◌, arith, get_or, length, map}
use Rattle.std.proofs.lemmas.Bool.{ltb-true}
use Rattle.cert_check.specs.Exits.{moved}
use Rattle.cert_check.proofs.ExitsLemmas.{length_nexts, row_taken}
use Rattle.cert_check.proofs.exits.Due.next.Goals as goal

pub bounds-self-inside-self-inside : goal.bounds-self-inside-self-inside
bounds-self-inside-self-inside g c =
    let below = ltb-true _ _ (sym c.in_ok-row.ensures.lookup.0) in
    omega (arith, below, ap length c.self.invariant.1, length_nexts 0 c.self.inside.rows.now)

pub invariant_of-self : goal.invariant_of-self
invariant_of-self g c =
    let it = c.self.inside in
    let found = c.in_ok-row.ensures.lookup in
    let next = get_or it.nexts.now it.place 0 in
    let written = c.move_on.ensures ∙ ap (λ f. map (moved f next) c.deref_mut.result.now) c.frame_of.ensures
    ∙ ap (map (moved _ next)) c.deref_mut.ensures.value in
    let taken = row_taken c.tests_tell_which_are_one.ensures.frames it.rows.now it.nexts.now it.cursors c.move_on.new.cursors c.deref.result.now it.place
    c.least_of-self-inside.result c.in_ok-row.row.now c.self.invariant.0 c.self.invariant.1 (ltb-true _ _ (sym found.0)) found.1
    (omega (arith, it.cursors.ok.0)) written c.deref.ensures.value c.least_of-self-inside.ensures in
    (taken.0, c.self.invariant.1)

pub returns-clause-taken : goal.returns-clause-taken
returns-clause-taken g c =
    let it = c.self.inside in
    let found = c.in_ok-row.ensures.lookup in
    let next = get_or it.nexts.now it.place 0 in
    let written = c.move_on.ensures ∙ ap (λ f. map (moved f next) c.deref_mut.result.now) c.frame_of.ensures
    ∙ ap (map (moved _ next)) c.deref_mut.ensures.value in
    let taken = row_taken c.tests_tell_which_are_one.ensures.frames it.rows.now it.nexts.now it.cursors c.move_on.new.cursors c.deref.result.now it.place
    c.least_of-self-inside.result c.in_ok-row.row.now c.self.invariant.0 c.self.invariant.1 (ltb-true _ _ (sym found.0)) found.1
    (omega (arith, it.cursors.ok.0)) written c.deref.ensures.value c.least_of-self-inside.ensures in
    sym c.self.view_is ∙ taken.1
