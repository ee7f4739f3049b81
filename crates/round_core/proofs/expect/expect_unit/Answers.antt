use Rattle.std.proofs.Common.{◌≡◌, ◌∙◌, ap, subst, sym, OnOk, Option, Some, ℕ, option_map, unwrap_or}
use Rattle.call_context.specs.declared.node.Frame.{Frame}
use Rattle.call_context.specs.declared.node.Unit.TheVariants as unit
use Rattle.round_core.specs.declared.place.Place.TheVariants.{One}
use Rattle.round_core.specs.Agenda.{IsIn, places_in}
use Rattle.round_core.specs.Expected.{ExpectsUnit}
use Rattle.book_rules.specs.Machine.{Held, HasRisen, versions_of}
use Rattle.round_core.specs.Returns.{HasReturnsTo}
use Rattle.round_core.proofs.Cases.{on_ok_both, on_ok_map}
use Rattle.round_core.proofs.expect.expect_unit.Goals as goal

same_some : (a b : ℕ) → Some a ≡ Some b → a ≡ b
same_some a b e = cc

abbrev rises_of : {A : Type 0} → Option (Held A) → ℕ
rises_of o = unwrap_or (option_map (λ h. h.rises) o) 0

pub returns-in_ok-expect_again-in-One-clause-expected : goal.returns-in_ok-expect_again-in-One-clause-expected
returns-in_ok-expect_again-in-One-clause-expected g c =
    let old = c.args.agenda.now in
    let new = c.expect_waits.new.agenda in
    let fs = c.args.frames.now in
    let rows = c.args.nodes.now.rows in
    let claimed = c.args.claimed in
    let node = c.in-One.node in
    let now : versions_of rows (unit.One node) ≡ record { at = c.in-Some.at; exit = 0 } = ap (λ o. record { at = rises_of o; exit = 0 }) c.in-Some.ensures.held in
    subst (λ u. OnOk c.expect_waits.result (ExpectsUnit old new rows u claimed fs)) (sym c.in-One.is)
    (on_ok_map _ _ c.expect_waits.result
    (λ both at e. subst (λ p. (HasRisen claimed (versions_of rows (unit.One node)) → IsIn (One p) new.candidates.keys) × ((f : Frame) → IsIn f fs → IsIn p (places_in new.waiting f)) × ((f : Frame) → IsIn f fs → HasReturnsTo new.candidates.keys p (places_in old.exits f)))
    (same_some c.in-Some.place at (c.in-Some.ensures.place ∙ e))
    (λ h. c.expect_waits.ensures.grows.candidates _ (c.in_ok-expect_again-in-One.ensures.added (subst (λ v. HasRisen claimed v) now h)), both.0, both.1))
    (on_ok_both _ _ c.expect_waits.result c.expect_waits.ensures.waiting c.expect_waits.ensures.returns))

pub returns-in_ok-expect_again-in-One-clause-grows : goal.returns-in_ok-expect_again-in-One-clause-grows
returns-in_ok-expect_again-in-One-clause-grows g c = record {
  candidates = λ p h. c.expect_waits.ensures.grows.candidates p (c.expect_again.ensures.kept p h);
  waiting = c.expect_waits.ensures.grows.waiting;
  exits = c.expect_waits.ensures.grows.exits;
}
