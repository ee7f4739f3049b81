use Rattle.std.proofs.Common.{◌≡◌, ◌∙◌, ap, sym, Some, All, slice_get}
use Rattle.std.specs.BTreeMap.Range.{IsLeBy}
use Rattle.round_core.proofs.PlaceLemmas.{of_copied, popped}
use Rattle.round_core.specs.Shown.{place_cmp}
use Rattle.round_core.proofs.ShownLemmas.{forget-shown, found-first}
use Rattle.round_core.proofs.parts.Parts.first.Goals as goal

pub returns-in-Some-claimable_at-clause-found : goal.returns-in-Some-claimable_at-clause-found
returns-in-Some-claimable_at-clause-found g c = λ b s.
    let p = c.loop-place.self in
    found-first b p (c.loop-place.invariant.shown b s) (ap (λ t. t.returned) c.loop-place.invariant.turns ∙ c.requires) c.in-Some.place
    (of_copied (λ q. All (IsLeBy place_cmp q) p.agenda.candidates.keys) c.first.result c.in-Some.place c.first.ensures.all_from c.in-Some.ensures)
    c.in-Some-claimable_at.unit (sym c.in-Some-claimable_at.ensures)

pub loop-place-preserved : goal.loop-place-preserved
loop-place-preserved g c =
    let p = c.loop-place.self in
    record {
      shown = λ b s. forget-shown b p c.pop_first.new.self c.in-Some.place
          (popped p.agenda.candidates.keys c.pop_first.new.self.keys c.pop_first.result c.in-Some.place
          (of_copied (λ q. slice_get p.agenda.candidates.keys 0 ≡ Some q) c.first.result c.in-Some.place c.first.ensures.first c.in-Some.ensures)
          c.pop_first.ensures.removal c.pop_first.ensures.variant)
          (sym c.in-None.ensures) (c.loop-place.invariant.shown b s);
      turns = c.loop-place.invariant.turns;
    }
