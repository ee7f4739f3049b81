-- The report of a book without opens covers every run, and that of another one shows its open sites.
use Rattle.std.proofs.Common.{◌≡◌, ℕ, true, false, List, [], ◌∷◌, refl, sym, ap, subst, ◌∙◌, inl, inr}
use Rattle.std.specs.Prelude.{◌⊎◌, Contains, ◌&&◌}
use Rattle.call_context.specs.declared.shown.Item.{Item}
use Rattle.call_context.specs.declared.shown.Item.TheVariants.{Instr, Edge, Access, Stack}
use Rattle.call_context.specs.declared.shown.Set.{Set}
use Rattle.call_context.specs.Showing.{HasValue, Shows}
use Rattle.chip_analysis.specs.declared.cause.Cause.{Cause}
use Rattle.chip_analysis.specs.Analysis.{Analysis}
use Rattle.chip_analysis.specs.declared.chip.Work.{Work}
use Rattle.chip_law.specs.Machine.{Machine}
use Rattle.chip_numbers.specs.Single.Single.{Stack as StackAt}
use Rattle.closed_book.specs.Broken.{IsBroken}
use Rattle.closing_law.specs.Covered.{AreCovering}
use Rattle.plain_lemmas.specs.Members.{in_first, in_flat_map, in_rest}
use Rattle.report_bytes.specs.Report.{are_closed, head_line, is_empty, items_of, last_works, report_text}
use Rattle.report_bytes.specs.Shows.{Says, ShowsWorks}
use Rattle.report_bytes.specs.StackLines.{IsCounted, IsNoDeeper, IsTold, TellsStacks, stack_line}
use Rattle.report_text.specs.Promise.{BoundsStack, CoversEveryRun, ShowsOpenSites}
use Rattle.book_rules.specs.Machine.{replay}
use Rattle.book_rules.specs.declared.event.Event.{Event}

-- works that aren't closed leave one open
abbrev LeavesOpen : {A : Type 0} → List (Work A) → Type 0
LeavesOpen {A = A} works = (work : Work A) × (site : ℕ × Cause) × Contains works work × Contains work.opens site

some_open : {A : Type 0} (works : List (Work A)) → are_closed works ≡ false → LeavesOpen works
some_open [] h = absurd (cc)
some_open {A = A} (first ∷ works) h =
    let rest : are_closed works ≡ false → LeavesOpen works = λ left. some_open works left in
    elim first.opens as (λ (opens : List (ℕ × Cause)). first.opens ≡ opens → LeavesOpen (first ∷ works)) [
      | [] ↦ λ e. let found = rest (ap (λ (o : List (ℕ × Cause)). is_empty o && are_closed works) (sym e) ∙ h) in
          (found.0, found.1, in_rest first works found.0 found.2, found.3)
      | site ∷ sites ↦ λ e. (first, site, in_first first works, subst (λ (l : List (ℕ × Cause)). Contains l site) (sym e) (in_first site sites))
    ] refl

-- a report that shows works which cover every run does so too
pub covers_every : {S A : Type 0} (machine : Machine S) (text : ℕ → List ℕ → List ℕ) (works : List (Work A)) (report : List ℕ)
    → ShowsWorks text works report → are_closed works ≡ true → AreCovering machine works → CoversEveryRun machine text report
covers_every machine text works report has closed covering = record {
  says = subst (λ c. Says (head_line c) report) closed has.says;
  shows = λ n item met. let found = covering.shows n item met in record {
    item = found.2.0;
    has = found.2.2;
    line = has.item found.0 found.2.0 found.1 found.2.1;
  };
  stays = covering.stays;
}

-- the `T` line of works that cover every run, and are closed, bounds each stack
pub bounds_stack : {S A : Type 0} (machine : Machine S) (works : List (Work A)) (report : List ℕ) → TellsStacks works report
    → are_closed works ≡ true → AreCovering machine works → BoundsStack machine report
bounds_stack machine works report tells closed covering = record {
  lines = tells.lines;
  deepest = tells.deepest;
  text = subst (λ c. report ≡ report_text c tells.lines tells.deepest) closed tells.text;
  given = tells.given;
  bounds = λ n pc sp met.
      let (work, is_work, shown) = covering.shows n (StackAt pc sp) met in
      by_item pc sp shown.0 shown.2 (in_flat_map (λ (w : Work _). w.items) works work shown.0 is_work shown.1);
}
  where
    by_item : (pc sp : ℕ) (item : Item) → Shows item (StackAt pc sp) → Contains (items_of works) item
        → IsNoDeeper tells.deepest sp ⊎ ((set : Set) × Contains tells.lines (stack_line pc set) × HasValue set sp × IsCounted pc set)
    by_item pc sp (Stack at set) shows there =
        let (line, told) = subst (λ a. Contains tells.lines (stack_line a set) × IsTold tells.deepest a set) (sym shows.0) (tells.shown at set there) in
        elim told [ inl counted ↦ inr (set, line, shows.1, counted) | inr within ↦ inl (within sp shows.1) ]
    by_item pc sp (Instr at bytes) shows there = absurd shows
    by_item pc sp (Edge origin target) shows there = absurd shows
    by_item pc sp (Access at space write size set) shows there = absurd shows

-- each open of a book breaks a limit
abbrev pub OpensBreak : {A : Type 0} → Analysis A → List Event → Type 0
OpensBreak m journal = (work : Work _) (pc : ℕ) (cause : Cause) → Contains (last_works m journal) work
    → Contains work.opens (pc, cause) → IsBroken m (replay m journal).nodes pc cause

pub open_sites : {A : Type 0} (text : ℕ → List ℕ → List ℕ) (m : Analysis A) (journal : List Event) (report : List ℕ)
    → ShowsWorks text (last_works m journal) report → OpensBreak m journal → are_closed (last_works m journal) ≡ false
    → ShowsOpenSites m journal report
open_sites text m journal report has breaks left = record {
  says = subst (λ c. Says (head_line c) report) left has.says;
  some = some_open (last_works m journal) left;
  each = λ work pc cause is_work is_open. record {
    line = has.open_site work (pc, cause) is_work is_open;
    site = breaks work pc cause is_work is_open;
  };
}
