-- The journal of one worker alone.
use Rattle.std.specs.Prelude.{◌≡◌, List, [], ◌∷◌}
use Rattle.chip_analysis.specs.Analysis.{Analysis}
use Rattle.book_rules.specs.Machine.{IsFinished, IsLegalJournal, replay}
use Rattle.book_rules.specs.declared.event.Event.{Event}
use Rattle.book_rules.specs.declared.event.Event.TheVariants.{Claim, Post, GiveBack}

-- each claim of seat 0 is followed at once by the post of its unit, and there is no other event
abbrev pub AreTurns : List Event → Type 0
AreTurns [] = Unit {0}
AreTurns (Claim seat unit ∷ Post other posted ∷ events) = (seat ≡ 0) × (other ≡ 0) × (posted ≡ unit) × AreTurns events
AreTurns (Claim seat unit ∷ []) = ⊥
AreTurns (Claim seat unit ∷ Claim other taken ∷ events) = ⊥
AreTurns (Claim seat unit ∷ GiveBack other taken ∷ events) = ⊥
AreTurns (Post seat unit ∷ events) = ⊥
AreTurns (GiveBack seat unit ∷ events) = ⊥

-- the journal of one worker's whole analysis: turns, each of which is legal, to a finished book
pub record FinishesAlone {A : Type 0} (analysis : Analysis A) (journal : List Event) : Type 0 where
  pub turns : AreTurns journal
  pub legal : IsLegalJournal analysis journal
  pub finished : IsFinished (replay analysis journal)
