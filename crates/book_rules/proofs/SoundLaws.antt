-- Each legal event keeps a book sound, and the opening is.
use Rattle.std.specs.Prelude.{List}
use Rattle.chip_analysis.specs.Analysis.{Analysis, KeepsForm, IsOrdered}
use Rattle.book_rules.specs.declared.event.Event.{Event}
use Rattle.book_rules.specs.Machine.{BookState, opening, after, replay, IsLegal, IsLegalJournal}
use Rattle.book_rules.specs.Sound.{IsSound}
use Rattle.book_rules.proofs.FormLaws.{IsInForm-opening, IsInForm-after}
use Rattle.book_rules.proofs.PlacedLaws.{IsPlaced-opening, IsPlaced-after}
use Rattle.book_rules.proofs.ReplayLaws.{IsSteady-opening, IsSteady-after, replay_from-keeps}
use Rattle.book_rules.proofs.WorkLaws.{IsServed-opening, IsServed-after}

module _ {A : Type 0} (m : Analysis A) (keeps : KeepsForm m) (o : IsOrdered m) where
  pub sound_opening : IsSound m (opening m)
  sound_opening = record {
    steady = IsSteady-opening m;
    formed = IsInForm-opening m keeps;
    served = IsServed-opening m keeps o;
    placed = IsPlaced-opening m;
  }

  pub sound_stays : (b : BookState A) (event : Event) → IsLegal b event → IsSound m b → IsSound m (after m b event)
  sound_stays b event legal is = record {
    steady = IsSteady-after m b event legal is.steady;
    formed = IsInForm-after m keeps o.topped b event legal is.formed;
    served = IsServed-after m keeps o b event legal is.formed is.served;
    placed = IsPlaced-after m b event legal is.placed;
  }

  pub sound_replay : (journal : List Event) → IsLegalJournal m journal → IsSound m (replay m journal)
  sound_replay journal legal = replay_from-keeps m (IsSound m) sound_stays (opening m) journal legal sound_opening
