-- How often nodes rise and units are claimed.
use Rattle.std.specs.Prelude.{◌+◌, ◌≤◌, List}
use Rattle.std.specs.List.{AllByRecursion}
use Rattle.call_context.specs.declared.node.Unit.{Unit as WorkUnit}
use Rattle.chip_analysis.specs.Analysis.{Analysis}
use Rattle.book_rules.specs.declared.event.Event.{Event}
use Rattle.book_rules.specs.Counts.{claims_of, give_backs_of}
use Rattle.book_rules.specs.Machine.{Held, replay}

-- No node of the book that a journal leads to rose more than 64 times, and no unit was claimed more than 128 times beside
-- those that were given back.
pub record AreBounded {A : Type 0} (analysis : Analysis A) (journal : List Event) : Type 0 where
  pub rises : AllByRecursion (λ (h : Held A). h.rises ≤ 64) (replay analysis journal).nodes
  pub claims : (unit : WorkUnit) → claims_of unit journal ≤ 128 + give_backs_of unit journal
