-- Tickets that are out to a seat, and the last of them.
use Rattle.std.proofs.Common.{◌≡◌, Bool, List, [], ◌∷◌, ◌++◌, Some}
use Rattle.std.specs.List.{AllByRecursion, IsDistinct}
use Rattle.chip_analysis.specs.Analysis.{Analysis}
use Rattle.fact_table.specs.Seats.{AreOutTo}
use Rattle.book_rules.specs.Machine.{Out}
use Rattle.book_rules.specs.declared.event.Event.{Event}
use Rattle.turn_table.specs.Shown.{ShownSeat}

all_back : {X : Type 0} (P : X → Type 0) → (xs ys : List X) → AllByRecursion P (xs ++ ys) → AllByRecursion P ys
all_back P [] ys a = a
all_back P (x ∷ xs) ys a = all_back P xs ys a.1

distinct_back : {X : Type 0} (e : X → X → Bool) → (xs ys : List X) → IsDistinct e (xs ++ ys) → IsDistinct e ys
unfolding IsDistinct
distinct_back e [] ys d = d
distinct_back e (x ∷ xs) ys d = distinct_back e xs ys d.1

module _ {B A : Type 0} (analysis : B → Analysis A) where
  pub none_out : (base : B) (s : ShownSeat Event B) → Some base ≡ s.base → AreOutTo analysis s []
  unfolding IsDistinct
  none_out base s e = record { base = base; base_is = e; out = record { each = tt; distinct = tt }; seat = tt }

  -- the last of some tickets
  pub back_out : (s : ShownSeat Event B) (xs ys : List (Out A)) → AreOutTo analysis s (xs ++ ys) → AreOutTo analysis s ys
  back_out s xs ys out = record {
    base = out.base;
    base_is = out.base_is;
    out = record { each = all_back _ xs ys out.out.each; distinct = distinct_back _ xs ys out.out.distinct };
    seat = all_back _ xs ys out.seat;
  }
