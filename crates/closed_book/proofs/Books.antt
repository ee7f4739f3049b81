-- The works of a finished book are those of its table's units, and each of their opens breaks a limit.
use Rattle.std.proofs.Common.{◌≡◌, Option, None, Some, sym, ap, ◌∙◌, subst}
use Rattle.std.specs.Prelude.{ℕ, Contains}
use Rattle.call_context.specs.declared.node.Node.{Node}
use Rattle.call_context.specs.declared.node.Node.TheVariants.{At, Exit}
use Rattle.call_context.specs.declared.node.Unit.{Unit as WorkUnit}
use Rattle.call_context.specs.declared.node.Unit.TheVariants.{One, Back}
use Rattle.call_context.specs.Nodes.{IsLocation}
use Rattle.chip_analysis.specs.declared.cause.Cause.{Cause}
use Rattle.chip_analysis.specs.declared.chip.Work.{Work}
use Rattle.chip_analysis.specs.Analysis.{Analysis, AreFormed}
use Rattle.chip_analysis.specs.Orderly.{IsOrderly, location_of}
use Rattle.chip_analysis.specs.Table.{IsFormedTable, IsUnitOver}
use Rattle.closed_book.specs.BookFacts.{ArePairs, IsItsTable}
use Rattle.closed_book.specs.Broken.{IsBroken}
use Rattle.closed_book.proofs.ClosedBooks.{one_done}
use Rattle.plain_lemmas.specs.Members.{from_values}
use Rattle.book_rules.specs.Kept.{live_pairs, live_works}
use Rattle.book_rules.specs.Machine.{BookState, Done, done_at}
use Rattle.book_rules.specs.Table.{table_of}

-- the location of a unit over a formed table, and the form of its states
record IsHome {A : Type 0} (m : Analysis A) (table : Node → Option A) (unit : WorkUnit) (at : A) (exit : Option A) : Type 0 where
  pub is_location : IsLocation (location_of unit)
  pub is_held : table (location_of unit) ≡ Some at
  pub formed : AreFormed m unit at exit

home_of : {A : Type 0} (m : Analysis A) (table : Node → Option A) → IsFormedTable m table → (unit : WorkUnit) (at : A) (exit : Option A)
    → IsUnitOver m table unit at exit → IsHome m table unit at exit
home_of m table formed (One (At pc calls frame)) at None over =
    record { is_location = tt; is_held = over; formed = formed (At pc calls frame) at over }
home_of m table formed (One (At pc calls frame)) at (Some exit) over = absurd over
home_of m table formed (One (Exit pc frame)) at exit over = absurd over
home_of m table formed (Back (At pc calls frame) (Exit from left)) at (Some exit) over =
    record { is_location = tt; is_held = over.0; formed = (formed (At pc calls frame) at over.0, formed (Exit from left) exit over.1) }
home_of m table formed (Back (At pc calls frame) (Exit from left)) at None over = absurd over
home_of m table formed (Back (At pc calls frame) (At from calls' frame')) at exit over = absurd over
home_of m table formed (Back (Exit pc frame) node) at exit over = absurd over

-- a work that a finished book lists is that of a unit over its table's states
record IsOver {A : Type 0} (m : Analysis A) (b : BookState A) (work : Work A) : Type 0 where
  pub unit : WorkUnit
  pub at : A
  pub exit : Option A
  pub is_unit : IsUnitOver m (table_of b.nodes) unit at exit
  pub is_work : work ≡ m.work unit at exit

over_of : {A : Type 0} (m : Analysis A) (b : BookState A) → ArePairs b → IsItsTable m b → (work : Work A)
    → Contains (live_works b) work → IsOver m b work
over_of {A = A} m b are its work h =
    let (unit, listed) = from_values (live_pairs b) work h in
    let (is_unit, done, found, same) = are.units unit work listed in
    let (at, exit, over) = its.units unit is_unit in
    let (other, found_so, is_work) = its.works unit at exit over in
    record {
      unit = unit;
      at = at;
      exit = exit;
      is_unit = over;
      is_work = sym same ∙ ap (λ (d : Done A). d.work) (one_done done other (done_at b.done unit) found found_so) ∙ is_work;
    }

pub is_broken : {A : Type 0} (m : Analysis A) → IsOrderly m → (b : BookState A)
    → IsFormedTable m (table_of b.nodes) → ArePairs b → IsItsTable m b → (work : Work A) (pc : ℕ) (cause : Cause)
    → Contains (live_works b) work → Contains work.opens (pc, cause) → IsBroken m b.nodes pc cause
is_broken m laws b formed are its work pc cause listed h =
    let is = over_of m b are its work listed in
    let home = home_of m (table_of b.nodes) formed is.unit is.at is.exit is.is_unit in
    let breaks = laws.opens_break is.unit is.at is.exit pc cause home.formed (subst (λ (w : Work _). Contains w.opens (pc, cause)) is.is_work h) in
    record { node = location_of is.unit; state = is.at; is_location = home.is_location; is_held = home.is_held; at = breaks.0; limit = breaks.1 }
