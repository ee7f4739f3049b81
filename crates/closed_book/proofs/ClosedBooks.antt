-- The table of a finished book without opens, with the works of its units, is a closed book.
use Rattle.std.specs.Prelude.{◌≡◌, ◌==◌, Bool, true, false, not, ◌&&◌, ◌||◌, Option, None, Some, List, [], ◌∷◌, Contains, length, map, filter}
use Rattle.std.specs.List.{AllByRecursion, IsDistinct, list_all}
use Rattle.std.specs.Map.{keys_of}
use Rattle.std.specs.Option.{option_map}
use Rattle.std.proofs.Common.{refl, sym, ◌∙◌, ap, subst, inl, inr, arith}
use Rattle.std.proofs.lemmas.Bool.{cases_Bool, cond-true, cond-false, eqb-true}
use Rattle.std.proofs.lemmas.List.Elements.{All-from_recursion, recursion_from_All, All-contains_itself}
use Rattle.call_context.specs.declared.node.Node.{Node}
use Rattle.call_context.specs.declared.node.Node.TheVariants.{At, Exit}
use Rattle.call_context.specs.declared.node.Unit.{Unit as WorkUnit}
use Rattle.call_context.specs.declared.node.Unit.TheVariants.{One, Back}
use Rattle.chip_analysis.specs.Analysis.{Analysis}
use Rattle.chip_analysis.specs.Table.{IsUnitOver, IsHeldIn, IsClosedTable, IsFormedTable}
use Rattle.chip_analysis.specs.declared.chip.Work.{Work}
use Rattle.closed_book.specs.BookFacts.{ArePairs, IsItsTable}
use Rattle.closed_book.specs.ClosedBook.{IsClosedBook, table_in}
use Rattle.book_rules.specs.Counts.{AreApart}
use Rattle.book_rules.specs.Kept.{live_pairs, nodes_of}
use Rattle.book_rules.specs.Machine.{BookState, Held, Done, done_at, held_at, IsUnit, IsFinished, IsClosed}
use Rattle.book_rules.specs.Same.{same_node, same_unit}
use Rattle.book_rules.specs.Table.{table_of}
use Rattle.plain_lemmas.specs.Cases.{both}

-- TABLES THAT HOLD THE SAME
module _ {A : Type 0} (m : Analysis A) (f g : Node → Option A) (same : (node : Node) → f node ≡ g node) where
  pub unit_like : (unit : WorkUnit) (at : A) (exit : Option A) → IsUnitOver m f unit at exit → IsUnitOver m g unit at exit
  unit_like (One (At pc calls frame)) at None u = sym (same (At pc calls frame)) ∙ u
  unit_like (One (At pc calls frame)) at (Some exit) u = absurd u
  unit_like (One (Exit pc frame)) at exit u = absurd u
  unit_like (Back (At pc calls frame) (Exit from left)) at (Some exit) u =
      (sym (same (At pc calls frame)) ∙ u.0, sym (same (Exit from left)) ∙ u.1, u.2)
  unit_like (Back (At pc calls frame) (Exit from left)) at None u = absurd u
  unit_like (Back (At pc calls frame) (At from calls' frame')) at exit u = absurd u
  unit_like (Back (Exit pc frame) node) at exit u = absurd u

  held_like : (node : Node) (state : A) → IsHeldIn m f node state → IsHeldIn m g node state
  held_like node state h = (h.0, sym (same node) ∙ h.1, h.2)

formed_like : {A : Type 0} (m : Analysis A) (f g : Node → Option A) → ((node : Node) → f node ≡ g node)
    → IsFormedTable m f → IsFormedTable m g
formed_like m f g same formed = λ node state e. formed node state (same node ∙ e)

pub closed_like : {A : Type 0} (m : Analysis A) (f g : Node → Option A) → ((node : Node) → f node ≡ g node)
    → IsClosedTable m f → IsClosedTable m g
closed_like m f g same closed = record {
  started = held_like m f g same m.first_node m.first_state closed.started;
  no_open = λ unit at exit u. closed.no_open unit at exit (unit_like m g f (λ node. sym (same node)) unit at exit u);
  posts_held = λ unit at exit node state u there. held_like m f g same node state
      (closed.posts_held unit at exit node state (unit_like m g f (λ n. sym (same n)) unit at exit u) there);
}

abbrev pairs : {A : Type 0} → List (Held A) → List (Node × A)
pairs {A = A} hs = map (λ (h : Held A). (h.node, h.state)) hs

pub same_table : {A : Type 0} (hs : List (Held A)) (node : Node) → table_of hs node ≡ table_in (pairs hs) node
same_table [] node = refl
same_table {A = A} (h ∷ hs) node = elim (cases_Bool (same_node node h.node)) [
  | inl s ↦ ap (option_map (λ (x : Held A). x.state)) (cond-true _ _ _ s) ∙ sym (cond-true _ _ _ s)
  | inr s ↦ ap (option_map (λ (x : Held A). x.state)) (cond-false _ _ _ s) ∙ same_table hs node ∙ sym (cond-false _ _ _ s)
]

none_apart : {A : Type 0} (hs : List (Held A)) (node : Node) → held_at hs node ≡ None
    → AllByRecursion (λ other. same_node node other ≡ false) (keys_of (pairs hs))
none_apart [] node none = tt
none_apart (h ∷ hs) node none = elim (cases_Bool (same_node node h.node)) [
  | inl s ↦ let bad : Some h ≡ None = sym (cond-true _ _ _ s) ∙ none in absurd (cc)
  | inr s ↦ (s, none_apart hs node (sym (cond-false _ _ _ s) ∙ none))
]

pub nodes_distinct : {A : Type 0} (hs : List (Held A)) → AreApart hs → IsDistinct same_node (keys_of (pairs hs))
unfolding IsDistinct
nodes_distinct [] apart = tt
nodes_distinct (h ∷ hs) apart = (none_apart hs h.node apart.0, nodes_distinct hs apart.1)

-- WORKS WITHOUT OPENS
none_of : {X : Type 0} (xs : List X) → (length xs == 0) ≡ true → xs ≡ []
none_of [] e = refl
none_of (x ∷ xs) e = let n : length (x ∷ xs) ≡ 0 = eqb-true (length (x ∷ xs)) 0 e in absurd (omega arith)

of_none : {X : Type 0} (xs : List X) → xs ≡ [] → (length xs == 0) ≡ true
of_none [] e = refl
of_none (x ∷ xs) e = absurd (cc)

module _ {A : Type 0} (live : WorkUnit → Bool) where
  abbrev is_shut : WorkUnit × Work A → Bool
  is_shut pair = not (live pair.0) || (length pair.1.opens == 0)

  abbrev live_in : List (WorkUnit × Work A) → List (WorkUnit × Work A)
  live_in ps = filter (λ (p : WorkUnit × Work A). live p.0) ps

  abbrev HasNone : WorkUnit × Work A → Type 0
  HasNone pair = pair.1.opens ≡ []

  shut_all : (ps : List (WorkUnit × Work A)) → list_all is_shut ps ≡ true → AllByRecursion HasNone (live_in ps)
  shut_all [] e = tt
  shut_all (p ∷ ps) e =
      let b = both (is_shut p) (list_all is_shut ps) e in
      let rest = shut_all ps b.1 in
      elim (cases_Bool (live p.0)) [
        | inl s ↦
            let own : (length p.1.opens == 0) ≡ true = sym (ap (λ l. not l || (length p.1.opens == 0)) s) ∙ b.0 in
            subst (AllByRecursion HasNone) (sym (cond-true _ _ _ s)) (none_of p.1.opens own, rest)
        | inr s ↦ subst (AllByRecursion HasNone) (sym (cond-false _ _ _ s)) rest
      ]

  all_shut : (ps : List (WorkUnit × Work A)) → AllByRecursion HasNone (live_in ps) → list_all is_shut ps ≡ true
  all_shut [] all = refl
  all_shut (p ∷ ps) all = elim (cases_Bool (live p.0)) [
    | inl s ↦
        let parts : AllByRecursion HasNone (p ∷ live_in ps) = subst (AllByRecursion HasNone) (cond-true _ _ _ s) all in
        let own : is_shut p ≡ true = ap (λ l. not l || (length p.1.opens == 0)) s ∙ of_none p.1.opens parts.0 in
        ap (λ t. t && list_all is_shut ps) own ∙ all_shut ps parts.1
    | inr s ↦
        let own : is_shut p ≡ true = ap (λ l. not l || (length p.1.opens == 0)) s in
        ap (λ t. t && list_all is_shut ps) own ∙ all_shut ps (subst (AllByRecursion HasNone) (cond-false _ _ _ s) all)
  ]

  pub shut_open : (ps : List (WorkUnit × Work A)) → list_all is_shut ps ≡ true → (p : WorkUnit × Work A)
      → Contains (live_in ps) p → p.1.opens ≡ []
  shut_open ps e p there = subst HasNone there.2 (All-from_recursion HasNone (live_in ps) (shut_all ps e) there.0 p there.1)

  pub open_shut : (ps : List (WorkUnit × Work A)) → ((p : WorkUnit × Work A) → Contains (live_in ps) p → p.1.opens ≡ [])
      → list_all is_shut ps ≡ true
  open_shut ps none = all_shut ps (recursion_from_All HasNone (live_in ps) (λ k d inside. none _ (All-contains_itself (live_in ps) k d inside)))

-- THE CLOSED BOOK
pub has_none : {A : Type 0} (b : BookState A) → ArePairs b → IsFinished b
    → ((p : WorkUnit × Work A) → Contains (live_pairs b) p → p.1.opens ≡ []) → IsClosed b
has_none b are finished none = record { finished = finished; no_open = λ unit d u found. none (unit, d.work) (are.listed unit d u found) }

pub none_has : {A : Type 0} (b : BookState A) → ArePairs b → IsClosed b → (p : WorkUnit × Work A)
    → Contains (live_pairs b) p → p.1.opens ≡ []
none_has b are closed p there =
    let d = are.units p.0 p.1 there in
    ap (λ (w : Work _). w.opens) (sym d.3) ∙ closed.no_open p.0 d.1 d.0 d.2

pub one_done : {A : Type 0} (d e : Done A) (o : Option (Done A)) → o ≡ Some d → o ≡ Some e → d ≡ e
one_done d e o f g = let s : Some d ≡ Some e = sym f ∙ g in cc

pub closed_book : {A : Type 0} (m : Analysis A) (b : BookState A) → ArePairs b → IsItsTable m b → AreApart b.nodes
    → IsFormedTable m (table_of b.nodes) → IsClosedTable m (table_of b.nodes) → IsClosedBook m (nodes_of b) (live_pairs b)
closed_book {A = A} m b are its apart formed closed =
    let f = table_of b.nodes in
    let g = table_in (nodes_of b) in
    let same = same_table b.nodes in
    record {
      distinct = nodes_distinct b.nodes apart;
      formed = formed_like m f g same formed;
      closed = closed_like m f g same closed;
      once = are.once;
      units = λ pair there.
          let u = are.units pair.0 pair.1 there in
          let over = its.units pair.0 u.0 in
          let w = its.works pair.0 over.0 over.1 over.2 in
          record {
            at = over.0;
            exit = over.1;
            is_unit = unit_like m f g same pair.0 over.0 over.1 over.2;
            is_work = sym u.3 ∙ ap (λ (d : Done A). d.work) (one_done u.1 w.0 (done_at b.done pair.0) u.2 w.1) ∙ w.2;
          };
      each = λ unit at exit over.
          let home = unit_like m g f (λ node. sym (same node)) unit at exit over in
          let w = its.works unit at exit home in
          subst (λ (x : Work A). Contains (live_pairs b) (unit, x)) w.2 (are.listed unit w.0 (its.known unit at exit home) w.1);
    }
