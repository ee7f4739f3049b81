-- The last works of a book's units: each stands in the list of the live ones, and each is the work of a unit over formed states.
use Rattle.std.specs.Prelude.{◌≡◌, Bool, true, false, Some, List, [], ◌∷◌, if◌then◌else◌, cond, Contains, map, filter}
use Rattle.std.specs.List.{AllByRecursion}
use Rattle.std.proofs.Common.{refl, sym, ◌∙◌, ap, subst, inl, inr}
use Rattle.std.proofs.lemmas.Option.{same_Some}
use Rattle.call_context.specs.declared.node.Node.TheVariants.{At, Exit}
use Rattle.call_context.specs.declared.node.Unit.{Unit as WorkUnit}
use Rattle.call_context.specs.declared.node.Unit.TheVariants.{One, Back}
use Rattle.plain_lemmas.specs.Members.{in_none, in_cons, in_first, in_rest}
use Rattle.book_rules.specs.Sound.{IsInForm, IsSteady, IsWellOut}
use Rattle.book_rules.specs.Same.{same_unit}
use Rattle.book_rules.specs.SameTests.{same_unit-eq}
use Rattle.chip_analysis.specs.Analysis.{Analysis, AreFormed, KeepsForm, TopIsGreatest}
use Rattle.chip_analysis.specs.declared.chip.Work.{Work}
use Rattle.book_rules.specs.declared.event.Event.{Event}
use Rattle.book_rules.specs.declared.event.Event.TheVariants.{Claim, Post, GiveBack}
use Rattle.book_rules.specs.Kept.{is_live, live_pairs, live_works}
use Rattle.book_rules.specs.Machine.{BookState, Held, Done, Out, done_at, after, all_raised, posted, opening, replay, IsUnit, IsLegal, IsLegalJournal}
use Rattle.book_rules.specs.Stays.{AllStay}
use Rattle.book_rules.specs.Table.{IsOfUnit}
use Rattle.std.proofs.lemmas.Bool.{cases_Bool, cond-true, cond-false}
use Rattle.book_rules.proofs.EntryLaws.{inputs_of-later, out_at-all, all-map, all-with_done}
use Rattle.book_rules.proofs.FormLaws.{IsInForm-opening, IsInForm-after}
use Rattle.book_rules.specs.Staying.{AllStay-all_raised}
use Rattle.book_rules.proofs.ReplayLaws.{IsSteady-opening, IsSteady-after, inputs_of-unit, replay_from-keeps, after-claim, after-post, after-give_back}

-- the works of pairs whose unit passes, and of a pair that passes or doesn't in front of them
abbrev pairs_of : {A : Type 0} → List (Done A) → List (WorkUnit × Work A)
pairs_of {A = A} done = map (λ (d : Done A). (d.unit, d.work)) done

abbrev passing : {A : Type 0} → (WorkUnit → Bool) → List (Done A) → List (Work A)
passing {A = A} live done = map (λ (p : WorkUnit × Work A). p.1) (filter (λ (p : WorkUnit × Work A). live p.0) (pairs_of done))

abbrev with_first : {A : Type 0} → (WorkUnit → Bool) → Bool → Done A → List (Done A) → List (Work A)
with_first {A = A} live passes first done =
    map (λ (p : WorkUnit × Work A). p.1) (cond passes ((first.unit, first.work) ∷ filter (λ (p : WorkUnit × Work A). live p.0) (pairs_of done)) (filter (λ (p : WorkUnit × Work A). live p.0) (pairs_of done)))

-- the pair of a live unit is among the live ones
abbrev passing_pairs : {A : Type 0} → (WorkUnit → Bool) → List (Done A) → List (WorkUnit × Work A)
passing_pairs {A = A} live done = filter (λ (p : WorkUnit × Work A). live p.0) (pairs_of done)

pair_in : {A : Type 0} (live : WorkUnit → Bool) (done : List (Done A)) (unit : WorkUnit) (d : Done A)
    → done_at done unit ≡ Some d → live unit ≡ true
    → Contains (passing_pairs live done) (unit, d.work)
pair_in live [] unit d found alive = absurd (cc)
pair_in {A = A} live (first ∷ done) unit d found alive = elim (cases_Bool (same_unit unit first.unit)) [
  | inl s ↦
      let unit_is : unit ≡ first.unit = same_unit-eq unit first.unit s in
      let is_d : first ≡ d = same_Some first d (sym (cond-true _ _ _ s) ∙ found) in
      let passes : live first.unit ≡ true = ap live (sym unit_is) ∙ alive in
      subst (λ (ps : List (WorkUnit × Work A)). Contains ps (unit, d.work)) (sym (cond-true _ _ _ passes))
      (subst (λ (w : Work A). Contains ((first.unit, first.work) ∷ passing_pairs live done) (unit, w)) (ap (λ (x : Done A). x.work) is_d)
      (subst (λ u. Contains ((first.unit, first.work) ∷ passing_pairs live done) (u, first.work)) (sym unit_is) (in_first (first.unit, first.work) (passing_pairs live done))))
  | inr s ↦
      let later = pair_in live done unit d (sym (cond-false _ _ _ s) ∙ found) alive in
      elim (cases_Bool (live first.unit)) [
        | inl t ↦ subst (λ (ps : List (WorkUnit × Work A)). Contains ps (unit, d.work)) (sym (cond-true _ _ _ t)) (in_rest (first.unit, first.work) (passing_pairs live done) (unit, d.work) later)
        | inr t ↦ subst (λ (ps : List (WorkUnit × Work A)). Contains ps (unit, d.work)) (sym (cond-false _ _ _ t)) later
      ]
]

-- the last work of a live unit is among the live ones
live_in : {A : Type 0} (live : WorkUnit → Bool) (done : List (Done A)) (unit : WorkUnit) (d : Done A)
    → done_at done unit ≡ Some d → live unit ≡ true
    → Contains (passing live done) d.work
live_in live [] unit d found alive = absurd (cc)
live_in live (first ∷ done) unit d found alive =
    let later : done_at done unit ≡ Some d → Contains (passing live done) d.work = λ e. live_in live done unit d e alive in
    elim (same_unit unit first.unit) as (λ t. same_unit unit first.unit ≡ t → (if t then Some first else done_at done unit) ≡ Some d
    → Contains (with_first live (live first.unit) first done) d.work) [
      | true ↦ λ same e.
          let unit_is : unit ≡ first.unit = same_unit-eq unit first.unit same in
          let is_d : first ≡ d = same_Some first d e in
          let passes : live first.unit ≡ true = ap live (sym unit_is) ∙ alive in
          subst (λ b. Contains (with_first live b first done) d.work) (sym passes)
          (subst (λ x. Contains (first.work ∷ passing live done) x.work) is_d (in_first first.work (passing live done)))
      | false ↦ λ other e. elim (live first.unit) as (λ b. Contains (with_first live b first done) d.work) [
        | true ↦ in_rest first.work (passing live done) d.work (later e)
        | false ↦ later e
      ]
    ] refl found

unit_is_live : {A : Type 0} (b : BookState A) (unit : WorkUnit) → IsUnit b unit → is_live b.done unit ≡ true
unit_is_live b (One node) u = refl
unit_is_live b (Back (At pc calls frame) (Exit from left)) u = u.4
unit_is_live b (Back (At pc calls frame) (At from calls' frame')) u = absurd u
unit_is_live b (Back (Exit pc frame) exit) u = absurd u

pub is_listed : {A : Type 0} (b : BookState A) (unit : WorkUnit) (d : Done A) → IsUnit b unit → done_at b.done unit ≡ Some d
    → Contains (live_works b) d.work
is_listed b unit d u found = live_in (is_live b.done) b.done unit d found (unit_is_live b unit u)

pub is_paired : {A : Type 0} (b : BookState A) (unit : WorkUnit) (d : Done A) → IsUnit b unit → done_at b.done unit ≡ Some d
    → Contains (live_pairs b) (unit, d.work)
is_paired b unit d u found = pair_in (is_live b.done) b.done unit d found (unit_is_live b unit u)

module _ {A : Type 0} (m : Analysis A) (keeps : KeepsForm m) (top : TopIsGreatest m) where
  abbrev AreOfUnits : List (Held A) → List (Done A) → Type 0
  AreOfUnits nodes done = AllByRecursion (λ (d : Done A). IsOfUnit m nodes d.work) done

  record AreWorked (b : BookState A) : Type 0 where
    steady : IsSteady m b
    formed : IsInForm m b
    of_units : AreOfUnits b.nodes b.done

  later : (hs ls : List (Held A)) → AllStay hs ls → (d : Done A) → IsOfUnit m hs d.work → IsOfUnit m ls d.work
  later hs ls stay d is = record {
    unit = is.unit;
    at = is.at;
    exit = is.exit;
    formed = is.formed;
    is_work = is.is_work;
    held = inputs_of-later hs ls is.unit is.held.0 stay is.held.1;
  }

  behind_post : (b : BookState A) (o : Out A) → IsWellOut b.nodes o → AreFormed m o.unit o.at o.exit → AreOfUnits b.nodes b.done
      → AreOfUnits (posted m b (Some o)).nodes (posted m b (Some o)).done
  behind_post b o well formed are =
      let work = m.work o.unit o.at o.exit in
      let ls : List (Held A) = all_raised m b.nodes work.posts in
      let stay : AllStay b.nodes ls = AllStay-all_raised m b.nodes work.posts in
      all-with_done (λ (d : Done A). IsOfUnit m ls d.work) b.done (record { unit = o.unit; work = work; versions = o.versions })
      (all-map (λ (d : Done A). IsOfUnit m b.nodes d.work) (λ (d : Done A). IsOfUnit m ls d.work) (later b.nodes ls stay) b.done are)
      (record {
        unit = o.unit;
        at = o.at;
        exit = o.exit;
        formed = formed;
        is_work = refl;
        held = inputs_of-later b.nodes ls o.unit well.there.0 stay well.there.1;
      })

  behind : (b : BookState A) (event : Event) → IsLegal b event → AreWorked b → AreOfUnits (after m b event).nodes (after m b event).done
  behind b (Claim seat unit) legal are =
      let i = inputs_of-unit b unit legal.claimable.known in
      subst (λ (c : BookState A). AreOfUnits c.nodes c.done) (sym (after-claim m b seat unit i.0 i.1)) are.of_units
  behind b (Post seat unit) legal are =
      subst (λ (c : BookState A). AreOfUnits c.nodes c.done) (sym (after-post m b seat unit legal.0 legal.1))
      (behind_post b legal.0 (out_at-all (IsWellOut b.nodes) b.out unit legal.0 are.steady.out legal.1).0
      (out_at-all (λ o. AreFormed m o.unit o.at o.exit) b.out unit legal.0 are.formed.out legal.1).0 are.of_units)
  behind b (GiveBack seat unit) legal are =
      subst (λ (c : BookState A). AreOfUnits c.nodes c.done) (sym (after-give_back m b seat unit)) are.of_units

  worked : (journal : List Event) → IsLegalJournal m journal → AreWorked (replay m journal)
  worked journal legal = replay_from-keeps m AreWorked (λ b event l are. record {
    steady = IsSteady-after m b event l are.steady;
    formed = IsInForm-after m keeps top b event l are.formed;
    of_units = behind b event l are;
  }) (opening m) journal legal (record { steady = IsSteady-opening m; formed = IsInForm-opening m keeps; of_units = tt })

  one_passing : (live : WorkUnit → Bool) (nodes : List (Held A)) (done : List (Done A)) (work : Work A) → AreOfUnits nodes done
      → Contains (passing live done) work → IsOfUnit m nodes work
  one_passing live nodes [] work are h = absurd (in_none work h)
  one_passing live nodes (d ∷ done) work are h =
      let rest = one_passing live nodes done work are.1 in
      elim (live d.unit) as (λ b. Contains (with_first live b d done) work → IsOfUnit m nodes work) [
        | true ↦ λ k. elim (in_cons d.work (passing live done) work k) [
          | inl same ↦ subst (IsOfUnit m nodes) same are.0
          | inr there ↦ rest there
        ]
        | false ↦ rest
      ] h

  pub is_of_unit : (journal : List Event) (work : Work A) → IsLegalJournal m journal → Contains (live_works (replay m journal)) work
      → IsOfUnit m (replay m journal).nodes work
  is_of_unit journal work legal h =
      one_passing (is_live (replay m journal).done) (replay m journal).nodes (replay m journal).done work (worked journal legal).of_units h
