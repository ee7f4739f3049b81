-- Each unit that is out or was done has its nodes in the book, and none was done twice.
use Rattle.std.specs.Prelude.{◌≡◌, Bool, true, false, None, Some, List, [], ◌∷◌, Contains, map, filter}
use Rattle.std.specs.List.{AllByRecursion, IsDistinct}
use Rattle.std.specs.Map.{keys_of}
use Rattle.std.proofs.Common.{refl, sym, ◌∙◌, ap, subst, inl, inr}
use Rattle.call_context.specs.declared.node.Node.TheVariants.{At, Exit}
use Rattle.call_context.specs.declared.node.Unit.{Unit as WorkUnit}
use Rattle.call_context.specs.declared.node.Unit.TheVariants.{One, Back}
use Rattle.chip_analysis.specs.Analysis.{Analysis}
use Rattle.chip_analysis.specs.declared.chip.Work.{Work}
use Rattle.book_rules.specs.Sound.{AreDoneOnce, IsPlaced, IsThere}
use Rattle.book_rules.specs.declared.event.Event.{Event}
use Rattle.book_rules.specs.declared.event.Event.TheVariants.{Claim, Post, GiveBack}
use Rattle.book_rules.specs.Kept.{is_live, live_pairs}
use Rattle.book_rules.specs.Machine.{BookState, Held, Done, Out, done_at, with_done, after, all_raised, posted, opening, replay, IsOfLocation, IsUnit, IsLegal, IsLegalJournal}
use Rattle.book_rules.specs.Stays.{AllStay}
use Rattle.book_rules.specs.Same.{same_unit}
use Rattle.std.proofs.lemmas.Bool.{cases_Bool, cond-true, cond-false}
use Rattle.book_rules.proofs.EntryLaws.{each_of, inputs_of-back, inputs_of-later, out_at-all, all-map, all-push, all-with_done, all-without}
use Rattle.book_rules.specs.Staying.{AllStay-all_raised}
use Rattle.plain_lemmas.specs.Members.{in_none, in_cons, in_first, in_rest}
use Rattle.book_rules.proofs.HeldLaws.{option_map-some}
use Rattle.book_rules.proofs.ReplayLaws.{taken, inputs_of-unit, replay_from-keeps, after-claim, after-post, after-give_back}
use Rattle.book_rules.specs.SameTests.{same_unit-eq, same_unit-off, same_unit-refl}

shape_of : {A : Type 0} (b : BookState A) (unit : WorkUnit) → IsUnit b unit → IsOfLocation unit
shape_of b (One (At pc calls frame)) u = tt
shape_of b (One (Exit pc frame)) u = absurd u
shape_of b (Back (At pc calls frame) (Exit from left)) u = tt
shape_of b (Back (At pc calls frame) (At from calls' frame')) u = absurd u
shape_of b (Back (Exit pc frame) exit) u = absurd u

there_later : {A : Type 0} (hs ls : List (Held A)) (unit : WorkUnit) → AllStay hs ls → IsThere hs unit → IsThere ls unit
there_later hs ls unit stay is = record { shape = is.shape; inputs = inputs_of-later hs ls unit is.inputs.0 stay is.inputs.1 }

-- NONE WAS DONE TWICE
none_with_other : {A : Type 0} (ds : List (Done A)) (new : Done A) (u : WorkUnit) → same_unit u new.unit ≡ false → done_at ds u ≡ None
    → done_at (with_done ds new) u ≡ None
none_with_other [] new u off none = cond-false _ _ _ off
none_with_other (d ∷ ds) new u off none = elim (cases_Bool (same_unit u d.unit)) [
  | inl s ↦ let bad : Some d ≡ None = sym (cond-true _ _ _ s) ∙ none in absurd (cc)
  | inr s ↦ elim (cases_Bool (same_unit new.unit d.unit)) [
    | inl t ↦ ap (λ es. done_at es u) (cond-true _ _ _ t) ∙ cond-false _ _ _ off ∙ sym (cond-false _ _ _ s) ∙ none
    | inr t ↦
        ap (λ es. done_at es u) (cond-false _ _ _ t) ∙ cond-false _ _ _ s
        ∙ none_with_other ds new u off (sym (cond-false _ _ _ s) ∙ none)
  ]
]

once_with_done : {A : Type 0} (ds : List (Done A)) (new : Done A) → AreDoneOnce ds → AreDoneOnce (with_done ds new)
once_with_done [] new once = (refl, tt)
once_with_done (d ∷ ds) new once = elim (cases_Bool (same_unit new.unit d.unit)) [
  | inl s ↦
      subst AreDoneOnce (sym (cond-true _ _ _ s))
      (subst (λ u. done_at ds u ≡ None) (sym (same_unit-eq new.unit d.unit s)) once.0, once.1)
  | inr s ↦
      subst AreDoneOnce (sym (cond-false _ _ _ s))
      (none_with_other ds new d.unit (same_unit-off new.unit d.unit s) once.0, once_with_done ds new once.1)
]

found_done : {A : Type 0} (ds : List (Done A)) → AreDoneOnce ds → (d : Done A) → Contains ds d → done_at ds d.unit ≡ Some d
found_done [] once d i = absurd (in_none d i)
found_done (x ∷ ds) once d i = elim (in_cons x ds d i) [
  | inl e ↦ cond-true _ _ _ (subst (λ (y : Done _). same_unit d.unit y.unit ≡ true) (sym e) (same_unit-refl d.unit)) ∙ ap (λ y. Some y) e
  | inr r ↦ elim (cases_Bool (same_unit d.unit x.unit)) [
    | inl s ↦
        let found : done_at ds x.unit ≡ Some d = subst (λ u. done_at ds u ≡ Some d) (same_unit-eq d.unit x.unit s) (found_done ds once.1 d r) in
        let bad : Some d ≡ None = sym found ∙ once.0 in absurd (cc)
    | inr s ↦ cond-false _ _ _ s ∙ found_done ds once.1 d r
  ]
]

-- THE BOOK
module _ {A : Type 0} (m : Analysis A) where
  IsPlaced-posted : (b : BookState A) (o : Out A) → IsThere b.nodes o.unit → IsPlaced b → IsPlaced (posted m b (Some o))
  IsPlaced-posted b o there are =
      let work = m.work o.unit o.at o.exit in
      let ls : List (Held A) = all_raised m b.nodes work.posts in
      let stay : AllStay b.nodes ls = AllStay-all_raised m b.nodes work.posts in
      record {
        out = all-without (λ (x : Out A). IsThere ls x.unit) b.out o.unit
            (all-map (λ (x : Out A). IsThere b.nodes x.unit) (λ (x : Out A). IsThere ls x.unit) (λ x. there_later b.nodes ls x.unit stay) b.out are.out);
        done = all-with_done (λ (d : Done A). IsThere ls d.unit) b.done (record { unit = o.unit; work = work; versions = o.versions })
            (all-map (λ (d : Done A). IsThere b.nodes d.unit) (λ (d : Done A). IsThere ls d.unit) (λ d. there_later b.nodes ls d.unit stay) b.done are.done)
            (there_later b.nodes ls o.unit stay there);
        once = once_with_done b.done (record { unit = o.unit; work = work; versions = o.versions }) are.once;
      }

  pub IsPlaced-after : (b : BookState A) (event : Event) → IsLegal b event → IsPlaced b → IsPlaced (after m b event)
  IsPlaced-after b (Claim seat unit) legal are =
      let i = inputs_of-unit b unit legal.claimable.known in
      subst IsPlaced (sym (after-claim m b seat unit i.0 i.1)) (record {
        out = all-push (λ (o : Out A). IsThere b.nodes o.unit) b.out (taken b seat unit i.0) are.out
            (record { shape = shape_of b unit legal.claimable.known; inputs = i });
        done = are.done;
        once = are.once;
      })
  IsPlaced-after b (Post seat unit) legal are =
      subst IsPlaced (sym (after-post m b seat unit legal.0 legal.1))
      (IsPlaced-posted b legal.0 (out_at-all (λ (o : Out A). IsThere b.nodes o.unit) b.out unit legal.0 are.out legal.1).0 are)
  IsPlaced-after b (GiveBack seat unit) legal are =
      subst IsPlaced (sym (after-give_back m b seat unit))
      (record { out = all-without (λ (o : Out A). IsThere b.nodes o.unit) b.out unit are.out; done = are.done; once = are.once })

  pub IsPlaced-opening : IsPlaced (opening m)
  IsPlaced-opening = record { out = tt; done = tt; once = tt }

  pub IsPlaced-replay : (journal : List Event) → IsLegalJournal m journal → IsPlaced (replay m journal)
  IsPlaced-replay journal legal = replay_from-keeps m IsPlaced IsPlaced-after (opening m) journal legal IsPlaced-opening

pub of_locations : {A : Type 0} (b : BookState A) → IsPlaced b → AllByRecursion (λ (d : Done A). IsOfLocation d.unit) b.done
of_locations {A = A} b are =
    all-map (λ (d : Done A). IsThere b.nodes d.unit) (λ (d : Done A). IsOfLocation d.unit) (λ d is. is.shape) b.done are.done

-- THE LIVE UNITS
abbrev pair_of : {A : Type 0} → Done A → WorkUnit × Work A
pair_of d = (d.unit, d.work)

abbrev passing : {A : Type 0} → (WorkUnit → Bool) → List (Done A) → List (WorkUnit × Work A)
passing {A = A} live done = filter (λ (p : WorkUnit × Work A). live p.0) (map pair_of done)

-- what is known of a pair that passes
record IsOfDone {A : Type 0} (live : WorkUnit → Bool) (done : List (Done A)) (pair : WorkUnit × Work A) : Type 0 where
  was : Done A
  is_in : Contains done was
  alive : live was.unit ≡ true
  is_pair : pair ≡ pair_of was

more_done : {A : Type 0} (live : WorkUnit → Bool) (d : Done A) (ds : List (Done A)) (pair : WorkUnit × Work A)
    → IsOfDone live ds pair → IsOfDone live (d ∷ ds) pair
more_done live d ds pair is = record { was = is.was; is_in = in_rest d ds is.was is.is_in; alive = is.alive; is_pair = is.is_pair }

of_done : {A : Type 0} (live : WorkUnit → Bool) (ds : List (Done A)) (pair : WorkUnit × Work A)
    → Contains (passing live ds) pair → IsOfDone live ds pair
of_done live [] pair there = absurd (in_none pair there)
of_done {A = A} live (d ∷ ds) pair there = elim (cases_Bool (live d.unit)) [
  | inl s ↦ elim (in_cons (pair_of d) (passing live ds) pair (subst (λ (ps : List (WorkUnit × Work A)). Contains ps pair) (cond-true _ _ _ s) there)) [
    | inl e ↦ record { was = d; is_in = in_first d ds; alive = s; is_pair = sym e }
    | inr r ↦ more_done live d ds pair (of_done live ds pair r)
  ]
  | inr s ↦ more_done live d ds pair (of_done live ds pair (subst (λ (ps : List (WorkUnit × Work A)). Contains ps pair) (cond-false _ _ _ s) there))
]

unit_there : {A : Type 0} (b : BookState A) (unit : WorkUnit) → IsThere b.nodes unit → is_live b.done unit ≡ true → IsUnit b unit
unit_there b (One (At pc calls frame)) is alive = let h = option_map-some _ _ _ is.inputs.1 in (h.0, h.1)
unit_there b (One (Exit pc frame)) is alive = absurd is.shape
unit_there b (Back (At pc calls frame) (Exit from left)) is alive =
    let r = inputs_of-back b.nodes (At pc calls frame) (Exit from left) is.inputs.0 is.inputs.1 in (r.0, r.1, r.2, r.3, alive)
unit_there b (Back (At pc calls frame) (At from calls' frame')) is alive = absurd is.shape
unit_there b (Back (Exit pc frame) exit) is alive = absurd is.shape

apart_from : {A : Type 0} (live : WorkUnit → Bool) (ds : List (Done A)) (u : WorkUnit) → done_at ds u ≡ None
    → AllByRecursion (λ v. same_unit u v ≡ false) (keys_of (passing live ds))
apart_from live [] u none = tt
apart_from {A = A} live (d ∷ ds) u none = elim (cases_Bool (same_unit u d.unit)) [
  | inl s ↦ let bad : Some d ≡ None = sym (cond-true _ _ _ s) ∙ none in absurd (cc)
  | inr s ↦
      let rest = apart_from live ds u (sym (cond-false _ _ _ s) ∙ none) in
      elim (cases_Bool (live d.unit)) [
        | inl t ↦ subst (λ (ps : List (WorkUnit × Work A)). AllByRecursion (λ v. same_unit u v ≡ false) (keys_of ps)) (sym (cond-true _ _ _ t)) (s, rest)
        | inr t ↦ subst (λ (ps : List (WorkUnit × Work A)). AllByRecursion (λ v. same_unit u v ≡ false) (keys_of ps)) (sym (cond-false _ _ _ t)) rest
      ]
]

distinct : {A : Type 0} (live : WorkUnit → Bool) (ds : List (Done A)) → AreDoneOnce ds → IsDistinct same_unit (keys_of (passing live ds))
unfolding IsDistinct
distinct live [] once = tt
distinct {A = A} live (d ∷ ds) once =
    let rest = distinct live ds once.1 in
    elim (cases_Bool (live d.unit)) [
      | inl t ↦
          subst (λ (ps : List (WorkUnit × Work A)). IsDistinct same_unit (keys_of ps)) (sym (cond-true _ _ _ t))
          (apart_from live ds d.unit once.0, rest)
      | inr t ↦ subst (λ (ps : List (WorkUnit × Work A)). IsDistinct same_unit (keys_of ps)) (sym (cond-false _ _ _ t)) rest
    ]

pub live_once : {A : Type 0} (b : BookState A) → IsPlaced b → IsDistinct same_unit (keys_of (live_pairs b))
live_once b are = distinct (is_live b.done) b.done are.once

pub live_unit : {A : Type 0} (b : BookState A) → IsPlaced b → (unit : WorkUnit) (work : Work A) → Contains (live_pairs b) (unit, work)
    → IsUnit b unit × (d : Done A) × (done_at b.done unit ≡ Some d) × (d.work ≡ work)
live_unit b are unit work there =
    let is = of_done (is_live b.done) b.done (unit, work) there in
    let unit_is : is.was.unit ≡ unit = sym (ap (λ (q : WorkUnit × Work _). q.0) is.is_pair) in
    let work_is : is.was.work ≡ work = sym (ap (λ (q : WorkUnit × Work _). q.1) is.is_pair) in (
      subst (IsUnit b) unit_is
          (unit_there b is.was.unit (each_of (λ (d : Done _). IsThere b.nodes d.unit) b.done is.was are.done is.is_in) is.alive),
      is.was,
      subst (λ u. done_at b.done u ≡ Some is.was) unit_is (found_done b.done are.once is.was is.is_in),
      work_is,
    )
