-- Units that go out and come home.
use Rattle.std.specs.Prelude.{◌≡◌, ◌+◌, true, false, if◌then◌else◌, Option, None, Some, List, [], ◌∷◌, ◌++◌, length}
use Rattle.std.specs.BTreeSet.{BTreeSet}
use Rattle.std.proofs.Common.{refl, sym, ◌∙◌, ap, subst, inl, inr, arith, length-append}
use Rattle.call_context.specs.declared.node.Node.TheVariants.{At, Exit}
use Rattle.call_context.specs.declared.node.Unit.{Unit as WorkUnit}
use Rattle.call_context.specs.declared.node.Unit.TheVariants.{One, Back}
use Rattle.book_rules.specs.Same.{same_unit}
use Rattle.book_rules.specs.SameTests.{same_unit-eq, same_unit-refl}
use Rattle.round_core.specs.declared.place.Place.{Place}
use Rattle.round_core.specs.declared.parts.Parts.{Parts}
use Rattle.book_rules.specs.Machine.{BookState, Out, out_at, without, IsUnit, IsClaimable}
use Rattle.round_core.specs.Claims.{placed}
use Rattle.round_core.specs.Turns.{place_out, AreGivenBack, Standing, TakesHome}
use Rattle.round_core.specs.Agenda.{AreDifferent, IsIn}
use Rattle.round_core.specs.Shown.{AreApart, IsExpected, Shows}
use Rattle.round_core.proofs.ClaimLemmas.{placed_one}
use Rattle.round_core.proofs.ShownLemmas.{none_in, with_returned}
use Rattle.round_core.proofs.Cases.{truth, if_true, if_false}
use Rattle.round_core.proofs.ListLemmas.{IsIn-append, IsIn-last, IsIn-split, different_append}

-- the test of units, the other way round
pub same_unit-sym : (u v : WorkUnit) → same_unit u v ≡ false → same_unit v u ≡ false
same_unit-sym u v h = elim (truth (same_unit v u)) [
  | inl s ↦
      let e : v ≡ u = same_unit-eq v u s in
      let t : same_unit u v ≡ true = subst (λ w. same_unit u w ≡ true) (sym e) (same_unit-refl u) in
      let bad : true ≡ false = sym t ∙ h in absurd (cc)
  | inr s ↦ s
]

-- the units of a list with one more entry
pub place_out-last-there : (es : List (WorkUnit × Place)) (e : WorkUnit × Place) (u : WorkUnit) (p : Place)
    → place_out es u ≡ Some p → place_out (es ++ e ∷ []) u ≡ Some p
place_out-last-there [] e u p h = absurd (cc)
place_out-last-there (f ∷ es) e u p h = elim (truth (same_unit u f.0)) [
  | inl s ↦ if_true _ _ _ s ∙ sym (if_true _ _ _ s) ∙ h
  | inr s ↦ if_false _ _ _ s ∙ place_out-last-there es e u p (sym (if_false _ _ _ s) ∙ h)
]

pub place_out-last : (es : List (WorkUnit × Place)) (e : WorkUnit × Place) (u : WorkUnit) → place_out es u ≡ None
    → place_out (es ++ e ∷ []) u ≡ place_out (e ∷ []) u
place_out-last [] e u h = refl
place_out-last (f ∷ es) e u h = elim (truth (same_unit u f.0)) [
  | inl s ↦ let bad : Some f.1 ≡ None = sym (if_true _ _ _ s) ∙ h in absurd (cc)
  | inr s ↦ if_false _ _ _ s ∙ place_out-last es e u (sym (if_false _ _ _ s) ∙ h)
]

-- what is out once a unit is home was out before, and is another one
was_out : (old new : List (WorkUnit × Place)) (u v : WorkUnit) (q : Place) → TakesHome old u new → place_out new v ≡ Some q
    → (same_unit u v ≡ false) × (place_out old v ≡ Some q)
was_out old new u v q t e = elim (truth (same_unit u v)) [
  | inl i ↦ let bad : None ≡ Some q = sym (if_true _ _ _ i) ∙ sym (t.places v) ∙ e in absurd (cc)
  | inr i ↦ (i, sym (if_false _ _ _ i) ∙ sym (t.places v) ∙ e)
]

pub posted_back : (old new : Standing) (u : WorkUnit) → TakesHome old.out u new.out → new.returned ≡ old.returned
    → AreGivenBack old → AreGivenBack new
posted_back old new u t e a = record {
  once = subst (λ l. AreDifferent l) (sym e) a.once;
  home = λ v q h i. a.home v q (was_out old.out new.out u v q t h).1 (subst (λ l. IsIn q l) e i);
}

module _ {A : Type 0} where
  pub out_at-last-there : (os : List (Out A)) (o : Out A) (u : WorkUnit) (x : Out A) → out_at os u ≡ Some x
      → out_at (os ++ o ∷ []) u ≡ Some x
  out_at-last-there [] o u x h = absurd (cc)
  out_at-last-there (f ∷ os) o u x h = elim (truth (same_unit u f.unit)) [
    | inl s ↦ if_true _ _ _ s ∙ sym (if_true _ _ _ s) ∙ h
    | inr s ↦ if_false _ _ _ s ∙ out_at-last-there os o u x (sym (if_false _ _ _ s) ∙ h)
  ]

  pub out_at-last : (os : List (Out A)) (o : Out A) (u : WorkUnit) → out_at os u ≡ None → out_at (os ++ o ∷ []) u ≡ out_at (o ∷ []) u
  out_at-last [] o u h = refl
  out_at-last (f ∷ os) o u h = elim (truth (same_unit u f.unit)) [
    | inl s ↦ let bad : Some f ≡ None = sym (if_true _ _ _ s) ∙ h in absurd (cc)
    | inr s ↦ if_false _ _ _ s ∙ out_at-last os o u (sym (if_false _ _ _ s) ∙ h)
  ]

  apart-last : (os : List (Out A)) (o : Out A) → AreApart os → out_at os o.unit ≡ None → AreApart (os ++ o ∷ [])
  apart-last [] o a h = (refl, tt)
  apart-last (f ∷ os) o a h = elim (truth (same_unit o.unit f.unit)) [
    | inl s ↦ let bad : Some f ≡ None = sym (if_true _ _ _ s) ∙ h in absurd (cc)
    | inr s ↦
        (out_at-last os o f.unit a.0 ∙ if_false _ _ _ (same_unit-sym o.unit f.unit s), apart-last os o a.1 (sym (if_false _ _ _ s) ∙ h))
  ]

  pub unit-of : (b : BookState A) (os : List (Out A)) (u : WorkUnit) → IsUnit (record b { out = os }) u → IsUnit b u
  unit-of b os (One (At pc calls frame)) k = k
  unit-of b os (One (Exit pc frame)) k = k
  unit-of b os (Back (At pc calls frame) (Exit from left)) k = k
  unit-of b os (Back (At pc calls frame) (At from calls' frame')) k = k
  unit-of b os (Back (Exit pc frame) x) k = k

  none_before : (os : List (Out A)) (o : Out A) (u : WorkUnit) (r : Option (Out A)) → out_at os u ≡ r
      → out_at (os ++ o ∷ []) u ≡ None → r ≡ None
  none_before os o u None e h = refl
  none_before os o u (Some x) e h = let t = out_at-last-there os o u x e in let bad : Some x ≡ None = sym t ∙ h in absurd (cc)

  abbrev pub with_turns : Parts A → Standing → Parts A
  with_turns p turns = record p { turns = turns }

  -- the place that goes out with a unit is that of the unit
  placed_out : (b : BookState A) (p : Parts A) → Shows b p → (v : WorkUnit) (q : Place)
      → place_out p.turns.out v ≡ Some q → placed b.nodes v ≡ Some q
  placed_out b p s v q e = at (out_at b.out v) refl
    where
      at : (o : Option (Out A)) → out_at b.out v ≡ o → placed b.nodes v ≡ Some q
      at None h = let bad : None ≡ Some q = sym (s.home v h) ∙ e in absurd (cc)
      at (Some o) h = let g = s.out v o h in let same : Some g.0 ≡ Some q = sym g.1 ∙ e in g.2 ∙ same

  -- a unit goes out, and its place is no candidate any more
  pub claim-shown : (b : BookState A) (p : Parts A) (turns : Standing) (set : BTreeSet Place) (o : Out A) (u : WorkUnit) (place : Place)
      → Shows b p → IsClaimable b u → placed b.nodes u ≡ Some place → o.unit ≡ u
      → turns.out ≡ p.turns.out ++ (u, place) ∷ [] → turns.returned ≡ [] → p.turns.returned ≡ []
      → ((q : Place) → IsIn q p.agenda.candidates.keys → (q ≡ place → ⊥) → IsIn q set.keys)
      → Shows (record b { out = b.out ++ o ∷ [] }) (with_returned p set turns)
  claim-shown b p turns set o u place s k at own outs returned empty kept = record {
    nodes = s.nodes;
    done = s.done;
    distinct = s.distinct;
    home = λ v h.
        let none : out_at b.out v ≡ None = none_before b.out o v (out_at b.out v) refl h in
        ap (λ es. place_out es v) outs ∙ place_out-last p.turns.out (u, place) v (s.home v none)
        ∙ not_it v (sym (out_at-last b.out o v none) ∙ h);
    out = λ v x h. gone v (out_at b.out v) refl x h;
    count =
        let l = length-append p.turns.out ((u, place) ∷ []) in
        let r = length-append b.out (o ∷ []) in
        let e = ap length outs in
        let c = s.count in omega arith;
    apart = apart-last b.out o s.apart (ap (λ w. out_at b.out w) own ∙ k.at_home);
    given_back = record { once = subst (λ l. AreDifferent l) (sym returned) tt; home = λ v q h i. none_in q _ returned i };
    expected = λ v c.
        let was : IsClaimable b v = record {
          known = unit-of b (b.out ++ o ∷ []) v c.known;
          at_home = none_before b.out o v (out_at b.out v) refl c.at_home;
          due = c.due;
        } in
        let x = s.expected v was in (
          x.0,
          x.1,
          elim x.2 [
            | inl i ↦ inl (kept x.0 i (λ same. taken v (placed_one b.nodes v u x.0 x.1 (at ∙ ap (λ q. Some q) (sym same))) was.at_home c.at_home))
            | inr r ↦ absurd (none_in x.0 _ empty r)
          ],
        );
    waiting = s.waiting;
    exits = s.exits;
  }
    where
      -- the unit itself is out
      taken : (v : WorkUnit) → v ≡ u → out_at b.out v ≡ None → out_at (b.out ++ o ∷ []) v ≡ None → ⊥
      taken v e before h =
          let i : same_unit v o.unit ≡ true = subst (λ w. same_unit v w ≡ true) (e ∙ sym own) (same_unit-refl v) in
          let bad : Some o ≡ None = sym (if_true _ _ _ i) ∙ sym (out_at-last b.out o v before) ∙ h in absurd (cc)

      not_it : (v : WorkUnit) → out_at (o ∷ []) v ≡ None → place_out ((u, place) ∷ []) v ≡ None
      not_it v h = elim (truth (same_unit v u)) [
        | inl t ↦
            let i : same_unit v o.unit ≡ true = subst (λ w. same_unit v w ≡ true) (sym own) t in
            let bad : Some o ≡ None = sym (if_true _ _ _ i) ∙ h in absurd (cc)
        | inr t ↦ if_false _ _ _ t
      ]

      gone : (v : WorkUnit) (r : Option (Out A)) → out_at b.out v ≡ r → (x : Out A)
          → out_at (b.out ++ o ∷ []) v ≡ Some x
          → (q : Place) × (place_out turns.out v ≡ Some q) × (placed b.nodes v ≡ Some q)
      gone v (Some y) e x h =
          let g = s.out v y e in
          (g.0, ap (λ es. place_out es v) outs ∙ place_out-last-there p.turns.out (u, place) v g.0 g.1, g.2)
      gone v None e x h = elim (truth (same_unit v u)) [
        | inl t ↦
            let same : v ≡ u = same_unit-eq v u t in
            (place, ap (λ es. place_out es v) outs ∙ place_out-last p.turns.out (u, place) v (s.home v e) ∙ if_true _ _ _ t, ap (λ w. placed b.nodes w) same ∙ at)
        | inr t ↦
            let i : same_unit v o.unit ≡ false = subst (λ w. same_unit v w ≡ false) (sym own) t in
            let bad : None ≡ Some x = sym (out_at-last b.out o v e ∙ if_false _ _ _ i) ∙ h in absurd (cc)
      ]

  -- the list without a unit that is out
  pub out_at-without : (os : List (Out A)) (u v : WorkUnit) → AreApart os
      → out_at (without os u) v ≡ (if same_unit u v then None else out_at os v)
  out_at-without [] u v a = elim (truth (same_unit u v)) [ inl t ↦ sym (if_true _ _ _ t) | inr t ↦ sym (if_false _ _ _ t) ]
  out_at-without (f ∷ os) u v a = elim (truth (same_unit u f.unit)) [
    | inl s ↦
        let same : u ≡ f.unit = same_unit-eq u f.unit s in
        ap (λ t. out_at t v) (if_true _ _ _ s)
        ∙ elim (truth (same_unit u v)) [
          | inl t ↦
              let e : u ≡ v = same_unit-eq u v t in
              ap (λ w. out_at os w) (sym e ∙ same) ∙ a.0 ∙ sym (if_true _ _ _ t)
          | inr t ↦
              let i : same_unit v f.unit ≡ false = subst (λ w. same_unit v w ≡ false) same (same_unit-sym u v t) in
              sym (if_false _ _ _ i) ∙ sym (if_false _ _ _ t)
        ]
    | inr s ↦
        ap (λ t. out_at t v) (if_false _ _ _ s)
        ∙ elim (truth (same_unit v f.unit)) [
          | inl t ↦
              let same : v ≡ f.unit = same_unit-eq v f.unit t in
              let i : same_unit u v ≡ false = subst (λ w. same_unit u w ≡ false) (sym same) s in
              if_true _ _ _ t ∙ sym (if_true _ _ _ t) ∙ sym (if_false _ _ _ i)
          | inr t ↦ if_false _ _ _ t ∙ out_at-without os u v a.1 ∙ later v t
        ]
  ]
    where
      later : (w : WorkUnit) → same_unit w f.unit ≡ false
          → (if same_unit u w then None else out_at os w) ≡ (if same_unit u w then None else out_at (f ∷ os) w)
      later w t = ap (λ r. if same_unit u w then None else r) (sym (if_false _ _ _ t))

  apart-without : (os : List (Out A)) (u : WorkUnit) → AreApart os → AreApart (without os u)
  apart-without [] u a = tt
  apart-without (f ∷ os) u a = elim (truth (same_unit u f.unit)) [
    | inl s ↦ subst (λ t. AreApart t) (sym (if_true _ _ _ s)) a.1
    | inr s ↦ subst (λ t. AreApart t) (sym (if_false _ _ _ s))
        (out_at-without os u f.unit a.1 ∙ if_false _ _ _ s ∙ a.0, apart-without os u a.1)
  ]

  length-without : (os : List (Out A)) (u : WorkUnit) (o : Out A) → out_at os u ≡ Some o → length (without os u) + 1 ≡ length os
  length-without [] u o h = absurd (cc)
  length-without (f ∷ os) u o h = elim (truth (same_unit u f.unit)) [
    | inl s ↦ let e = ap length (if_true (same_unit u f.unit) os (f ∷ without os u) s) in omega arith
    | inr s ↦
        let e = ap length (if_false (same_unit u f.unit) os (f ∷ without os u) s) in
        let r = length-without os u o (sym (if_false _ _ _ s) ∙ h) in omega arith
  ]

  -- what is known of the units that are out once one came home
  pub record IsHome (b : BookState A) (turns : Standing) (u : WorkUnit) (p : Parts A) : Type 0 where
    pub home : (v : WorkUnit) → out_at (without b.out u) v ≡ None → place_out turns.out v ≡ None
    pub out : (v : WorkUnit) (o : Out A) → out_at (without b.out u) v ≡ Some o
        → (q : Place) × (place_out turns.out v ≡ Some q) × (placed b.nodes v ≡ Some q)
    pub count : length turns.out ≡ length (without b.out u)
    pub apart : AreApart (without b.out u)

  pub comes_home : (b : BookState A) (p : Parts A) (turns : Standing) (u : WorkUnit) (o : Out A) → Shows b p
      → out_at b.out u ≡ Some o → TakesHome p.turns.out u turns.out → IsHome b turns u p
  comes_home b p turns u o s is t = record {
    home = λ v h. elim (truth (same_unit u v)) [
      | inl i ↦ t.places v ∙ if_true _ _ _ i
      | inr i ↦ t.places v ∙ if_false _ _ _ i ∙ s.home v (sym (if_false _ _ _ i) ∙ sym (out_at-without b.out u v s.apart) ∙ h)
    ];
    out = λ v x h. elim (truth (same_unit u v)) [
      | inl i ↦ let bad : None ≡ Some x = sym (if_true _ _ _ i) ∙ sym (out_at-without b.out u v s.apart) ∙ h in absurd (cc)
      | inr i ↦
          let g = s.out v x (sym (if_false _ _ _ i) ∙ sym (out_at-without b.out u v s.apart) ∙ h) in
          (g.0, t.places v ∙ if_false _ _ _ i ∙ g.1, g.2)
    ];
    count =
        let a = t.count in let c = s.count in let l = length-without b.out u o is in omega arith;
    apart = apart-without b.out u s.apart;
  }

  returned_back : (b : BookState A) (p : Parts A) (turns : Standing) (u : WorkUnit) (place : Place)
      → Shows b p → TakesHome p.turns.out u turns.out → place_out p.turns.out u ≡ Some place
      → turns.returned ≡ p.turns.returned ++ place ∷ [] → AreGivenBack turns
  returned_back b p turns u place s t at returned = record {
    once = subst (λ l. AreDifferent l) (sym returned)
        (different_append p.turns.returned (place ∷ []) s.given_back.once (λ h. h, tt) (λ q a h. elim h [
          | inl e ↦ s.given_back.home u place at (subst (λ r. IsIn r p.turns.returned) e a)
          | inr none ↦ none
        ]));
    home = λ v q h i.
        let w = was_out p.turns.out turns.out u v q t h in
        elim (IsIn-split q p.turns.returned (place ∷ []) (subst (λ l. IsIn q l) returned i)) [
          | inl old ↦ s.given_back.home v q w.1 old
          | inr last ↦ elim last [
            | inl e ↦
                let at_u : placed b.nodes u ≡ Some q = placed_out b p s u place at ∙ ap (λ r. Some r) (sym e) in
                let one : u ≡ v = placed_one b.nodes u v q at_u (placed_out b p s v q w.1) in
                let same : same_unit u v ≡ true = subst (λ x. same_unit u x ≡ true) one (same_unit-refl u) in
                let bad : true ≡ false = sym same ∙ w.0 in absurd (cc)
            | inr none ↦ none
          ]
        ];
  }

  -- a unit comes home without work
  pub give_back-shown : (b : BookState A) (p : Parts A) (turns : Standing) (u : WorkUnit) (o : Out A) (place : Place)
      → Shows b p → out_at b.out u ≡ Some o → TakesHome p.turns.out u turns.out → place_out p.turns.out u ≡ Some place
      → turns.returned ≡ p.turns.returned ++ place ∷ [] → Shows (record b { out = without b.out u }) (with_turns p turns)
  give_back-shown b p turns u o place s is t at returned =
      let h = comes_home b p turns u o s is t in
      record {
        nodes = s.nodes;
        done = s.done;
        distinct = s.distinct;
        home = h.home;
        out = h.out;
        count = h.count;
        apart = h.apart;
        given_back = returned_back b p turns u place s t at returned;
        expected = λ v c. subst (λ r. IsExpected b.nodes p.agenda.candidates.keys r v) (sym returned) (elim (truth (same_unit u v)) [
          | inl i ↦
              let same : u ≡ v = same_unit-eq u v i in
              let g = s.out u o is in
              let it : Some g.0 ≡ Some place = sym g.1 ∙ at in
              (place, ap (λ w. placed b.nodes w) (sym same) ∙ g.2 ∙ it, inr (IsIn-last place p.turns.returned (place ∷ []) (inl refl)))
          | inr i ↦
              let was : IsClaimable b v = record {
                known = unit-of b (without b.out u) v c.known;
                at_home = sym (if_false _ _ _ i) ∙ sym (out_at-without b.out u v s.apart) ∙ c.at_home;
                due = c.due;
              } in
              let x = s.expected v was in
              (x.0, x.1, elim x.2 [ inl a ↦ inl a | inr a ↦ inr (IsIn-append x.0 p.turns.returned (place ∷ []) a) ])
        ]);
        waiting = s.waiting;
        exits = s.exits;
      }
