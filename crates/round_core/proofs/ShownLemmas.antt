-- What the parts of a book stand for, as they change.
use Rattle.std.specs.Prelude.{◌≡◌, ◌⊎◌, Bool, true, false, is_some, Option, None, Some, List, [], ◌∷◌, All, ◌||◌}
use Rattle.std.specs.List.{list_any}
use Rattle.std.specs.BTreeSet.{BTreeSet}
use Rattle.std.specs.BTreeMap.Range.{IsLeBy}
use Rattle.std.proofs.Common.{refl, sym, ◌∙◌, ap, subst, inl, inr}
use Rattle.call_context.specs.declared.node.Unit.{Unit as WorkUnit}
use Rattle.round_core.specs.declared.place.Place.{Place}
use Rattle.round_core.specs.declared.parts.Parts.{Parts}
use Rattle.book_rules.specs.Machine.{BookState, IsClaimable, IsFirst, NoneClaimable, HasClaimable}
use Rattle.round_core.specs.Claims.{placed, claimable_at}
use Rattle.round_core.specs.Agenda.{IsIn}
use Rattle.round_core.specs.Turns.{AreGivenBack, Standing}
use Rattle.round_core.specs.Shown.{IsExpected, Shows, found_at, place_cmp}
use Rattle.round_core.proofs.ClaimLemmas.{claimable_at-is, claimable_at-finds, before-places}
use Rattle.round_core.proofs.ListLemmas.{index_of}
use Rattle.round_core.proofs.PlaceLemmas.{not_before}

some_place : (o : Option Place) (p : Place) → o ≡ Some p → is_some o ≡ true
some_place o p e = ap (λ t. is_some t) e

pub none_in : {X : Type 0} → (x : X) (xs : List X) → xs ≡ [] → IsIn x xs → ⊥
none_in x xs e h = subst (λ ys. IsIn x ys) e h

module _ {A : Type 0} where
  abbrev pub with_candidates : Parts A → BTreeSet Place → Parts A
  with_candidates p set = record p { agenda = record p.agenda { candidates = set } }

  pub candidates-shown : (b : BookState A) (p : Parts A) (set : BTreeSet Place) → Shows b p
      → ((u : WorkUnit) → IsClaimable b u → IsExpected b.nodes set.keys p.turns.returned u) → Shows b (with_candidates p set)
  candidates-shown b p set s e = assumption (e, s)

  book_found : (b : BookState A) (p : Parts A) → Shows b p → (place : Place)
      → found_at p place ≡ claimable_at b.nodes b.done p.turns.out place
  book_found b p s place = ap (λ hs. claimable_at hs p.works.rows p.turns.out place) s.nodes ∙ ap (λ ds. claimable_at b.nodes ds p.turns.out place) s.done

  pub found-is : (b : BookState A) (p : Parts A) → Shows b p → (place : Place) (u : WorkUnit)
      → found_at p place ≡ Some u → IsClaimable b u × (placed b.nodes u ≡ Some place)
  found-is b p s place u e =
      claimable_at-is b s.distinct p.turns.out s.home (λ v o g. let r = s.out v o g in some_place _ r.0 r.1) place u (sym (book_found b p s place) ∙ e)

  pub finds : (b : BookState A) (p : Parts A) → Shows b p → (u : WorkUnit) (place : Place) → IsClaimable b u
      → placed b.nodes u ≡ Some place → found_at p place ≡ Some u
  finds b p s u place k e =
      book_found b p s place
      ∙ claimable_at-finds b s.distinct p.turns.out s.home (λ v o g. let r = s.out v o g in some_place _ r.0 r.1) u place k e

  -- a first candidate that can't be claimed is forgotten
  pub forget-shown : (b : BookState A) (p : Parts A) (set : BTreeSet Place) (first : Place)
      → p.agenda.candidates.keys ≡ first ∷ set.keys → found_at p first ≡ None → Shows b p
      → Shows b (with_candidates p set)
  forget-shown b p set first e none s = candidates-shown b p set s (λ u k.
      let x = s.expected u k in (
        x.0,
        x.1,
        elim x.2 [
          | inl i ↦ elim (split x.0 (subst (λ ks. IsIn x.0 ks) e i)) [
            | inl same ↦
                let at : found_at p first ≡ Some u = subst (λ q. found_at p q ≡ Some u) same (finds b p s u x.0 k x.1) in
                let bad : None ≡ Some u = sym none ∙ at in absurd (cc)
            | inr more ↦ inl more
          ]
          | inr r ↦ inr r
        ],
      ))
    where
      split : (q : Place) → IsIn q (first ∷ set.keys) → (q ≡ first) ⊎ IsIn q set.keys
      split q h = h

  -- with no candidates none can be claimed
  pub none-claimable : (b : BookState A) (p : Parts A) → Shows b p → p.agenda.candidates.keys ≡ [] → p.turns.returned ≡ [] → NoneClaimable b
  none-claimable b p s e r u k = let x = s.expected u k in elim x.2 [ inl i ↦ none_in x.0 _ e i | inr i ↦ none_in x.0 _ r i ]

  -- the first candidate that can be claimed is the first unit
  pub found-first : (b : BookState A) (p : Parts A) → Shows b p → p.turns.returned ≡ [] → (first : Place)
      → All (IsLeBy place_cmp first) p.agenda.candidates.keys
      → (u : WorkUnit) → found_at p first ≡ Some u → IsFirst b u × (placed b.nodes u ≡ Some first)
  found-first b p s r first least u e =
      let f = found-is b p s first u e in (
        record {
          claimable = f.0;
          least = λ v k before.
              let x = s.expected v k in
              elim x.2 [
                | inl i ↦
                    let at = index_of x.0 p.agenda.candidates.keys first i in
                    let above : IsLeBy place_cmp first x.0 = subst (λ q. IsLeBy place_cmp first q) at.2 (least at.0 first at.1) in
                    not_before first x.0 above (before-places b.nodes v u x.0 first x.1 f.1 before)
                | inr i ↦ none_in x.0 _ r i
              ];
        },
        f.1,
      )

  abbrev pub with_returned : Parts A → BTreeSet Place → Standing → Parts A
  with_returned p set turns = record (with_candidates p set) { turns = turns }

  -- the units that were given back are candidates
  pub returned-shown : (b : BookState A) (p : Parts A) (set : BTreeSet Place) (turns : Standing) → turns ≡ record p.turns { returned = [] }
      → ((q : Place) → IsIn q p.agenda.candidates.keys → IsIn q set.keys)
      → ((q : Place) → IsIn q p.turns.returned → IsIn q set.keys) → Shows b p → Shows b (with_returned p set turns)
  returned-shown b p set turns e kept added s =
      let none : AreGivenBack (record p.turns { returned = [] }) = record { once = tt; home = λ u q h i. i } in
      let expected : (u : WorkUnit) → IsClaimable b u → IsExpected b.nodes set.keys [] u = λ u k.
      let x = s.expected u k in (x.0, x.1, inl (elim x.2 [ inl i ↦ kept x.0 i | inr i ↦ added x.0 i ])) in
      let cleared : Shows b (with_returned p set (record p.turns { returned = [] })) = assumption (none, expected, s) in
      subst (λ t. Shows b (with_returned p set t)) (sym e) cleared

  pub kept-shown : (b : BookState A) (p : Parts A) (set : BTreeSet Place)
      → ((q : Place) → IsIn q p.agenda.candidates.keys → IsIn q set.keys) → Shows b p → Shows b (with_candidates p set)
  kept-shown b p set kept s = candidates-shown b p set s
      (λ u k. let x = s.expected u k in (x.0, x.1, elim x.2 [ inl i ↦ inl (kept x.0 i) | inr i ↦ inr i ]))

  any_in : (p : Parts A) (places : List Place) → list_any (λ place. is_some (found_at p place)) places ≡ true
      → (q : Place) × (u : WorkUnit) × (found_at p q ≡ Some u)
  any_in p [] h = absurd (cc)
  any_in p (x ∷ xs) h = cases (found_at p x) refl h (λ g. any_in p xs g)
    where
      cases : (o : Option WorkUnit) → found_at p x ≡ o → (is_some o || list_any (λ place. is_some (found_at p place)) xs) ≡ true
          → (list_any (λ place. is_some (found_at p place)) xs ≡ true → (q : Place) × (u : WorkUnit) × (found_at p q ≡ Some u))
          → (q : Place) × (u : WorkUnit) × (found_at p q ≡ Some u)
      cases None e g rest = rest g
      cases (Some u) e g rest = (x, u, e)

  in_any : (p : Parts A) (places : List Place) (q : Place) (u : WorkUnit) → IsIn q places → found_at p q ≡ Some u
      → list_any (λ place. is_some (found_at p place)) places ≡ true
  in_any p [] q u h e = absurd h
  in_any p (x ∷ xs) q u h e = elim h [
    | inl same ↦ ap (λ o. is_some o || list_any (λ place. is_some (found_at p place)) xs) (ap (λ t. found_at p t) (sym same) ∙ e)
    | inr more ↦ or_true _ _ (in_any p xs q u more e)
  ]
    where
      or_true : (a b : Bool) → b ≡ true → (a || b) ≡ true
      or_true true b g = refl
      or_true false b g = g

  pub some-claimable : (b : BookState A) (p : Parts A) → Shows b p → (places : List Place)
      → list_any (λ place. is_some (found_at p place)) places ≡ true → HasClaimable b
  some-claimable b p s places h = let x = any_in p places h in (x.1, (found-is b p s x.0 x.1 x.2).0)

  pub no-claimable : (b : BookState A) (p : Parts A) → Shows b p
      → list_any (λ place. is_some (found_at p place)) p.agenda.candidates.keys ≡ false
      → list_any (λ place. is_some (found_at p place)) p.turns.returned ≡ false → NoneClaimable b
  no-claimable b p s h g u k =
      let x = s.expected u k in
      let f = finds b p s u x.0 k x.1 in
      elim x.2 [
        | inl i ↦ let t = in_any p p.agenda.candidates.keys x.0 u i f in let bad : true ≡ false = sym t ∙ h in absurd (cc)
        | inr i ↦ let t = in_any p p.turns.returned x.0 u i f in let bad : true ≡ false = sym t ∙ g in absurd (cc)
      ]
