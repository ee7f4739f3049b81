-- How many units can be claimed, by their places.
use Rattle.std.specs.Prelude.{◌≡◌, ℕ, ◌+◌, ◌≤◌, ◌&&◌, Bool, true, false, not, is_some, Option, None, Some, List, [], ◌∷◌, ◌++◌, ◌-◌, count_by, filter, length, min, nat_le}
use Rattle.std.specs.BTreeSet.{contains}
use Rattle.std.specs.List.{AllByRecursion, IsDistinct}
use Rattle.std.proofs.Common.{refl, sym, ◌∙◌, ap, subst, inl, inr, arith, length-append}
use Rattle.std.proofs.lemmas.Bool.Decides.{nat_tests}
use Rattle.std.proofs.lemmas.List.Sums.{length-filter}
use Rattle.call_context.specs.declared.node.Unit.{Unit as WorkUnit}
use Rattle.round_core.specs.declared.parts.Parts.{Parts}
use Rattle.round_core.specs.declared.place.Place.{Place}
use Rattle.round_core.specs.Agenda.{AreDifferent, IsIn}
use Rattle.book_rules.specs.Claimable.{HasAtLeast}
use Rattle.round_core.specs.Claims.{placed}
use Rattle.book_rules.specs.Machine.{BookState, IsClaimable, HasClaimable}
use Rattle.book_rules.specs.Same.{same_unit}
use Rattle.round_core.specs.Shown.{Shows, found_at, is_new_return, place_cmp}
use Rattle.round_core.proofs.Cases.{truth}
use Rattle.round_core.proofs.ClaimLemmas.{placed_one}
use Rattle.round_core.proofs.ListLemmas.{IsIn-append, IsIn-last, IsIn-split, different_append, different_filter, in_filter, taken_from, to_filter}
use Rattle.round_core.proofs.PlaceLemmas.{not_there, there}
use Rattle.book_rules.specs.SameTests.{same_unit-eq, same_unit-refl}
use Rattle.round_core.proofs.ShownLemmas.{finds, found-is}

both_true : (a b : Bool) → (not a && b) ≡ true → (a ≡ false) × (b ≡ true)
both_true true b h = absurd (cc)
both_true false b h = (refl, h)

one_false : (a b : Bool) → a ≡ false → b ≡ true → (not a && b) ≡ true
one_false true b e h = absurd (cc)
one_false false b e h = h

found_of : (o : Option WorkUnit) → is_some o ≡ true → (u : WorkUnit) × (o ≡ Some u)
found_of None h = absurd (cc)
found_of (Some u) h = (u, refl)

all_map : {X : Type 0} (P Q : X → Type 0) → (xs : List X) → ((x : X) → P x → Q x) → AllByRecursion P xs → AllByRecursion Q xs
all_map P Q [] f a = tt
all_map P Q (x ∷ xs) f a = (f x a.0, all_map P Q xs f a.1)

all_both : {X : Type 0} (P Q : X → Type 0) → (xs : List X) → AllByRecursion P xs → AllByRecursion Q xs → AllByRecursion (λ x. P x × Q x) xs
all_both P Q [] a b = tt
all_both P Q (x ∷ xs) a b = ((a.0, b.0), all_both P Q xs a.1 b.1)

test_le : (a b : ℕ) → nat_le a b ≡ true → a ≤ b
test_le a b h = grind (arith, nat_tests)

le_test : (a b : ℕ) → a ≤ b → nat_le a b ≡ true
le_test a b h = grind (arith, nat_tests)

-- so many are counted in two parts, the second up to what the first leaves
pub counts_reach : (least first second some more : ℕ) → first ≡ min least some → second ≡ min (least - first) more
    → nat_le least (first + second) ≡ true → least ≤ some + more
counts_reach least first second some more e d h = let t = test_le least (first + second) h in omega arith

pub reach_counts : (least first second some more : ℕ) → first ≡ min least some → second ≡ min (least - first) more
    → least ≤ some + more → nat_le least (first + second) ≡ true
reach_counts least first second some more e d h = le_test least (first + second) (omega arith)

module _ {A : Type 0} (b : BookState A) where
  -- the unit's place is among these
  abbrev HasPlaceIn : List Place → WorkUnit → Type 0
  HasPlaceIn places u = (q : Place) × IsIn q places × (placed b.nodes u ≡ Some q)

  -- units of different places
  record Given (places : List Place) : Type 0 where
    units : List WorkUnit
    distinct : IsDistinct same_unit units
    claimable : AllByRecursion (IsClaimable b) units
    placed_in : AllByRecursion (HasPlaceIn places) units
    many : length units ≡ length places

  -- a unit of another place is another one
  other_place : (q : Place) (places : List Place) (u v : WorkUnit) → (IsIn q places → ⊥) → placed b.nodes u ≡ Some q
      → HasPlaceIn places v → same_unit u v ≡ false
  other_place q places u v none e h = elim (truth (same_unit u v)) [
    | inl t ↦
        let same : u ≡ v = same_unit-eq u v t in
        let at : Some q ≡ Some h.0 = sym e ∙ ap (λ w. placed b.nodes w) same ∙ h.2 in
        let one : q ≡ h.0 = cc in
        absurd (none (subst (λ r. IsIn r places) (sym one) h.1))
    | inr t ↦ t
  ]

  -- distinct units have no fewer places
  pub places_suffice : (units : List WorkUnit) (places : List Place) → IsDistinct same_unit units
      → AllByRecursion (HasPlaceIn places) units → length units ≤ length places
  unfolding IsDistinct
  places_suffice [] places d h = omega arith
  places_suffice (u ∷ us) places d h =
      let q = h.0.0 in
      let t = taken_from q places h.0.1 in
      let rest : length us ≤ length (t.0 ++ t.1) = places_suffice us (t.0 ++ t.1) d.1
      (all_map _ (HasPlaceIn (t.0 ++ t.1)) us (λ v k. elsewhere u v q t.0 t.1 h.0.2 k.0 (subst (λ l. HasPlaceIn l v) t.2 k.1)) (all_both _ _ us d.0 h.1)) in
      let a = ap length t.2 in
      let l = length-append t.0 (q ∷ t.1) in
      let r = length-append t.0 t.1 in
      omega arith
    where
      elsewhere : (u v : WorkUnit) (q : Place) (front back : List Place) → placed b.nodes u ≡ Some q
          → same_unit u v ≡ false → HasPlaceIn (front ++ q ∷ back) v → HasPlaceIn (front ++ back) v
      elsewhere u v q front back e other k = elim (IsIn-split k.0 front (q ∷ back) k.1) [
        | inl f ↦ (k.0, IsIn-append k.0 front back f, k.2)
        | inr s ↦ elim s [
          | inl here ↦
              let one : u ≡ v = placed_one b.nodes u v q e (k.2 ∙ ap (λ r. Some r) here) in
              let same : same_unit u v ≡ true = subst (λ w. same_unit u w ≡ true) one (same_unit-refl u) in
              let bad : true ≡ false = sym same ∙ other in absurd (cc)
          | inr f ↦ (k.0, IsIn-last k.0 front back f, k.2)
        ]
      ]

  -- a unit that can be claimed is one of at least one
  pub one_of_them : HasClaimable b → HasAtLeast b 1
  unfolding IsDistinct
  one_of_them h = record { units = h.0 ∷ []; distinct = (tt, tt); claimable = (h.1, tt); enough = omega arith }

  pub some_of_them : HasAtLeast b 1 → HasClaimable b
  some_of_them h = first h.units h.claimable h.enough
    where
      first : (us : List WorkUnit) → AllByRecursion (IsClaimable b) us → 1 ≤ length us → HasClaimable b
      first [] a e = absurd (omega arith)
      first (u ∷ us) a e = (u, a.0)

  module _ (p : Parts A) (s : Shows b p) where
    given : (places : List Place) → AreDifferent places → ((q : Place) → IsIn q places → is_some (found_at p q) ≡ true) → Given places
    unfolding IsDistinct
    given [] d f = record { units = []; distinct = tt; claimable = tt; placed_in = tt; many = refl }
    given (q ∷ qs) d f =
        let rest = given qs d.1 (λ r h. f r (inr h)) in
        let u = found_of (found_at p q) (f q (inl refl)) in
        let at = found-is b p s q u.0 u.1 in
        let more = rest.many in
        record {
          units = u.0 ∷ rest.units;
          distinct = (all_map _ _ rest.units (λ v h. other_place q qs u.0 v d.0 at.1 h) rest.placed_in, rest.distinct);
          claimable = (at.0, rest.claimable);
          placed_in = ((q, inl refl, at.1), all_map _ _ rest.units (λ v h. (h.0, inr h.1, h.2)) rest.placed_in);
          many = omega arith;
        }

    -- the places of the units that can be claimed, each once
    abbrev claimable_places : List Place
    claimable_places = filter (λ q. is_some (found_at p q)) p.agenda.candidates.keys ++ filter (λ q. is_new_return p q) p.turns.returned

    abbrev pub counted : ℕ
    counted = count_by (λ q. is_some (found_at p q)) p.agenda.candidates.keys + count_by (λ q. is_new_return p q) p.turns.returned

    length-counted : length claimable_places ≡ counted
    length-counted =
        let l = length-append (filter (λ q. is_some (found_at p q)) p.agenda.candidates.keys) (filter (λ q. is_new_return p q) p.turns.returned) in
        let a = length-filter (λ q. is_some (found_at p q)) p.agenda.candidates.keys in
        let r = length-filter (λ q. is_new_return p q) p.turns.returned in
        omega arith

    are_found : (q : Place) → IsIn q claimable_places → is_some (found_at p q) ≡ true
    are_found q h = elim (IsIn-split q (filter (λ q. is_some (found_at p q)) p.agenda.candidates.keys) (filter (λ q. is_new_return p q) p.turns.returned) h) [
      | inl a ↦ (in_filter (λ q. is_some (found_at p q)) q p.agenda.candidates.keys a).1
      | inr r ↦ (both_true (contains place_cmp p.agenda.candidates q) (is_some (found_at p q)) (in_filter (λ q. is_new_return p q) q p.turns.returned r).1).1
    ]

    are_different : AreDifferent p.agenda.candidates.keys → AreDifferent claimable_places
    are_different once =
        different_append (filter (λ q. is_some (found_at p q)) p.agenda.candidates.keys) (filter (λ q. is_new_return p q) p.turns.returned)
        (different_filter (λ q. is_some (found_at p q)) p.agenda.candidates.keys once)
        (different_filter (λ q. is_new_return p q) p.turns.returned s.given_back.once)
        (λ q a r.
        let c = (in_filter (λ q. is_some (found_at p q)) q p.agenda.candidates.keys a).0 in
        let n = (in_filter (λ q. is_new_return p q) q p.turns.returned r).1 in
        not_there p.agenda.candidates.keys q (both_true (contains place_cmp p.agenda.candidates q) (is_some (found_at p q)) n).0 c)

    claimable_place : (u : WorkUnit) → IsClaimable b u → HasPlaceIn claimable_places u
    claimable_place u k =
        let x = s.expected u k in
        let f : is_some (found_at p x.0) ≡ true = ap (λ o. is_some o) (finds b p s u x.0 k x.1) in
        elim x.2 [
          | inl i ↦ (x.0, candidate x.0 f i, x.1)
          | inr r ↦ elim (truth (contains place_cmp p.agenda.candidates x.0)) [
            | inl t ↦ (x.0, candidate x.0 f (there p.agenda.candidates.keys x.0 t), x.1)
            | inr t ↦ (
              x.0,
              IsIn-last x.0 (filter (λ q. is_some (found_at p q)) p.agenda.candidates.keys) (filter (λ q. is_new_return p q) p.turns.returned)
                  (to_filter (λ q. is_new_return p q) x.0 p.turns.returned r
                  (one_false (contains place_cmp p.agenda.candidates x.0) (is_some (found_at p x.0)) t f)),
              x.1,
            )
          ]
        ]
      where
        candidate : (q : Place) → is_some (found_at p q) ≡ true → IsIn q p.agenda.candidates.keys → IsIn q claimable_places
        candidate q f i =
            IsIn-append q (filter (λ q. is_some (found_at p q)) p.agenda.candidates.keys) (filter (λ q. is_new_return p q) p.turns.returned)
            (to_filter (λ q. is_some (found_at p q)) q p.agenda.candidates.keys i f)

    pub enough_counted : (least : ℕ) → AreDifferent p.agenda.candidates.keys → least ≤ counted → HasAtLeast b least
    enough_counted least once h =
        let g = given claimable_places (are_different once) are_found in
        let many = g.many in
        let counts = length-counted in
        record { units = g.units; distinct = g.distinct; claimable = g.claimable; enough = omega arith }

    pub counted_enough : (least : ℕ) → HasAtLeast b least → least ≤ counted
    counted_enough least h =
        let suffice = places_suffice h.units claimable_places h.distinct (all_map _ _ h.units (λ u k. claimable_place u k) h.claimable) in
        let counts = length-counted in
        let enough = h.enough in
        omega arith
