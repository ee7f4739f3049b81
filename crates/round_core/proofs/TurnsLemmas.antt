-- Units that are out, looked through, and brought home.
use Rattle.std.specs.Prelude.{◌≡◌, ℕ, zero, suc, ◌+◌, ◌<◌, true, false, if◌then◌else◌, Option, None, Some, List, [], ◌∷◌, ◌++◌, is_some, length, slice_get, take}
use Rattle.std.specs.List.{remove}
use Rattle.std.specs.Option.{option_map}
use Rattle.std.proofs.Common.{refl, sym, ◌∙◌, ap, subst, inl, inr, arith}
use Rattle.call_context.specs.declared.node.Unit.{Unit as WorkUnit}
use Rattle.book_rules.specs.Same.{same_unit}
use Rattle.round_core.specs.declared.place.Place.{Place}
use Rattle.round_core.specs.Turns.{index_out, place_out, StandOnce}
use Rattle.round_core.proofs.Cases.{truth, if_true, if_false, next_place, no_place, get-bound}
use Rattle.book_rules.specs.SameTests.{same_unit-eq, same_unit-off}

abbrev Entries : Type 0
Entries = List (WorkUnit × Place)

abbrev some_zero : Option ℕ
some_zero = Some 0

-- entries that are looked through: the first one of the unit has its index, and the others none
pub index-here : (es : Entries) (u : WorkUnit) (i : ℕ) (e : WorkUnit × Place) → slice_get es i ≡ Some e
    → index_out (take i es) u ≡ None → same_unit u e.0 ≡ true → index_out es u ≡ Some i
index-here [] u i e at before s = absurd (cc)
index-here (x ∷ es) u zero e at before s = let k : e ≡ x = cc in if_true _ _ _ (ap (λ t. same_unit u t.0) (sym k) ∙ s)
index-here (x ∷ es) u (suc i) e at before s = elim (truth (same_unit u x.0)) [
  | inl t ↦ let bad : some_zero ≡ None = sym (if_true _ _ _ t) ∙ before in absurd (cc)
  | inr t ↦
      let up : i + 1 ≡ suc i = omega arith in
      if_false _ _ _ t ∙ ap (λ o. option_map (λ index. index + 1) o) (index-here es u i e at (no_place _ (sym (if_false _ _ _ t) ∙ before)) s)
      ∙ ap (λ k. Some k) up
]

pub no-index-yet : (es : Entries) (u : WorkUnit) (i : ℕ) (e : WorkUnit × Place) → slice_get es i ≡ Some e
    → index_out (take i es) u ≡ None → same_unit u e.0 ≡ false → index_out (take (suc i) es) u ≡ None
no-index-yet [] u i e at before s = absurd (cc)
no-index-yet (x ∷ es) u zero e at before s = let k : e ≡ x = cc in if_false _ _ _ (ap (λ t. same_unit u t.0) (sym k) ∙ s)
no-index-yet (x ∷ es) u (suc i) e at before s = elim (truth (same_unit u x.0)) [
  | inl t ↦ let bad : some_zero ≡ None = sym (if_true _ _ _ t) ∙ before in absurd (cc)
  | inr t ↦ if_false _ _ _ t ∙ ap (λ o. option_map (λ index. index + 1) o) (no-index-yet es u i e at (no_place _ (sym (if_false _ _ _ t) ∙ before)) s)
]

-- a unit without an index isn't out
pub index-none : (es : Entries) (u : WorkUnit) → index_out es u ≡ None → place_out es u ≡ None
index-none [] u h = refl
index-none (x ∷ es) u h = elim (truth (same_unit u x.0)) [
  | inl t ↦ let bad : some_zero ≡ None = sym (if_true _ _ _ t) ∙ h in absurd (cc)
  | inr t ↦ if_false _ _ _ t ∙ index-none es u (no_place _ (sym (if_false _ _ _ t) ∙ h))
]

-- the entry at its index
pub index-entry : (es : Entries) (u : WorkUnit) (i : ℕ) → index_out es u ≡ Some i
    → (e : WorkUnit × Place) × (slice_get es i ≡ Some e) × (place_out es u ≡ Some e.1)
index-entry [] u i h = absurd (cc)
index-entry (x ∷ es) u i h = elim (truth (same_unit u x.0)) [
  | inl t ↦
      let here : Some 0 ≡ Some i = sym (if_true _ _ _ t) ∙ h in
      let z : 0 ≡ i = cc in
      (x, subst (λ k. slice_get (x ∷ es) k ≡ Some x) z refl, if_true _ _ _ t)
  | inr t ↦
      let m = next_place (index_out es u) i (sym (if_false _ _ _ t) ∙ h) in
      let below : suc m.0 ≡ i = omega arith in
      let rest = index-entry es u m.0 m.1 in
      (rest.0, subst (λ k. slice_get (x ∷ es) k ≡ Some rest.0) below rest.1, if_false _ _ _ t ∙ rest.2)
]

pub index-bound : (es : Entries) (u : WorkUnit) (i : ℕ) → index_out es u ≡ Some i → i < length es
index-bound es u i h = let r = index-entry es u i h in get-bound es i r.0 r.1

pub index-some : (es : Entries) (u : WorkUnit) → is_some (index_out es u) ≡ is_some (place_out es u)
index-some es u = cases (index_out es u) refl
  where
    cases : (o : Option ℕ) → index_out es u ≡ o → is_some (index_out es u) ≡ is_some (place_out es u)
    cases None e = ap (λ t. is_some t) e ∙ sym (ap (λ t. is_some t) (index-none es u e))
    cases (Some i) e = ap (λ t. is_some t) e ∙ sym (ap (λ t. is_some t) (index-entry es u i e).2)

-- entries without the one of a unit
abbrev pub places_without : Entries → WorkUnit → WorkUnit → Option Place
places_without es u v = if same_unit u v then None else place_out es v

pub removed-places : (es : Entries) (u : WorkUnit) (i : ℕ) → StandOnce es → index_out es u ≡ Some i → (v : WorkUnit)
    → place_out (remove es i) v ≡ places_without es u v
removed-places [] u i d h v = absurd (cc)
removed-places (x ∷ es) u i d h v = elim (truth (same_unit u x.0)) [
  | inl t ↦
      let here : Some 0 ≡ Some i = sym (if_true _ _ _ t) ∙ h in
      let z : 0 ≡ i = cc in
      let one : u ≡ x.0 = same_unit-eq u x.0 t in
      subst (λ k. place_out (remove (x ∷ es) k) v ≡ places_without (x ∷ es) u v) z (elim (truth (same_unit u v)) [
        | inl s ↦
            let both : u ≡ v = same_unit-eq u v s in
            subst (λ w. place_out es w ≡ None) (sym one ∙ both) d.0 ∙ sym (if_true _ _ _ s)
        | inr s ↦
            let n : same_unit v x.0 ≡ false = subst (λ w. same_unit v w ≡ false) one (same_unit-off u v s) in
            sym (if_false _ _ _ s ∙ if_false _ _ _ n)
      ])
  | inr t ↦
      let m = next_place (index_out es u) i (sym (if_false _ _ _ t) ∙ h) in
      let below : suc m.0 ≡ i = omega arith in
      let rest = removed-places es u m.0 d.1 m.1 v in
      subst (λ k. place_out (remove (x ∷ es) k) v ≡ places_without (x ∷ es) u v) below (elim (truth (same_unit v x.0)) [
        | inl s ↦
            let both : v ≡ x.0 = same_unit-eq v x.0 s in
            let n : same_unit u v ≡ false = subst (λ w. same_unit u w ≡ false) (sym both) t in
            if_true _ _ _ s ∙ sym (if_false _ _ _ n ∙ if_true _ _ _ s)
        | inr s ↦ if_false _ _ _ s ∙ rest ∙ ap (λ o. if same_unit u v then None else o) (sym (if_false _ _ _ s))
      ])
]

pub removed-once : (es : Entries) (u : WorkUnit) (i : ℕ) → StandOnce es → index_out es u ≡ Some i → StandOnce (remove es i)
removed-once [] u i d h = absurd (cc)
removed-once (x ∷ es) u i d h = elim (truth (same_unit u x.0)) [
  | inl t ↦
      let here : Some 0 ≡ Some i = sym (if_true _ _ _ t) ∙ h in
      let z : 0 ≡ i = cc in
      subst (λ k. StandOnce (remove (x ∷ es) k)) z d.1
  | inr t ↦
      let m = next_place (index_out es u) i (sym (if_false _ _ _ t) ∙ h) in
      let below : suc m.0 ≡ i = omega arith in
      subst (λ k. StandOnce (remove (x ∷ es) k)) below
      (removed-places es u m.0 d.1 m.1 x.0 ∙ if_false _ _ _ t ∙ d.0, removed-once es u m.0 d.1 m.1)
]

-- one more entry
pub once-more : (es : Entries) (u : WorkUnit) (place : Place) → StandOnce es → place_out es u ≡ None → StandOnce (es ++ (u, place) ∷ [])
once-more [] u place d h = (refl, tt)
once-more (x ∷ es) u place d h = elim (truth (same_unit u x.0)) [
  | inl t ↦ let bad : Some x.1 ≡ None = sym (if_true _ _ _ t) ∙ h in absurd (cc)
  | inr t ↦ (still x.0 es d.0 (same_unit-off u x.0 t), once-more es u place d.1 (sym (if_false _ _ _ t) ∙ h))
]
  where
    still : (v : WorkUnit) (es : Entries) → place_out es v ≡ None → same_unit v u ≡ false → place_out (es ++ (u, place) ∷ []) v ≡ None
    still v [] h n = if_false _ _ _ n
    still v (y ∷ es) h n = elim (truth (same_unit v y.0)) [
      | inl t ↦ let bad : Some y.1 ≡ None = sym (if_true _ _ _ t) ∙ h in absurd (cc)
      | inr t ↦ if_false _ _ _ t ∙ still v es (sym (if_false _ _ _ t) ∙ h) n
    ]
