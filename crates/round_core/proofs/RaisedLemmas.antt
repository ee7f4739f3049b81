-- Rows that a post raises, and their places in the book.
use Rattle.std.specs.Prelude.{◌≡◌, ℕ, zero, suc, ◌+◌, ◌<◌, ◌⊎◌, ◌==◌, true, false, if◌then◌else◌, Option, None, Some, List, [], ◌∷◌, ◌++◌, length, nat_lt, slice_get, slice_set, take, unwrap_or}
use Rattle.std.specs.Option.{option_map}
use Rattle.std.proofs.Common.{refl, sym, ◌∙◌, ap, subst, inl, inr, arith}
use Rattle.std.proofs.lemmas.Bool.Decides.{nat_tests}
use Rattle.call_context.specs.declared.node.Node.{Node}
use Rattle.book_rules.specs.Same.{same_node}
use Rattle.round_core.specs.declared.raised.Risen.{Risen}
use Rattle.round_core.specs.Agenda.{IsIn}
use Rattle.book_rules.specs.Machine.{Held, held_at, place_of, with_held}
use Rattle.round_core.specs.Raise.{with_all, held_of, held_rows, place_for, ArePlaced}
use Rattle.round_core.specs.Shown.{AreDistinct}
use Rattle.round_core.proofs.Cases.{truth, if_true, if_false, next_place, no_place, get-bound, get-map}
use Rattle.round_core.proofs.ClaimLemmas.{held-place, place-held}
use Rattle.round_core.proofs.ListLemmas.{IsIn-split}
use Rattle.round_core.proofs.NodesLemmas.{at-none}
use Rattle.round_core.proofs.RaiseLemmas.{place-none, held_at-with_all-none, held_at-with_all-some, distinct-with_held, with_all-with_held, place-with_held, place-with_all, place-new, length-new, length-there}

abbrev some_zero : Option ℕ
some_zero = Some 0

same_some : (a c : ℕ) → Some a ≡ Some c → a ≡ c
same_some a c e = cc

module _ {A : Type 0} where
  -- rows that are looked through: the first one of the node has its place, and the others none
  pub place-here : (rs : List (Risen A)) (node : Node) (i : ℕ) (r : Risen A) → slice_get rs i ≡ Some r
      → place_of (held_rows (take i rs)) node ≡ None
      → same_node node r.node ≡ true → place_of (held_rows rs) node ≡ Some i
  place-here [] node i r at before s = absurd (cc)
  place-here (x ∷ rs) node zero r at before s =
      let e : r ≡ x = cc in if_true _ _ _ (ap (λ (t : Risen A). same_node node t.node) (sym e) ∙ s)
  place-here (x ∷ rs) node (suc i) r at before s = elim (truth (same_node node x.node)) [
    | inl t ↦ let bad : some_zero ≡ None = sym (if_true _ _ _ t) ∙ before in absurd (cc)
    | inr t ↦
        let up : i + 1 ≡ suc i = omega arith in
        if_false _ _ _ t ∙ ap (λ o. option_map (λ place. place + 1) o) (place-here rs node i r at (no_place _ (sym (if_false _ _ _ t) ∙ before)) s)
        ∙ ap (λ k. Some k) up
  ]

  pub no-place-yet : (rs : List (Risen A)) (node : Node) (i : ℕ) (r : Risen A) → slice_get rs i ≡ Some r
      → place_of (held_rows (take i rs)) node ≡ None
      → same_node node r.node ≡ false → place_of (held_rows (take (suc i) rs)) node ≡ None
  no-place-yet [] node i r at before s = absurd (cc)
  no-place-yet (x ∷ rs) node zero r at before s =
      let e : r ≡ x = cc in if_false _ _ _ (ap (λ (t : Risen A). same_node node t.node) (sym e) ∙ s)
  no-place-yet (x ∷ rs) node (suc i) r at before s = elim (truth (same_node node x.node)) [
    | inl t ↦ let bad : some_zero ≡ None = sym (if_true _ _ _ t) ∙ before in absurd (cc)
    | inr t ↦
        if_false _ _ _ t ∙ ap (λ o. option_map (λ place. place + 1) o) (no-place-yet rs node i r at (no_place _ (sym (if_false _ _ _ t) ∙ before)) s)
  ]

  pub index-bound : (rs : List (Risen A)) (node : Node) (i : ℕ) → place_of (held_rows rs) node ≡ Some i → i < length rs
  index-bound rs node i e =
      let h = held-place (held_rows rs) node i e in
      let r = get-map (λ (r : Risen A). held_of r) rs i h.0 h.2 in
      get-bound rs i r.0 r.1

  -- a row at the place of a node
  pub row-there : (rs : List (Risen A)) (node : Node) (i : ℕ) → place_of (held_rows rs) node ≡ Some i → (r : Risen A)
      → slice_get rs i ≡ Some r
      → (r.node ≡ node) × (held_at (held_rows rs) node ≡ Some (record { node = node; state = r.state; rises = r.rises }))
  row-there rs node i e r at =
      let h = held-place (held_rows rs) node i e in
      let x = get-map (λ (r : Risen A). held_of r) rs i h.0 h.2 in
      let both : Some x.0 ≡ Some r = sym x.1 ∙ at in
      let same : x.0 ≡ r = cc in
      let it : h.0 ≡ held_of r = x.2 ∙ ap (λ t. held_of t) same in
      let own : r.node ≡ node = ap (λ t. t.node) (sym it) ∙ h.3 in
      (own, h.1 ∙ ap (λ t. Some t) it ∙ ap (λ n. Some (with_node n r)) own)
    where
      with_node : Node → Risen A → Held A
      with_node n r = record { node = n; state = r.state; rises = r.rises }

  -- a row in the place of another one of its node
  pub rows-replaced : (rs : List (Risen A)) (i : ℕ) (x : Risen A) → place_of (held_rows rs) x.node ≡ Some i
      → held_rows (slice_set rs i x) ≡ with_held (held_rows rs) (held_of x)
  rows-replaced [] i x e = absurd (cc)
  rows-replaced (r ∷ rs) i x e = elim (truth (same_node x.node r.node)) [
    | inl s ↦
        let here : some_zero ≡ Some i = sym (if_true _ _ _ s) ∙ e in
        let z : 0 ≡ i = cc in
        subst (λ n. held_rows (slice_set (r ∷ rs) n x) ≡ with_held (held_rows (r ∷ rs)) (held_of x)) z (sym (if_true _ _ _ s))
    | inr s ↦
        let n = next_place (place_of (held_rows rs) x.node) i (sym (if_false _ _ _ s) ∙ e) in
        let below : suc n.0 ≡ i = omega arith in
        subst (λ m. held_rows (slice_set (r ∷ rs) m x) ≡ with_held (held_rows (r ∷ rs)) (held_of x)) below
        (ap (λ t. held_of r ∷ t) (rows-replaced rs n.0 x n.1) ∙ sym (if_false _ _ _ s))
  ]

  -- a row of a new node
  pub rows-pushed : (rs : List (Risen A)) (x : Risen A) → place_of (held_rows rs) x.node ≡ None
      → held_rows (rs ++ x ∷ []) ≡ with_held (held_rows rs) (held_of x)
  rows-pushed [] x e = refl
  rows-pushed (r ∷ rs) x e = elim (truth (same_node x.node r.node)) [
    | inl s ↦ let bad : some_zero ≡ None = sym (if_true _ _ _ s) ∙ e in absurd (cc)
    | inr s ↦
        ap (λ t. held_of r ∷ t) (rows-pushed rs x (no_place _ (sym (if_false _ _ _ s) ∙ e))) ∙ sym (if_false _ _ _ s)
  ]

  pub in-set : (rs : List (Risen A)) (i : ℕ) (x r : Risen A) → IsIn r (slice_set rs i x) → IsIn r rs ⊎ (r ≡ x)
  in-set [] i x r h = absurd h
  in-set (y ∷ rs) zero x r h = elim h [ inl e ↦ inr e | inr more ↦ inl (inr more) ]
  in-set (y ∷ rs) (suc i) x r h = elim h [
    | inl e ↦ inl (inl e)
    | inr more ↦ elim (in-set rs i x r more) [ inl old ↦ inl (inr old) | inr e ↦ inr e ]
  ]

  pub in-pushed : (rs : List (Risen A)) (x r : Risen A) → IsIn r (rs ++ x ∷ []) → IsIn r rs ⊎ (r ≡ x)
  in-pushed rs x r h = elim (IsIn-split r rs (x ∷ []) h) [ inl old ↦ inl old | inr last ↦ elim last [ inl e ↦ inr e | inr none ↦ absurd none ] ]

  -- a node has, behind its row, the place that it had or gets
  pub place-own : (hs : List (Held A)) (x : Held A) → place_of (with_held hs x) x.node ≡ Some (place_for hs x.node)
  place-own hs x = cases (place_of hs x.node) refl
    where
      cases : (o : Option ℕ) → place_of hs x.node ≡ o → place_of (with_held hs x) x.node ≡ Some (place_for hs x.node)
      cases (Some p) e = place-with_held hs x x.node p e ∙ ap (λ o. Some (unwrap_or o (length hs))) (sym e)
      cases None e = place-new hs x e ∙ ap (λ o. Some (unwrap_or o (length hs))) (sym e)

  -- the place that a node had or got stays
  pub place-later : (ns es : List (Held A)) (x : Held A) (p : ℕ)
      → place_of (with_all (with_held ns x) es) x.node ≡ Some p → p ≡ place_for ns x.node
  place-later ns es x p e =
      same_some p (place_for ns x.node) (sym e ∙ place-with_all es (with_held ns x) x.node (place_for ns x.node) (place-own ns x))

  pub place-beside : (ns es : List (Held A)) (n : Node) → held_at es n ≡ None → place_of (with_all ns es) n ≡ place_of ns n
  place-beside ns es n e = cases (place_of ns n) refl
    where
      cases : (o : Option ℕ) → place_of ns n ≡ o → place_of (with_all ns es) n ≡ place_of ns n
      cases (Some p) at = place-with_all es ns n p at ∙ sym at
      cases None at = place-none (with_all ns es) n (held_at-with_all-none ns es n e ∙ at-none n ns at) ∙ sym at

  place-bound : (hs : List (Held A)) (n : Node) (p : ℕ) → place_of hs n ≡ Some p → p < length hs
  place-bound hs n p e = let h = held-place hs n p e in get-bound hs p h.0 h.2

  -- a place behind all is no node's
  pub known-place : (hs : List (Held A)) (node : Node) (place len : ℕ) → place ≡ place_for hs node → len ≡ length hs
      → (if nat_lt place len then Some place else None) ≡ place_of hs node
  known-place hs node place len e l = cases (place_of hs node) refl
    where
      above : (p n : ℕ) → p ≡ n → nat_lt p n ≡ false
      above p n h = grind (arith, nat_tests)

      below : (p n : ℕ) → p < n → nat_lt p n ≡ true
      below p n h = grind (arith, nat_tests)

      cases : (o : Option ℕ) → place_of hs node ≡ o → (if nat_lt place len then Some place else None) ≡ place_of hs node
      cases None at =
          let is : place ≡ len = e ∙ ap (λ o. unwrap_or o (length hs)) at ∙ sym l in if_false _ _ _ (above place len is) ∙ sym at
      cases (Some p) at =
          let is : place ≡ p = e ∙ ap (λ o. unwrap_or o (length hs)) at in
          let b = place-bound hs node p at in
          if_true _ _ _ (below place len (omega arith)) ∙ ap (λ k. Some k) is ∙ sym at

  -- the next row's place, where all take theirs one after the other
  pub place-next : (ns all : List (Held A)) (rest rest' : List (Risen A)) (r : Risen A) → rest ≡ r ∷ rest'
      → with_all ns (held_rows rest) ≡ all
      → ((q : Risen A) → IsIn q rest → place_of all q.node ≡ Some q.place) → r.place ≡ place_for ns r.node
  place-next ns all rest rest' r e with placed =
      let f : with_all (with_held ns (held_of r)) (held_rows rest') ≡ all = ap (λ t. with_all ns (held_rows t)) (sym e) ∙ with in
      place-later ns (held_rows rest') (held_of r) r.place (ap (λ t. place_of t r.node) f ∙ placed r (subst (λ t. IsIn r t) (sym e) (inl refl)))

  -- rows with one more
  module _ (ns : List (Held A)) (rs rs' : List (Risen A)) (x : Risen A) (d : AreDistinct (held_rows rs)) (rows : held_rows rs' ≡ with_held (held_rows rs) (held_of x)) where
    pub put-all : with_all ns (held_rows rs') ≡ with_held (with_all ns (held_rows rs)) (held_of x)
    put-all = ap (λ t. with_all ns t) rows ∙ with_all-with_held (held_rows rs) ns (held_of x) d

    pub put-distinct : AreDistinct (held_rows rs')
    put-distinct = subst (λ t. AreDistinct t) (sym rows) (distinct-with_held (held_rows rs) (held_of x) d)

    module _ (own : x.place ≡ place_for (with_all ns (held_rows rs)) x.node) where
      pub put-placed : ArePlaced ns rs → ((r : Risen A) → IsIn r rs' → IsIn r rs ⊎ (r ≡ x)) → ArePlaced ns rs'
      put-placed a among r h =
          ap (λ t. place_of t r.node) put-all ∙ elim (among r h) [
            | inl old ↦ place-with_held (with_all ns (held_rows rs)) (held_of x) r.node r.place (a r old)
            | inr e ↦
                ap (λ (t : Risen A). place_of (with_held (with_all ns (held_rows rs)) (held_of x)) t.node) e
                ∙ place-own (with_all ns (held_rows rs)) (held_of x) ∙ ap (λ k. Some k) (sym own) ∙ ap (λ (t : Risen A). Some t.place) (sym e)
          ]

      -- the next place stays where the node had one, and else is the one behind it
      pub put-next : (next after : ℕ) → next ≡ length (with_all ns (held_rows rs))
          → after ≡ (if x.place == next then next + 1 else next) → after ≡ length (with_all ns (held_rows rs'))
      put-next next after n e = cases (place_of (with_all ns (held_rows rs)) x.node) refl
        where
          F : List (Held A)
          F = with_all ns (held_rows rs)

          other : (p next : ℕ) → p < next → (if p == next then next + 1 else next) ≡ next
          other p next h = grind (arith, nat_tests)

          new : (p next : ℕ) → p ≡ next → (if p == next then next + 1 else next) ≡ next + 1
          new p next h = grind (arith, nat_tests)

          cases : (o : Option ℕ) → place_of F x.node ≡ o → after ≡ length (with_all ns (held_rows rs'))
          cases (Some p) at =
              let less = place-bound F x.node p at in
              let is : x.place ≡ p = own ∙ ap (λ o. unwrap_or o (length F)) at in
              let same : after ≡ next = e ∙ other x.place next (omega arith) in
              same ∙ n ∙ sym (ap length put-all ∙ length-there F (held_of x) p at)
          cases None at =
              let is : x.place ≡ next = own ∙ ap (λ o. unwrap_or o (length F)) at ∙ sym n in
              let more : after ≡ next + 1 = e ∙ new x.place next is in
              more ∙ ap (λ k. k + 1) n ∙ sym (ap length put-all ∙ length-new F (held_of x) at)

      pub put-there : (p next : ℕ) → place_of (held_rows rs) x.node ≡ Some p
          → next ≡ length (with_all ns (held_rows rs)) → next ≡ length (with_all ns (held_rows rs'))
      put-there p next at n =
          let h = held-place (held_rows rs) x.node p at in
          let q = place-held (with_all ns (held_rows rs)) x.node h.0 (held_at-with_all-some ns (held_rows rs) x.node h.0 d h.1) in
          n ∙ sym (ap length put-all ∙ length-there (with_all ns (held_rows rs)) (held_of x) q.0 q.1)
