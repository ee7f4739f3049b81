-- The order of places, and sets of them.
use Rattle.std.specs.Prelude.{◌≡◌, ℕ, ◌<◌, ◌⊎◌, ◌||◌, Bool, cond, true, false, List, [], ◌∷◌, length, slice_get, Option, None, Some, IfSome, IsSome, ◌↔◌}
use Rattle.std.specs.List.{AllByRecursion, list_any}
use Rattle.std.specs.List.Sorted.{IsStrictlySortedBy}
use Rattle.std.specs.Option.{option_map}
use Rattle.std.specs.Borrow.{Bor}
use Rattle.std.proofs.Common.{refl, sym, ◌∙◌, ap, subst, inl, inr, arith}
use Rattle.std.proofs.Math.Path.{ap₂}
use Rattle.std.proofs.lemmas.Bool.Decides.{nat_tests}
use Rattle.std.specs.Cmp.{nat_cmp_is}
use Rattle.std.specs.Ordering.{nat_cmp, match_ordering, ordering_then, is_eq, is_gt}
use Rattle.std.specs.BTreeMap.{is_at}
use Rattle.std.specs.BTreeSet.{insert_key}
use Rattle.std.specs.Set.{remove_key}
use Rattle.std.specs.declared.cmp.Ordering.{Ordering}
use Rattle.std.specs.declared.cmp.Ordering.TheVariants.{Less, Equal, Greater}
use Rattle.round_core.specs.declared.place.Place.{Place}
use Rattle.round_core.specs.declared.place.Place.TheVariants.{One, Back}
use Rattle.round_core.specs.Agenda.{AreDifferent, IsIn}
use Rattle.round_core.specs.Shown.{place_cmp}

-- a place before another one
abbrev pub IsBefore : Place → Place → Type 0
IsBefore (One a) (One b) = a < b
IsBefore (One a) (Back b y) = Unit {0}
IsBefore (Back a x) (One b) = ⊥
IsBefore (Back a x) (Back b y) = (a < b) ⊎ ((a ≡ b) × (x < y))

nat_greater : (a b : ℕ) → b < a → nat_cmp a b ≡ Greater
nat_greater a b h = sym (nat_cmp_is a b Greater h)

nat_same : (a b : ℕ) → a ≡ b → nat_cmp a b ≡ Equal
nat_same a b h = sym (nat_cmp_is a b Equal h)

pub nat_equal : (a b : ℕ) → nat_cmp a b ≡ Equal → a ≡ b
nat_equal a b h = grind (arith, nat_tests)

both_equal : (p q : Ordering) → ordering_then p q ≡ Equal → (p ≡ Equal) × (q ≡ Equal)
both_equal Less q h = absurd (cc)
both_equal Equal q h = (refl, h)
both_equal Greater q h = absurd (cc)

pub cmp-before : (p q : Place) → IsBefore q p → place_cmp p q ≡ Greater
cmp-before (One a) (One b) h = nat_greater a b h
cmp-before (One a) (Back b y) h = absurd h
cmp-before (Back a x) (One b) h = refl
cmp-before (Back a x) (Back b y) h = elim h [
  | inl less ↦ ap (λ o. ordering_then o (nat_cmp x y)) (nat_greater a b less)
  | inr same ↦ ap₂ (λ o u. ordering_then o u) (nat_same a b (sym same.0)) (nat_greater x y same.1)
]

-- what comes before the least comes from no list above it
pub not_before : (p q : Place) → is_gt (place_cmp p q) ≡ false → IsBefore q p → ⊥
not_before p q le h = let g : is_gt (place_cmp p q) ≡ true = ap is_gt (cmp-before p q h) in let e : true ≡ false = sym g ∙ le in cc

cmp-equal : (p q : Place) → place_cmp p q ≡ Equal → p ≡ q
cmp-equal (One a) (One b) h = ap One (nat_equal a b h)
cmp-equal (One a) (Back b y) h = absurd (cc)
cmp-equal (Back a x) (One b) h = absurd (cc)
cmp-equal (Back a x) (Back b y) h =
    let e = both_equal (nat_cmp a b) (nat_cmp x y) h in ap₂ (λ n m. Back n m) (nat_equal a b e.0) (nat_equal x y e.1)

added_at : (o : Ordering) (k x : Place) (xs more : List Place) → (o ≡ Equal → k ≡ x) → IsIn k more
    → IsIn k (match_ordering o (k ∷ x ∷ xs) (x ∷ xs) (x ∷ more))
added_at Less k x xs more e h = inl refl
added_at Equal k x xs more e h = inl (e refl)
added_at Greater k x xs more e h = inr h

pub insert_key-added : (ks : List Place) (k : Place) → IsIn k (insert_key place_cmp ks k)
insert_key-added [] k = inl refl
insert_key-added (x ∷ xs) k = added_at (place_cmp k x) k x xs _ (cmp-equal k x) (insert_key-added xs k)

kept_at : (o : Ordering) (k x p : Place) (xs more : List Place) → (IsIn p xs → IsIn p more) → IsIn p (x ∷ xs)
    → IsIn p (match_ordering o (k ∷ x ∷ xs) (x ∷ xs) (x ∷ more))
kept_at Less k x p xs more e h = inr h
kept_at Equal k x p xs more e h = h
kept_at Greater k x p xs more e h = elim h [ inl s ↦ inl s | inr r ↦ inr (e r) ]

pub insert_key-kept : (ks : List Place) (k p : Place) → IsIn p ks → IsIn p (insert_key place_cmp ks k)
insert_key-kept [] k p h = absurd h
insert_key-kept (x ∷ xs) k p h = kept_at (place_cmp k x) k x p xs _ (insert_key-kept xs k p) h

-- what is known of a first candidate
pub of_copied : (P : Place → Type 0) (r : Option (Bor Place)) (p : Place) → IfSome r (λ k. P k.now)
    → Some p ≡ option_map (λ k. k.now) r → P p
of_copied P None p h e = absurd (cc)
of_copied P (Some k) p h e = let same : k.now ≡ p = cc in subst P same h

pub popped : (old new : List Place) (r : Option Place) (p : Place) → slice_get old 0 ≡ Some p
    → IfSome r (λ k. old ≡ k ∷ new) → IsSome r ↔ (0 < length old) → old ≡ p ∷ new
popped [] new r p g h v = absurd (cc)
popped (x ∷ old) new None p g h v = let some : false ≡ true = v.1 (omega arith) in absurd (cc)
popped (x ∷ old) new (Some k) p g h v = let e : x ≡ p = cc in let d : old ≡ new = cc in ap₂ (λ a b. a ∷ b) e d

-- a place is equal to itself alone
cmp-same : (p : Place) → place_cmp p p ≡ Equal
cmp-same (One a) = nat_same a a refl
cmp-same (Back a x) = ap₂ (λ o u. ordering_then o u) (nat_same a a refl) (nat_same x x refl)

equal_from_test : (o : Ordering) → is_eq o ≡ true → o ≡ Equal
equal_from_test Less h = absurd (cc)
equal_from_test Equal h = refl
equal_from_test Greater h = absurd (cc)

is_place : (k x : Place) → is_at (place_cmp k) x ≡ true → k ≡ x
is_place k x h = cmp-equal k x (equal_from_test (place_cmp k x) h)

removed_at : (t : Bool) (x p : Place) (xs more : List Place) → (t ≡ true → p ≡ x → ⊥) → (IsIn p xs → IsIn p more)
    → IsIn p (x ∷ xs) → IsIn p (cond t xs (x ∷ more))
removed_at true x p xs more other e h = elim h [ inl s ↦ absurd (other refl s) | inr r ↦ r ]
removed_at false x p xs more other e h = elim h [ inl s ↦ inl s | inr r ↦ inr (e r) ]

-- where a place is removed the others stay
pub remove_key-kept : (ks : List Place) (k p : Place) → IsIn p ks → (p ≡ k → ⊥) → IsIn p (remove_key (is_at (place_cmp k)) ks)
remove_key-kept [] k p h other = absurd h
remove_key-kept (x ∷ xs) k p h other =
    removed_at (is_at (place_cmp k) x) x p xs _ (λ t s. other (s ∙ sym (is_place k x t))) (λ r. remove_key-kept xs k p r other) h

-- whether a place is in a list
either_true : (a b : Bool) → (a || b) ≡ true → (a ≡ true) ⊎ (b ≡ true)
either_true true b h = inl refl
either_true false b h = inr h

neither_true : (a b : Bool) → (a || b) ≡ false → (a ≡ false) × (b ≡ false)
neither_true true b h = absurd (cc)
neither_true false b h = (refl, h)

pub there : (ks : List Place) (q : Place) → list_any (is_at (place_cmp q)) ks ≡ true → IsIn q ks
there [] q h = absurd (cc)
there (x ∷ xs) q h = elim (either_true (is_at (place_cmp q) x) (list_any (is_at (place_cmp q)) xs) h) [
  | inl here ↦ inl (is_place q x here)
  | inr more ↦ inr (there xs q more)
]

pub not_there : (ks : List Place) (q : Place) → list_any (is_at (place_cmp q)) ks ≡ false → IsIn q ks → ⊥
not_there [] q h i = i
not_there (x ∷ xs) q h i =
    let n = neither_true (is_at (place_cmp q) x) (list_any (is_at (place_cmp q)) xs) h in
    elim i [
      | inl e ↦
          let here : is_at (place_cmp q) q ≡ false = subst (λ z. is_at (place_cmp q) z ≡ false) (sym e) n.0 in
          let same : is_at (place_cmp q) q ≡ true = ap is_eq (cmp-same q) in
          let bad : true ≡ false = sym same ∙ here in absurd (cc)
      | inr r ↦ not_there xs q n.1 r
    ]

not_above : (x : Place) (xs : List Place) → AllByRecursion (λ y. place_cmp x y ≡ Less) xs → IsIn x xs → ⊥
not_above x [] a h = h
not_above x (y ∷ ys) a h = elim h [
  | inl e ↦
      let less : place_cmp x x ≡ Less = subst (λ z. place_cmp x z ≡ Less) (sym e) a.0 in
      let bad : Equal ≡ Less = sym (cmp-same x) ∙ less in absurd (cc)
  | inr r ↦ not_above x ys a.1 r
]

-- the places of a set are different
pub sorted-different : (ks : List Place) → IsStrictlySortedBy place_cmp ks → AreDifferent ks
unfolding IsStrictlySortedBy
sorted-different [] s = tt
sorted-different (x ∷ xs) s = (λ h. not_above x xs s.0 h, sorted-different xs s.1)
