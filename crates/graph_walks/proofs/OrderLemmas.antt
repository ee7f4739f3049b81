-- Ascending lists of numbers.
use Rattle.std.proofs.Common.{◌≡◌, ℕ, ◌+◌, ◌-◌, ◌<◌, ◌≤◌, Option, None, Some, List, [], ◌∷◌, ◌++◌, get_or, length, take, take_all, ap, sym, ◌∙◌, subst, inl, inr, arith, length-append}
use Rattle.std.specs.Prelude.{◌⊎◌, Contains, slice_get}
use Rattle.std.proofs.lemmas.Bool.{cases_eq}
use Rattle.std.proofs.lemmas.List.Elements.{Contains-append_left, Contains-push, Contains-push_cases}
use Rattle.std.proofs.lemmas.List.{take_more}
use Rattle.std.proofs.lemmas.Option.{get_or_from_slice_get, slice_get_within}
use Rattle.plain_lemmas.specs.Members.{in_none}
use Rattle.graph_walks.specs.Searches.{IsAscending, IsMerged}
use Rattle.graph_walks.proofs.ListLemmas.{at_of, from_push, get_front, get_push, in_of, one_at}

pub none_ascend : (xs : List ℕ) → xs ≡ [] → IsAscending xs
none_ascend xs none i j a b before at_i at_j = let nowhere : ◌≡◌ {A = Option ℕ} None (Some a) = ap (λ ys. slice_get ys i) (sym none) ∙ at_i in absurd (cc)

pub push_ascends : (xs : List ℕ) (x : ℕ) → IsAscending xs → ((a : ℕ) → Contains xs a → a < x) → IsAscending (xs ++ x ∷ [])
push_ascends xs x ascending below i j a b before at_i at_j = elim (from_push xs x j b at_j) [
  | inl (last, same) ↦ elim (from_push xs x i a at_i) [
    | inl (also, is) ↦ absurd (omega (arith, last, also, before))
    | inr there ↦ omega (arith, same, below a (in_of xs i a there))
  ]
  | inr here ↦ elim (from_push xs x i a at_i) [
    | inl (last, is) ↦ absurd (omega (arith, last, before, slice_get_within xs j b here))
    | inr there ↦ ascending i j a b before there here
  ]
]

pub front_ascends : (xs ys : List ℕ) → IsAscending (xs ++ ys) → IsAscending xs
front_ascends xs ys ascending i j a b before at_i at_j = ascending i j a b before (get_front xs ys i a at_i) (get_front xs ys j b at_j)

-- the last one is the greatest
pub last_greatest : (xs : List ℕ) (x : ℕ) → IsAscending xs → slice_get xs (length xs - 1) ≡ Some x → (a : ℕ) → Contains xs a → a ≤ x
last_greatest xs x ascending last a h =
    let (i, at) = at_of xs a h in
    elim (cases_eq i (length xs - 1)) [
      | inl same ↦ let is : a ≡ x = one_at xs i a x at (subst (λ k. slice_get xs k ≡ Some x) (sym same) last) in omega (arith, is)
      | inr other ↦ let less = ascending i (length xs - 1) a x (omega (arith, other, slice_get_within xs i a at)) at last in omega (arith, less)
    ]

-- some bounds were taken, and none up to the place
pub record IsMerging (place : ℕ) (old new : List ℕ) : Type 0 where
  pub ascending : IsAscending new
  pub shorter : length new ≤ length old
  pub from : (bound : ℕ) → Contains new bound → Contains old bound
  pub kept : (bound : ℕ) → Contains old bound → bound ≤ place → Contains new bound

-- A LAST ONE IS TAKEN

-- what is left, where one was there
pub record IsTaken (old new : List ℕ) (last : ℕ) : Type 0 where
  pub split : old ≡ new ++ last ∷ []
  pub shorter : length new + 1 ≡ length old
  pub ascending : IsAscending new
  pub below : (a : ℕ) → Contains new a → a < last
  pub from : (a : ℕ) → Contains old a → Contains new a ⊎ (a ≡ last)

pub taken : (old new : List ℕ) (last : ℕ) → IsAscending old → slice_get old (length old - 1) ≡ Some last → new ≡ take (length old - 1) old → IsTaken old new last
taken old new last ascending at rest =
    let place = length old - 1 in
    let inside : place < length old = slice_get_within old place last at in
    let all : take (place + 1) old ≡ old = take_all (place + 1) old (omega arith) in
    let element : get_or old place last ≡ last = get_or_from_slice_get old place last last at in
    let whole : old ≡ new ++ last ∷ [] = sym all ∙ take_more old place last inside ∙ ap (λ y. take place old ++ y ∷ []) element ∙ ap (λ xs. xs ++ last ∷ []) (sym rest) in
    let rises : IsAscending (new ++ last ∷ []) = subst IsAscending whole ascending in
    record {
      split = whole;
      shorter = omega (arith, ap length whole, length-append new (last ∷ []));
      ascending = front_ascends new (last ∷ []) rises;
      below = λ a h. let (i, there) = at_of new a h in
          rises i (length new) a last (slice_get_within new i a there) (get_front new (last ∷ []) i a there) (get_push new last);
      from = λ a h. elim (Contains-push_cases new last a (subst (λ xs. Contains xs a) whole h)) [ inl before ↦ inl before | inr same ↦ inr (sym same) ];
    }

-- told by a vector
pub taken_by : (old new : List ℕ) (n last : ℕ) → n ≡ length old → IsAscending old → Some last ≡ slice_get old (length old - 1) → new ≡ take (n - 1) old
    → IsTaken old new last
taken_by old new n last sized ascending at rest = taken old new last ascending (sym at) (subst (λ k. new ≡ take (k - 1) old) sized rest)

pub in_taken : (old new : List ℕ) (last : ℕ) → IsTaken old new last → (a : ℕ) → Contains new a → Contains old a
in_taken old new last taken a h = subst (λ xs. Contains xs a) (sym taken.split) (Contains-append_left new (last ∷ []) a h)

pub last_in : (old new : List ℕ) (last : ℕ) → IsTaken old new last → Contains old last
last_in old new last taken = subst (λ xs. Contains xs last) (sym taken.split) (Contains-push new last)

-- BOUNDS BEYOND A PLACE ARE TAKEN

pub merges_more : (place : ℕ) (old mid new : List ℕ) (last : ℕ) → IsMerging place old mid → IsTaken mid new last → place < last → IsMerging place old new
merges_more place old mid new last merging taken beyond = record {
  ascending = taken.ascending;
  shorter = omega (arith, merging.shorter, taken.shorter);
  from = λ b h. merging.from b (in_taken mid new last taken b h);
  kept = λ b h small. elim (taken.from b (merging.kept b h small)) [ inl here ↦ here | inr same ↦ absurd (omega (arith, same, small, beyond)) ];
}

pub merged_up_to : (place : ℕ) (old new : List ℕ) (last : ℕ) → IsMerging place old new → slice_get new (length new - 1) ≡ Some last → last ≤ place → IsMerged place old new
merged_up_to place old new last merging at small = record {
  ascending = merging.ascending;
  shorter = merging.shorter;
  bounds = λ b. (
    λ h. (merging.from b h, omega (arith, last_greatest new last merging.ascending at b h, small)),
    λ (h, low). merging.kept b h low,
  );
}

pub merged_all : (place : ℕ) (old new : List ℕ) → IsMerging place old new → new ≡ [] → IsMerged place old new
merged_all place old new merging none = record {
  ascending = merging.ascending;
  shorter = merging.shorter;
  bounds = λ b. (
    λ h. absurd (in_none b (subst (λ xs. Contains xs b) none h)),
    λ (h, low). merging.kept b h low,
  );
}
