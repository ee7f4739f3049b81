-- Edges that are turned round.
use Rattle.std.proofs.Common.{◌≡◌, ℕ, ◌+◌, ◌<◌, ◌≤◌, Bool, Some, List, [], ◌∷◌, ◌++◌, length, refl, set, take, ap, sym, ◌∙◌, subst, inl, inr, arith, length-append, length-set}
use Rattle.std.specs.Prelude.{◌↔◌, Contains, Vec, slice_get}
use Rattle.std.specs.declared.alloc.Global.{Global}
use Rattle.std.proofs.lemmas.Bool.{cases_eq}
use Rattle.std.proofs.lemmas.List.Elements.{Contains-append_left, Contains-push, Contains-push_cases}
use Rattle.std.proofs.lemmas.Option.{slice_get_within}
use Rattle.plain_lemmas.specs.Members.{in_none}
use Rattle.graph_walks.specs.Graphs.{Enters, HasEdge, IsMarked, IsUnmarked}
use Rattle.graph_walks.specs.Turned.{IsAdded, IsEmpty, IsTurned, IsTurnedRow}
use Rattle.graph_walks.proofs.ListLemmas.{from_push, from_set, get_set, get_set_other, in_before, in_last, in_more, none_in_front, one_at}

-- NO EDGES

pub empty_more : (n : ℕ) (old new : List (Vec ℕ Global)) (row : Vec ℕ Global) → row.items ≡ [] → new ≡ old ++ row ∷ [] → IsEmpty n old → IsEmpty (n + 1) new
empty_more n old new row none pushes empty = record {
  sized = omega (arith, ap length pushes, length-append old (row ∷ []), empty.sized);
  edges = λ v w (other, at, h). elim (from_push old row v other (sym (ap (λ xs. slice_get xs v) pushes) ∙ at)) [
    | inl (last, is) ↦ in_none w (subst (λ xs. Contains xs w) none (subst (λ (r : Vec ℕ Global). Contains r.items w) is h))
    | inr before ↦ empty.edges v w (other, before, h)
  ];
}

-- ONE MORE EDGE

pub adds : (a b : ℕ) (old new : List (Vec ℕ Global)) (was now : Vec ℕ Global) → slice_get old a ≡ Some was → new ≡ set old a now → now.items ≡ was.items ++ b ∷ []
    → IsAdded a b old new
adds a b old new was now is writes pushes =
    let inside = slice_get_within old a was is in
    let here : slice_get new a ≡ Some now = ap (λ xs. slice_get xs a) writes ∙ get_set old a now inside in
    record {
      sized = ap length writes ∙ length-set old a now;
      edges = λ v w. (
        λ (row, at, h). elim (from_set old a v now row inside (sym (ap (λ xs. slice_get xs v) writes) ∙ at)) [
          | inr (other, before) ↦ inl (row, before, h)
          | inl (same, equal) ↦
              let there = subst (λ xs. Contains xs w) pushes (subst (λ (r : Vec ℕ Global). Contains r.items w) equal h) in
              elim (Contains-push_cases was.items b w there) [
                | inl before ↦ inl (was, subst (λ u. slice_get old u ≡ Some was) (sym same) is, before)
                | inr last ↦ inr (same, sym last)
              ]
        ],
        λ either. elim either [
          | inr (same, last) ↦
              let there = subst (λ xs. Contains xs b) (sym pushes) (Contains-push was.items b) in
              (now, subst (λ u. slice_get new u ≡ Some now) (sym same) here, subst (Contains now.items) (sym last) there)
          | inl (row, at, h) ↦ elim (cases_eq v a) [
            | inr other ↦ (row, ap (λ xs. slice_get xs v) writes ∙ get_set_other old a v now other ∙ at, h)
            | inl same ↦
                let equal = one_at old a row was (subst (λ u. slice_get old u ≡ Some row) same at) is in
                let there = subst (λ (r : Vec ℕ Global). Contains r.items w) equal h in
                (now, subst (λ u. slice_get new u ≡ Some now) (sym same) here, subst (λ xs. Contains xs w) (sym pushes) (Contains-append_left was.items (b ∷ []) w there))
          ]
        ],
      );
    }

-- THOSE OF A VERTEX

pub turns_none : (stop : List Bool) (a : ℕ) (row : List ℕ) (graph : List (Vec ℕ Global)) → IsTurnedRow stop a (take 0 row) graph graph
turns_none stop a row graph = record {
  sized = refl;
  edges = λ v w. (λ edge. inl edge, λ either. elim either [ inl edge ↦ edge | inr (same, h, free) ↦ absurd (none_in_front row v h) ]);
}

pub turns_more : (stop : List Bool) (a : ℕ) (row : List ℕ) (n b : ℕ) (old mid new : List (Vec ℕ Global)) → slice_get row n ≡ Some b → IsUnmarked stop b
    → IsTurnedRow stop a (take n row) old mid → IsAdded b a mid new → IsTurnedRow stop a (take (n + 1) row) old new
turns_more stop a row n b old mid new is free turned added = record {
  sized = added.sized ∙ turned.sized;
  edges = λ v w. (
    λ edge. elim ((added.edges v w).0 edge) [
      | inr (same, last) ↦ inr (last, subst (Contains (take (n + 1) row)) (sym same) (in_last n row b is), subst (IsUnmarked stop) (sym same) free)
      | inl before ↦ elim ((turned.edges v w).0 before) [
        | inl first ↦ inl first
        | inr (last, h, unmarked) ↦ inr (last, in_before n row v h, unmarked)
      ]
    ],
    λ either. elim either [
      | inl first ↦ (added.edges v w).1 (inl ((turned.edges v w).1 (inl first)))
      | inr (last, h, unmarked) ↦ elim (in_more n row b is v h) [
        | inl before ↦ (added.edges v w).1 (inl ((turned.edges v w).1 (inr (last, before, unmarked))))
        | inr same ↦ (added.edges v w).1 (inr (same, last))
      ]
    ],
  );
}

pub turns_past : (stop : List Bool) (a : ℕ) (row : List ℕ) (n b : ℕ) (old new : List (Vec ℕ Global)) → slice_get row n ≡ Some b → IsMarked stop b
    → IsTurnedRow stop a (take n row) old new → IsTurnedRow stop a (take (n + 1) row) old new
turns_past stop a row n b old new is stops turned = record {
  sized = turned.sized;
  edges = λ v w. (
    λ edge. elim ((turned.edges v w).0 edge) [
      | inl first ↦ inl first
      | inr (last, h, unmarked) ↦ inr (last, in_before n row v h, unmarked)
    ],
    λ either. elim either [
      | inl first ↦ (turned.edges v w).1 (inl first)
      | inr (last, h, unmarked) ↦ elim (in_more n row b is v h) [
        | inl before ↦ (turned.edges v w).1 (inr (last, before, unmarked))
        | inr same ↦ absurd (cc (unmarked, ap (slice_get stop) same, stops))
      ]
    ],
  );
}

-- THOSE OF ALL VERTICES

pub record AreTurnedTo (graph : List (Vec ℕ Global)) (stop : List Bool) (n : ℕ) (turned : List (Vec ℕ Global)) : Type 0 where
  pub sized : length turned ≡ length graph
  pub edges : (a b : ℕ) → HasEdge turned b a ↔ ((a < n) × Enters graph stop a b)

pub turned_none : (graph : List (Vec ℕ Global)) (stop : List Bool) (turned : List (Vec ℕ Global)) → IsEmpty (length graph) turned → AreTurnedTo graph stop 0 turned
turned_none graph stop turned empty = record {
  sized = empty.sized;
  edges = λ a b. (λ edge. absurd (empty.edges b a edge), λ (low, step). absurd (omega (arith, low)));
}

pub turned_more : (graph : List (Vec ℕ Global)) (stop : List Bool) (n : ℕ) (row : Vec ℕ Global) (old new : List (Vec ℕ Global)) → slice_get graph n ≡ Some row
    → AreTurnedTo graph stop n old → IsTurnedRow stop n row.items old new → AreTurnedTo graph stop (n + 1) new
turned_more graph stop n row old new is before turned = record {
  sized = turned.sized ∙ before.sized;
  edges = λ a b. (
    λ edge. elim ((turned.edges b a).0 edge) [
      | inl first ↦ let (low, step) = (before.edges a b).0 first in (omega (arith, low), step)
      | inr (same, h, free) ↦ (omega (arith, same), ((row, subst (λ v. slice_get graph v ≡ Some row) (sym same) is, h), free))
    ],
    λ (low, step). elim (cases_eq a n) [
      | inr other ↦ (turned.edges b a).1 (inl ((before.edges a b).1 (omega (arith, low, other), step)))
      | inl same ↦
          let (found, at, h) = step.0 in
          let equal = one_at graph n found row (subst (λ v. slice_get graph v ≡ Some found) same at) is in
          (turned.edges b a).1 (inr (same, subst (λ (r : Vec ℕ Global). Contains r.items b) equal h, step.1))
    ],
  );
}

pub turned_all : (graph : List (Vec ℕ Global)) (stop : List Bool) (n : ℕ) (turned : List (Vec ℕ Global)) → length graph ≤ n → AreTurnedTo graph stop n turned
    → IsTurned graph stop turned
turned_all graph stop n turned long before = record {
  sized = before.sized;
  edges = λ a b. (
    λ edge. ((before.edges a b).0 edge).1,
    λ step. let (row, at, h) = step.0 in (before.edges a b).1 (omega (arith, long, slice_get_within graph a row at), step),
  );
}
