-- Lists that are put in order.
use Rattle.std.proofs.Common.{◌≡◌, ℕ, ◌<◌, ◌≤◌, List, [], ◌∷◌, length, take, map, ◌∙◌, ap, inl, inr, arith}
use Rattle.std.specs.List.{All}
use Rattle.std.proofs.lemmas.List.{take_all, length-map}
use Rattle.value_set.specs.Form.{ascending, Ascends}
use Rattle.value_set.specs.ListFacts.{IsIn}
use Rattle.value_set.proofs.Members.{Ascends-put_all, ascending_some}
use Rattle.value_set.proofs.Widens.{AllBelow, AllBelow_from}

pub all_below_in : (m v : ℕ) (xs : List ℕ) → AllBelow m xs → IsIn v xs → v < m
all_below_in m v [] h i = absurd i
all_below_in m v (x ∷ xs) h (inl e) = omega (arith, h.0, e)
all_below_in m v (x ∷ xs) h (inr i) = all_below_in m v xs h.1 i

pub gathered_fits : {X : Type 0} (f : X → ℕ) (m : ℕ) (xs : List X) → All (λ n. f n < m) xs → 1 ≤ length xs
    → Ascends 0 m (ascending (map f xs)) × (1 ≤ length (ascending (map f xs)))
gathered_fits f m xs below some = (
  Ascends-put_all m [] (map f xs) (λ v h. all_below_in m v (map f xs) (AllBelow_from f m xs below) h) tt,
  ascending_some (map f xs) (omega (arith, length-map xs f, some)),
)

pub gathered_all : {X : Type 0} (f : X → ℕ) (i : ℕ) (list : List X) (values given : List ℕ)
    → values ≡ ascending (map f (take i list)) → length list ≤ i → given ≡ values → given ≡ ascending (map f list)
gathered_all {X} f i list values given is h same = same ∙ is ∙ ap (λ (xs : List X). ascending (map f xs)) (take_all i list h)

pub all_rise : {X : Type 0} (f : X → ℕ) (m : ℕ) (xs : List X) → All (λ n. f n < m) xs → Ascends 0 m (ascending (map f xs))
all_rise f m xs below = Ascends-put_all m [] (map f xs) (λ v h. all_below_in m v (map f xs) (AllBelow_from f m xs below) h) tt
