-- Lists that are gone through item by item.
use Rattle.std.specs.Prelude.{◌≡◌, ℕ, suc, ◌+◌, ◌<◌, ◌||◌, not, Bool, true, false, Option, None, Some, List, [], ◌∷◌, ◌++◌, length, map, take, drop, get_or}
use Rattle.std.specs.List.{list_any}
use Rattle.std.specs.Option.{option_or}
use Rattle.std.proofs.Common.{refl, sym, ap, ◌∙◌, append_assoc, add-one}
use Rattle.std.proofs.Math.Seq.{take-suc, drop-cons}
use Rattle.std.proofs.lemmas.List.Folds.{list_any-append}
use Rattle.promises.specs.declared.promise.Promise.{Promise}
use Rattle.promises.specs.Keeping.{first_of_all}
use Rattle.promises.specs.Text.{Numbered, comes_again, promises_alone}

pub not_true : (b : Bool) → true ≡ not b → b ≡ false
not_true true e = absurd (cc)
not_true false e = refl

pub not_false : (b : Bool) → false ≡ not b → b ≡ true
not_false true e = refl
not_false false e = absurd (cc)

pub nor_false : (b : Bool) → (b || false) ≡ b
nor_false true = refl
nor_false false = refl

pub any_end : {A : Type 0} (test : A → Bool) (xs : List A) (x : A) → list_any test (xs ++ x ∷ []) ≡ (list_any test xs || test x)
any_end test xs x = list_any-append test xs (x ∷ []) ∙ ap (λ b. list_any test xs || b) (nor_false (test x))

alone_of : (number : ℕ) (promises : List Promise) → promises_alone (map (λ promise. (number, promise)) promises) ≡ promises
alone_of number [] = refl
alone_of number (x ∷ xs) = ap (λ ys. x ∷ ys) (alone_of number xs)

-- promises more of one line
pub alone_more : (list : Numbered) (number : ℕ) (promises : List Promise)
    → promises_alone (list ++ map (λ promise. (number, promise)) promises) ≡ promises_alone list ++ promises
alone_more [] number promises = alone_of number promises
alone_more (x ∷ list) number promises = ap (λ ys. x.1 ∷ ys) (alone_more list number promises)

-- the next item of a list, where d stands for it behind the end
module _ {A : Type 0} (xs : List A) (i : ℕ) (x d : A) (is : x ≡ get_or xs i d) (less : i < length xs) where
  pub rest_is : drop i xs ≡ x ∷ drop (i + 1) xs
  rest_is = rw (add-one i) (drop-cons xs i d less ∙ ap (λ y. y ∷ drop (suc i) xs) (sym is))

  pub front_is : take (i + 1) xs ≡ take i xs ++ x ∷ []
  front_is = rw (add-one i) (take-suc xs i d less ∙ ap (λ y. take i xs ++ y ∷ []) (sym is))

  pub longer_front : (earlier : List A) → (earlier ++ take i xs) ++ x ∷ [] ≡ earlier ++ take (i + 1) xs
  longer_front earlier = append_assoc earlier (take i xs) (x ∷ []) ∙ ap (λ ys. earlier ++ ys) (sym front_is)

  pub any_front : (test : A → Bool) → (list_any test (take i xs) || test x) ≡ list_any test (take (i + 1) xs)
  any_front test = sym (ap (list_any test) front_is ∙ any_end test (take i xs) x)

  comes_more : (same : A → A → Bool) (earlier : List A) → comes_again same (earlier ++ take i xs) (drop i xs)
      ≡ (list_any (same x) (earlier ++ take i xs) || comes_again same (earlier ++ take (i + 1) xs) (drop (i + 1) xs))
  comes_more same earlier =
      ap (comes_again same (earlier ++ take i xs)) rest_is
      ∙ ap (λ front. list_any (same x) (earlier ++ take i xs) || comes_again same front (drop (i + 1) xs)) (longer_front earlier)

  pub comes : (same : A → A → Bool) (earlier : List A) → list_any (same x) (earlier ++ take i xs) ≡ true
      → comes_again same (earlier ++ take i xs) (drop i xs) ≡ true
  comes same earlier known =
      comes_more same earlier ∙ ap (λ b. b || comes_again same (earlier ++ take (i + 1) xs) (drop (i + 1) xs)) known

  pub comes_not : (same : A → A → Bool) (earlier : List A) → list_any (same x) (earlier ++ take i xs) ≡ false
      → comes_again same (earlier ++ take i xs) (drop i xs) ≡ comes_again same (earlier ++ take (i + 1) xs) (drop (i + 1) xs)
  comes_not same earlier new =
      comes_more same earlier ∙ ap (λ b. b || comes_again same (earlier ++ take (i + 1) xs) (drop (i + 1) xs)) new

  pub any_here : (test : A → Bool) → test x ≡ true → list_any test (drop i xs) ≡ true
  any_here test passes = ap (list_any test) rest_is ∙ ap (λ b. b || list_any test (drop (i + 1) xs)) passes

  pub any_later : (test : A → Bool) → test x ≡ false → list_any test (drop i xs) ≡ list_any test (drop (i + 1) xs)
  any_later test fails = ap (list_any test) rest_is ∙ ap (λ b. b || list_any test (drop (i + 1) xs)) fails

  pub first_here : {B : Type 0} (given : A → Option B) (y : B) → given x ≡ Some y → first_of_all given (drop i xs) ≡ Some y
  first_here given y gives = ap (first_of_all given) rest_is ∙ ap (λ o. option_or o (first_of_all given (drop (i + 1) xs))) gives

  pub first_later : {B : Type 0} (given : A → Option B) → given x ≡ None → first_of_all given (drop i xs) ≡ first_of_all given (drop (i + 1) xs)
  first_later given none = ap (first_of_all given) rest_is ∙ ap (λ o. option_or o (first_of_all given (drop (i + 1) xs))) none
