-- Lists of one length, place by place: what holds of each item holds of the whole.
use Prim.Native.Nat.{zero, suc}
use Rattle.std.proofs.Common.{◌≡◌, ℕ, ◌<◌, ◌≤◌, ◌++◌, Bool, true, false, List, [], ◌∷◌, length, get_or, take, drop, replicate, refl, sym, ap, ◌∙◌, subst, arith, All}
use Rattle.std.proofs.lemmas.Bool.{and_from, and_parts, and_left, and_right}
use Rattle.std.proofs.lemmas.List.{append-nil, drop_all, take_all}
use Rattle.std.proofs.lemmas.List.Elements.{All-nil, All-cons, All-head, All-tail}
use Rattle.value_bits.specs.Pointwise.{each_with, each_passes}
use Rattle.plain_lemmas.specs.Orders.{IsOrdered}

-- so many items, each of a form
pub record AreEach {A : Type 0} (n : ℕ) (Form : A → Type 0) (xs : List A) : Type 0 where
  pub count : length xs ≡ n
  pub each : All Form xs

-- ORDER

module _ {A : Type 0} (Form : A → Type 0) (test : A → A → Bool) where
  each_itself : ((x : A) → Form x → test x x ≡ true) → (xs : List A) → All Form xs → each_passes test xs xs ≡ true
  each_itself itself [] f = refl
  each_itself itself (x ∷ xs) f =
      and_from (test x x) (each_passes test xs xs) (itself x (All-head Form x xs f)) (each_itself itself xs (All-tail Form x xs f))

  each_top : (top : A) → ((x : A) → Form x → test x top ≡ true) → (xs : List A) → All Form xs
      → each_passes test xs (replicate (length xs) top) ≡ true
  each_top top greatest [] f = refl
  each_top top greatest (x ∷ xs) f = and_from (test x top) (each_passes test xs (replicate (length xs) top))
      (greatest x (All-head Form x xs f)) (each_top top greatest xs (All-tail Form x xs f))

each_along : {A : Type 0} (test : A → A → Bool) → ((x y z : A) → test x y ≡ true → test y z ≡ true → test x z ≡ true) → (xs ys zs : List A)
    → each_passes test xs ys ≡ true → each_passes test ys zs ≡ true → each_passes test xs zs ≡ true
each_along test along [] [] zs h k = k
each_along test along [] (y ∷ ys) zs h k = absurd (cc)
each_along test along (x ∷ xs) [] zs h k = absurd (cc)
each_along test along (x ∷ xs) (y ∷ ys) [] h k = absurd (cc)
each_along test along (x ∷ xs) (y ∷ ys) (z ∷ zs) h k =
    let first = and_parts (test x y) (each_passes test xs ys) h in
    let second = and_parts (test y z) (each_passes test ys zs) k in
    and_from (test x z) (each_passes test xs zs) (along x y z first.0 second.0) (each_along test along xs ys zs first.1 second.1)

pub passes_at : {A : Type 0} (test : A → A → Bool) (xs ys : List A) (i : ℕ) (d : A) → i < length xs → each_passes test xs ys ≡ true
    → test (get_or xs i d) (get_or ys i d) ≡ true
passes_at test [] ys i d lt h = absurd (omega arith)
passes_at test (x ∷ xs) [] i d lt h = absurd (cc)
passes_at test (x ∷ xs) (y ∷ ys) zero d lt h = (and_parts (test x y) (each_passes test xs ys) h).0
passes_at test (x ∷ xs) (y ∷ ys) (suc i) d lt h = passes_at test xs ys i d (omega arith) (and_parts (test x y) (each_passes test xs ys) h).1

-- WHAT IS MADE OF TWO LISTS

-- lists of as many items
record ArePairs {A : Type 0} (Form : A → Type 0) (xs ys : List A) : Type 0 where
  first : All Form xs
  second : All Form ys
  even : length xs ≡ length ys

rest_pairs : {A : Type 0} (Form : A → Type 0) (x : A) (xs : List A) (y : A) (ys : List A)
    → ArePairs Form (x ∷ xs) (y ∷ ys) → ArePairs Form xs ys
rest_pairs Form x xs y ys f = let even : length (x ∷ xs) ≡ length (y ∷ ys) = f.even in
    record { first = All-tail Form x xs f.first; second = All-tail Form y ys f.second; even = omega arith }

module _ {A : Type 0} (Form : A → Type 0) (made : A → A → A) where
  made_count : (xs ys : List A) → ArePairs Form xs ys → length (each_with made xs ys) ≡ length xs
  made_count [] ys pairs = refl
  made_count (x ∷ xs) [] pairs = absurd (omega (arith, pairs.even))
  made_count (x ∷ xs) (y ∷ ys) pairs = ap suc (made_count xs ys (rest_pairs Form x xs y ys pairs))

  made_each : ((x y : A) → Form x → Form y → Form (made x y)) → (xs ys : List A) → ArePairs Form xs ys → All Form (each_with made xs ys)
  made_each one [] ys pairs = All-nil Form
  made_each one (x ∷ xs) [] pairs = All-nil Form
  made_each one (x ∷ xs) (y ∷ ys) pairs = All-cons Form (made x y) (each_with made xs ys)
      (one x y (All-head Form x xs pairs.first) (All-head Form y ys pairs.second)) (made_each one xs ys (rest_pairs Form x xs y ys pairs))

  held_within : (test : A → A → Bool) → ((x y : A) → Form x → Form y → test x (made x y) ≡ true)
      → (xs ys : List A) → ArePairs Form xs ys → each_passes test xs (each_with made xs ys) ≡ true
  held_within test one [] ys pairs = refl
  held_within test one (x ∷ xs) [] pairs = absurd (omega (arith, pairs.even))
  held_within test one (x ∷ xs) (y ∷ ys) pairs = and_from (test x (made x y)) (each_passes test xs (each_with made xs ys))
      (one x y (All-head Form x xs pairs.first) (All-head Form y ys pairs.second)) (held_within test one xs ys (rest_pairs Form x xs y ys pairs))

  new_within : (test : A → A → Bool) → ((x y : A) → Form x → Form y → test y (made x y) ≡ true)
      → (xs ys : List A) → ArePairs Form xs ys → each_passes test ys (each_with made xs ys) ≡ true
  new_within test one [] [] pairs = refl
  new_within test one [] (y ∷ ys) pairs = absurd (omega (arith, pairs.even))
  new_within test one (x ∷ xs) [] pairs = absurd (omega (arith, pairs.even))
  new_within test one (x ∷ xs) (y ∷ ys) pairs = and_from (test y (made x y)) (each_passes test ys (each_with made xs ys))
      (one x y (All-head Form x xs pairs.first) (All-head Form y ys pairs.second)) (new_within test one xs ys (rest_pairs Form x xs y ys pairs))

pairs_of : {A : Type 0} (n : ℕ) (Form : A → Type 0) (xs ys : List A) → AreEach n Form xs → AreEach n Form ys → ArePairs Form xs ys
pairs_of n Form xs ys f g = record { first = f.each; second = g.each; even = f.count ∙ sym g.count }

pub each_ordered : {A : Type 0} {Form : A → Type 0} {test : A → A → Bool} {made : A → A → A} {top : A} (n : ℕ)
    → IsOrdered Form test made top
    → IsOrdered (AreEach n Form) (each_passes test) (each_with made) (replicate n top)
each_ordered {Form = Form} {test = test} {made = made} {top = top} n ordered =
    let pairs = pairs_of n Form in
    record {
      itself = λ xs are. each_itself Form test ordered.itself xs are.each;
      along = each_along test ordered.along;
      form = λ xs ys f g. record {
        count = made_count Form made xs ys (pairs xs ys f g) ∙ f.count;
        each = made_each Form made ordered.form xs ys (pairs xs ys f g);
      };
      held = λ xs ys f g. held_within Form made test ordered.held xs ys (pairs xs ys f g);
      new = λ xs ys f g. new_within Form made test ordered.new xs ys (pairs xs ys f g);
      whole = λ xs are. subst (λ k. each_passes test xs (replicate k top) ≡ true) are.count (each_top Form test top ordered.whole xs are.each);
    }

-- LOOPS

-- behind the last place nothing is left
pub all_made : {A : Type 0} (f : A → A → A) (n i : ℕ) (xs held new made : List A) → n ≤ i → length xs ≡ n → length held ≡ n
    → take i xs ++ each_with f (drop i held) (drop i new) ≡ made → xs ≡ made
all_made f n i xs held new made far long held_long so_far =
    let none : drop i held ≡ [] = drop_all i held (omega arith) in
    let all : take i xs ≡ xs = take_all i xs (omega arith) in
    let joined = rw (all, none) at so_far in
    sym (append-nil xs) ∙ joined

pub fails_at : {A : Type 0} (test : A → A → Bool) (xs ys : List A) (i : ℕ) (d : A) → i < length xs → i < length ys
    → test (get_or xs i d) (get_or ys i d) ≡ false
    → each_passes test xs ys ≡ false
fails_at test [] ys i d lt le h = absurd (omega arith)
fails_at test (x ∷ xs) [] i d lt le h = absurd (omega arith)
fails_at test (x ∷ xs) (y ∷ ys) zero d lt le h = and_left (test x y) (each_passes test xs ys) h
fails_at test (x ∷ xs) (y ∷ ys) (suc i) d lt le h =
    and_right (test x y) (each_passes test xs ys) (fails_at test xs ys i d (omega arith) (omega arith) h)
