-- Numbers of ordered sets.
use Rattle.std.specs.Prelude.{◌≡◌, ℕ, ◌||◌, ◌==◌, Bool, true, false, List, [], ◌∷◌}
use Rattle.std.specs.List.{list_any}
use Rattle.std.specs.Ordering.{nat_cmp, match_ordering, is_eq}
use Rattle.std.specs.BTreeMap.{is_at}
use Rattle.std.specs.BTreeSet.{insert_key}
use Rattle.std.specs.declared.cmp.Ordering.{Ordering}
use Rattle.std.specs.declared.cmp.Ordering.TheVariants.{Less, Equal, Greater}
use Rattle.std.proofs.Common.{refl, sym, ap, ◌∙◌, arith}
use Rattle.std.proofs.lemmas.Bool.Decides.{nat_tests}
use Rattle.plain_lemmas.specs.AnyOf.{any_alike}
use Rattle.promises.specs.Text.{is_same}
use Rattle.promises.specs.Told.{has}

equal_tests : (k n : ℕ) → is_eq (nat_cmp k n) ≡ (n == k)
equal_tests k n = grind (arith, nat_tests)

-- whether a set contains a number
pub contains_is : (k : ℕ) (ks : List ℕ) → list_any (is_at (nat_cmp k)) ks ≡ has ks k
contains_is k ks = any_alike (is_at (nat_cmp k)) (is_same k) ks (λ n there. equal_tests k n)

nat_equal : (a b : ℕ) → Equal ≡ nat_cmp a b → a ≡ b
nat_equal a b h = grind (arith, nat_tests)

turned : (a b : Bool) → (a || b) ≡ (b || a)
turned true true = refl
turned true false = refl
turned false true = refl
turned false false = refl

again : (a b : Bool) → (a || b) ≡ ((a || b) || a)
again true b = refl
again false true = refl
again false false = refl

more : (a b c d : Bool) → d ≡ (b || c) → (a || d) ≡ ((a || b) || c)
more true b c d e = refl
more false b c d e = e

insert_at : (o : Ordering) (k x n : ℕ) (xs longer : List ℕ) → o ≡ nat_cmp k x → has longer n ≡ (has xs n || is_same n k)
    → has (match_ordering o (k ∷ x ∷ xs) (x ∷ xs) (x ∷ longer)) n ≡ (has (x ∷ xs) n || is_same n k)
insert_at Less k x n xs longer e h = turned (is_same n k) (has (x ∷ xs) n)
insert_at Equal k x n xs longer e h =
    ap (λ m. is_same n m || has xs n) (sym (nat_equal k x e)) ∙ again (is_same n k) (has xs n)
    ∙ ap (λ m. (is_same n m || has xs n) || is_same n k) (nat_equal k x e)
insert_at Greater k x n xs longer e h = more (is_same n x) (has xs n) (is_same n k) (has longer n) h

-- a number more
pub has-insert_key : (ks : List ℕ) (k n : ℕ) → has (insert_key nat_cmp ks k) n ≡ (has ks n || is_same n k)
has-insert_key [] k n = turned (is_same n k) false
has-insert_key (x ∷ xs) k n = insert_at (nat_cmp k x) k x n xs (insert_key nat_cmp xs k) refl (has-insert_key xs k n)
