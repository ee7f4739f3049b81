-- What is made of the ways to the addresses of a list, one address after another.
use Rattle.std.proofs.Common.{◌≡◌, ℕ, zero, suc, ◌+◌, ◌<◌, ◌++◌, Result, Ok, Err, List, [], ◌∷◌, length, map, take, get_or, sym, ap, ◌∙◌, append_assoc, refl, arith}
use Rattle.std.specs.Prelude.{OnOk}
use Rattle.std.proofs.lemmas.List.{take_all}
use Rattle.unit_ways.specs.Ways.{Way, each_way}

module _ {A X : Type 0} (f : Way A → X) (a : A) where
  made_suc : (tos : List ℕ) (i : ℕ) → i < length tos
      → map f (each_way (take (suc i) tos) a) ≡ map f (each_way (take i tos) a) ++ f (get_or tos i 0, a) ∷ []
  made_suc [] i below = absurd (omega arith)
  made_suc (to ∷ tos) zero below = refl
  made_suc (to ∷ tos) (suc i) below = ap (λ (rest : List X). f (to, a) ∷ rest) (made_suc tos i (omega arith))

  -- with one more, behind all so far
  pub added_one : (tos : List ℕ) (i : ℕ) (old now behind : List X) → i < length tos → now ≡ old ++ map f (each_way (take i tos) a)
      → behind ≡ now ++ f (get_or tos i 0, a) ∷ [] → behind ≡ old ++ map f (each_way (take (i + 1) tos) a)
  added_one tos i old now behind below is added =
      let one = f (get_or tos i 0, a) ∷ [] in
      let next : i + 1 ≡ suc i = omega arith in
      added ∙ ap (λ xs. xs ++ one) is ∙ append_assoc old (map f (each_way (take i tos) a)) one
      ∙ ap (λ xs. old ++ xs) (sym (ap (λ n. map f (each_way (take n tos) a)) next ∙ made_suc tos i below))

  -- and with the last one all are there
  pub added_last : (tos : List ℕ) (i : ℕ) (old now behind : List X) → i + 1 ≡ length tos → now ≡ old ++ map f (each_way (take i tos) a)
      → behind ≡ now ++ f (get_or tos i 0, a) ∷ [] → behind ≡ old ++ map f (each_way tos a)
  added_last tos i old now behind last is added =
      added_one tos i old now behind (omega (arith, last)) is added ∙ ap (λ (list : List ℕ). old ++ map f (each_way list a)) (take_all (i + 1) tos (omega (arith, last)))

pub on_ok : {T E : Type 0} {P Q : Type 0} (result : Result T E) → (P → Q) → OnOk result P → OnOk result Q
on_ok (Ok t) f h = f h
on_ok (Err e) f h = h
