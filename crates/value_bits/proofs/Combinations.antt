-- What is known of a flag over all combinations of members.
use Rattle.std.proofs.Common.{◌≡◌, ℕ, ◌+◌, ◌*◌, ◌%◌, ◌<◌, ◌≤◌, get_or, Bool, true, false, cond, List, [], ◌∷◌, length, refl, sym, ◌∙◌, subst, inl, inr, arith}
use Rattle.std.specs.List.{All, list_all}
use Rattle.std.proofs.lemmas.Nat.{mul-le}
use Rattle.std.proofs.lemmas.List.Elements.{Contains-get_or}
use Rattle.std.proofs.lemmas.List.FromFn.{length-map-range_with_len}
use Rattle.std.proofs.lemmas.Bool.{cases_lt, cases_Bool, le-leb, lt-leb}
use Rattle.value_set.specs.declared.form.Progression.{Progression}
use Rattle.value_set.specs.declared.form.Form.{Form}
use Rattle.value_set.specs.declared.form.Form.TheVariants.{Values, Run}
use Rattle.value_set.specs.Form.{members, steps, Has, IsNormal}
use Rattle.value_set.specs.Summing.{count_of}
use Rattle.value_bits.specs.declared.tri.Tri.{Tri}
use Rattle.value_bits.specs.declared.tri.Tri.TheVariants.{Zero, One, Either}
use Rattle.value_bits.specs.Flags.{IsFlag, has_value, each_has, agreed_of, agreed}
use Rattle.value_set.specs.ListFacts.{IsIn, in_from_Contains, Contains_from_in, list_all_in, all_in}
use Rattle.value_bits.proofs.Within.{member_below}

value_had : (wanted flag : Bool) → has_value wanted flag ≡ true → flag ≡ wanted
value_had true flag h = h
value_had false true h = sym h
value_had false false h = refl

had_value : (wanted flag : Bool) → flag ≡ wanted → has_value wanted flag ≡ true
had_value true flag h = h
had_value false true h = sym h
had_value false false h = refl

pub each_has_in : (wanted : Bool) (flag : ℕ → ℕ → ℕ → Bool) (xs ys zs : List ℕ) (x y z : ℕ)
    → each_has wanted flag xs ys zs ≡ true → IsIn x xs → IsIn y ys → IsIn z zs → flag x y z ≡ wanted
each_has_in wanted flag xs ys zs x y z h i j k =
    let row = list_all_in (λ x. list_all (λ y. list_all (λ z. has_value wanted (flag x y z)) zs) ys) x xs h i in
    let line = list_all_in (λ y. list_all (λ z. has_value wanted (flag x y z)) zs) y ys row j in
    value_had wanted (flag x y z) (list_all_in (λ z. has_value wanted (flag x y z)) z zs line k)

pub in_each_has : (wanted : Bool) (flag : ℕ → ℕ → ℕ → Bool) (xs ys zs : List ℕ)
    → ((x y z : ℕ) → IsIn x xs → IsIn y ys → IsIn z zs → flag x y z ≡ wanted) → each_has wanted flag xs ys zs ≡ true
in_each_has wanted flag xs ys zs each =
    all_in (λ x. list_all (λ y. list_all (λ z. has_value wanted (flag x y z)) zs) ys) xs
    (λ x i. all_in (λ y. list_all (λ z. has_value wanted (flag x y z)) zs) ys
    (λ y j. all_in (λ z. has_value wanted (flag x y z)) zs (λ z k. had_value wanted (flag x y z) (each x y z i j k))))

same_truth : (a b : Bool) → (a ≡ true → b ≡ true) → (b ≡ true → a ≡ true) → a ≡ b
same_truth true b forth back = sym (forth refl)
same_truth false true forth back = back refl
same_truth false false forth back = refl

-- the combinations in another order
pub carries_first : (wanted : Bool) (flag : ℕ → ℕ → ℕ → Bool) (xs ys zs : List ℕ)
    → list_all (λ z. list_all (λ x. list_all (λ y. has_value wanted (flag x y z)) ys) xs) zs ≡ each_has wanted flag xs ys zs
carries_first wanted flag xs ys zs =
    same_truth (list_all (λ z. list_all (λ x. list_all (λ y. has_value wanted (flag x y z)) ys) xs) zs) (each_has wanted flag xs ys zs)
    (λ all. in_each_has wanted flag xs ys zs (λ x y z i j k.
    let rows = list_all_in (λ z. list_all (λ x. list_all (λ y. has_value wanted (flag x y z)) ys) xs) z zs all k in
    let row = list_all_in (λ x. list_all (λ y. has_value wanted (flag x y z)) ys) x xs rows i in
    value_had wanted (flag x y z) (list_all_in (λ y. has_value wanted (flag x y z)) y ys row j)))
    (λ all. all_in (λ z. list_all (λ x. list_all (λ y. has_value wanted (flag x y z)) ys) xs) zs
    (λ z k. all_in (λ x. list_all (λ y. has_value wanted (flag x y z)) ys) xs
    (λ x i. all_in (λ y. has_value wanted (flag x y z)) ys
    (λ y j. had_value wanted (flag x y z) (each_has_in wanted flag xs ys zs x y z all i j k)))))

pub agreed-few : (m : ℕ) (flag : ℕ → ℕ → ℕ → Bool) (a b c : Form) → count_of m a * (count_of m b * count_of m c) ≤ 256
    → agreed m flag a b c ≡ agreed_of flag (members m a) (members m b) (members m c)
unfolding agreed
agreed-few m flag a b c few = rw (le-leb (count_of m a * (count_of m b * count_of m c)) 256 few) refl

pub agreed-many : (m : ℕ) (flag : ℕ → ℕ → ℕ → Bool) (a b c : Form) → 256 < count_of m a * (count_of m b * count_of m c)
    → agreed m flag a b c ≡ Either
unfolding agreed
agreed-many m flag a b c many = rw (lt-leb (count_of m a * (count_of m b * count_of m c)) 256 many) refl

flag_of : (all none flag : Bool) → (all ≡ true → flag ≡ true) → (none ≡ true → flag ≡ false)
    → IsFlag (cond all One (cond none Zero Either)) flag
flag_of true none flag one zero = one refl
flag_of false true flag one zero = zero refl
flag_of false false flag one zero = tt

pub agreed_is : (m : ℕ) (flag : ℕ → ℕ → ℕ → Bool) (a b c : Form) (x y z : ℕ) → Has m a x → Has m b y → Has m c z
    → IsFlag (agreed m flag a b c) (flag x y z)
agreed_is m flag a b c x y z h i j =
    let xs = members m a in let ys = members m b in let zs = members m c in
    let x_in = in_from_Contains xs x h in let y_in = in_from_Contains ys y i in let z_in = in_from_Contains zs z j in
    elim (cases_lt 256 (count_of m a * (count_of m b * count_of m c))) [
      | inr few ↦ subst (λ (t : Tri). IsFlag t (flag x y z)) (sym (agreed-few m flag a b c few))
          (flag_of (each_has true flag xs ys zs) (each_has false flag xs ys zs) (flag x y z)
          (λ all. each_has_in true flag xs ys zs x y z all x_in y_in z_in) (λ none. each_has_in false flag xs ys zs x y z none x_in y_in z_in))
      | inl many ↦ subst (λ (t : Tri). IsFlag t (flag x y z)) (sym (agreed-many m flag a b c many)) tt
    ]

pub agreed_set : (m : ℕ) (flag : ℕ → ℕ → ℕ → Bool) (a b c : Form) → count_of m a * (count_of m b * count_of m c) ≤ 256
    → ((x y z : ℕ) → Has m a x → Has m b y → Has m c z → flag x y z ≡ true) → agreed m flag a b c ≡ One
agreed_set m flag a b c few each =
    let xs = members m a in let ys = members m b in let zs = members m c in
    let all = in_each_has true flag xs ys zs (λ x y z i j k. each x y z (Contains_from_in xs x i) (Contains_from_in ys y j) (Contains_from_in zs z k)) in
    agreed-few m flag a b c few ∙ (rw all refl)

pub first_in : (xs : List ℕ) → 1 ≤ length xs → (v : ℕ) × IsIn v xs
first_in [] h = absurd (omega arith)
first_in (x ∷ xs) h = (x, inl refl)

pub some_of : (m : ℕ) (set : Form) → IsNormal m set → 1 ≤ count_of m set
unfolding steps
some_of m (Values xs) n = n.0
some_of m (Run p) n = let long = n.long in omega (arith, long, length-map-range_with_len (λ (i : ℕ). (p.base + i * p.stride) % m) 0 p.count)

pub agreed_clear : (m : ℕ) (flag : ℕ → ℕ → ℕ → Bool) (a b c : Form) → IsNormal m a → IsNormal m b → IsNormal m c
    → count_of m a * (count_of m b * count_of m c) ≤ 256
    → ((x y z : ℕ) → Has m a x → Has m b y → Has m c z → flag x y z ≡ false) → agreed m flag a b c ≡ Zero
agreed_clear m flag a b c k l n few each =
    let xs = members m a in let ys = members m b in let zs = members m c in
    let none = in_each_has false flag xs ys zs (λ x y z i j k. each x y z (Contains_from_in xs x i) (Contains_from_in ys y j) (Contains_from_in zs z k)) in
    let x = first_in xs (some_of m a k) in let y = first_in ys (some_of m b l) in let z = first_in zs (some_of m c n) in
    let here = each x.0 y.0 z.0 (Contains_from_in xs x.0 x.1) (Contains_from_in ys y.0 y.1) (Contains_from_in zs z.0 z.1) in
    let refused : each_has true flag xs ys zs ≡ false = elim (cases_Bool (each_has true flag xs ys zs)) [
      | inl all ↦ absurd (let there = each_has_in true flag xs ys zs x.0 y.0 z.0 all x.1 y.1 z.1 in cc (here, there))
      | inr other ↦ other
    ] in
    agreed-few m flag a b c few ∙ (rw (refused, none) refl)

-- ---- as the code finds it

one_of_few : (a b : ℕ) → a * b ≤ 256 → 1 ≤ b → a ≤ 256
one_of_few a b h k = let step : a * 1 ≤ a * b = mul-le a 1 a b (omega arith) k in omega (arith, step, h)

-- where there are few combinations, each set has few members
pub few_each : (a b c : ℕ) → a * (b * c) ≤ 256 → 1 ≤ a → 1 ≤ b → 1 ≤ c → (a ≤ 256) × (b ≤ 256) × (c ≤ 256)
few_each a b c h i j k =
    let both : 1 * 1 ≤ b * c = mul-le 1 1 b c j k in
    let first = one_of_few a (b * c) h (omega (arith, both)) in
    let turned : b * c * a ≡ a * (b * c) = omega arith in
    let rest : b * c ≤ 256 = one_of_few (b * c) a (omega (arith, turned, h)) i in
    let swapped : c * b ≡ b * c = omega arith in
    (first, one_of_few b c rest k, one_of_few c b (omega (arith, swapped, rest)) j)

-- where there are few combinations, each of two sets has few members
pub few_of_each : (m : ℕ) (carries first second : Form) → IsNormal m first → IsNormal m second → IsNormal m carries
    → count_of m first * (count_of m second * count_of m carries) ≤ 256 → (count_of m first ≤ 256) × (count_of m second ≤ 256)
few_of_each m carries first second n k l few =
    let each = few_each (count_of m first) (count_of m second) (count_of m carries) few (some_of m first n) (some_of m second k) (some_of m carries l) in
    (each.0, each.1)

pub run_count : (m : ℕ) (set : Form) (p : Progression) → set ≡ Run p → count_of m set ≡ p.count
unfolding steps
run_count m set p is = rw is (length-map-range_with_len (λ (i : ℕ). (p.base + i * p.stride) % m) 0 p.count)

pub positive : (m : ℕ) (set : Form) → IsNormal m set → 0 < m
positive m (Values []) n = absurd (let some = n.0 in omega (arith, some))
positive m (Values (x ∷ xs)) n = let low = n.2.1 in omega (arith, low)
positive m (Run p) n = let low = n.below in omega (arith, low)

pub members_below : (m : ℕ) (set : Form) → IsNormal m set → All (λ n. n < m) (members m set)
members_below m set n = λ k d short. member_below m (get_or (members m set) k d) set (positive m set n) n (Contains-get_or (members m set) k d short)

-- known where all agree, of members that are listed
pub agreed_listed : (m : ℕ) (flag : ℕ → ℕ → ℕ → Bool) (a b c carry : Form) (xs ys zs : List ℕ) (t : Tri)
    → count_of m a * (count_of m b * count_of m c) ≤ 256
    → xs ≡ members m a → ys ≡ members m b → zs ≡ members m c → c ≡ carry → t ≡ agreed_of flag xs ys zs → t ≡ agreed m flag a b carry
agreed_listed m flag a b c carry xs ys zs t few p q r is told =
    let same : agreed_of flag xs ys zs ≡ agreed m flag a b carry = rw (p, q, r, ← is) (sym (agreed-few m flag a b c few)) in
    told ∙ same

pub steps_none : (m base stride : ℕ) → [] ≡ steps m base stride 0
unfolding steps
steps_none m base stride = refl
