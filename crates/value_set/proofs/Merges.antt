-- What the walks along two ascending lists find.
use Rattle.std.proofs.Common.{◌≡◌, ℕ, ◌+◌, ◌<◌, ◌≤◌, ◌++◌, Bool, true, false, List, [], ◌∷◌, length, drop, get_or, refl, sym, ◌∙◌, ap, subst, inl, inr, arith, append_assoc, length-append, Some, None, IsTrue, eqb}
use Rattle.std.specs.Prelude.{◌⊎◌, ◌↔◌}
use Rattle.std.specs.List.{Contains}
use Rattle.std.proofs.lemmas.Bool.{cases_order, cases_eq, cases_Bool, lt-ltb, le-ltb, lt-leb, le-leb, eq-eqb, ne_eqb}
use Rattle.std.proofs.lemmas.List.{drop_all}
use Rattle.value_set.specs.declared.form.Progression.{Progression}
use Rattle.value_set.specs.declared.form.Form.{Form}
use Rattle.value_set.specs.declared.form.Form.TheVariants.{Values, Run}
use Rattle.value_set.specs.Form.{Has, Includes, IsNormal, IsNormalRun, ascending, Ascends, hull, span}
use Rattle.value_set.specs.Joining.{few_together, is_within, join_spans, join_apart, join}
use Rattle.value_set.specs.Merging.{merge, is_sublist, if_few, HasRun}
use Rattle.value_set.specs.ListFacts.{IsIn, in_from_Contains, Contains_from_in, in_front, in_behind, in_either}
use Rattle.value_set.proofs.Members.{in_ascending, put_all_has, Ascends-put_all, Ascends-in, Ascends-lower, same_ascending}
use Rattle.value_set.proofs.Gathers.{drop_at, Ascends-wider}
use Rattle.value_set.proofs.Equal.{run_over_list}
use Rattle.value_set.proofs.Joins.{lists_below, few_cases, values_found, values_missing, apart-list_run, apart-run, test_from_includes, join-first, join_cases, join_includes_second, join_normal}

-- ---- two lists together

merge-none : (ys : List ℕ) → merge [] ys ≡ ys
unfolding merge
merge-none ys = refl

merge-alone : (xs : List ℕ) → merge xs [] ≡ xs
unfolding merge
merge-alone [] = refl
merge-alone (x ∷ xs) = refl

merge-less : (x : ℕ) (xs : List ℕ) (y : ℕ) (ys : List ℕ) → x < y → merge (x ∷ xs) (y ∷ ys) ≡ x ∷ merge xs (y ∷ ys)
unfolding merge
merge-less x xs y ys h = rw (lt-ltb x y h) refl

merge-more : (x : ℕ) (xs : List ℕ) (y : ℕ) (ys : List ℕ) → y < x → merge (x ∷ xs) (y ∷ ys) ≡ y ∷ merge (x ∷ xs) ys
unfolding merge
merge-more x xs y ys h = let not_below : y ≤ x = omega arith in rw (le-ltb x y not_below, lt-ltb y x h) refl

merge-same : (x : ℕ) (xs : List ℕ) (y : ℕ) (ys : List ℕ) → x ≡ y → merge (x ∷ xs) (y ∷ ys) ≡ x ∷ merge xs ys
unfolding merge
merge-same x xs y ys h = let low : y ≤ x = omega arith in let high : x ≤ y = omega arith in rw (le-ltb x y low, le-ltb y x high) refl

in_merge : (v : ℕ) (xs ys : List ℕ) → IsIn v (merge xs ys) → IsIn v xs ⊎ IsIn v ys
in_merge v [] ys h = inr (rw (merge-none ys) at h)
in_merge v (x ∷ xs) [] h = inl (rw (merge-alone (x ∷ xs)) at h)
in_merge v (x ∷ xs) (y ∷ ys) h = elim (cases_order x y) [
  | inl same ↦ elim (rw (merge-same x xs y ys same) at h) [
    | inl e ↦ inl (inl e)
    | inr rest ↦ elim (in_merge v xs ys rest) [ inl i ↦ inl (inr i) | inr i ↦ inr (inr i) ]
  ]
  | inr other ↦ elim other [
    | inl less ↦ elim (rw (merge-less x xs y ys less) at h) [
      | inl e ↦ inl (inl e)
      | inr rest ↦ elim (in_merge v xs (y ∷ ys) rest) [ inl i ↦ inl (inr i) | inr i ↦ inr i ]
    ]
    | inr more ↦ elim (rw (merge-more x xs y ys more) at h) [
      | inl e ↦ inr (inl e)
      | inr rest ↦ elim (in_merge v (x ∷ xs) ys rest) [ inl i ↦ inl i | inr i ↦ inr (inr i) ]
    ]
  ]
]

merge_has_first : (v : ℕ) (xs ys : List ℕ) → IsIn v xs → IsIn v (merge xs ys)
merge_has_first v [] ys h = absurd h
merge_has_first v (x ∷ xs) [] h = rw (merge-alone (x ∷ xs)) h
merge_has_first v (x ∷ xs) (y ∷ ys) h = elim (cases_order x y) [
  | inl same ↦ rw (merge-same x xs y ys same) (elim h [ inl e ↦ inl e | inr i ↦ inr (merge_has_first v xs ys i) ])
  | inr other ↦ elim other [
    | inl less ↦ rw (merge-less x xs y ys less) (elim h [ inl e ↦ inl e | inr i ↦ inr (merge_has_first v xs (y ∷ ys) i) ])
    | inr more ↦ rw (merge-more x xs y ys more) (inr (merge_has_first v (x ∷ xs) ys h))
  ]
]

merge_has_second : (v : ℕ) (xs ys : List ℕ) → IsIn v ys → IsIn v (merge xs ys)
merge_has_second v [] ys h = rw (merge-none ys) h
merge_has_second v (x ∷ xs) [] h = absurd h
merge_has_second v (x ∷ xs) (y ∷ ys) h = elim (cases_order x y) [
  | inl same ↦ rw (merge-same x xs y ys same) (elim h [ inl e ↦ inl (same ∙ e) | inr i ↦ inr (merge_has_second v xs ys i) ])
  | inr other ↦ elim other [
    | inl less ↦ rw (merge-less x xs y ys less) (inr (merge_has_second v xs (y ∷ ys) h))
    | inr more ↦ rw (merge-more x xs y ys more) (elim h [ inl e ↦ inl e | inr i ↦ inr (merge_has_second v (x ∷ xs) ys i) ])
  ]
]

Ascends-merge : (low m : ℕ) (xs ys : List ℕ) → Ascends low m xs → Ascends low m ys → Ascends low m (merge xs ys)
Ascends-merge low m [] ys a b = rw (merge-none ys) b
Ascends-merge low m (x ∷ xs) [] a b = rw (merge-alone (x ∷ xs)) a
Ascends-merge low m (x ∷ xs) (y ∷ ys) a b = elim (cases_order x y) [
  | inl same ↦ rw (merge-same x xs y ys same) (a.0, a.1, Ascends-merge (x + 1) m xs ys a.2 (Ascends-lower (y + 1) (x + 1) m ys (omega arith) b.2))
  | inr other ↦ elim other [
    | inl less ↦ rw (merge-less x xs y ys less) (a.0, a.1, Ascends-merge (x + 1) m xs (y ∷ ys) a.2 (omega arith, b.1, b.2))
    | inr more ↦ rw (merge-more x xs y ys more) (b.0, b.1, Ascends-merge (y + 1) m (x ∷ xs) ys (omega arith, a.1, a.2) b.2)
  ]
]

pub merge_is : (m : ℕ) (xs ys : List ℕ) → Ascends 0 m xs → Ascends 0 m ys → merge xs ys ≡ ascending (xs ++ ys)
merge_is m xs ys a b = same_ascending 0 m (merge xs ys) (ascending (xs ++ ys)) (Ascends-merge 0 m xs ys a b)
    (Ascends-put_all m [] (xs ++ ys) (lists_below m xs ys a b) tt)
    (λ v h. put_all_has v [] (xs ++ ys) (elim (in_merge v xs ys h) [ inl i ↦ in_front v xs ys i | inr i ↦ in_behind v xs ys i ]))
    (λ v h. elim (in_either v xs ys (in_ascending v (xs ++ ys) h)) [ inl i ↦ merge_has_first v xs ys i | inr i ↦ merge_has_second v xs ys i ])

-- ---- the walk that puts them together

both_at : (xs ys : List ℕ) (i j : ℕ) → i < length xs → j < length ys
    → merge (drop i xs) (drop j ys) ≡ merge (get_or xs i 0 ∷ drop (i + 1) xs) (get_or ys j 0 ∷ drop (j + 1) ys)
both_at xs ys i j h k = ap (λ (zs : List ℕ). merge zs (drop j ys)) (drop_at xs i h) ∙ ap (λ (zs : List ℕ). merge (get_or xs i 0 ∷ drop (i + 1) xs) zs) (drop_at ys j k)

pub took_first : (few xs ys : List ℕ) (i j : ℕ) → i < length xs → j < length ys → get_or xs i 0 < get_or ys j 0
    → (few ++ get_or xs i 0 ∷ []) ++ merge (drop (i + 1) xs) (drop j ys) ≡ few ++ merge (drop i xs) (drop j ys)
took_first few xs ys i j h k less =
    append_assoc few (get_or xs i 0 ∷ []) (merge (drop (i + 1) xs) (drop j ys)) ∙ ap (λ (zs : List ℕ). few ++ zs) (sym (
    both_at xs ys i j h k ∙ merge-less (get_or xs i 0) (drop (i + 1) xs) (get_or ys j 0) (drop (j + 1) ys) less
    ∙ ap (λ (zs : List ℕ). get_or xs i 0 ∷ merge (drop (i + 1) xs) zs) (sym (drop_at ys j k))))

pub took_second : (few xs ys : List ℕ) (i j : ℕ) → i < length xs → j < length ys → get_or ys j 0 < get_or xs i 0
    → (few ++ get_or ys j 0 ∷ []) ++ merge (drop i xs) (drop (j + 1) ys) ≡ few ++ merge (drop i xs) (drop j ys)
took_second few xs ys i j h k more =
    append_assoc few (get_or ys j 0 ∷ []) (merge (drop i xs) (drop (j + 1) ys)) ∙ ap (λ (zs : List ℕ). few ++ zs) (sym (
    both_at xs ys i j h k ∙ merge-more (get_or xs i 0) (drop (i + 1) xs) (get_or ys j 0) (drop (j + 1) ys) more
    ∙ ap (λ (zs : List ℕ). get_or ys j 0 ∷ merge zs (drop (j + 1) ys)) (sym (drop_at xs i h))))

pub took_both : (few xs ys : List ℕ) (i j : ℕ) → i < length xs → j < length ys → get_or xs i 0 ≡ get_or ys j 0
    → (few ++ get_or xs i 0 ∷ []) ++ merge (drop (i + 1) xs) (drop (j + 1) ys) ≡ few ++ merge (drop i xs) (drop j ys)
took_both few xs ys i j h k same =
    append_assoc few (get_or xs i 0 ∷ []) (merge (drop (i + 1) xs) (drop (j + 1) ys)) ∙ ap (λ (zs : List ℕ). few ++ zs) (sym (
    both_at xs ys i j h k ∙ merge-same (get_or xs i 0) (drop (i + 1) xs) (get_or ys j 0) (drop (j + 1) ys) same))

pub one_longer : (few more : List ℕ) (v : ℕ) → more ≡ few ++ v ∷ [] → length more ≡ length few + 1
one_longer few more v is = omega (arith, ap length is, length-append few (v ∷ []))

pub second_done : (few xs ys : List ℕ) (i j : ℕ) → length ys ≤ j → few ++ merge (drop i xs) (drop j ys) ≡ few ++ drop i xs
second_done few xs ys i j h = ap (λ (zs : List ℕ). few ++ merge (drop i xs) zs) (drop_all j ys h) ∙ ap (λ (zs : List ℕ). few ++ zs) (merge-alone (drop i xs))

pub first_done : (few xs ys : List ℕ) (i j : ℕ) → length xs ≤ i → few ++ merge (drop i xs) (drop j ys) ≡ few ++ drop j ys
first_done few xs ys i j h = ap (λ (zs : List ℕ). few ++ merge zs (drop j ys)) (drop_all i xs h) ∙ ap (λ (zs : List ℕ). few ++ zs) (merge-none (drop j ys))

some_left : (few xs ys : List ℕ) (i j : ℕ) → i < length xs → length few + 1 ≤ length (few ++ merge (drop i xs) (drop j ys))
some_left few xs ys i j h =
    let first = subst (λ (zs : List ℕ). IsIn (get_or xs i 0) zs) (sym (drop_at xs i h)) (inl refl) in
    let there = Contains_from_in _ _ (merge_has_first (get_or xs i 0) (drop i xs) (drop j ys) first) in
    omega (arith, there.1, length-append few (merge (drop i xs) (drop j ys)))

pub too_many : (m : ℕ) (few xs ys : List ℕ) (i j : ℕ) → Ascends 0 m xs → Ascends 0 m ys → i < length xs → length few ≡ 16
    → few ++ merge (drop i xs) (drop j ys) ≡ merge xs ys → None ≡ few_together xs ys
too_many m few xs ys i j a b h full is =
    let many : 16 < length (ascending (xs ++ ys)) = omega (arith, some_left few xs ys i j h, ap length is, ap length (merge_is m xs ys a b), full) in
    rw (lt-leb (length (ascending (xs ++ ys))) 16 many) refl

pub found_few : (m : ℕ) (xs ys zs : List ℕ) → Ascends 0 m xs → Ascends 0 m ys → zs ≡ merge xs ys → if_few zs ≡ few_together xs ys
found_few m xs ys zs a b is = ap (λ (ws : List ℕ). if_few ws) (is ∙ merge_is m xs ys a b)

-- ---- the walk that looks for the numbers of one list in another

sub-less : (x : ℕ) (xs : List ℕ) (y : ℕ) (ys : List ℕ) → x < y → is_sublist (x ∷ xs) (y ∷ ys) ≡ false
unfolding is_sublist
sub-less x xs y ys h = rw (lt-ltb x y h) refl

sub-more : (x : ℕ) (xs : List ℕ) (y : ℕ) (ys : List ℕ) → y < x → is_sublist (x ∷ xs) (y ∷ ys) ≡ is_sublist (x ∷ xs) ys
unfolding is_sublist
sub-more x xs y ys h = let not_below : y ≤ x = omega arith in rw (le-ltb x y not_below, lt-ltb y x h) refl

sub-same : (x : ℕ) (xs : List ℕ) (y : ℕ) (ys : List ℕ) → x ≡ y → is_sublist (x ∷ xs) (y ∷ ys) ≡ is_sublist xs ys
unfolding is_sublist
sub-same x xs y ys h = let low : y ≤ x = omega arith in let high : x ≤ y = omega arith in rw (le-ltb x y low, le-ltb y x high) refl

sub-none : (ys : List ℕ) → is_sublist [] ys ≡ true
unfolding is_sublist
sub-none ys = refl

sub-missing : (x : ℕ) (xs : List ℕ) → is_sublist (x ∷ xs) [] ≡ false
unfolding is_sublist
sub-missing x xs = refl

sub_from : (v : ℕ) (xs ys : List ℕ) → is_sublist xs ys ≡ true → IsIn v xs → IsIn v ys
sub_from v [] ys t h = absurd h
sub_from v (x ∷ xs) [] t h = absurd (let e = sub-missing x xs in cc (t, e))
sub_from v (x ∷ xs) (y ∷ ys) t h = elim (cases_order x y) [
  | inl same ↦ elim h [ inl e ↦ inl (sym same ∙ e) | inr i ↦ inr (sub_from v xs ys (sym (sub-same x xs y ys same) ∙ t) i) ]
  | inr other ↦ elim other [
    | inl less ↦ absurd (let e = sub-less x xs y ys less in cc (t, e))
    | inr more ↦ inr (sub_from v (x ∷ xs) ys (sym (sub-more x xs y ys more) ∙ t) h)
  ]
]

sub_to : (low below m : ℕ) (xs ys : List ℕ) → Ascends low m xs → Ascends below m ys → ((v : ℕ) → IsIn v xs → IsIn v ys)
    → is_sublist xs ys ≡ true
sub_to low below m [] ys a b to = sub-none ys
sub_to low below m (x ∷ xs) [] a b to = absurd (to x (inl refl))
sub_to low below m (x ∷ xs) (y ∷ ys) a b to = elim (cases_order x y) [
  | inl same ↦ sub-same x xs y ys same ∙ sub_to (x + 1) (y + 1) m xs ys a.2 b.2 (λ v i. elim (to v (inr i)) [
    | inl e ↦ absurd (let high = Ascends-in (x + 1) m v xs a.2 i in omega (arith, high.0, e, same))
    | inr r ↦ r
  ])
  | inr other ↦ elim other [
    | inl less ↦ absurd (elim (to x (inl refl)) [ inl e ↦ omega (arith, e) | inr r ↦ let high = Ascends-in (y + 1) m x ys b.2 r in omega (arith, high.0) ])
    | inr more ↦ sub-more x xs y ys more ∙ sub_to low (y + 1) m (x ∷ xs) ys a b.2 (λ v i. elim (to v i) [
      | inl e ↦ absurd (elim i [ inl f ↦ omega (arith, e, f) | inr r ↦ let high = Ascends-in (x + 1) m v xs a.2 r in omega (arith, high.0, e) ])
      | inr r ↦ r
    ])
  ]
]

pub sub_tells : (m : ℕ) (xs ys : List ℕ) (answer : Bool) → Ascends 0 m xs → Ascends 0 m ys → answer ≡ is_sublist xs ys
    → IsTrue answer ↔ ((v : ℕ) → Contains xs v → Contains ys v)
sub_tells m xs ys answer a b is = (
  λ t v h. Contains_from_in ys v (sub_from v xs ys (sym is ∙ t) (in_from_Contains xs v h)),
  λ to. is ∙ sub_to 0 0 m xs ys a b (λ v h. in_from_Contains ys v (to v (Contains_from_in xs v h))),
)

subs_at : (xs ys : List ℕ) (i j : ℕ) → i < length xs → j < length ys
    → is_sublist (drop i xs) (drop j ys) ≡ is_sublist (get_or xs i 0 ∷ drop (i + 1) xs) (get_or ys j 0 ∷ drop (j + 1) ys)
subs_at xs ys i j h k = ap (λ (zs : List ℕ). is_sublist zs (drop j ys)) (drop_at xs i h) ∙ ap (λ (zs : List ℕ). is_sublist (get_or xs i 0 ∷ drop (i + 1) xs) zs) (drop_at ys j k)

pub sub_refused : (xs ys : List ℕ) (i j : ℕ) → i < length xs → j < length ys → get_or xs i 0 < get_or ys j 0
    → is_sublist (drop i xs) (drop j ys) ≡ false
sub_refused xs ys i j h k less = subs_at xs ys i j h k ∙ sub-less (get_or xs i 0) (drop (i + 1) xs) (get_or ys j 0) (drop (j + 1) ys) less

pub sub_found : (xs ys : List ℕ) (i j : ℕ) → i < length xs → j < length ys → get_or xs i 0 ≡ get_or ys j 0
    → is_sublist (drop (i + 1) xs) (drop (j + 1) ys) ≡ is_sublist (drop i xs) (drop j ys)
sub_found xs ys i j h k same = sym (subs_at xs ys i j h k ∙ sub-same (get_or xs i 0) (drop (i + 1) xs) (get_or ys j 0) (drop (j + 1) ys) same)

pub sub_passed : (xs ys : List ℕ) (i j : ℕ) → i < length xs → j < length ys → get_or ys j 0 < get_or xs i 0
    → is_sublist (drop i xs) (drop (j + 1) ys) ≡ is_sublist (drop i xs) (drop j ys)
sub_passed xs ys i j h k more = sym (subs_at xs ys i j h k ∙ sub-more (get_or xs i 0) (drop (i + 1) xs) (get_or ys j 0) (drop (j + 1) ys) more
    ∙ ap (λ (zs : List ℕ). is_sublist zs (drop (j + 1) ys)) (sym (drop_at xs i h)))

pub sub_done : (xs ys : List ℕ) (i : ℕ) → length xs ≤ i → is_sublist (drop i xs) ys ≡ true
sub_done xs ys i h = ap (λ (zs : List ℕ). is_sublist zs ys) (drop_all i xs h) ∙ sub-none ys

sub_over : (xs ys : List ℕ) (i j : ℕ) → i < length xs → length ys ≤ j → is_sublist (drop i xs) (drop j ys) ≡ false
sub_over xs ys i j h k = ap (λ (zs : List ℕ). is_sublist (drop i xs) zs) (drop_all j ys k) ∙ ap (λ (zs : List ℕ). is_sublist zs []) (drop_at xs i h)
    ∙ sub-missing (get_or xs i 0) (drop (i + 1) xs)

pub ended : (xs ys : List ℕ) (i j : ℕ) → i ≤ length xs → length ys ≤ j → eqb i (length xs) ≡ is_sublist (drop i xs) (drop j ys)
ended xs ys i j h k = elim (cases_eq i (length xs)) [
  | inl same ↦ eq-eqb i (length xs) same ∙ sym (sub_done xs (drop j ys) i (omega arith))
  | inr other ↦ ne_eqb i (length xs) other ∙ sym (sub_over xs ys i j (omega (arith, other)) k)
]

-- ---- joins of lists

pub second_within : (m : ℕ) (xs ys : List ℕ) → Ascends 0 m xs → Ascends 0 m ys → Includes m (Values xs) (Values ys)
    → ascending (xs ++ ys) ≡ xs
second_within m xs ys a b inside = same_ascending 0 m (ascending (xs ++ ys)) xs (Ascends-put_all m [] (xs ++ ys) (lists_below m xs ys a b) tt) a
    (λ v h. elim (in_either v xs ys (in_ascending v (xs ++ ys) h)) [ inl i ↦ i | inr i ↦ in_from_Contains xs v (inside v (Contains_from_in ys v i)) ])
    (λ v h. put_all_has v [] (xs ++ ys) (in_front v xs ys h))

pub first_within : (m : ℕ) (xs ys : List ℕ) → Ascends 0 m xs → Ascends 0 m ys → Includes m (Values ys) (Values xs)
    → ascending (xs ++ ys) ≡ ys
first_within m xs ys a b inside = same_ascending 0 m (ascending (xs ++ ys)) ys (Ascends-put_all m [] (xs ++ ys) (lists_below m xs ys a b) tt) b
    (λ v h. elim (in_either v xs ys (in_ascending v (xs ++ ys) h)) [ inl i ↦ in_from_Contains ys v (inside v (Contains_from_in xs v i)) | inr i ↦ i ])
    (λ v h. put_all_has v [] (xs ++ ys) (in_behind v xs ys h))

few_values : (xs ys values : List ℕ) → Some values ≡ few_together xs ys → values ≡ ascending (xs ++ ys)
few_values xs ys values is = elim (few_cases xs ys) [
  | inl short ↦ let e = is ∙ short.1 in cc e
  | inr long ↦ absurd (let e = is ∙ long in cc e)
]

few_short : (xs ys : List ℕ) → length (ascending (xs ++ ys)) ≤ 16 → few_together xs ys ≡ Some (ascending (xs ++ ys))
few_short xs ys short = rw (le-leb (length (ascending (xs ++ ys))) 16 short) refl

many_values : (xs ys : List ℕ) → None ≡ few_together xs ys → length (ascending (xs ++ ys)) ≤ 16 → ⊥
many_values xs ys is short = let e = is ∙ few_short xs ys short in cc e

pub lists_found : (m : ℕ) (xs ys values : List ℕ) → IsNormal m (Values xs) → IsNormal m (Values ys) → Some values ≡ few_together xs ys
    → Values values ≡ join m (Values xs) (Values ys)
lists_found m xs ys values n k is =
    let whole = few_values xs ys values is in
    join_cases m (Values xs) (Values ys) (λ set. Values values ≡ set)
    (λ inside. ap Values (whole ∙ second_within m xs ys n.2 k.2 inside))
    (λ inside. ap Values (whole ∙ first_within m xs ys n.2 k.2 inside))
    (values_found m xs ys values is)

pub lists_missed : (m : ℕ) (xs ys : List ℕ) → IsNormal m (Values xs) → IsNormal m (Values ys) → None ≡ few_together xs ys
    → join_spans m (hull m xs) (hull m ys) ≡ join m (Values xs) (Values ys)
lists_missed m xs ys n k is =
    join_cases m (Values xs) (Values ys) (λ set. join_spans m (hull m xs) (hull m ys) ≡ set)
    (λ inside. absurd (many_values xs ys is (omega (arith, n.1, ap length (second_within m xs ys n.2 k.2 inside)))))
    (λ inside. absurd (many_values xs ys is (omega (arith, k.1, ap length (first_within m xs ys n.2 k.2 inside)))))
    (values_missing m xs ys is)

-- ---- other joins

pub apart_spans : (m : ℕ) (first second : Form) → HasRun first second
    → join_apart m first second ≡ join_spans m (span m first) (span m second)
apart_spans m (Values xs) (Values ys) run = absurd run
apart_spans m (Values xs) (Run q) run = apart-list_run m xs q
apart_spans m (Run p) second run = apart-run m p second

pub joined_normal : (m : ℕ) (first second made : Form) → IsNormal m first → IsNormal m second → made ≡ join m first second → IsNormal m made
joined_normal m first second made n k is = subst (λ (set : Form). IsNormal m set) (sym is) (join_normal m first second n k)

pub join_itself : (m : ℕ) (first second : Form) → first ≡ second → first ≡ join m first second
join_itself m first second same = sym (join-first m first second (test_from_includes m second first (λ v h. subst (λ (set : Form). Has m set v) (sym same) h)))

-- a join that is the first set has the second within
pub join_held : (m : ℕ) (first second : Form) → IsNormal m first → IsNormal m second → join m first second ≡ first
    → is_within m second first ≡ true
join_held m first second n k same = test_from_includes m second first (λ v h. subst (λ (set : Form). Has m set v) same (join_includes_second m first second n k v h))

pub join_grown : (m : ℕ) (first second : Form) → (join m first second ≡ first → ⊥) → is_within m second first ≡ false
join_grown m first second apart = elim (cases_Bool (is_within m second first)) [ inl agreed ↦ absurd (apart (join-first m first second agreed)) | inr refused ↦ refused ]

-- ---- the test of inclusion

pub includes_itself : (m : ℕ) (smaller larger : Form) → smaller ≡ larger → Includes m larger smaller
includes_itself m smaller larger same v h = subst (λ (set : Form). Has m set v) same h

pub list_ascends : (m : ℕ) (xs : List ℕ) (set : Form) → m ≤ 65536 → set ≡ Values xs → IsNormal m set → Ascends 0 65536 xs
list_ascends m xs set small is n = let n' : IsNormal m (Values xs) = subst (λ (set : Form). IsNormal m set) is n in Ascends-wider 0 m 65536 xs small n'.2

pub run_outside : (m : ℕ) (p : Progression) (xs : List ℕ) (smaller larger : Form) → smaller ≡ Run p → larger ≡ Values xs
    → IsNormal m smaller → IsNormal m larger
    → Includes m larger smaller → ⊥
run_outside m p xs smaller larger is is_too n k inside =
    let n' : IsNormalRun m p.base p.stride p.count = subst (λ (set : Form). IsNormal m set) is n in
    let k' : IsNormal m (Values xs) = subst (λ (set : Form). IsNormal m set) is_too k in
    let inside' : Includes m (Values xs) (Run p) = (λ v h. subst (λ (set : Form). Has m set v) is_too (inside v (subst (λ (set : Form). Has m set v) (sym is) h))) in
    let more = run_over_list m p xs n' inside' in
    omega (arith, more, n'.long, k'.1)
