-- Lists of fields: with a byte between each two, or side by side.
use Rattle.std.specs.Prelude.{◌≡◌, ℕ, suc, ◌≤◌, ◌==◌, if◌then◌else◌, Bool, true, false, Option, None, Some, option_map, option_and_then, List, [], ◌∷◌, ◌++◌, length, map}
use Rattle.std.specs.List.{AllByRecursion, join_with_byte, slice_split, flat_map}
use Rattle.std.specs.Str.{bytes_eq}
use Rattle.std.proofs.Common.{refl, sym, ap, ap₂, ◌∙◌, subst, inl, inr, arith, append_assoc, length-append}
use Rattle.std.proofs.lemmas.Bool.{cases_Bool, false≢true, eq-eqb, eqb-true}
use Rattle.std.proofs.lemmas.Option.{none-some, same_Some}
use Rattle.std.proofs.lemmas.List.{append-nil, length-map}
use Rattle.std.proofs.lemmas.List.Splits.{join_with_byte-slice_split, length-slice_split}
use Rattle.text_fields.specs.Spelling.{Spelling, IsExact, Avoids, has_byte, has_byte-left, has_byte-both, has_byte-between, then_only, map_only}
use Rattle.text_fields.specs.Fields.{cut_at, cut_only, IfForm, or_mark, or_mark_is_exact, or_mark_avoids, told_by, told_by_is_exact, told_by_avoids, restated, restated_is_exact, restated_avoids}

-- the values of some texts
abbrev pub values_of : {A : Type 0} → (List ℕ → Option A) → List (List ℕ) → Option (List A)
values_of value [] = Some []
values_of value (text ∷ texts) = option_and_then (λ a. option_map (λ more. a ∷ more) (values_of value texts)) (value text)

-- at least one, with a byte between each two
abbrev pub listed : {A : Type 0} → Spelling A → ℕ → Spelling (List A)
listed s at = record {
  text = λ xs. join_with_byte at (map s.text xs);
  value = λ text. values_of s.value (slice_split (λ b. b == at) text);
  Form = λ xs. (1 ≤ length xs) × AllByRecursion s.Form xs;
}

-- so many, each of one byte
abbrev pub in_row : {A : Type 0} → (count : ℕ) → Spelling A → Spelling (List A)
in_row count s = record {
  text = flat_map s.text;
  value = λ text. if length text == count then values_of s.value (map (λ b. b ∷ []) text) else None;
  Form = λ xs. (length xs ≡ count) × AllByRecursion s.Form xs;
}

-- LAWS

pub values_back : {A : Type 0} (s : Spelling A) → IsExact s → (xs : List A) → AllByRecursion s.Form xs
    → values_of s.value (map s.text xs) ≡ Some xs
values_back s h [] forms = refl
values_back s h (x ∷ xs) forms = rw (h.back x forms.0, values_back s h xs forms.1) refl

pub record AreRead {A : Type 0} (s : Spelling A) (texts : List (List ℕ)) (xs : List A) : Type 0 where
  pub long : length xs ≡ length texts
  pub forms : AllByRecursion s.Form xs
  pub are : map s.text xs ≡ texts

pub values_only : {A : Type 0} (s : Spelling A) → IsExact s → (texts : List (List ℕ)) (xs : List A)
    → values_of s.value texts ≡ Some xs → AreRead s texts xs
values_only s h [] xs e = subst (λ ys. AreRead s [] ys) (same_Some [] xs e) (record { long = refl; forms = tt; are = refl })
values_only s h (text ∷ texts) xs e = then_only _ (s.value text) xs e (λ a first rest. map_only _ (values_of s.value texts) xs rest (λ more found same.
    let one = h.only text a first in let others = values_only s h texts more found in
    subst (λ ys. AreRead s (text ∷ texts) ys) same (record {
      long = ap suc others.long;
      forms = (one.0, others.forms);
      are = ap₂
          (λ (t : List ℕ) (ts : List (List ℕ)). t ∷ ts) one.1 others.are;
    })))

pub split_none : (at : ℕ) (text : List ℕ) → has_byte at text ≡ false → slice_split (λ b. b == at) text ≡ text ∷ []
split_none at [] none = refl
split_none at (b ∷ text) none = elim (cases_Bool (b == at)) [
  | inl same ↦ absurd (false≢true (sym none ∙ rw same refl))
  | inr other ↦ rw (other, split_none at text (rw other at none)) refl
]

pub split_first : (at : ℕ) (front rest : List ℕ) → has_byte at front ≡ false
    → slice_split (λ b. b == at) (front ++ at ∷ rest) ≡ front ∷ slice_split (λ b. b == at) rest
split_first at [] rest none = rw (eq-eqb at at refl) refl
split_first at (b ∷ front) rest none = elim (cases_Bool (b == at)) [
  | inl same ↦ absurd (false≢true (sym none ∙ rw same refl))
  | inr other ↦ rw (other, split_first at front rest (rw other at none)) refl
]

split_texts : {A : Type 0} (s : Spelling A) (at : ℕ) → Avoids s at → (x : A) (xs : List A) → AllByRecursion s.Form (x ∷ xs)
    → slice_split (λ b. b == at) (join_with_byte at (map s.text (x ∷ xs))) ≡ map s.text (x ∷ xs)
split_texts s at apart x [] forms = split_none at (s.text x) (apart x forms.0)
split_texts s at apart x (y ∷ xs) forms =
    split_first at (s.text x) (join_with_byte at (map s.text (y ∷ xs))) (apart x forms.0)
    ∙ ap (λ (ts : List (List ℕ)). s.text x ∷ ts) (split_texts s at apart y xs forms.1)

listed_back : {A : Type 0} (s : Spelling A) (at : ℕ) → IsExact s → Avoids s at → (xs : List A) → (listed s at).Form xs
    → (listed s at).value ((listed s at).text xs) ≡ Some xs
listed_back s at h apart [] form = absurd (omega (arith, form.0))
listed_back s at h apart (x ∷ xs) form = rw (split_texts s at apart x xs form.1) (values_back s h (x ∷ xs) form.1)

pub listed_is_exact : {A : Type 0} (s : Spelling A) (at : ℕ) → IsExact s → Avoids s at → IsExact (listed s at)
listed_is_exact s at h apart = record {
  back = listed_back s at h apart;
  only = λ text xs e.
      let are = values_only s h (slice_split (λ b. b == at) text) xs e in
      ((omega (arith, are.long, length-slice_split (λ b. b == at) text), are.forms), ap (join_with_byte at) are.are ∙ join_with_byte-slice_split at text);
}

listed_text_avoids : {A : Type 0} (s : Spelling A) (between at : ℕ) → (between == at) ≡ false → Avoids s at
    → (xs : List A) → AllByRecursion s.Form xs
    → has_byte at (join_with_byte between (map s.text xs)) ≡ false
listed_text_avoids s between at other h [] forms = refl
listed_text_avoids s between at other h (x ∷ []) forms = h x forms.0
listed_text_avoids s between at other h (x ∷ y ∷ xs) forms =
    has_byte-between at between (s.text x) (join_with_byte between (map s.text (y ∷ xs))) other (h x forms.0)
    (listed_text_avoids s between at other h (y ∷ xs) forms.1)

pub listed_avoids : {A : Type 0} (s : Spelling A) (between at : ℕ) → (between == at) ≡ false → Avoids s at → Avoids (listed s between) at
listed_avoids s between at other h = λ xs form. listed_text_avoids s between at other h xs form.1

-- the text of a list is as long as that of its first value
pub listed_longer : {A : Type 0} (s : Spelling A) (at least : ℕ) → ((x : A) → s.Form x → least ≤ length (s.text x))
    → (xs : List A) → (listed s at).Form xs
    → least ≤ length ((listed s at).text xs)
listed_longer s at least h [] form = absurd (omega (arith, form.0))
listed_longer s at least h (x ∷ []) form = h x form.1.0
listed_longer s at least h (x ∷ y ∷ xs) form =
    omega (arith, h x form.1.0, length-append (s.text x) (at ∷ join_with_byte at (map s.text (y ∷ xs))))

-- and it has each byte that each text has
pub listed_has : {A : Type 0} (s : Spelling A) (between at : ℕ) → ((x : A) → s.Form x → has_byte at (s.text x) ≡ true) → (xs : List A)
    → (listed s between).Form xs
    → has_byte at ((listed s between).text xs) ≡ true
listed_has s between at h [] form = absurd (omega (arith, form.0))
listed_has s between at h (x ∷ []) form = h x form.1.0
listed_has s between at h (x ∷ y ∷ xs) form =
    has_byte-left at (s.text x) (between ∷ join_with_byte between (map s.text (y ∷ xs))) (h x form.1.0)

-- READING A LIST ONE BY ONE

-- the first value and those behind it
pub listed_more : {A : Type 0} (s : Spelling A) (at : ℕ) (text front rest : List ℕ) → cut_at at text ≡ Some (front, rest)
    → (listed s at).value text ≡ option_and_then (λ a. option_map (λ more. a ∷ more) ((listed s at).value rest)) (s.value front)
listed_more s at text front rest e =
    let cuts = cut_only at text (front, rest) e in
    ap (values_of s.value) (ap (slice_split (λ b. b == at)) (sym cuts.0) ∙ split_first at front rest cuts.1)

unmapped : {A B : Type 0} (f : A → B) (o : Option A) → option_map f o ≡ None → o ≡ None
unmapped f None e = refl
unmapped f (Some a) e = absurd (none-some (f a) (sym e))

uncut : (at : ℕ) (text : List ℕ) → cut_at at text ≡ None → has_byte at text ≡ false
uncut at [] e = refl
uncut at (b ∷ text) e = elim (cases_Bool (b == at)) [
  | inl same ↦ absurd (none-some ([], text) (sym (rw same at e)))
  | inr other ↦ rw other (uncut at text (unmapped _ (cut_at at text) (rw other at e)))
]

alone : {A : Type 0} (value : Option A)
    → option_and_then (λ a. option_map (λ more. a ∷ more) (Some [])) value ≡ option_map (λ a. a ∷ []) value
alone None = refl
alone (Some a) = refl

-- the last value
pub listed_last : {A : Type 0} (s : Spelling A) (at : ℕ) (text : List ℕ) → cut_at at text ≡ None
    → (listed s at).value text ≡ option_map (λ a. a ∷ []) (s.value text)
listed_last s at text e = ap (values_of s.value) (split_none at text (uncut at text e)) ∙ alone (s.value text)

with_more : {A : Type 0} (values : List A) (value : A) (more : Option (List A))
    → option_map (λ xs. values ++ xs) (option_map (λ xs. value ∷ xs) more) ≡ option_map (λ xs. (values ++ value ∷ []) ++ xs) more
with_more values value None = refl
with_more values value (Some xs) = ap Some (sym (append_assoc values (value ∷ []) xs))

-- one more value
pub list_more : {A : Type 0} (s : Spelling A) (at : ℕ) (values longer : List A) (rest first behind : List ℕ) (value : A)
    → Some (first, behind) ≡ cut_at at rest → Some value ≡ s.value first
    → longer ≡ values ++ value ∷ [] → option_map (λ more. values ++ more) ((listed s at).value rest)
    ≡ option_map (λ more. longer ++ more) ((listed s at).value behind)
list_more s at values longer rest first behind value is read pushed =
    ap (option_map (λ more. values ++ more)) (listed_more s at rest first behind (sym is)
    ∙ ap (option_and_then (λ a. option_map (λ more. a ∷ more) ((listed s at).value behind))) (sym read))
    ∙ with_more values value ((listed s at).value behind)
    ∙ ap (λ xs. option_map (λ more. xs ++ more) ((listed s at).value behind)) (sym pushed)

pub list_bad : {A : Type 0} (s : Spelling A) (at : ℕ) (values : List A) (rest first behind : List ℕ) → Some (first, behind) ≡ cut_at at rest
    → None ≡ s.value first
    → option_map (λ more. values ++ more) ((listed s at).value rest) ≡ None
list_bad s at values rest first behind is read =
    ap (option_map (λ more. values ++ more)) (listed_more s at rest first behind (sym is)
    ∙ ap (option_and_then (λ a. option_map (λ more. a ∷ more) ((listed s at).value behind))) (sym read))

-- the last value
pub list_last : {A : Type 0} (s : Spelling A) (at : ℕ) (values longer : List A) (rest : List ℕ) (value : A) → None ≡ cut_at at rest
    → Some value ≡ s.value rest → longer ≡ values ++ value ∷ []
    → option_map (λ more. values ++ more) ((listed s at).value rest) ≡ Some longer
list_last s at values longer rest value is read pushed =
    ap (option_map (λ more. values ++ more)) (listed_last s at rest (sym is) ∙ ap (option_map (λ a. a ∷ [])) (sym read))
    ∙ ap Some (sym pushed)

pub list_last_bad : {A : Type 0} (s : Spelling A) (at : ℕ) (values : List A) (rest : List ℕ) → None ≡ cut_at at rest → None ≡ s.value rest
    → option_map (λ more. values ++ more) ((listed s at).value rest) ≡ None
list_last_bad s at values rest is read =
    ap (option_map (λ more. values ++ more)) (listed_last s at rest (sym is) ∙ ap (option_map (λ a. a ∷ [])) (sym read))

-- the values behind the first one, each behind the byte
abbrev pub others_text : {A : Type 0} → Spelling A → (at : ℕ) → List A → List ℕ
others_text s at [] = []
others_text s at (x ∷ xs) = at ∷ (s.text x ++ others_text s at xs)

pub listed_others : {A : Type 0} (s : Spelling A) (at : ℕ) (x : A) (xs : List A)
    → (listed s at).text (x ∷ xs) ≡ s.text x ++ others_text s at xs
listed_others s at x [] = sym (append-nil (s.text x))
listed_others s at x (y ∷ xs) = ap (λ (t : List ℕ). s.text x ++ at ∷ t) (listed_others s at y xs)

-- SIDE BY SIDE

row_first : {A : Type 0} (text : A → List ℕ) (x : A) (xs : List A) (first : List ℕ) → text x ≡ first → length first ≡ 1
    → (length (flat_map text xs) ≡ length xs) × (map (λ b. b ∷ []) (flat_map text xs) ≡ map text xs)
    → (length (first ++ flat_map text xs) ≡ suc (length xs)) × (map (λ b. b ∷ []) (first ++ flat_map text xs) ≡ first ∷ map text xs)
row_first text x xs [] is one others = absurd (omega (arith, one))
row_first text x xs (b ∷ []) is one others = (ap suc others.0, ap (λ (ts : List (List ℕ)). (b ∷ []) ∷ ts) others.1)
row_first text x xs (b ∷ c ∷ first) is one others = absurd (omega (arith, one))

same_heads : (a b : List ℕ) (as' bs : List (List ℕ)) → a ∷ as' ≡ b ∷ bs → (a ≡ b) × (as' ≡ bs)
same_heads a b as' bs e = (cc, cc)

row_joined : {A : Type 0} (text : A → List ℕ) (xs : List A) (bytes : List ℕ) → map text xs ≡ map (λ b. b ∷ []) bytes
    → flat_map text xs ≡ bytes
row_joined text [] [] e = refl
row_joined text [] (b ∷ bytes) e = absurd (omega (arith, ap length e))
row_joined text (x ∷ xs) [] e = absurd (omega (arith, ap length e))
row_joined text (x ∷ xs) (b ∷ bytes) e = let parts = same_heads _ _ _ _ e in ap₂ (λ (s t : List ℕ). s ++ t) parts.0 (row_joined text xs bytes parts.1)

row_only : {A : Type 0} (count : ℕ) (s : Spelling A) → IsExact s → (text : List ℕ) (xs : List A) (long : Bool)
    → (length text == count) ≡ long
    → (if long then values_of s.value (map (λ b. b ∷ []) text) else None) ≡ Some xs → ((length xs ≡ count) × AllByRecursion s.Form xs)
    × (flat_map s.text xs ≡ text)
row_only count s h text xs true long e =
    let are = values_only s h (map (λ b. b ∷ []) text) xs e in
    ((are.long ∙ length-map text (λ b. b ∷ []) ∙ eqb-true (length text) count long, are.forms), row_joined s.text xs text are.are)
row_only count s h text xs false long e = absurd (none-some xs e)

row_texts : {A : Type 0} (s : Spelling A) → ((x : A) → s.Form x → length (s.text x) ≡ 1) → (xs : List A) → AllByRecursion s.Form xs
    → (length (flat_map s.text xs) ≡ length xs) × (map (λ b. b ∷ []) (flat_map s.text xs) ≡ map s.text xs)
row_texts s one [] forms = (refl, refl)
row_texts s one (x ∷ xs) forms = row_first s.text x xs (s.text x) refl (one x forms.0) (row_texts s one xs forms.1)

pub in_row_is_exact : {A : Type 0} (count : ℕ) (s : Spelling A) → IsExact s
    → ((x : A) → s.Form x → length (s.text x) ≡ 1) → IsExact (in_row count s)
in_row_is_exact count s h one = record {
  back = λ xs form.
      let texts = row_texts s one xs form.1 in
      let long = eq-eqb (length (flat_map s.text xs)) count (texts.0 ∙ form.0) in
      rw (long, texts.1) (values_back s h xs form.1);
  only = λ text xs e. row_only count s h text xs (length text == count) refl e;
}

row_avoids : {A : Type 0} (s : Spelling A) (at : ℕ) → Avoids s at → (xs : List A) → AllByRecursion s.Form xs
    → has_byte at (flat_map s.text xs) ≡ false
row_avoids s at h [] forms = refl
row_avoids s at h (x ∷ xs) forms = has_byte-both at (s.text x) (flat_map s.text xs) (h x forms.0) (row_avoids s at h xs forms.1)

pub in_row_avoids : {A : Type 0} (count : ℕ) (s : Spelling A) (at : ℕ) → Avoids s at → Avoids (in_row count s) at
in_row_avoids count s at h = λ xs form. row_avoids s at h xs form.1

-- PERHAPS NONE

abbrev pub all_of : {A : Type 0} → Option (List A) → List A
all_of None = []
all_of (Some xs) = xs

abbrev pub none_or : {A : Type 0} → List A → Option (List A)
none_or [] = None
none_or (x ∷ xs) = Some (x ∷ xs)

-- a list with a byte between each two, or a mark for the empty one
abbrev pub listed_or_mark : {A : Type 0} → Spelling A → ℕ → List ℕ → Spelling (List A)
listed_or_mark s at mark = restated (told_by (or_mark (listed s at) mark) all_of none_or) (AllByRecursion s.Form)

some_back : {A : Type 0} (s : Spelling A) (at : ℕ) (xs : Option (List A)) → IfForm (listed s at).Form xs → none_or (all_of xs) ≡ xs
some_back s at None form = refl
some_back s at (Some []) form = absurd (omega (arith, form.0))
some_back s at (Some (x ∷ xs)) form = refl

some_narrow : {A : Type 0} (s : Spelling A) (at : ℕ) (xs : List A) → AllByRecursion s.Form xs
    → IfForm (listed s at).Form (none_or xs) × (all_of (none_or xs) ≡ xs)
some_narrow s at [] forms = (tt, refl)
some_narrow s at (x ∷ xs) forms = ((omega arith, forms), refl)

some_wide : {A : Type 0} (s : Spelling A) (at : ℕ) (xs : List A) → IfForm (listed s at).Form (none_or xs) × (all_of (none_or xs) ≡ xs)
    → AllByRecursion s.Form xs
some_wide s at [] form = tt
some_wide s at (x ∷ xs) form = form.0.1

-- no list has the mark for its text
pub listed_or_mark_is_exact : {A : Type 0} (s : Spelling A) (at : ℕ) (mark : List ℕ)
    → ((xs : List A) → (listed s at).Form xs → bytes_eq ((listed s at).text xs) mark ≡ false)
    → IsExact s → Avoids s at → IsExact (listed_or_mark s at mark)
listed_or_mark_is_exact s at mark other h apart =
    restated_is_exact (told_by (or_mark (listed s at) mark) all_of none_or) (AllByRecursion s.Form)
    (told_by_is_exact (or_mark (listed s at) mark) all_of none_or (or_mark_is_exact (listed s at) mark other (listed_is_exact s at h apart)) (some_back s at))
    (some_narrow s at) (some_wide s at)

pub listed_or_mark_avoids : {A : Type 0} (s : Spelling A) (between : ℕ) (mark : List ℕ) (at : ℕ)
    → (between == at) ≡ false → has_byte at mark ≡ false
    → Avoids s at → Avoids (listed_or_mark s between mark) at
listed_or_mark_avoids s between mark at other none h =
    restated_avoids (told_by (or_mark (listed s between) mark) all_of none_or) (AllByRecursion s.Form) at (some_narrow s between)
    (told_by_avoids (or_mark (listed s between) mark) all_of none_or at (or_mark_avoids (listed s between) mark at none (listed_avoids s between at other h)))
