-- Pages that are looked up by their cells and by their numbers.
use Rattle.std.proofs.Common.{Bool, ◌≡◌, ℕ, zero, suc, ◌+◌, ◌<◌, ◌≤◌, ◌^◌, refl, sym, ap, ap₂, ◌∙◌, subst, true, false, inl, inr, arith, Option, None, Some, List, [], ◌∷◌, ◌++◌, length, map}
use Rattle.std.specs.Prelude.{◌||◌, not, nat_lt, option_map, slice_get, if◌then◌else◌}
use Rattle.std.specs.Fmt.{decimal}
use Rattle.std.specs.List.{list_any, position, position_or_len}
use Rattle.std.specs.Str.{bytes_eq}
use Rattle.std.proofs.lemmas.Bool.{cases_Bool, lt-ltb, ltb-true, ltb-false, true≢false, false≢true}
use Rattle.std.proofs.lemmas.List.{length-map}
use Rattle.std.proofs.lemmas.Option.{none-some, same_Some, slice_get_past}
use Rattle.cert_pages.specs.Numbers.{name_decimal, name_of, name_once}
use Rattle.cert_pages.specs.Pages.{Page, has_page, names_from, page_at}
use Rattle.cert_pages.specs.Numbered.{arent_bytes, are_bytes, bytes_are}

pub bytes_flip : (xs ys : List ℕ) → bytes_eq xs ys ≡ bytes_eq ys xs
bytes_flip xs ys = elim (cases_Bool (bytes_eq xs ys)) [
  | inl same ↦ same ∙ sym (are_bytes ys xs (sym (bytes_are xs ys same)))
  | inr other ↦ other ∙ sym (arent_bytes ys xs (λ e. true≢false (sym (are_bytes xs ys (sym e)) ∙ other)))
]

heads : {x y : List ℕ} {xs ys : List (List ℕ)} → x ∷ xs ≡ y ∷ ys → x ≡ y
heads e = cc

tails : {x y : List ℕ} {xs ys : List (List ℕ)} → x ∷ xs ≡ y ∷ ys → xs ≡ ys
tails e = cc

module _ {K : Type 0} (items : K → List ℕ) where
  pub any_has : (page : Page) (keys : List K) → list_any (λ k. bytes_eq page (items k)) keys ≡ has_page (map items keys) page
  any_has page [] = refl
  any_has page (k ∷ keys) = ap₂ (λ (b c : Bool). b || c) (bytes_flip page (items k)) (any_has page keys)

  abbrev test : List ℕ → K → Bool
  test name k = bytes_eq name (items k)

  first_of : (name : List ℕ) (k : K) (names : List K) → bytes_eq name (items k) ≡ true → position_or_len (test name) (k ∷ names) ≡ 0
  first_of name k names same = rw same refl

  later_of : (name : List ℕ) (k : K) (names : List K) → bytes_eq name (items k) ≡ false
      → position_or_len (test name) (k ∷ names) ≡ suc (position_or_len (test name) names)
  later_of name k names other =
      let next : 1 + position_or_len (test name) names ≡ suc (position_or_len (test name) names) = omega arith in
      rw other next

  abbrev pub numbered : (number : ℕ) → K → ℕ × Page
  numbered number k = (number, items k)

  shifted : (from n : ℕ) (found : Option K) → option_map (numbered (suc from + n)) found ≡ option_map (numbered (from + suc n)) found
  shifted from n found = let same : suc from + n ≡ from + suc n = omega arith in ap (λ m. option_map (numbered m) found) same

  -- a number leads to the page at its place
  pub at_place : (from : ℕ) (names keys : List K) (name : List ℕ) → map items names ≡ names_from from (map items keys)
      → page_at from (map items keys) name
      ≡ option_map (numbered (from + position_or_len (test name) names)) (slice_get keys (position_or_len (test name) names))
  at_place from names [] name are = refl
  at_place from [] (k ∷ keys) name are = absurd (omega (arith, ap length are))
  at_place from (n ∷ names) (k ∷ keys) name are =
      let first : items n ≡ name_of from = heads are in
      let rest : map items names ≡ names_from (suc from) (map items keys) = tails are in
      elim (cases_Bool (bytes_eq name (items n))) [
        | inl same ↦
            let here : bytes_eq name (name_of from) ≡ true = ap (bytes_eq name) (sym first) ∙ same in
            let none : from ≡ from + 0 = omega arith in
            rw (here, first_of name n names same) (ap (λ m. Some (numbered m k)) none)
        | inr other ↦
            let differ : bytes_eq name (name_of from) ≡ false = ap (bytes_eq name) (sym first) ∙ other in
            let place = position_or_len (test name) names in
            rw (differ, later_of name n names other)
            (at_place (suc from) names keys name rest ∙ shifted from place (slice_get keys place))
      ]

  names_long : (from : ℕ) (pages : List Page) → length (names_from from pages) ≡ length pages
  names_long from [] = refl
  names_long from (page ∷ pages) = ap suc (names_long (suc from) pages)

  as_long : (names keys : List K) → map items names ≡ names_from 0 (map items keys) → length names ≡ length keys
  as_long names keys are =
      sym (length-map names items) ∙ ap length are ∙ names_long 0 (map items keys) ∙ length-map keys items

  pub no_number : (names keys : List K) (name : List ℕ) → map items names ≡ names_from 0 (map items keys)
      → None ≡ position (test name) names → page_at 0 (map items keys) name ≡ None
  no_number names keys name are e =
      let place = position_or_len (test name) names in
      elim (cases_Bool (nat_lt place (length names))) [
        | inl inside ↦ absurd (none-some place (e ∙ rw inside refl))
        | inr outside ↦
            at_place 0 names keys name are
            ∙ ap (option_map (numbered (0 + place))) (slice_get_past keys place (omega (arith, as_long names keys are, ltb-false place (length names) outside)))
      ]

  pub some_number : (names keys : List K) (name : List ℕ) (number : ℕ) → map items names ≡ names_from 0 (map items keys)
      → Some number ≡ position (test name) names
      → page_at 0 (map items keys) name ≡ option_map (numbered number) (slice_get keys number)
  some_number names keys name number are e =
      let place = position_or_len (test name) names in
      elim (cases_Bool (nat_lt place (length names))) [
        | inl inside ↦
            let is : number ≡ place = same_Some number place (e ∙ rw inside refl) in
            let none : 0 + place ≡ place = omega arith in
            at_place 0 names keys name are ∙ ap (λ n. option_map (numbered n) (slice_get keys place)) none
            ∙ ap (λ n. option_map (numbered n) (slice_get keys n)) (sym is)
        | inr outside ↦ absurd (none-some number (sym (e ∙ rw outside refl)))
      ]

-- ONE MORE PAGE

names_more : (from : ℕ) (pages : List Page) (page : Page)
    → names_from from (pages ++ page ∷ []) ≡ names_from from pages ++ name_of (from + length pages) ∷ []
names_more from [] page = let none : from ≡ from + 0 = omega arith in ap (λ n. name_of n ∷ []) none
names_more from (first ∷ pages) page =
    let next : suc from + length pages ≡ from + suc (length pages) = omega arith in
    ap (λ (ns : List (List ℕ)). name_of from ∷ ns) (names_more (suc from) pages page
    ∙ ap (λ n. names_from (suc from) pages ++ name_of n ∷ []) next)

new_name : (from n : ℕ) (pages : List Page) → from + length pages ≤ n → has_page (names_from from pages) (name_of n) ≡ false
new_name from n [] above = refl
new_name from n (page ∷ pages) above =
    let differ : bytes_eq (name_of from) (name_of n) ≡ false =
    arent_bytes (name_of from) (name_of n) (λ e. omega (arith, above, name_once from n e)) in
    rw differ (new_name (suc from) n pages (omega (arith, above)))

map_more : {K : Type 0} (items : K → List ℕ) (keys : List K) (key : K) → map items (keys ++ key ∷ []) ≡ map items keys ++ items key ∷ []
map_more items [] key = refl
map_more items (k ∷ keys) key = ap (λ (ts : List (List ℕ)). items k ∷ ts) (map_more items keys key)

-- a new key goes last
pub goes_last : {K : Type 0} (items : K → List ℕ) (old new : List K) (key : K)
    → new ≡ (if list_any (λ k. bytes_eq (items key) (items k)) old then old else old ++ key ∷ [])
    → has_page (map items old) (items key) ≡ false → map items new ≡ map items old ++ items key ∷ []
goes_last items old new key e none =
    let absent : list_any (λ k. bytes_eq (items key) (items k)) old ≡ false = any_has items (items key) old ∙ none in
    ap (map items) (e ∙ ap (λ (b : Bool). if b then old else old ++ key ∷ []) absent) ∙ map_more items old key

-- the name of the page behind the others goes last
pub name_last : {K : Type 0} (items : K → List ℕ) (old new : List K) (key : K) (pages : List Page)
    → new ≡ (if list_any (λ k. bytes_eq (items key) (items k)) old then old else old ++ key ∷ [])
    → map items old ≡ names_from 0 pages → items key ≡ name_of (length pages)
    → map items new ≡ names_from 0 pages ++ name_of (length pages) ∷ []
name_last items old new key pages e are is =
    let none : has_page (map items old) (items key) ≡ false =
    ap₂ (λ (ps : List Page) (p : Page). has_page ps p) are is ∙ new_name 0 (length pages) pages (omega arith) in
    goes_last items old new key e none ∙ ap₂ (λ (ps : List Page) (p : Page). ps ++ p ∷ []) are is

pub names_pushed : (pages : List Page) (page : Page)
    → names_from 0 pages ++ name_of (length pages) ∷ [] ≡ names_from 0 (pages ++ page ∷ [])
names_pushed pages page =
    let none : length pages ≡ 0 + length pages = omega arith in
    ap (λ n. names_from 0 pages ++ name_of n ∷ []) none ∙ sym (names_more 0 pages page)
