-- Pages and their numbers: the number of a page leads back to it, and pages are used first in the order of their numbers.
use Rattle.std.specs.Prelude.{◌≡◌, ℕ, suc, ◌+◌, ◌<◌, ◌≤◌, ◌==◌, ◌&&◌, ◌||◌, nat_le, if◌then◌else◌, Bool, true, false, Option, None, Some, option_map, option_and_then, List, [], ◌∷◌, ◌++◌, length, map}
use Rattle.std.specs.List.{AllByRecursion}
use Rattle.std.specs.Str.{bytes_eq}
use Rattle.std.proofs.Common.{refl, sym, ap, ap₂, ◌∙◌, subst, inl, inr, arith, append_assoc, length-append}
use Rattle.std.proofs.lemmas.Bool.{cases_Bool, and_parts, false≢true, true≢false, eqb-true, eqb-false, eq-eqb, ne_eqb, le-leb, leb-true}
use Rattle.std.proofs.lemmas.List.{append-nil}
use Rattle.std.proofs.lemmas.Option.{none-some, same_Some}
use Rattle.std.proofs.lemmas.Slice.Eq.{bytes_eq-Decides}
use Rattle.text_fields.specs.Spelling.{map_only, test_only, then_only}
use Rattle.cert_pages.specs.Numbers.{name_of, name_once}
use Rattle.cert_pages.specs.Pages.{Page, Filled, before, block_in, has_page, number_in, page_at, page_name, pages_named, used_with, with_page, with_pages}

pub bytes_are : (xs ys : List ℕ) → bytes_eq xs ys ≡ true → xs ≡ ys
bytes_are xs ys h = (bytes_eq-Decides xs ys).0 h

pub are_bytes : (xs ys : List ℕ) → xs ≡ ys → bytes_eq xs ys ≡ true
are_bytes xs ys e = (bytes_eq-Decides xs ys).1 e

pub arent_bytes : (xs ys : List ℕ) → (xs ≡ ys → ⊥) → bytes_eq xs ys ≡ false
arent_bytes xs ys differ = elim (cases_Bool (bytes_eq xs ys)) [
  | inl same ↦ absurd (differ (bytes_are xs ys same))
  | inr other ↦ other
]

-- no page stands there twice
abbrev pub AreApart : List Page → Type 0
AreApart [] = Unit {0}
AreApart (page ∷ pages) = (has_page pages page ≡ false) × AreApart pages

-- their blocks ascend from one on
abbrev pub Climb : (digits least : ℕ) → List Page → Type 0
Climb digits least [] = Unit {0}
Climb digits least (page ∷ pages) = (nat_le least (block_in digits page) ≡ true) × Climb digits (block_in digits page + 1) pages

-- AMONG PAGES

or_both : (first all front rest : Bool) → all ≡ (front || rest) → (first || all) ≡ ((first || front) || rest)
or_both true all front rest e = refl
or_both false all front rest e = e

pub has_both : (front rest : List Page) (page : Page) → has_page (front ++ rest) page ≡ (has_page front page || has_page rest page)
has_both [] rest page = refl
has_both (first ∷ front) rest page = or_both (bytes_eq first page) _ _ _ (has_both front rest page)

pub has_last : (front : List Page) (page : Page) (rest : List Page) → has_page (front ++ page ∷ rest) page ≡ true
has_last [] page rest = rw (are_bytes page page refl) refl
has_last (first ∷ front) page rest = elim (cases_Bool (bytes_eq first page)) [
  | inl same ↦ rw same refl
  | inr other ↦ rw other (has_last front page rest)
]

-- a page that isn't the last one and doesn't stand in front of it
has_not : (front : List Page) (other page : Page) → has_page front page ≡ false → bytes_eq other page ≡ false
    → has_page (front ++ other ∷ []) page ≡ false
has_not front other page none differ = rw (has_both front (other ∷ []) page, none, differ) refl

pub apart_more : (pages : List Page) (page : Page) → AreApart pages → has_page pages page ≡ false → AreApart (pages ++ page ∷ [])
apart_more [] page apart none = (refl, tt)
apart_more (first ∷ pages) page apart none = elim (cases_Bool (bytes_eq first page)) [
  | inl same ↦ absurd (false≢true (sym none ∙ rw same refl))
  | inr other ↦
      let differ : bytes_eq page first ≡ false =
      arent_bytes page first (λ e. true≢false (sym (are_bytes first page (sym e)) ∙ other)) in
      (has_not pages page first apart.0 differ, apart_more pages page apart.1 (rw other at none))
]

pub apart_front : (front : List Page) (page : Page) (rest : List Page) → AreApart (front ++ page ∷ rest) → has_page front page ≡ false
apart_front [] page rest apart = refl
apart_front (first ∷ front) page rest apart = elim (cases_Bool (bytes_eq first page)) [
  | inl same ↦
      let is = bytes_are first page same in
      absurd (true≢false (sym (has_last front page rest) ∙ subst (λ p. has_page (front ++ page ∷ rest) p ≡ false) is apart.0))
  | inr other ↦ rw other (apart_front front page rest apart.1)
]

-- NUMBERS

number_least : (from : ℕ) (pages : List Page) (page : Page) → from ≤ number_in from pages page
number_least from [] page = omega arith
number_least from (first ∷ pages) page = elim (cases_Bool (bytes_eq first page)) [
  | inl same ↦ rw same (omega arith)
  | inr other ↦ rw other (omega (arith, number_least (suc from) pages page))
]

number_front : (from : ℕ) (front rest : List Page) (page : Page) → has_page front page ≡ true
    → (number_in from (front ++ rest) page < from + length front)
number_front from [] rest page has = absurd (false≢true has)
number_front from (first ∷ front) rest page has = elim (cases_Bool (bytes_eq first page)) [
  | inl same ↦ rw same (omega arith)
  | inr other ↦ rw other (omega (arith, number_front (suc from) front rest page (rw other at has)))
]

number_behind : (from : ℕ) (front rest : List Page) (page : Page) → has_page front page ≡ false
    → number_in from (front ++ rest) page ≡ number_in (from + length front) rest page
number_behind from [] rest page none = let same : from ≡ from + 0 = omega arith in ap (λ n. number_in n rest page) same
number_behind from (first ∷ front) rest page none = elim (cases_Bool (bytes_eq first page)) [
  | inl same ↦ absurd (false≢true (sym none ∙ rw same refl))
  | inr other ↦
      let next : suc from + length front ≡ from + suc (length front) = omega arith in
      rw other (number_behind (suc from) front rest page (rw other at none) ∙ ap (λ n. number_in n rest page) next)
]

-- a number leads to its page
pub number_leads : (from : ℕ) (pages : List Page) (page : Page) → has_page pages page ≡ true
    → page_at from pages (name_of (number_in from pages page)) ≡ Some (number_in from pages page, page)
number_leads from [] page has = absurd (false≢true has)
number_leads from (first ∷ pages) page has = elim (cases_Bool (bytes_eq first page)) [
  | inl same ↦
      rw (same, are_bytes (name_of from) (name_of from) refl) (ap (λ (p : Page). Some (from, p)) (bytes_are first page same))
  | inr other ↦
      let number = number_in (suc from) pages page in
      let later = number_least (suc from) pages page in
      let differ : bytes_eq (name_of number) (name_of from) ≡ false =
      arent_bytes (name_of number) (name_of from) (λ e. omega (arith, later, name_once number from e)) in
      rw (other, differ) (number_leads (suc from) pages page (rw other at has))
]

-- what a name says of the page that it leads to
pub record IsName (from : ℕ) (pages : List Page) (name : List ℕ) (found : ℕ × Page) : Type 0 where
  pub name_is : name ≡ name_of found.0
  pub number_is : number_in from pages found.1 ≡ found.0
  pub has : has_page pages found.1 ≡ true

first_named : (from : ℕ) (first : Page) (pages : List Page) (name : List ℕ) (found : ℕ × Page) → name ≡ name_of from → (from, first) ≡ found
    → IsName from (first ∷ pages) name found
first_named from first pages name found is same = subst (IsName from (first ∷ pages) name) same (record {
  name_is = is;
  number_is = rw (are_bytes first first refl) refl;
  has = rw (are_bytes first first refl) refl;
})

pub leads_back : (from : ℕ) (pages : List Page) (name : List ℕ) (found : ℕ × Page) → AreApart pages → page_at from pages name ≡ Some found
    → IsName from pages name found
leads_back from [] name found apart e = absurd (none-some found e)
leads_back from (first ∷ pages) name found apart e = elim (cases_Bool (bytes_eq name (name_of from))) [
  | inl same ↦
      first_named from first pages name found (bytes_are name (name_of from) same) (same_Some (from, first) found (rw same at e))
  | inr other ↦
      let later = leads_back (suc from) pages name found apart.1 (rw other at e) in
      let differ : bytes_eq first found.1 ≡ false =
      arent_bytes first found.1
      (λ is. true≢false (sym later.has ∙ ap (has_page pages) (sym is) ∙ apart.0)) in
      record {
        name_is = later.name_is;
        number_is = rw differ later.number_is;
        has = rw differ later.has;
      }
]

-- USE IN TURN

-- the pages used so far with another one
pub record IsUsed (pages front : List Page) (page : Page) (number : ℕ) : Type 0 where
  pub rest : List Page
  pub pages_are : pages ≡ with_page front page ++ rest
  pub used : used_with (length front) number ≡ length (with_page front page)

with_old : (front : List Page) (page : Page) → has_page front page ≡ true → with_page front page ≡ front
with_old front page has = rw has refl

with_new : (front : List Page) (page : Page) → has_page front page ≡ false → with_page front page ≡ front ++ page ∷ []
with_new front page none = rw none refl

used_old : (used number : ℕ) → number < used → used_with used number ≡ used
used_old used number below = rw (ne_eqb number used (λ e. omega (arith, e, below))) refl

used_new : (used number : ℕ) → number ≡ used → used_with used number ≡ suc used
used_new used number is = rw (eq-eqb number used is) refl

one_longer : (front : List Page) (page : Page) → length (front ++ page ∷ []) ≡ suc (length front)
one_longer front page = omega (arith, length-append front (page ∷ []))

used_before : (pages front rest : List Page) (page : Page) (number : ℕ) → has_page front page ≡ true → number < length front
    → pages ≡ front ++ rest → IsUsed pages front page number
used_before pages front rest page number has below are = record {
  rest = rest;
  pages_are = are ∙ ap (λ (ps : List Page). ps ++ rest) (sym (with_old front page has));
  used = used_old (length front) number below ∙ ap length (sym (with_old front page has));
}

used_next : (pages front rest : List Page) (page : Page) (number : ℕ) → has_page front page ≡ false → number ≡ length front
    → pages ≡ front ++ page ∷ rest → IsUsed pages front page number
used_next pages front rest page number none is are = record {
  rest = rest;
  pages_are = are ∙ sym (append_assoc front (page ∷ []) rest) ∙ ap (λ (ps : List Page). ps ++ rest) (sym (with_new front page none));
  used = used_new (length front) number is ∙ sym (one_longer front page) ∙ ap length (sym (with_new front page none));
}

next_is : (pages front rest : List Page) (page : Page) (number : ℕ) → has_page front page ≡ false → has_page rest page ≡ true
    → number_in (0 + length front) rest page ≡ number → number ≤ length front → pages ≡ front ++ rest → IsUsed pages front page number
next_is pages front [] page number none has is low are = absurd (false≢true has)
next_is pages front (first ∷ rest) page number none has is low are = elim (cases_Bool (bytes_eq first page)) [
  | inl same ↦
      let number_is : 0 + length front ≡ number = rw same at is in
      used_next pages front rest page number none (omega (arith, number_is))
      (are ∙ ap (λ (p : Page). front ++ p ∷ rest) (bytes_are first page same))
  | inr other ↦
      let behind : number_in (suc (0 + length front)) rest page ≡ number = rw other at is in
      absurd (omega (arith, low, behind, number_least (suc (0 + length front)) rest page))
]

-- a page that is used in its turn
pub in_turn : (pages front rest : List Page) (page : Page) (number : ℕ) → pages ≡ front ++ rest → has_page pages page ≡ true
    → number_in 0 pages page ≡ number → number ≤ length front → IsUsed pages front page number
in_turn pages front rest page number are has is low =
    let here : number_in 0 (front ++ rest) page ≡ number = ap (λ (ps : List Page). number_in 0 ps page) (sym are) ∙ is in
    elim (cases_Bool (has_page front page)) [
      | inl old ↦ used_before pages front rest page number old (omega (arith, here, number_front 0 front rest page old)) are
      | inr new ↦
          let among : has_page rest page ≡ true =
          sym (rw (has_both front rest page, new) refl) ∙ ap (λ (ps : List Page). has_page ps page) (sym are) ∙ has in
          next_is pages front rest page number new among (sym (number_behind 0 front rest page new) ∙ here) low are
    ]

-- pages that are used stay in front of the others
pub record Grows (front more : List Page) : Type 0 where
  pub rest : List Page
  pub are : more ≡ front ++ rest

page_grows : (front : List Page) (page : Page) → Grows front (with_page front page)
page_grows front page = elim (cases_Bool (has_page front page)) [
  | inl has ↦ record { rest = []; are = with_old front page has ∙ sym (append-nil front) }
  | inr none ↦ record { rest = page ∷ []; are = with_new front page none }
]

pub pages_grow : (front pages : List Page) → Grows front (with_pages front pages)
pages_grow front [] = record { rest = []; are = sym (append-nil front) }
pages_grow front (page ∷ pages) =
    let one = page_grows front page in
    let all = pages_grow (with_page front page) pages in
    record {
      rest = one.rest ++ all.rest;
      are = all.are ∙ ap (λ (ps : List Page). ps ++ all.rest) one.are ∙ append_assoc front one.rest all.rest;
    }

-- a page whose turn is at most now
pub record IsInTurn (pages front : List Page) (page : Page) : Type 0 where
  pub has : has_page pages page ≡ true
  pub low : number_in 0 pages page ≤ length front
  pub used : used_with (length front) (number_in 0 pages page) ≡ length (with_page front page)

pub comes_in_turn : (pages front : List Page) (page : Page) (more : List Page) → pages ≡ with_page front page ++ more
    → IsInTurn pages front page
comes_in_turn pages front page more are = elim (cases_Bool (has_page front page)) [
  | inl old ↦
      let here = are ∙ ap (λ (ps : List Page). ps ++ more) (with_old front page old) in
      let under : number_in 0 pages page < 0 + length front =
      subst (λ ps. number_in 0 ps page < 0 + length front) (sym here) (number_front 0 front more page old) in
      let below : number_in 0 pages page < length front = omega (arith, under) in
      record {
        has = ap (λ (ps : List Page). has_page ps page) here ∙ rw (has_both front more page, old) refl;
        low = omega (arith, below);
        used = used_old (length front) (number_in 0 pages page) below ∙ ap length (sym (with_old front page old));
      }
  | inr new ↦
      let here = are ∙ ap (λ (ps : List Page). ps ++ more) (with_new front page new) ∙ append_assoc front (page ∷ []) more in
      let first : number_in (0 + length front) (page ∷ more) page ≡ 0 + length front = rw (are_bytes page page refl) refl in
      let none : 0 + length front ≡ length front = omega arith in
      let is : number_in 0 pages page ≡ length front =
      ap (λ (ps : List Page). number_in 0 ps page) here ∙ number_behind 0 front (page ∷ more) page new ∙ first ∙ none in
      record {
        has = ap (λ (ps : List Page). has_page ps page) here ∙ has_last front page more;
        low = omega (arith, is);
        used = used_new (length front) (number_in 0 pages page) is ∙ sym (one_longer front page) ∙ ap length (sym (with_new front page new));
      }
]

-- NUMBERS OF SEVERAL PAGES

abbrev pub all_in_turn : List Page → (used : ℕ) → Filled (List Page)
all_in_turn pages used = record { read = pages; used = used; in_turn = true }

-- the numbers of pages are read
pub names_back : (digits : ℕ) (pages front more : List Page) (used least : ℕ) (named : List Page) → used ≡ length front
    → pages ≡ with_pages front named ++ more → Climb digits least named
    → pages_named digits pages used least (map (page_name pages) named) ≡ Some (all_in_turn named (length (with_pages front named)))
names_back digits pages front more used least [] is are climb = ap (λ n. Some (all_in_turn [] n)) is
names_back digits pages front more used least (page ∷ named) is are climb =
    let grown = pages_grow (with_page front page) named in
    let here : pages ≡ with_page front page ++ (grown.rest ++ more) =
    are ∙ ap (λ (ps : List Page). ps ++ more) grown.are ∙ append_assoc (with_page front page) grown.rest more in
    let turn = comes_in_turn pages front page (grown.rest ++ more) here in
    let number = number_in 0 pages page in
    let next : used_with used number ≡ length (with_page front page) = ap (λ n. used_with n number) is ∙ turn.used in
    let low : nat_le number used ≡ true = le-leb number used (omega (arith, is, turn.low)) in
    let later = names_back digits pages (with_page front page) more (used_with used number) (block_in digits page + 1) named next are climb.1 in
    rw (number_leads 0 pages page turn.has, climb.0, later, low) refl

-- what names say that are numbers in their turn
pub record AreNamed (digits : ℕ) (pages front : List Page) (least : ℕ) (names : List (List ℕ)) (found : Filled (List Page)) : Type 0 where
  pub names_are : map (page_name pages) found.read ≡ names
  pub climb : Climb digits least found.read
  pub have : AllByRecursion (λ page. has_page pages page ≡ true) found.read
  pub rest : List Page
  pub pages_are : pages ≡ with_pages front found.read ++ rest
  pub used : found.used ≡ length (with_pages front found.read)

none_named : (digits : ℕ) (pages front rest : List Page) (used least : ℕ) (found : Filled (List Page)) → used ≡ length front
    → pages ≡ front ++ rest → all_in_turn [] used ≡ found → AreNamed digits pages front least [] found
none_named digits pages front rest used least found is are same = subst (AreNamed digits pages front least []) same (record {
  names_are = refl;
  climb = tt;
  have = tt;
  rest = rest;
  pages_are = are;
  used = is;
})

one_named : (digits : ℕ) (pages front : List Page) (used least : ℕ) (name : List ℕ) (names : List (List ℕ)) (one : ℕ × Page)
    (later found : Filled (List Page)) → IsName 0 pages name one → nat_le least (block_in digits one.1) ≡ true
    → AreNamed digits pages (with_page front one.1) (block_in digits one.1 + 1) names later → before used one later ≡ found
    → AreNamed digits pages front least (name ∷ names) found
one_named digits pages front used least name names one later found is above more same =
    subst (AreNamed digits pages front least (name ∷ names)) same (record {
      names_are = ap₂ (λ (t : List ℕ) (ts : List (List ℕ)). t ∷ ts) (ap name_of is.number_is ∙ sym is.name_is) more.names_are;
      climb = (above, more.climb);
      have = (is.has, more.have);
      rest = more.rest;
      pages_are = more.pages_are;
      used = more.used;
    })

pub names_only : (digits : ℕ) (pages : List Page) → AreApart pages → (front rest : List Page) (used least : ℕ) (names : List (List ℕ))
    (found : Filled (List Page)) → used ≡ length front → pages ≡ front ++ rest
    → pages_named digits pages used least names ≡ Some found → found.in_turn ≡ true → AreNamed digits pages front least names found
names_only digits pages apart front rest used least [] found is are e turn =
    none_named digits pages front rest used least found is are (same_Some (all_in_turn [] used) found e)
names_only digits pages apart front rest used least (name ∷ names) found is are e turn =
    then_only _ (page_at 0 pages name) found e (λ one at_one go.
    let named = leads_back 0 pages name one apart at_one in
    let after = pages_named digits pages (used_with used one.0) (block_in digits one.1 + 1) names in
    elim (cases_Bool (nat_le least (block_in digits one.1))) [
      | inl above ↦ map_only (before used one) after found (rw above at go) (λ later read same.
          let turns = and_parts (nat_le one.0 used) later.in_turn (ap (λ (f : Filled (List Page)). f.in_turn) same ∙ turn) in
          let low : one.0 ≤ length front = omega (arith, is, leb-true one.0 used turns.0) in
          let now = in_turn pages front rest one.1 one.0 are named.has named.number_is low in
          let next : used_with used one.0 ≡ length (with_page front one.1) = ap (λ n. used_with n one.0) is ∙ now.used in
          let more = names_only digits pages apart (with_page front one.1) now.rest (used_with used one.0) (block_in digits one.1 + 1) names later
          next now.pages_are read turns.1 in
          one_named digits pages front used least name names one later found named above more same)
      | inr below ↦ absurd (none-some found (rw below at go))
    ])
