-- The least of the items that break an assertion, and what holds where none does.
use Rattle.std.proofs.Common.{◌≡◌, ◌≢◌, ◌++◌, ◌≤◌, ℕ, List, [], ◌∷◌, Bool, true, false, Option, None}
use Rattle.std.proofs.Common.{Some, refl, ap, sym, ◌∙◌, subst, inl, inr, drop, length, append-nil, cond}
use Rattle.std.specs.Prelude.{Contains, filter, fold}
use Rattle.std.specs.List.{flat_map}
use Rattle.std.specs.Ordering.{is_lt, nat_cmp}
use Rattle.std.specs.Cmp.Lexicographic.{slice_cmp}
use Rattle.std.proofs.lemmas.Bool.{cases_Bool}
use Rattle.std.proofs.lemmas.List.Elements.{Contains-append_left, Contains-append_right}
use Rattle.std.proofs.Math.ListN.{drop_of_length-le}
use Rattle.call_context.specs.Showing.{HasValue, Shows}
use Rattle.call_context.specs.declared.shown.Item.{Item}
use Rattle.call_context.specs.declared.shown.Item.TheVariants as sets
use Rattle.call_context.specs.declared.shown.Set.{Set}
use Rattle.call_context.specs.declared.shown.Set.TheVariants.{B, W}
use Rattle.chip_law.specs.Machine.{Machine}
use Rattle.chip_analysis.specs.declared.chip.Work.{Work}
use Rattle.chip_numbers.specs.Single.{Single}
use Rattle.chip_numbers.specs.Single.Single.{Instr, Edge, Access, Stack}
use Rattle.closing_law.specs.Covered.{AreCovering}
use Rattle.assert_check.specs.declared.assertion.Assertion.{Assertion}
use Rattle.assert_check.specs.declared.deciding.Broken.{Broken}
use Rattle.assert_check.specs.Holding.{Holds, HoldsBut}
use Rattle.assert_check.specs.Assertions.{breaks, breaks_item, broken_by, broken_of, least_of, lesser, numbers_in, singles_of}
use Rattle.plain_lemmas.specs.AnyOf.{none_passes}
use Rattle.plain_lemmas.specs.Members.{in_cons, in_filter, in_first, in_flat_map, in_map, in_none}

-- behind the whole list nothing is left to tell
pub all_told : (line_of : Item → List ℕ) (list : List (ℕ × Assertion)) (items : List Item) (told all : List Broken) (n : ℕ)
    → length list ≤ n
    → told ++ broken_of line_of (drop n list) items ≡ all → told ≡ all
all_told line_of list items told all n past e =
    sym (append-nil told) ∙ ap (λ left. told ++ broken_of line_of left items) (sym (drop_of_length-le list past)) ∙ e

-- WHAT ISN'T NAMED HOLDS
chosen : (line_of : Item → List ℕ) (test : Bool) (a b : Item) → (c : Item) × ((cond test (Some a) (Some b)) ≡ Some c)
chosen line_of true a b = (a, refl)
chosen line_of false a b = (b, refl)

-- where an item is held, one is so behind others
held_on : (line_of : Item → List ℕ) (items : List Item) (held : Option Item) (item : Item) → held ≡ Some item
    → (least : Item) × (fold (lesser line_of) held items ≡ Some least)
held_on line_of [] held item e = (item, e)
held_on line_of (first ∷ items) held item e =
    let next = chosen line_of (is_lt (slice_cmp nat_cmp (line_of first) (line_of item))) first item in
    held_on line_of items (lesser line_of held first) next.0 (ap (λ h. lesser line_of h first) e ∙ next.1)

least_none : (line_of : Item → List ℕ) (items : List Item) → least_of line_of items ≡ None → items ≡ []
least_none line_of [] e = refl
least_none line_of (first ∷ items) e = let least = held_on line_of items (Some first) first refl in
    let bad : Some least.0 ≡ None = sym least.1 ∙ e in absurd (cc bad)

-- what is told of an assertion that some item breaks
told_of : (line : ℕ) (least : Option Item) → least ≢ None → (b : Broken) × Contains (broken_by line least) b × (b.line ≡ line)
told_of line None some = absurd (some refl)
told_of line (Some item) some = (record { line = line; item = item }, in_first (record { line = line; item = item }) [], refl)

-- an assertion that an item breaks is named
named : (line_of : Item → List ℕ) (list : List (ℕ × Assertion)) (items : List Item) (a : ℕ × Assertion) (item : Item)
    → Contains list a → Contains items item → breaks_item a.1 item ≡ true
    → (b : Broken) × Contains (broken_of line_of list items) b × (b.line ≡ a.0)
named line_of [] items a item there h is = absurd (in_none a there)
named line_of (first ∷ list) items a item there h is =
    let least = least_of line_of (filter (breaks_item first.1) items) in
    let here = broken_by first.0 least in
    let later = broken_of line_of list items in
    elim (in_cons first list a there) [
      | inl same ↦
          let broken : breaks_item first.1 item ≡ true = ap (λ (b : ℕ × Assertion). breaks_item b.1 item) same ∙ is in
          let among = in_filter (breaks_item first.1) items item h broken in
          let found = told_of first.0 least (λ none. in_none item (subst (λ l. Contains l item) (least_none line_of _ none) among)) in
          (found.0, Contains-append_left here later found.0 found.1, found.2 ∙ ap (λ (b : ℕ × Assertion). b.0) same)
      | inr rest ↦ let found = named line_of list items a item rest h is in
          (found.0, Contains-append_right here later found.0 found.1, found.2)
    ]

-- what an item shows is among its numbers
number_of_set : (set : Set) (v : ℕ) → HasValue set v → Contains (numbers_in set) v
number_of_set (B values) v h = h
number_of_set (W values) v h = h

shown : (item : Item) (single : Single) → Shows item single → Contains (singles_of item) single
shown (sets.Instr pc bytes) (Instr at these) h = rw (h.0, h.1) (in_first (Instr pc bytes) [])
shown (sets.Edge origin target) (Edge o t) h = rw (h.0, h.1) (in_first (Edge origin target) [])
shown (sets.Access pc space write size set) (Access at kind writes bytes address) h =
    rw (h.0, h.1, h.2, h.3) (in_map (Access pc space write size) (numbers_in set) address (number_of_set set address h.4))
shown (sets.Stack pc set) (Stack at sp) h = rw h.0 (in_map (Stack pc) (numbers_in set) sp (number_of_set set sp h.1))
shown (sets.Instr pc bytes) other h = absurd h
shown (sets.Edge origin target) other h = absurd h
shown (sets.Access pc space write size set) other h = absurd h
shown (sets.Stack pc set) other h = absurd h

abbrev pub items_of : {A : Type 0} → Work A → List Item
items_of work = work.items

-- where the works show what runs meet, each assertion that isn't named as one that their items break holds
pub holds_but : {S A : Type 0} (machine : Machine S) (works : List (Work A)) → AreCovering machine works → (line_of : Item → List ℕ)
    (list : List (ℕ × Assertion)) → HoldsBut machine list (broken_of line_of list (flat_map items_of works))
holds_but machine works covering line_of list = record {
  unbroken = λ n line assertion single there unnamed met.
      let met_in = covering.shows n single met in
      let item = met_in.2 in
      elim (cases_Bool (breaks_item assertion item.0)) [
        | inl is ↦
            let found = named line_of list (flat_map items_of works) (line, assertion) item.0 there
            (in_flat_map items_of works met_in.0 item.0 met_in.1 item.1) is in
            absurd (unnamed found.0 found.1 found.2)
        | inr isnt ↦ none_passes (breaks assertion) (singles_of item.0) isnt single (shown item.0 single item.2)
      ];
  stays = covering.stays;
}

-- where none is named, the whole list holds
pub holds_all : {S : Type 0} (machine : Machine S) (list : List (ℕ × Assertion)) (broken : List Broken) → HoldsBut machine list broken
    → broken ≡ [] → Holds machine list
holds_all machine list broken but none = record {
  unbroken = λ n line assertion single there met.
      but.unbroken n line assertion single there (λ b is same. in_none b (subst (λ l. Contains l b) none is)) met;
  stays = but.stays;
}
