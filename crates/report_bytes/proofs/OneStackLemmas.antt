-- The deepest stack pointer is the same in whatever order items stand, where their stacks grow one way.
use Rattle.std.proofs.Common.{◌≡◌, ℕ, List, [], ◌∷◌, Option, None, Some, refl, sym, ap, ◌∙◌, subst, inl, inr, arith}
use Rattle.std.proofs.lemmas.Bool.{cases_lt}
use Rattle.std.specs.Prelude.{◌⊎◌, Contains, min, max, option_map}
use Rattle.value_set.specs.declared.form.Form.{Form}
use Rattle.call_context.specs.declared.shown.Item.{Item}
use Rattle.call_context.specs.declared.shown.Item.TheVariants.{Instr, Edge, Access, Stack}
use Rattle.call_context.specs.declared.shown.Set.TheVariants.{B, W}
use Rattle.report_bytes.specs.declared.deepest.Deepest.{Deepest}
use Rattle.report_bytes.specs.declared.deepest.Deepest.TheVariants.{Least, Greatest}
use Rattle.report_bytes.specs.Deepest.{deeper, deeper_of, deepest_in, deepest_of, greatest_byte, least_word}
use Rattle.report_bytes.specs.Stacks.{GrowsOneWay, HasNoByteStack, HasNoWordStack}
use Rattle.plain_lemmas.specs.Cases.{same_Some}
use Rattle.plain_lemmas.specs.Members.{in_cons, in_first, in_none, in_rest}

-- A least or a greatest of numbers, where there are any.
module _ (op : ℕ → ℕ → ℕ) (along : (a b c : ℕ) → op (op a b) c ≡ op a (op b c)) (turned : (a b : ℕ) → op a b ≡ op b a) (itself : (a : ℕ) → op a a ≡ a) where
  abbrev met : Option ℕ → Option ℕ → Option ℕ
  met None b = b
  met (Some a) None = Some a
  met (Some a) (Some b) = Some (op a b)

  met_along : (a b c : Option ℕ) → met (met a b) c ≡ met a (met b c)
  met_along None b c = refl
  met_along (Some a) None c = refl
  met_along (Some a) (Some b) None = refl
  met_along (Some a) (Some b) (Some c) = ap Some (along a b c)

  met_turned : (a b : Option ℕ) → met a b ≡ met b a
  met_turned None None = refl
  met_turned None (Some b) = refl
  met_turned (Some a) None = refl
  met_turned (Some a) (Some b) = ap Some (turned a b)

  met_itself : (a : Option ℕ) → met a a ≡ a
  met_itself None = refl
  met_itself (Some a) = ap Some (itself a)

  module _ (number : Item → Option ℕ) where
    abbrev all_met : Option ℕ → List Item → Option ℕ
    all_met so_far [] = so_far
    all_met so_far (item ∷ items) = all_met (met so_far (number item)) items

    -- it is past what was there before, and past each
    past_first : (items : List Item) (so_far : Option ℕ) → met (all_met so_far items) so_far ≡ all_met so_far items
    past_first [] so_far = met_itself so_far
    past_first (item ∷ items) so_far =
        let next = met so_far (number item) in
        let all = all_met next items in
        let before = past_first items next in
        let first : met next so_far ≡ next =
        met_turned next so_far ∙ sym (met_along so_far so_far (number item)) ∙ ap (λ a. met a (number item)) (met_itself so_far) in
        ap (λ a. met a so_far) (sym before) ∙ met_along all next so_far ∙ ap (met all) first ∙ before

    past_each : (items : List Item) (so_far : Option ℕ) (item : Item) → Contains items item
        → met (all_met so_far items) (number item) ≡ all_met so_far items
    past_each [] so_far item there = absurd (in_none item there)
    past_each (first ∷ items) so_far item there =
        let next = met so_far (number first) in
        let all = all_met next items in
        elim (in_cons first items item there) [
          | inl same ↦
              let before = past_first items next in
              let own : met next (number first) ≡ next = met_along so_far (number first) (number first) ∙ ap (met so_far) (met_itself (number first)) in
              subst (λ (i : Item). met all (number i) ≡ all) same
              (ap (λ a. met a (number first)) (sym before) ∙ met_along all next (number first) ∙ ap (met all) own ∙ before)
          | inr behind ↦ past_each items next item behind
        ]

    -- what is past each is past all
    past_all : (items : List Item) (so_far far : Option ℕ) → met far so_far ≡ far
        → ((item : Item) → Contains items item → met far (number item) ≡ far)
        → met far (all_met so_far items) ≡ far
    past_all [] so_far far first each = first
    past_all (item ∷ items) so_far far first each =
        past_all items (met so_far (number item)) far
        (sym (met_along far so_far (number item)) ∙ ap (λ a. met a (number item)) first ∙ each item (in_first item items))
        (λ other there. each other (in_rest item items other there))

    none_past : (far : Option ℕ) → met far None ≡ far
    none_past None = refl
    none_past (Some a) = refl

    one_met : (items others : List Item) → ((item : Item) → Contains items item → Contains others item)
        → ((item : Item) → Contains others item → Contains items item) → all_met None items ≡ all_met None others
    one_met items others are are' =
        let first = all_met None items in
        let second = all_met None others in
        sym (past_all others None first (none_past first) (λ item there. past_each items None item (are' item there)))
        ∙ met_turned first second
        ∙ past_all items None second (none_past second) (λ item there. past_each others None item (are item there))

    -- what is met is past each number, and is one of them
    met_each : (items : List Item) (item : Item) (v : ℕ) → Contains items item → number item ≡ Some v
        → (d : ℕ) × (all_met None items ≡ Some d) × (op d v ≡ d)
    met_each items item v there is =
        let past : met (all_met None items) (Some v) ≡ all_met None items = ap (met (all_met None items)) (sym is) ∙ past_each items None item there in
        by_some v (all_met None items) past
      where
        by_some : (v : ℕ) (all : Option ℕ) → met all (Some v) ≡ all → (d : ℕ) × (all ≡ Some d) × (op d v ≡ d)
        by_some v None e = absurd (cc)
        by_some v (Some d) e = (d, refl, same_Some e)

    module _ (either : (a b : ℕ) → (op a b ≡ a) ⊎ (op a b ≡ b)) where
      of_two : (a b : Option ℕ) (v : ℕ) → met a b ≡ Some v → (a ≡ Some v) ⊎ (b ≡ Some v)
      of_two None b v e = inr e
      of_two (Some a) None v e = inl e
      of_two (Some a) (Some b) v e = elim (either a b) [ inl is ↦ inl (ap Some (sym is) ∙ e) | inr is ↦ inr (ap Some (sym is) ∙ e) ]

      met_from : (items : List Item) (so_far : Option ℕ) (v : ℕ) → all_met so_far items ≡ Some v
          → (so_far ≡ Some v) ⊎ ((item : Item) × Contains items item × (number item ≡ Some v))
      met_from [] so_far v e = inl e
      met_from (item ∷ items) so_far v e = elim (met_from items (met so_far (number item)) v e) [
        | inr found ↦ inr (found.0, in_rest item items found.0 found.1, found.2)
        | inl here ↦ elim (of_two so_far (number item) v here) [
          | inl before ↦ inl before
          | inr own ↦ inr (item, in_first item items, own)
        ]
      ]

    -- the deepest of items that all go this way
    module _ (make : ℕ → Deepest) (meets : (a b : ℕ) → deeper (make a) (make b) ≡ make (op a b)) where
      made : (a b : Option ℕ) → deeper_of (option_map make a) (option_map make b) ≡ option_map make (met a b)
      made None b = refl
      made (Some a) None = refl
      made (Some a) (Some b) = ap Some (meets a b)

      all_made : (items : List Item) (so_far : Option ℕ)
          → ((item : Item) → Contains items item → deepest_in item ≡ option_map make (number item))
          → deepest_of (option_map make so_far) items ≡ option_map make (all_met so_far items)
      all_made [] so_far each = refl
      all_made (item ∷ items) so_far each =
          ap (λ d. deepest_of d items) (ap (deeper_of (option_map make so_far)) (each item (in_first item items)) ∙ made so_far (number item))
          ∙ all_made items (met so_far (number item)) (λ other there. each other (in_rest item items other there))

      -- it is past the number of each item, and is one of them
      deepest_each : (items : List Item) → ((item : Item) → Contains items item → deepest_in item ≡ option_map make (number item))
          → (item : Item) (v : ℕ) → Contains items item → number item ≡ Some v
          → (d : ℕ) × (deepest_of None items ≡ Some (make d)) × (op d v ≡ d)
      deepest_each items each item v there is =
          let found = met_each items item v there is in
          (found.0, all_made items None each ∙ ap (option_map make) found.1, found.2)

      abbrev IsFrom : List Item → Type 0
      IsFrom items = (d : ℕ) × (item : Item) × (deepest_of None items ≡ Some (make d)) × Contains items item × (number item ≡ Some d)

      by_all : ((a b : ℕ) → (op a b ≡ a) ⊎ (op a b ≡ b)) → (items : List Item) (all : Option ℕ) → all_met None items ≡ all
          → deepest_of None items ≡ option_map make (all_met None items) → (deepest_of None items ≡ None) ⊎ IsFrom items
      by_all either items None e is = inl (is ∙ ap (option_map make) e)
      by_all either items (Some d) e is = elim (met_from either items None d e) [
        | inl none ↦ absurd (cc)
        | inr found ↦ inr (d, found.0, is ∙ ap (option_map make) e, found.1, found.2)
      ]

      deepest_from : ((a b : ℕ) → (op a b ≡ a) ⊎ (op a b ≡ b)) → (items : List Item)
          → ((item : Item) → Contains items item → deepest_in item ≡ option_map make (number item))
          → (deepest_of None items ≡ None) ⊎ IsFrom items
      deepest_from either items each = by_all either items (all_met None items) refl (all_made items None each)

      one_made : (items others : List Item) → ((item : Item) → Contains items item → deepest_in item ≡ option_map make (number item))
          → ((item : Item) → Contains items item → Contains others item) → ((item : Item) → Contains others item → Contains items item)
          → deepest_of None items ≡ deepest_of None others
      one_made items others each are are' =
          all_made items None each ∙ ap (option_map make) (one_met items others are are')
          ∙ sym (all_made others None (λ item there. each item (are' item there)))

-- WORDS AND BYTES

abbrev word_in : Item → Option ℕ
word_in (Stack pc (W values)) = least_word values
word_in (Stack pc (B values)) = None
word_in (Instr pc bytes) = None
word_in (Edge origin target) = None
word_in (Access pc space write size at) = None

abbrev byte_in : Item → Option ℕ
byte_in (Stack pc (W values)) = None
byte_in (Stack pc (B values)) = greatest_byte values
byte_in (Instr pc bytes) = None
byte_in (Edge origin target) = None
byte_in (Access pc space write size at) = None

is_word : (items : List Item) → HasNoByteStack items → (item : Item) → Contains items item
    → deepest_in item ≡ option_map Least (word_in item)
is_word items none (Stack pc (W values)) there = refl
is_word items none (Stack pc (B values)) there = absurd (none pc values there)
is_word items none (Instr pc bytes) there = refl
is_word items none (Edge origin target) there = refl
is_word items none (Access pc space write size at) there = refl

is_byte : (items : List Item) → HasNoWordStack items → (item : Item) → Contains items item
    → deepest_in item ≡ option_map Greatest (byte_in item)
is_byte items none (Stack pc (W values)) there = absurd (none pc values there)
is_byte items none (Stack pc (B values)) there = refl
is_byte items none (Instr pc bytes) there = refl
is_byte items none (Edge origin target) there = refl
is_byte items none (Access pc space write size at) there = refl

-- items that are the same have one deepest stack pointer
pub one_deepest : (items others : List Item) → GrowsOneWay items → ((item : Item) → Contains items item → Contains others item)
    → ((item : Item) → Contains others item → Contains items item) → deepest_of None items ≡ deepest_of None others
one_deepest items others (inl words) are are' =
    one_made min (λ a b c. omega arith) (λ a b. omega arith) (λ a. omega arith) word_in Least (λ a b. refl) items others (is_word items words) are are'
one_deepest items others (inr bytes) are are' =
    one_made max (λ a b c. omega arith) (λ a b. omega arith) (λ a. omega arith) byte_in Greatest (λ a b. refl) items others (is_byte items bytes) are are'

-- THE DEEPEST OF ITEMS

-- the deepest is at most each least word, and is one of them where there is any
pub words_each : (items : List Item) → HasNoByteStack items → (pc : ℕ) (values : Form) (v : ℕ) → Contains items (Stack pc (W values))
    → least_word values ≡ Some v → (d : ℕ) × (deepest_of None items ≡ Some (Least d)) × (min d v ≡ d)
words_each items words pc values v there is =
    deepest_each min (λ a b c. omega arith) (λ a b. omega arith) (λ a. omega arith) word_in Least (λ a b. refl) items (is_word items words)
    (Stack pc (W values)) v there is

-- an item shows the number
abbrev pub IsWordOf : List Item → ℕ → Type 0
IsWordOf items d = (pc : ℕ) × (values : Form) × (deepest_of None items ≡ Some (Least d)) × Contains items (Stack pc (W values))
    × (least_word values ≡ Some d)

word_of : (items : List Item) (d : ℕ) (item : Item) → deepest_of None items ≡ Some (Least d) → Contains items item → word_in item ≡ Some d
    → IsWordOf items d
word_of items d (Stack pc (W values)) is there e = (pc, values, is, there, e)
word_of items d (Stack pc (B values)) is there e = absurd (cc)
word_of items d (Instr pc bytes) is there e = absurd (cc)
word_of items d (Edge origin target) is there e = absurd (cc)
word_of items d (Access pc space write size at) is there e = absurd (cc)

pub words_from : (items : List Item) → HasNoByteStack items → (deepest_of None items ≡ None) ⊎ ((d : ℕ) × IsWordOf items d)
words_from items words =
    elim (deepest_from min (λ a b c. omega arith) (λ a b. omega arith) (λ a. omega arith) word_in Least (λ a b. refl)
    (λ a b. elim (cases_lt a b) [ inl below ↦ inl (omega arith) | inr past ↦ inr (omega arith) ]) items (is_word items words)) [
      | inl none ↦ inl none
      | inr found ↦ inr (found.0, word_of items found.0 found.1 found.2 found.3 found.4)
    ]

-- the deepest is at least each greatest byte, and is one of them where there is any
pub bytes_each : (items : List Item) → HasNoWordStack items → (pc : ℕ) (values : Form) (v : ℕ) → Contains items (Stack pc (B values))
    → greatest_byte values ≡ Some v → (d : ℕ) × (deepest_of None items ≡ Some (Greatest d)) × (max d v ≡ d)
bytes_each items bytes pc values v there is =
    deepest_each max (λ a b c. omega arith) (λ a b. omega arith) (λ a. omega arith) byte_in Greatest (λ a b. refl) items (is_byte items bytes)
    (Stack pc (B values)) v there is

abbrev pub IsByteOf : List Item → ℕ → Type 0
IsByteOf items d = (pc : ℕ) × (values : Form) × (deepest_of None items ≡ Some (Greatest d)) × Contains items (Stack pc (B values))
    × (greatest_byte values ≡ Some d)

byte_of : (items : List Item) (d : ℕ) (item : Item) → deepest_of None items ≡ Some (Greatest d) → Contains items item → byte_in item ≡ Some d
    → IsByteOf items d
byte_of items d (Stack pc (W values)) is there e = absurd (cc)
byte_of items d (Stack pc (B values)) is there e = (pc, values, is, there, e)
byte_of items d (Instr pc bytes) is there e = absurd (cc)
byte_of items d (Edge origin target) is there e = absurd (cc)
byte_of items d (Access pc space write size at) is there e = absurd (cc)

pub bytes_from : (items : List Item) → HasNoWordStack items → (deepest_of None items ≡ None) ⊎ ((d : ℕ) × IsByteOf items d)
bytes_from items bytes =
    elim (deepest_from max (λ a b c. omega arith) (λ a b. omega arith) (λ a. omega arith) byte_in Greatest (λ a b. refl)
    (λ a b. elim (cases_lt a b) [ inl below ↦ inr (omega arith) | inr past ↦ inl (omega arith) ]) items (is_byte items bytes)) [
      | inl none ↦ inl none
      | inr found ↦ inr (found.0, byte_of items found.0 found.1 found.2 found.3 found.4)
    ]
