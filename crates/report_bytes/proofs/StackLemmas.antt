-- The `T` line of a report is that of its `S` lines.
use Rattle.std.proofs.Common.{◌≡◌, ℕ, ◌≤◌, ◌==◌, Bool, true, false, List, [], ◌++◌, Option, None, Some, refl, sym, ap, subst, ◌∙◌, inl, inr, arith}
use Rattle.std.specs.Prelude.{◌&&◌, Contains, IfSome, codes, map, min, max, if◌then◌else◌}
use Rattle.std.specs.List.{flat_map}
use Rattle.std.proofs.lemmas.Bool.{cases_Bool, cases_lt, eqb-true}
use Rattle.std.proofs.lemmas.List.Elements.{Contains-append_cases, Contains-append_left}
use Rattle.call_context.specs.declared.shown.Item.{Item}
use Rattle.call_context.specs.declared.shown.Item.TheVariants.{Instr, Edge, Access, Stack}
use Rattle.call_context.specs.declared.shown.Set.{Set}
use Rattle.call_context.specs.declared.shown.Set.TheVariants.{B, W}
use Rattle.chip_analysis.specs.declared.cause.Cause.{Cause}
use Rattle.chip_analysis.specs.declared.cause.Cause.TheVariants.{Fetch, Targets, Store}
use Rattle.chip_analysis.specs.declared.chip.Work.{Work}
use Rattle.hex_digits.specs.Digits.{hex, short_hex}
use Rattle.item_lines.specs.Line.{item_line_of}
use Rattle.value_set.specs.declared.form.Form.{Form}
use Rattle.value_set.specs.declared.form.Form.TheVariants.{Values, Run}
use Rattle.value_set.specs.Form.{Has, members}
use Rattle.report_bytes.specs.declared.deepest.Deepest.{Deepest}
use Rattle.report_bytes.specs.Deepest.{deepest_of, greatest_byte, has_all_bytes, has_all_words, is_whole, extreme_of, least_word}
use Rattle.report_bytes.specs.Opens.{open_line_of}
use Rattle.report_bytes.specs.Report.{begins_with, is_whole_stack, items_of, lines_of, report_of, reported_lines}
use Rattle.report_bytes.specs.StackLines.{HasDeepest, IsNoDeeper, IsTold, TellsStacks, stack_line}
use Rattle.report_bytes.specs.Stacks.{GrowsOneWay, HasNoByteStack, HasNoWordStack}
use Rattle.report_bytes.proofs.DeepestLemmas.{Stays, extreme_from, extreme_past}
use Rattle.report_bytes.proofs.OneStackLemmas.{bytes_each, bytes_from, words_each, words_from}
use Rattle.report_bytes.proofs.SetLemmas.{in_with_lines}
use Rattle.report_bytes.proofs.ShownLemmas.{in_with_lines_new}
use Rattle.plain_lemmas.specs.Cases.{both}
use Rattle.plain_lemmas.specs.Members.{from_flat_map, from_map, in_flat_map, in_map, in_none}

pub less : Stays min (λ a b. a ≤ b)
less = record {
  first = λ a b. omega arith;
  second = λ a b. omega arith;
  either = λ a b. elim (cases_lt a b) [ inl below ↦ inl (omega arith) | inr past ↦ inr (omega arith) ];
  along = λ a b c h k. omega arith;
  itself = λ a. omega arith;
  one = λ a b h k. omega arith;
}

pub more : Stays max (λ a b. b ≤ a)
more = record {
  first = λ a b. omega arith;
  second = λ a b. omega arith;
  either = λ a b. elim (cases_lt a b) [ inl below ↦ inr (omega arith) | inr past ↦ inl (omega arith) ];
  along = λ a b c h k. omega arith;
  itself = λ a. omega arith;
  one = λ a b h k. omega arith;
}

-- SETS THAT ARE WHOLE

-- the line of a run of words
abbrev is_counted : (pc base stride count : ℕ) → (all : Bool) → Bool
is_counted pc base stride count all = is_whole_stack
    (codes "S " ++ hex 4 pc ++ codes " " ++ (if all then codes "*" else hex 4 base ++ codes "/" ++ short_hex stride ++ codes "/" ++ short_hex count))

even_words : (pc : ℕ) → is_counted pc 0 2 32768 false ≡ true
unfolding short_hex
even_words pc = refl

words_line : (pc : ℕ) (values : Form) → has_all_words values ≡ true → is_whole_stack (stack_line pc (W values)) ≡ true
words_line pc (Values xs) h = absurd (cc)
words_line pc (Run run) h = elim (cases_Bool (run.count == 65536)) [
  | inl all ↦ ap (is_counted pc run.base run.stride run.count) all
  | inr some ↦
      let (others, base) = both ((run.count == 32768) && (run.stride == 2)) (run.base == 0) (rw some at h) in
      let (count, stride) = both (run.count == 32768) (run.stride == 2) others in
      ap (is_counted pc run.base run.stride run.count) some
      ∙ ap (λ n. is_counted pc run.base run.stride n false) (eqb-true run.count 32768 count)
      ∙ ap (λ n. is_counted pc run.base n 32768 false) (eqb-true run.stride 2 stride)
      ∙ ap (λ n. is_counted pc n 2 32768 false) (eqb-true run.base 0 base)
      ∙ even_words pc
]

bytes_line : (pc : ℕ) (values : Form) → has_all_bytes values ≡ true → is_whole_stack (stack_line pc (B values)) ≡ true
bytes_line pc (Values xs) h = absurd (cc)
bytes_line pc (Run run) h = ap (λ b. is_whole_stack (codes "S " ++ hex 4 pc ++ codes " "
    ++ (if b then codes "*" else hex 2 run.base ++ codes "/" ++ short_hex run.stride ++ codes "/" ++ short_hex run.count))) h

-- OTHER SETS

words_left : (values : Form) → has_all_words values ≡ false → least_word values ≡ extreme_of min (members 65536 values)
words_left values some = ap (λ b. if b then None else extreme_of min (members 65536 values)) some

bytes_left : (values : Form) → has_all_bytes values ≡ false → greatest_byte values ≡ extreme_of max (members 256 values)
bytes_left values some = ap (λ b. if b then None else extreme_of max (members 256 values)) some

words_told : (items : List Item) → HasNoByteStack items → (pc : ℕ) (values : Form) → Contains items (Stack pc (W values))
    → IsTold (deepest_of None items) pc (W values)
words_told items words pc values there = elim (cases_Bool (has_all_words values)) [
  | inl whole ↦ inl (record { whole = whole; counted = words_line pc values whole })
  | inr some ↦ inr (λ sp has.
      let (least, is, below) = extreme_past min (λ a b. a ≤ b) less (members 65536 values) sp has in
      let (d, deepest, past) = words_each items words pc values least there (words_left values some ∙ is) in
      subst (λ o. IsNoDeeper o sp) (sym deepest) (omega (arith, below, past)))
]

bytes_told : (items : List Item) → HasNoWordStack items → (pc : ℕ) (values : Form) → Contains items (Stack pc (B values))
    → IsTold (deepest_of None items) pc (B values)
bytes_told items bytes pc values there = elim (cases_Bool (has_all_bytes values)) [
  | inl whole ↦ inl (record { whole = whole; counted = bytes_line pc values whole })
  | inr some ↦ inr (λ sp has.
      let (greatest, is, above) = extreme_past max (λ a b. b ≤ a) more (members 256 values) sp has in
      let (d, deepest, past) = bytes_each items bytes pc values greatest there (bytes_left values some ∙ is) in
      subst (λ o. IsNoDeeper o sp) (sym deepest) (omega (arith, above, past)))
]

stack_told : (items : List Item) → GrowsOneWay items → (pc : ℕ) (set : Set) → Contains items (Stack pc set)
    → IsTold (deepest_of None items) pc set
stack_told items (inl words) pc (W values) there = words_told items words pc values there
stack_told items (inl words) pc (B values) there = absurd (words pc values there)
stack_told items (inr bytes) pc (W values) there = absurd (bytes pc values there)
stack_told items (inr bytes) pc (B values) there = bytes_told items bytes pc values there

-- WHAT IS NAMED

word_left : (values : Form) (d : ℕ) → least_word values ≡ Some d → (has_all_words values ≡ false) × Has 65536 values d
word_left values d e = elim (cases_Bool (has_all_words values)) [
  | inl whole ↦ let none : least_word values ≡ None = ap (λ b. if b then None else extreme_of min (members 65536 values)) whole in absurd (cc)
  | inr some ↦ (some, extreme_from min (λ a b. a ≤ b) less (members 65536 values) d (sym (words_left values some) ∙ e))
]

byte_left : (values : Form) (d : ℕ) → greatest_byte values ≡ Some d → (has_all_bytes values ≡ false) × Has 256 values d
byte_left values d e = elim (cases_Bool (has_all_bytes values)) [
  | inl whole ↦ let none : greatest_byte values ≡ None = ap (λ b. if b then None else extreme_of max (members 256 values)) whole in absurd (cc)
  | inr some ↦ (some, extreme_from max (λ a b. b ≤ a) more (members 256 values) d (sym (bytes_left values some) ∙ e))
]

-- an item shows the number that is named
abbrev IsShownBy : List Item → Deepest → Type 0
IsShownBy items d = (pc : ℕ) × (set : Set) × Contains items (Stack pc set) × (is_whole set ≡ false) × HasDeepest set d

named_by : (items : List Item) → GrowsOneWay items → IfSome (deepest_of None items) (IsShownBy items)
named_by items (inl words) = elim (words_from items words) [
  | inl none ↦ subst (λ o. IfSome o (IsShownBy items)) (sym none) tt
  | inr found ↦
      let (d, word) = found in
      let (pc, values, is, there, least) = word in
      let (some, has) = word_left values d least in
      subst (λ o. IfSome o (IsShownBy items)) (sym is) (pc, W values, there, some, has)
]
named_by items (inr bytes) = elim (bytes_from items bytes) [
  | inl none ↦ subst (λ o. IfSome o (IsShownBy items)) (sym none) tt
  | inr found ↦
      let (d, byte) = found in
      let (pc, values, is, there, greatest) = byte in
      let (some, has) = byte_left values d greatest in
      subst (λ o. IfSome o (IsShownBy items)) (sym is) (pc, B values, there, some, has)
]

-- LINES

module _ {A : Type 0} (text : ℕ → List ℕ → List ℕ) (works : List (Work A)) where
  line_there : (pc : ℕ) (set : Set) → Contains (items_of works) (Stack pc set) → Contains (reported_lines text works) (stack_line pc set)
  line_there pc set there =
      let line = stack_line pc set in
      let (work, is_work, is_item) = from_flat_map (λ (w : Work A). w.items) works (Stack pc set) there in
      in_with_lines_new (flat_map (lines_of text) works) [] line
      (in_flat_map (lines_of text) works work line is_work
      (Contains-append_left (map (item_line_of text) work.items) (map (λ o. open_line_of o.0 o.1) work.opens) line
      (in_map (item_line_of text) work.items (Stack pc set) is_item)))

  -- an S line is that of an item
  abbrev IsStackLine : List ℕ → Type 0
  IsStackLine line = (pc : ℕ) × (set : Set) × (line ≡ stack_line pc set) × Contains (items_of works) (Stack pc set)

  of_item : (line : List ℕ) (item : Item) → item_line_of text item ≡ line → begins_with 83 line ≡ true → Contains (items_of works) item
      → IsStackLine line
  of_item line (Stack pc set) is begins there = (pc, set, sym is, there)
  of_item line (Instr pc bytes) is begins there = let no : false ≡ true = ap (begins_with 83) is ∙ begins in absurd (cc)
  of_item line (Edge origin target) is begins there = let no : false ≡ true = ap (begins_with 83) is ∙ begins in absurd (cc)
  of_item line (Access pc space write size at) is begins there = let no : false ≡ true = ap (begins_with 83) is ∙ begins in absurd (cc)

  of_open : (line : List ℕ) (pc : ℕ) (cause : Cause) → open_line_of pc cause ≡ line → begins_with 83 line ≡ true → IsStackLine line
  of_open line pc Fetch is begins = let no : false ≡ true = ap (begins_with 83) is ∙ begins in absurd (cc)
  of_open line pc (Targets values) is begins = let no : false ≡ true = ap (begins_with 83) is ∙ begins in absurd (cc)
  of_open line pc (Store values) is begins = let no : false ≡ true = ap (begins_with 83) is ∙ begins in absurd (cc)

  of_line : (line : List ℕ) → Contains (reported_lines text works) line → begins_with 83 line ≡ true → IsStackLine line
  of_line line there begins = elim (in_with_lines (flat_map (lines_of text) works) [] line there) [
    | inl none ↦ absurd (in_none line none)
    | inr put ↦
        let (work, is_work, is_line) = from_flat_map (lines_of text) works line put in
        elim (Contains-append_cases (map (item_line_of text) work.items) (map (λ o. open_line_of o.0 o.1) work.opens) line is_line) [
          | inl of ↦ let (item, is_item, is) = from_map (item_line_of text) work.items line of in
              of_item line item is begins (in_flat_map (λ (w : Work A). w.items) works work item is_work is_item)
          | inr of ↦ let (site, is_site, is) = from_map (λ (o : ℕ × Cause). open_line_of o.0 o.1) work.opens line of in
              of_open line site.0 site.1 is begins
        ]
  ]

  pub tells_stacks : GrowsOneWay (items_of works) → TellsStacks works (report_of text true works)
  tells_stacks one_way =
      let items = items_of works in
      let lines = reported_lines text works in
      record {
        lines = lines;
        deepest = deepest_of None items;
        text = refl;
        given = record {
          named = if_some_more (deepest_of None items) (named_by items one_way);
          told = λ line there begins. let (pc, set, is, shown) = of_line line there begins in (pc, set, is, stack_told items one_way pc set shown);
        };
        shown = λ pc set there. (line_there pc set there, stack_told items one_way pc set there);
      }
    where
      if_some_more : (o : Option Deepest) → IfSome o (IsShownBy (items_of works))
          → IfSome o (λ d. (pc : ℕ) × (set : Set) × Contains (reported_lines text works) (stack_line pc set) × (is_whole set ≡ false) × HasDeepest set d)
      if_some_more None h = tt
      if_some_more (Some d) h = let (pc, set, there, some, has) = h in (pc, set, line_there pc set there, some, has)
