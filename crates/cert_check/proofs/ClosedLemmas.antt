-- A table without a refusal is closed, and its units with their works are a closed book's.
use Rattle.std.proofs.Common.{◌≡◌, ℕ, ◌+◌, refl, sym, ap, ap₂, ◌∙◌, subst, Bool, true, false, inl, inr, Option, None, Some, List, [], ◌∷◌, ◌++◌, map}
use Rattle.std.specs.Prelude.{◌↔◌, if◌then◌else◌, Contains, option_map}
use Rattle.std.specs.List.{AllByRecursion, IsDistinct, flat_map, list_any}
use Rattle.std.specs.Map.{keys_of}
use Rattle.std.proofs.lemmas.Bool.{cases_Bool, true≢false, false≢true}
use Rattle.std.proofs.lemmas.List.Elements.{All-contains, All-contains_itself, All-from_recursion, recursion_from_All}
use Rattle.std.proofs.lemmas.Map.Views.{Contains-from_lookup, lookup-from_Contains}
use Rattle.std.proofs.lemmas.Option.{none-some}
use Rattle.call_context.specs.declared.node.Frame.{Frame}
use Rattle.call_context.specs.declared.node.Node.{Node}
use Rattle.call_context.specs.declared.node.Node.TheVariants.{At, Exit}
use Rattle.call_context.specs.declared.node.Unit.{Unit as WorkUnit}
use Rattle.call_context.specs.declared.node.Unit.TheVariants.{One, Back}
use Rattle.chip_analysis.specs.declared.chip.Work.{Work}
use Rattle.chip_analysis.specs.Analysis.{Analysis, AreFormed}
use Rattle.chip_analysis.specs.Table.{IsClosedTable, IsFormedTable, IsUnitOver}
use Rattle.closed_book.specs.ClosedBook.{IsClosedBook, IsUnitWithWork, table_in}
use Rattle.book_rules.specs.Same.{same_frame, same_node, same_unit}
use Rattle.node_fields.specs.declared.outside.Outside.{Outside}
use Rattle.state_text.specs.Texts.{StateTexts}
use Rattle.cert_check.proofs.TableLemmas.{flips_from}
use Rattle.cert_check.specs.declared.refusal.Refusal.TheVariants.{NotIn}
use Rattle.cert_check.specs.Known.{Known}
use Rattle.cert_check.specs.Refusal.{exits_in, first_of, held_refusal, Input, Open, open_refusal, or_else, post_refusal, refusal_of, return_from, rows_refusal, start_refusal, unit_refusal, units_of, work_refusal, worked, works_in}
use Rattle.plain_lemmas.specs.Members.{in_cons, in_first, in_flat_map, in_map, in_none, in_rest}

-- ALL OF A LIST

all_append : {X : Type 0} (P : X → Type 0) (xs ys : List X) → AllByRecursion P xs → AllByRecursion P ys → AllByRecursion P (xs ++ ys)
all_append P [] ys a b = b
all_append P (x ∷ xs) ys a b = (a.0, all_append P xs ys a.1 b)

all_mapped : {X Y : Type 0} (P : Y → Type 0) (f : X → Y) (xs : List X) → AllByRecursion (λ x. P (f x)) xs → AllByRecursion P (map f xs)
all_mapped P f [] a = tt
all_mapped P f (x ∷ xs) a = (a.0, all_mapped P f xs a.1)

all_flat : {X Y : Type 0} (P : Y → Type 0) (f : X → List Y) (xs : List X)
    → AllByRecursion (λ x. AllByRecursion P (f x)) xs → AllByRecursion P (flat_map f xs)
all_flat P f [] a = tt
all_flat P f (x ∷ xs) a = all_append P (f x) (flat_map f xs) a.0 (all_flat P f xs a.1)

pub all_weaker : {X : Type 0} (P Q : X → Type 0) → ((x : X) → P x → Q x) → (xs : List X) → AllByRecursion P xs → AllByRecursion Q xs
all_weaker P Q f [] a = tt
all_weaker P Q f (x ∷ xs) a = (f x a.0, all_weaker P Q f xs a.1)

member_of : {X : Type 0} (P : X → Type 0) (xs : List X) (x : X) → AllByRecursion P xs → Contains xs x → P x
member_of P xs x a c = All-contains P xs x (All-from_recursion P xs a) c

-- NO REFUSAL

neither : {R : Type 0} (first second : Option R) → or_else first second ≡ None → (first ≡ None) × (second ≡ None)
neither None second e = (refl, e)
neither (Some r) second e = absurd (none-some r (sym e))

first_none : {X R : Type 0} (f : X → Option R) (xs : List X) → first_of f xs ≡ None → AllByRecursion (λ x. f x ≡ None) xs
first_none f [] e = tt
first_none f (x ∷ xs) e = let parts = neither (f x) (first_of f xs) e in (parts.0, first_none f xs parts.1)

all_none : {X R : Type 0} (f : X → Option R) (xs : List X) → AllByRecursion (λ x. f x ≡ None) xs → first_of f xs ≡ None
all_none f [] all = refl
all_none f (x ∷ xs) all = ap₂ or_else all.0 (all_none f xs all.1)

no_open_from : (line : ℕ) (opens : List Open) → open_refusal line opens ≡ None → opens ≡ []
no_open_from line [] e = refl
no_open_from line (site ∷ opens) e = absurd (none-some _ (sym e))

map_none : {X Y : Type 0} (f : X → Y) (o : Option X) → option_map f o ≡ None → o ≡ None
map_none f None e = refl
map_none f (Some x) e = absurd (none-some (f x) (sym e))

-- a table that doesn't refuse a state holds it
held_from : {A : Type 0} (outside : A → A → Option Outside) (line : ℕ) (node : Node) (state : A) (held : Option A)
    → held_refusal outside line node state held ≡ None
    → (x : A) × (held ≡ Some x) × (outside state x ≡ None)
held_from outside line node state None e = absurd (none-some _ (sym e))
held_from outside line node state (Some x) e = (x, refl, map_none (NotIn line node) (outside state x) e)

started_from : {A : Type 0} (outside : A → A → Option Outside) (node : Node) (state : A) (held : Option A)
    → start_refusal outside node state held ≡ None
    → (x : A) × (held ≡ Some x) × (outside state x ≡ None)
started_from outside node state None e = absurd (none-some _ (sym e))
started_from outside node state (Some x) e = (x, refl, map_none (NotIn 0 node) (outside state x) e)

pub no_refusal : {A : Type 0} (a : Analysis A) (outside : A → A → Option Outside) (rows : List (Node × A)) (first : ℕ)
    → start_refusal outside a.first_node a.first_state (table_in rows a.first_node) ≡ None → rows_refusal a outside rows first rows ≡ None
    → refusal_of a outside rows first ≡ None
no_refusal a outside rows first start rest = ap₂ or_else start rest

-- FRAMES THAT ARE WAITED FOR

module _ (frames : (f g : Frame) → (same_frame f g ≡ true) ↔ (f ≡ g)) where
  waits_from : (waits : List Frame) (frame : Frame) → list_any (same_frame frame) waits ≡ true → Contains waits frame
  waits_from [] frame e = absurd (false≢true e)
  waits_from (w ∷ waits) frame e = elim (cases_Bool (same_frame frame w)) [
    | inl is ↦ subst (λ f. Contains (f ∷ waits) frame) ((frames frame w).0 is) (in_first frame waits)
    | inr other ↦ in_rest w waits frame (waits_from waits frame (rw other at e))
  ]

  waits_at : (waits : List Frame) (frame : Frame) → Contains waits frame → list_any (same_frame frame) waits ≡ true
  waits_at [] frame c = absurd (in_none frame c)
  waits_at (w ∷ waits) frame c = elim (in_cons w waits frame c) [
    | inl same ↦ rw ((frames frame w).1 (sym same)) refl
    | inr behind ↦ (elim (cases_Bool (same_frame frame w)) [
      | inl is ↦ rw is refl
      | inr other ↦ rw other (waits_at waits frame behind)
    ])
  ]

-- EXITS

at_isnt_exit : {A : Type 0} (pc pc' : ℕ) (calls : List ℕ) (frame frame' : Frame) (state left : A)
    → ◌≡◌ {A = Node × A} (At pc' calls frame', state) (Exit pc frame, left) → ⊥
at_isnt_exit {A} pc pc' calls frame frame' state left same = let e : At pc' calls frame' ≡ Exit pc frame = ap (λ (row : Node × A). row.0) same in cc

exit_is_in : {A : Type 0} (rows : List (Node × A)) (pc : ℕ) (frame : Frame) (left : A) → Contains rows (Exit pc frame, left)
    → Contains (exits_in rows) (Exit pc frame, left)
exit_is_in [] pc frame left c = c
exit_is_in ((At pc' calls frame', state) ∷ rows) pc frame left c = elim (in_cons (At pc' calls frame', state) rows (Exit pc frame, left) c) [
  | inl same ↦ absurd (at_isnt_exit pc pc' calls frame frame' state left same)
  | inr behind ↦ exit_is_in rows pc frame left behind
]
exit_is_in ((Exit pc' frame', state) ∷ rows) pc frame left c = c

exits_all : {A : Type 0} (P : Node × A → Type 0) (rows : List (Node × A)) → AllByRecursion P rows → AllByRecursion P (exits_in rows)
exits_all P [] all = tt
exits_all P ((At pc calls frame, state) ∷ rows) all = exits_all P rows all.1
exits_all P ((Exit pc frame, state) ∷ rows) all = all

exits_distinct : {A : Type 0} (rows : List (Node × A)) → IsDistinct same_node (keys_of rows)
    → IsDistinct same_node (keys_of (exits_in rows))
unfolding IsDistinct
exits_distinct [] distinct = tt
exits_distinct ((At pc calls frame, state) ∷ rows) distinct = exits_distinct rows distinct.1
exits_distinct ((Exit pc frame, state) ∷ rows) distinct = distinct

-- UNITS THAT DIFFER

-- no unit is there twice
abbrev AreApart : {A : Type 0} → List (Input A) → Type 0
AreApart [] = Unit {0}
AreApart (x ∷ xs) = AllByRecursion (λ y. same_unit x.unit y.unit ≡ false) xs × AreApart xs

both_apart : {A : Type 0} (xs ys : List (Input A)) → AreApart xs → AreApart ys
    → AllByRecursion (λ x. AllByRecursion (λ y. same_unit x.unit y.unit ≡ false) ys) xs → AreApart (xs ++ ys)
both_apart [] ys first second cross = second
both_apart (x ∷ xs) ys first second cross = (all_append (λ y. same_unit x.unit y.unit ≡ false) xs ys first.0 cross.0, both_apart xs ys first.1 second cross.1)

all_of : {X : Type 0} (P : X → Type 0) → ((x : X) → P x) → (xs : List X) → AllByRecursion P xs
all_of P f [] = tt
all_of P f (x ∷ xs) = (f x, all_of P f xs)

if_all : {X : Type 0} (P : X → Type 0) (b : Bool) (x : X) → (b ≡ true → P x) → AllByRecursion P (if b then x ∷ [] else [])
if_all P true x f = (f refl, tt)
if_all P false x f = tt

if_apart : {A : Type 0} (b : Bool) (x : Input A) → AreApart (if b then x ∷ [] else [])
if_apart true x = (tt, tt)
if_apart false x = tt

-- the location of a unit, and the exit of a return
abbrev location : WorkUnit → Node
location (One node) = node
location (Back node exit) = node

abbrev exit_of : WorkUnit → Node
exit_of (One node) = node
exit_of (Back node exit) = exit

module _ (one : (m n : Node) → (same_node m n ≡ true) ↔ (m ≡ n)) (units : (u v : WorkUnit) → (same_unit u v ≡ true) ↔ (u ≡ v)) where
  differ_by : (part : WorkUnit → Node) (u v : WorkUnit) → same_node (part u) (part v) ≡ false → same_unit u v ≡ false
  differ_by part u v other = elim (cases_Bool (same_unit u v)) [
    | inl same ↦ absurd (true≢false (sym ((one (part u) (part v)).1 (ap part ((units u v).0 same))) ∙ other))
    | inr differ ↦ differ
  ]

  module _ {A X : Type 0} (key : X → Node) (part : WorkUnit → Node) (f : X → List (Input A)) (keyed : (x : X)
      → AllByRecursion (λ i. part i.unit ≡ key x) (f x)) where
    spread : (node : Node) (xs : List X) → AllByRecursion (λ n. same_node node n ≡ false) (map key xs)
        → AllByRecursion (λ y. AllByRecursion (λ j. same_node node (part j.unit) ≡ false) (f y)) xs
    spread node [] apart = tt
    spread node (y ∷ xs) apart = (
      all_weaker (λ j. part j.unit ≡ key y) (λ j. same_node node (part j.unit) ≡ false) (λ j e. subst (λ n. same_node node n ≡ false)
          (sym e) apart.0) (f y) (keyed y),
      spread node xs apart.1,
    )

    flat_apart : ((x : X) → AreApart (f x)) → (xs : List X) → IsDistinct same_node (map key xs) → AreApart (flat_map f xs)
    unfolding IsDistinct
    flat_apart each [] distinct = tt
    flat_apart each (x ∷ xs) distinct =
        let behind = all_flat (λ j. same_node (key x) (part j.unit) ≡ false) f xs (spread (key x) xs distinct.0) in
        both_apart (f x) (flat_map f xs) (each x) (flat_apart each xs distinct.1)
        (all_weaker (λ i. part i.unit ≡ key x) (λ i. AllByRecursion (λ j. same_unit i.unit j.unit ≡ false) (flat_map f xs)) (λ i e.
        all_weaker (λ j. same_node (key x) (part j.unit) ≡ false) (λ j. same_unit i.unit j.unit ≡ false)
        (λ j h. differ_by part i.unit j.unit (subst (λ n. same_node n (part j.unit) ≡ false) (sym e) h)) (flat_map f xs) behind) (f x) (keyed x))

  module _ {A : Type 0} (a : Analysis A) (exits : List (Node × A)) where
    return_keyed : (node : Node) (state : A) (waits : List Frame) (exit : Node × A)
        → AllByRecursion (λ i. exit_of i.unit ≡ exit.0) (return_from node state waits exit)
    return_keyed node state waits (At pc calls frame, left) = tt
    return_keyed node state waits (Exit pc frame, left) = if_all (λ i. exit_of i.unit ≡ Exit pc frame) (list_any (same_frame frame) waits) _ (λ _. refl)

    return_apart : (node : Node) (state : A) (waits : List Frame) (exit : Node × A) → AreApart (return_from node state waits exit)
    return_apart node state waits (At pc calls frame, left) = tt
    return_apart node state waits (Exit pc frame, left) = if_apart (list_any (same_frame frame) waits) _

    return_located : (node : Node) (state : A) (waits : List Frame) (exit : Node × A)
        → AllByRecursion (λ i. location i.unit ≡ node) (return_from node state waits exit)
    return_located node state waits (At pc calls frame, left) = tt
    return_located node state waits (Exit pc frame, left) = if_all (λ i. location i.unit ≡ node) (list_any (same_frame frame) waits) _ (λ _. refl)

    return_no_one : (node : Node) (state : A) (waits : List Frame) (exit : Node × A)
        → AllByRecursion (λ i. same_unit (One node) i.unit ≡ false) (return_from node state waits exit)
    return_no_one node state waits (At pc calls frame, left) = tt
    return_no_one node state waits (Exit pc frame, left) = if_all (λ i. same_unit (One node) i.unit ≡ false) (list_any (same_frame frame) waits) _ (λ _. refl)

    row_located : (row : Node × A) → AllByRecursion (λ i. location i.unit ≡ row.0) (units_of a exits row)
    row_located (At pc calls frame, state) =
        let returns = return_from (At pc calls frame) state (a.work (One (At pc calls frame)) state None).waits in
        let P = λ (i : Input A). location i.unit ≡ At pc calls frame in
        (refl, all_flat P returns exits (all_of (λ exit. AllByRecursion P (returns exit)) (return_located (At pc calls frame) state _) exits))
    row_located (Exit pc frame, state) = tt

    row_apart : IsDistinct same_node (keys_of exits) → (row : Node × A) → AreApart (units_of a exits row)
    row_apart distinct (At pc calls frame, state) =
        let node = At pc calls frame in
        let waits = (a.work (One node) state None).waits in
        let P = λ (i : Input A). same_unit (One node) i.unit ≡ false in (
          all_flat P (return_from node state waits) exits (all_of (λ exit. AllByRecursion P (return_from node state waits exit))
              (return_no_one node state waits) exits),
          flat_apart (λ (exit : Node × A). exit.0) exit_of (return_from node state waits) (return_keyed node state waits)
              (return_apart node state waits) exits distinct,
        )
    row_apart distinct (Exit pc frame, state) = tt

keys_apart : {A : Type 0} (a : Analysis A) (inputs : List (Input A)) → AreApart inputs
    → IsDistinct same_unit (keys_of (map (worked a) inputs))
unfolding IsDistinct
keys_apart a [] apart = tt
keys_apart a (x ∷ xs) apart = (
  all_mapped (λ v. same_unit x.unit v ≡ false) (λ pair. pair.0) (map (worked a) xs) (all_mapped (λ pair. same_unit x.unit pair.0 ≡ false)
      (worked a) xs apart.0),
  keys_apart a xs apart.1,
)

-- THE CLOSED BOOK

module _ {A : Type 0} (a : Analysis A) (texts : StateTexts A) (rows : List (Node × A)) (known : Known a texts rows) where
  abbrev inputs : List (Input A)
  inputs = flat_map (units_of a (exits_in rows)) rows

  row_of : (node : Node) (state : A) → table_in rows node ≡ Some state → Contains rows (node, state)
  row_of node state found = Contains-from_lookup (λ x y h. (known.one x y).0 h) node state rows found

  formed : IsFormedTable a (table_in rows)
  formed node state found = All-contains (λ row. a.HasForm row.0 row.1) rows (node, state) known.nodes_are.formed (row_of node state found)

  held : (row : Node × A) → Contains rows row → table_in rows row.0 ≡ Some row.1
  held row c = lookup-from_Contains (record {
    refl = λ x. (known.one x x).1 refl;
    symm = flips_from known.one;
    congr = λ x y z h. ap
        (λ n. same_node n z) ((known.one x y).0 h);
  })
      row.0 row.1 rows known.nodes_are.distinct c

  -- each unit of the table is listed
  listed : (unit : WorkUnit) (at : A) (exit : Option A) → IsUnitOver a (table_in rows) unit at exit
      → Contains inputs (record { unit = unit; at = at; exit = exit })
  listed (One (At pc calls frame)) at None is =
      in_flat_map (units_of a (exits_in rows)) rows (At pc calls frame, at) _ (row_of (At pc calls frame) at is) (in_first _ _)
  listed (One (At pc calls frame)) at (Some exit) is = absurd is
  listed (One (Exit pc frame)) at exit is = absurd is
  listed (Back (At pc calls frame) (Exit from left)) at (Some exit) is =
      let node = At pc calls frame in
      let waits = (a.work (One node) at None).waits in
      let back : Input A = record { unit = Back node (Exit from left); at = at; exit = Some exit } in
      let returned : Contains (return_from node at waits (Exit from left, exit)) back = rw (waits_at known.frames waits left is.2) (in_first back []) in
      in_flat_map (units_of a (exits_in rows)) rows (node, at) back (row_of node at is.0)
      (in_rest _ _ back (in_flat_map (return_from node at waits) (exits_in rows) (Exit from left, exit) back (exit_is_in rows from left exit (row_of
      (Exit from left) exit is.1)) returned))
  listed (Back (At pc calls frame) (Exit from left)) at None is = absurd is
  listed (Back (At pc calls frame) (At from calls' frame')) at exit is = absurd is
  listed (Back (Exit pc frame) node) at exit is = absurd is

  inputs_formed : (unit : WorkUnit) (at : A) (exit : Option A) → IsUnitOver a (table_in rows) unit at exit → AreFormed a unit at exit
  inputs_formed (One (At pc calls frame)) at None is = formed (At pc calls frame) at is
  inputs_formed (One (At pc calls frame)) at (Some exit) is = absurd is
  inputs_formed (One (Exit pc frame)) at exit is = absurd is
  inputs_formed (Back (At pc calls frame) (Exit from left)) at (Some exit) is = (formed (At pc calls frame) at is.0, formed (Exit from left) exit is.1)
  inputs_formed (Back (At pc calls frame) (Exit from left)) at None is = absurd is
  inputs_formed (Back (At pc calls frame) (At from calls' frame')) at exit is = absurd is
  inputs_formed (Back (Exit pc frame) node) at exit is = absurd is

  -- no unit is refused
  abbrev IsClean : Input A → Type 0
  IsClean input = (line : ℕ) × (unit_refusal a texts.outside rows line input ≡ None)

  clean : (line : ℕ) (more : List (Node × A)) → rows_refusal a texts.outside rows line more ≡ None
      → AllByRecursion IsClean (flat_map (units_of a (exits_in rows)) more)
  clean line [] e = tt
  clean line (row ∷ more) e =
      let parts = neither (first_of (unit_refusal a texts.outside rows line) (units_of a (exits_in rows) row)) (rows_refusal a texts.outside rows
      (line + 1) more) e in
      all_append IsClean (units_of a (exits_in rows) row) (flat_map (units_of a (exits_in rows)) more)
      (all_weaker (λ input. unit_refusal a texts.outside rows line input ≡ None) IsClean (λ input none. (line, none)) (units_of a (exits_in rows) row)
      (first_none (unit_refusal a texts.outside rows line) (units_of a (exits_in rows) row) parts.0))
      (clean (line + 1) more parts.1)

  closed : (first : ℕ) → refusal_of a texts.outside rows first ≡ None → IsClosedTable a (table_in rows)
  closed first none =
      let parts = neither (start_refusal texts.outside a.first_node a.first_state (table_in rows a.first_node))
      (rows_refusal a texts.outside rows first rows) none in
      let start = started_from texts.outside a.first_node a.first_state (table_in rows a.first_node) parts.0 in
      record {
        started = (
          start.0,
          start.1,
          (known.are.included a.first_node a.first_state start.0 known.keeps.start
              (formed a.first_node start.0 start.1)).0 start.2,
        );
        no_open = λ unit at exit is.
            let it = member_of IsClean inputs (record { unit = unit; at = at; exit = exit }) (clean first rows parts.1) (listed unit at exit is) in
            no_open_from it.0 (a.work unit at exit).opens
            (neither (open_refusal it.0 (a.work unit at exit).opens) (first_of (post_refusal texts.outside rows it.0) (a.work unit at exit).posts) it.1).0;
        posts_held = λ unit at exit node state is posted.
            let it = member_of IsClean inputs (record { unit = unit; at = at; exit = exit }) (clean first rows parts.1) (listed unit at exit is) in
            let posts = (neither (open_refusal it.0 (a.work unit at exit).opens) (first_of (post_refusal texts.outside rows it.0)
            (a.work unit at exit).posts) it.1).1 in
            let post = member_of (λ p. post_refusal texts.outside rows it.0 p ≡ None) (a.work unit at exit).posts (node, state)
            (first_none (post_refusal texts.outside rows it.0) (a.work unit at exit).posts posts) posted in
            let h = held_from texts.outside it.0 node state (table_in rows node) post in (
              h.0,
              h.1,
              (known.are.included node state h.0 (known.keeps.posts unit at exit node state (inputs_formed unit at exit is) posted)
                  (formed node h.0 h.1)).0 h.2,
            );
      }

  -- what is listed is a unit of the table
  abbrev IsListed : Input A → Type 0
  IsListed input = IsUnitWithWork a (table_in rows) (worked a input)

  abbrev IsHeld : Node × A → Type 0
  IsHeld row = table_in rows row.0 ≡ Some row.1

  all_held : AllByRecursion IsHeld rows
  all_held = all_weaker (Contains rows) IsHeld held rows (recursion_from_All (Contains rows) rows (All-contains_itself rows))

  returns_listed : (pc : ℕ) (calls : List ℕ) (frame : Frame) (state : A) → IsHeld (At pc calls frame, state)
      → (exit : Node × A) → IsHeld exit
      → AllByRecursion IsListed (return_from (At pc calls frame) state (a.work (One (At pc calls frame)) state None).waits exit)
  returns_listed pc calls frame state is (At pc' calls' frame', left) is_left = tt
  returns_listed pc calls frame state is (Exit from left, exit) is_left =
      let waits = (a.work (One (At pc calls frame)) state None).waits in
      if_all IsListed (list_any (same_frame left) waits) _ (λ waited. record {
        at = state;
        exit = Some exit;
        is_unit =
            (is, is_left, waits_from known.frames waits left waited);
        is_work = refl;
      })

  row_listed : (row : Node × A) → IsHeld row → AllByRecursion IsListed (units_of a (exits_in rows) row)
  row_listed (At pc calls frame, state) is =
      let returns = return_from (At pc calls frame) state (a.work (One (At pc calls frame)) state None).waits in (
        record { at = state; exit = None; is_unit = is; is_work = refl },
        all_flat IsListed returns (exits_in rows) (all_weaker IsHeld (λ exit. AllByRecursion IsListed (returns exit))
            (returns_listed pc calls frame state is) (exits_in rows) (exits_all IsHeld rows all_held)),
      )
  row_listed (Exit pc frame, state) is = tt

  pub closed_book : (first : ℕ) → refusal_of a texts.outside rows first ≡ None → IsClosedBook a rows (works_in a rows)
  closed_book first none =
      let all = all_flat IsListed (units_of a (exits_in rows)) rows (all_weaker IsHeld (λ row. AllByRecursion IsListed (units_of a
      (exits_in rows) row)) row_listed rows all_held) in
      record {
        distinct = known.nodes_are.distinct;
        formed = formed;
        closed = closed first none;
        once = keys_apart a inputs (flat_apart known.one known.units (λ (row : Node × A). row.0) location (units_of a (exits_in rows))
            (row_located known.one known.units a (exits_in rows))
            (row_apart known.one known.units a (exits_in rows) (exits_distinct rows known.nodes_are.distinct)) rows known.nodes_are.distinct);
        units = λ pair c. member_of (IsUnitWithWork a (table_in rows)) (map (worked a) inputs) pair (all_mapped (IsUnitWithWork a (table_in rows))
            (worked a) inputs all) c;
        each = λ unit at exit is. in_map (worked a) inputs (record { unit = unit; at = at; exit = exit }) (listed unit at exit is);
      }

  -- A CLOSED TABLE ISN'T REFUSED

  held_passes : (line : ℕ) (node : Node) (state held : A) → a.HasForm node state → a.HasForm node held → table_in rows node ≡ Some held
      → a.within state held ≡ true
      → held_refusal texts.outside line node state (table_in rows node) ≡ None
  held_passes line node state held form form' found within =
      ap (held_refusal texts.outside line node state) found ∙ ap (option_map (NotIn line node)) ((known.are.included node state held form form').1 within)

  start_passes : IsClosedTable a (table_in rows)
      → start_refusal texts.outside a.first_node a.first_state (table_in rows a.first_node) ≡ None
  start_passes is_closed =
      let start = is_closed.started in
      ap (start_refusal texts.outside a.first_node a.first_state) start.1
      ∙ ap (option_map (NotIn 0 a.first_node)) ((known.are.included a.first_node a.first_state start.0 known.keeps.start
      (formed a.first_node start.0 start.1)).1 start.2)

  -- a work without opens whose posts are held
  work_passes : (line : ℕ) (work : Work A) → work.opens ≡ []
      → AllByRecursion (λ p. post_refusal texts.outside rows line p ≡ None) work.posts
      → work_refusal texts.outside rows line work ≡ None
  work_passes line work none posts =
      ap₂ or_else (ap (open_refusal line) none) (all_none (post_refusal texts.outside rows line) work.posts posts)

  unit_passes : IsClosedTable a (table_in rows) → (line : ℕ) (input : Input A) → IsListed input
      → unit_refusal a texts.outside rows line input ≡ None
  unit_passes is_closed line input it =
      let work = a.work input.unit it.at it.exit in
      let members = recursion_from_All (Contains work.posts) work.posts (All-contains_itself work.posts) in
      let posts = all_weaker (Contains work.posts) (λ p. post_refusal texts.outside rows line p ≡ None) (λ p posted.
      let h = is_closed.posts_held input.unit it.at it.exit p.0 p.1 it.is_unit posted in
      held_passes line p.0 p.1 h.0 (known.keeps.posts input.unit it.at it.exit p.0 p.1 (inputs_formed input.unit it.at it.exit it.is_unit) posted)
      (formed p.0 h.0 h.1) h.1 h.2) work.posts members in
      subst (λ w. work_refusal texts.outside rows line w ≡ None) (sym it.is_work) (work_passes line work
      (is_closed.no_open input.unit it.at it.exit it.is_unit) posts)

  rows_pass : IsClosedTable a (table_in rows) → (line : ℕ) (more : List (Node × A)) → AllByRecursion IsHeld more
      → rows_refusal a texts.outside rows line more ≡ None
  rows_pass is_closed line [] all = refl
  rows_pass is_closed line (row ∷ more) all =
      ap₂ or_else (all_none (unit_refusal a texts.outside rows line) (units_of a (exits_in rows) row)
      (all_weaker IsListed (λ input. unit_refusal a texts.outside rows line input ≡ None) (unit_passes is_closed line) (units_of a
      (exits_in rows) row) (row_listed row all.0)))
      (rows_pass is_closed (line + 1) more all.1)

  -- there is no refusal exactly where the table is closed
  pub refusal_is_exact : (first : ℕ) → (refusal_of a texts.outside rows first ≡ None) ↔ IsClosedTable a (table_in rows)
  refusal_is_exact first = (closed first, λ is_closed. ap₂ or_else (start_passes is_closed) (rows_pass is_closed first rows all_held))
