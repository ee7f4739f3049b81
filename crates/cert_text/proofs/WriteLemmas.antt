-- Texts of nodes that were sorted are the rows of a certificate.
use Rattle.std.proofs.Common.{◌≡◌, ℕ, suc, ◌+◌, refl, sym, ap, ap₂, ◌∙◌, subst, true, false, arith, List, [], ◌∷◌, ◌++◌, append_assoc, get_or, length, map, codes}
use Rattle.std.specs.Prelude.{IsPermutation, ◌↔◌}
use Rattle.std.specs.List.{AllByRecursion, IsDistinct, flat_map, swap}
use Rattle.std.specs.List.Sorted.{IsSorted, SwapsInRange, apply_swaps}
use Rattle.std.specs.Map.{keys_of}
use Rattle.std.specs.Cmp.Lexicographic.{slice_cmp}
use Rattle.std.specs.Ordering.{is_lt, nat_cmp, ordering_reverse, ordering_then}
use Rattle.std.specs.declared.cmp.Ordering.{Ordering}
use Rattle.std.specs.declared.cmp.Ordering.TheVariants.{Less, Equal, Greater}
use Rattle.std.proofs.lemmas.Bool.{true≢false}
use Rattle.std.proofs.lemmas.Cmp.{nat_list_cmp_total}
use Rattle.std.proofs.lemmas.List.{length-map}
use Rattle.std.proofs.lemmas.List.Elements.{recursion_from_All}
use Rattle.std.proofs.lemmas.List.Sorted.{All-permutation, IsPermutation-map}
use Rattle.std.proofs.lemmas.Map.Keys.{IsDistinct-IsPermutation}
use Rattle.std.proofs.lemmas.Map.Lookups.{exact_bytes}
use Rattle.std.proofs.Math.ListN.{set, get_or-map}
use Rattle.std.proofs.Math.Seq.{map-set}
use Rattle.call_context.specs.declared.node.Node.{Node}
use Rattle.call_context.specs.declared.node.Node.TheVariants.{At, Exit}
use Rattle.chip_analysis.specs.Analysis.{Analysis}
use Rattle.book_rules.specs.Same.{same_node}
use Rattle.text_fields.specs.Lines.{joined}
use Rattle.text_fields.specs.Spelling.{once}
use Rattle.node_fields.specs.Nodes.{node_field, node_is_exact, row_text}
use Rattle.state_text.specs.Texts.{AreTexts, StateTexts}
use Rattle.cert_text.specs.Certificate.{AreRows, Ascend, is_below, last_line, node_text, state_field, table_row}
use Rattle.cert_text.specs.Writing.{AreNodes, IsCert, Written, line_of, written}
use Rattle.plain_lemmas.specs.Cases.{one_test}

-- LISTS IN ANOTHER ORDER

module _ {X Y : Type 0} (f : X → Y) where
  map-swap : (xs : List X) (i j : ℕ) → map f (swap xs i j) ≡ swap (map f xs) i j
  map-swap [] i j = refl
  map-swap (d ∷ ys) i j = map-set f (set (d ∷ ys) i (get_or (d ∷ ys) j d)) j (get_or (d ∷ ys) i d)
      ∙ (λ k. set ((map-set f (d ∷ ys) i (get_or (d ∷ ys) j d) ∙ ap (set (map f (d ∷ ys)) i) (sym (get_or-map f (d ∷ ys) j d))) k) j (sym
      (get_or-map f (d ∷ ys) i d) k))

  map_swaps : (xs : List X) (moves : List (ℕ × ℕ)) → map f (apply_swaps xs moves) ≡ apply_swaps (map f xs) moves
  map_swaps xs [] = refl
  map_swaps xs (p ∷ moves) = map-swap (apply_swaps xs moves) p.0 p.1 ∙ ap (λ l. swap l p.0 p.1) (map_swaps xs moves)

-- what another list with the same images does, this one does too
pub permuted_back : {X Y Z : Type 0} (f : X → Z) (g : Y → Z) (xs ys : List X) (nodes : List Y) → map f xs ≡ map g nodes
    → IsPermutation xs ys
    → (rows : List Y) × IsPermutation nodes rows × (map f ys ≡ map g rows)
permuted_back f g xs ys nodes same p =
    let long : length xs ≡ length nodes = sym (length-map xs f) ∙ ap length same ∙ length-map nodes g in (
      apply_swaps nodes p.moves,
      record { moves = p.moves; below = subst (λ n. SwapsInRange n p.moves) long p.below; is = refl },
      ap (map f) p.is ∙ map_swaps f xs p.moves ∙ ap (λ zs. apply_swaps zs p.moves) same ∙ sym (map_swaps g nodes p.moves),
    )

-- SORTED TEXTS

-- by the first text, and then by the second
abbrev pub written_cmp : Written → Written → Ordering
written_cmp x y = ordering_then (slice_cmp nat_cmp x.0 y.0) (slice_cmp nat_cmp x.1 y.1)

-- none stands above the one behind it
abbrev Climb : Written → List Written → Type 0
Climb x [] = Unit {0}
Climb x (y ∷ ys) = (is_lt (written_cmp y x) ≡ false) × Climb y ys

abbrev AreClimbing : List Written → Type 0
AreClimbing [] = Unit {0}
AreClimbing (x ∷ xs) = Climb x xs

climbs : {X : Type 0} (f : X → Written) (x : X) (xs : List X) → IsSorted (λ a b. written_cmp (f a) (f b)) (x ∷ xs) → Climb (f x) (map f xs)
climbs f x [] sorted = tt
climbs f x (y ∷ ys) sorted = (
  sorted 0 x (omega arith) (omega arith),
  climbs f y ys (λ k d low high.
      let next : suc k + 1 ≡ suc (k + 1) = omega arith in
      subst (λ n. is_lt (written_cmp (f (get_or (x ∷ y ∷ ys) n d)) (f (get_or (x ∷ y ∷ ys) (suc k) d))) ≡ false) next
      (sorted (suc k) d (omega arith) (omega (arith, high)))),
)

pub sorted_climb : {X : Type 0} (f : X → Written) (xs : List X) → IsSorted (λ a b. written_cmp (f a) (f b)) xs → AreClimbing (map f xs)
sorted_climb f [] sorted = tt
sorted_climb f (x ∷ xs) sorted = climbs f x xs sorted

-- of two texts that differ the one that doesn't stand above the other stands below it
strictly_below : (o : Ordering) (rest : Ordering) → is_lt (ordering_then o rest) ≡ false → (o ≡ Equal → ⊥)
    → is_lt (ordering_reverse o) ≡ true
strictly_below Less rest low other = absurd (true≢false low)
strictly_below Equal rest low other = absurd (other refl)
strictly_below Greater rest low other = refl

below : (x y : Written) → is_lt (written_cmp y x) ≡ false → (x.0 ≡ y.0 → ⊥) → is_below x.0 y.0 ≡ true
below x y low other =
    ap is_lt (nat_list_cmp_total.antisymm x.0 y.0)
    ∙ strictly_below (slice_cmp nat_cmp y.0 x.0) (slice_cmp nat_cmp y.1 x.1) low (λ e. other (sym (exact_bytes y.0 x.0 e)))

first_below : (digits : ℕ) (node : Node) → is_below [] ((node_field digits).text node) ≡ true
first_below digits (At pc calls frame) = refl
first_below digits (Exit pc frame) = refl

module _ {A : Type 0} (a : Analysis A) (texts : StateTexts A) (are : AreTexts a texts) (one : (m n : Node) → (same_node m n ≡ true) ↔ (m ≡ n)) where
  -- each node is in form with its state
  abbrev pub HasForms : List (Node × A) → Type 0
  HasForms = AllByRecursion (λ row. a.HasForm row.0 row.1)

  -- two nodes in form have two texts
  apart : (x y : Node × A) → a.HasForm x.0 x.1 → a.HasForm y.0 y.1 → same_node x.0 y.0 ≡ false → node_text texts x ≡ node_text texts y → ⊥
  apart x y form form' other same =
      let is = once (node_field texts.digits) (node_is_exact texts.digits) x.0 y.0 (are.nodes x.0 x.1 form) (are.nodes y.0 y.1 form') same in
      true≢false (sym ((one x.0 y.0).1 is) ∙ other)

  chain : (x : Node × A) (rows : List (Node × A)) → Climb (written texts x) (map (written texts) rows)
      → IsDistinct same_node (keys_of (x ∷ rows))
      → HasForms (x ∷ rows)
      → Ascend (table_row a texts) (node_text texts) (node_text texts x) rows
  unfolding table_row IsDistinct
  chain x [] climb distinct forms = tt
  chain x (y ∷ rows) climb distinct forms = (
    (are.nodes y.0 y.1 forms.1.0, forms.1.0),
    below (written texts x) (written texts y) climb.0 (apart x y forms.0 forms.1.0 distinct.0.0),
    chain y rows climb.1 distinct.1 forms.1,
  )

  pub sorted_rows : (rows : List (Node × A)) → AreClimbing (map (written texts) rows) → IsDistinct same_node (keys_of rows) → HasForms rows
      → AreRows a texts rows
  unfolding table_row
  sorted_rows [] climb distinct forms = tt
  sorted_rows (x ∷ rows) climb distinct forms =
      ((are.nodes x.0 x.1 forms.0, forms.0), first_below texts.digits x.0, chain x rows climb distinct forms)

  -- the test of two nodes is the same the other way
  flips : (m n : Node) → same_node m n ≡ same_node n m
  flips m n = one_test (same_node m n) (same_node n m) (λ is. (one n m).1 (sym ((one m n).0 is))) (λ is. (one m n).1 (sym ((one n m).0 is)))

  pub still_distinct : (nodes rows : List Node) → IsPermutation nodes rows → IsDistinct same_node nodes → IsDistinct same_node rows
  still_distinct nodes rows p distinct = IsDistinct-IsPermutation same_node flips nodes rows p distinct

-- THE TEXT

line_and_more : (key state more end : List ℕ)
    → (key ++ 32 ∷ state) ++ 10 ∷ (more ++ end) ≡ ((key ++ 32 ∷ (state ++ 10 ∷ [])) ++ more) ++ end
line_and_more key state more end = simp append_assoc

pub lines_joined : {A : Type 0} (a : Analysis A) (texts : StateTexts A) (rows : List (Node × A))
    → joined (map (table_row a texts).text rows ++ last_line ∷ []) [] ≡ flat_map line_of (map (written texts) rows) ++ (last_line ++ 10 ∷ [])
unfolding table_row
lines_joined a texts [] = refl
lines_joined a texts (x ∷ rows) =
    ap₂ (λ (row rest : List ℕ). row ++ 10 ∷ rest) (row_text texts.digits (state_field a texts) x) (lines_joined a texts rows)
    ∙ line_and_more (node_text texts x) (texts.text_of x.1) (flat_map line_of (map (written texts) rows)) (last_line ++ 10 ∷ [])

-- the text as it is put together
pub assembled : {X : Type 0} (f : X → Written) (ys pairs : List X) (empty head lines text : List ℕ) → empty ≡ []
    → head ≡ empty ++ codes "CERT 1\n"
    → lines ≡ head ++ flat_map line_of (map f pairs) → pairs ≡ ys → text ≡ lines ++ codes "END\n"
    → text ≡ (codes "CERT 1\n" ++ flat_map line_of (map f ys)) ++ codes "END\n"
assembled f ys pairs empty head lines text none begun more same ended =
    ended ∙ ap (λ (t : List ℕ). t ++ codes "END\n") (more
    ∙ ap₂ (λ (t : List ℕ) zs. t ++ flat_map line_of (map f zs)) (begun ∙ ap (λ (t : List ℕ). t ++ codes "CERT 1\n") none) same)

-- the certificate of nodes, made of their sorted texts
pub made : {A X : Type 0} (a : Analysis A) (texts : StateTexts A) → AreTexts a texts
    → ((m n : Node) → (same_node m n ≡ true) ↔ (m ≡ n)) → (f : X → Written)
    → (xs ys : List X) (nodes : List (Node × A)) (text : List ℕ) → AreNodes a nodes
    → map f xs ≡ map (written texts) nodes → IsPermutation xs ys
    → IsSorted (λ x y. written_cmp (f x) (f y)) ys
    → text ≡ (codes "CERT 1\n" ++ flat_map line_of (map f ys)) ++ codes "END\n" → IsCert a texts nodes text
made {A} a texts are one f xs ys nodes text nodes_are same moved sorted is =
    let back = permuted_back f (written texts) xs ys nodes same moved in
    let distinct = still_distinct a texts are one (keys_of nodes) (keys_of back.0) (IsPermutation-map
    (λ row. row.0) nodes back.0 back.1) nodes_are.distinct in
    let forms = recursion_from_All (λ row. a.HasForm row.0 row.1) back.0 (All-permutation
    (λ row. a.HasForm row.0 row.1) nodes back.0 back.1 nodes_are.formed) in
    record {
      rows = back.0;
      same = back.1;
      are_rows = sorted_rows a texts are one back.0 (subst AreClimbing back.2 (sorted_climb f ys sorted)) distinct forms;
      text_is = is ∙ ap (λ lines. (codes "CERT 1\n" ++ flat_map line_of lines) ++ codes "END\n") back.2
          ∙ ap (λ (lines : List ℕ). codes "CERT 1\n" ++ lines) (sym (lines_joined a texts back.0));
    }
