-- Lines that are counted as they come into a set.
use Rattle.std.proofs.Common.{◌≡◌, ℕ, ◌+◌, ◌<◌, ◌^◌, ◌⊎◌, inl, inr, Bool, List, [], ◌∷◌, Vec, Global, length, refl, ap, sym, subst, ◌∙◌, cond, arith}
use Rattle.std.specs.Prelude.{count_by}
use Rattle.std.specs.BTreeSet.{insert_key}
use Rattle.std.specs.Cmp.Lexicographic.{slice_cmp}
use Rattle.std.specs.Ordering.{nat_cmp, match_ordering}
use Rattle.std.specs.declared.cmp.Ordering.{Ordering}
use Rattle.std.specs.declared.cmp.Ordering.TheVariants.{Less, Equal, Greater}
use Rattle.std.proofs.lemmas.List.{length-map}
use Rattle.std.proofs.lemmas.List.Sums.{count_by-le-length, sum_by-cons}
use Rattle.report_bytes.specs.Counting.{AreSmall, counts_with, one_more}
use Rattle.report_bytes.specs.Report.{begins_with, bytes_of, counts_of, is_whole_stack}
use Rattle.report_bytes.proofs.ReportLemmas.{bytes_of-insert_key}

-- whatever is counted, these lines have one more
abbrev HasOneMore : (new set : List (List ℕ)) → List ℕ → Type 0
HasOneMore new set line = (p : List ℕ → Bool) → count_by p new ≡ one_more (count_by p set) (p line)

first : (set : List (List ℕ)) (line : List ℕ) → HasOneMore (line ∷ set) set line
first set line p = let front = sum_by-cons (λ x. cond (p x) 1 0) line set in omega (arith, front)

later : (x : List ℕ) (new set : List (List ℕ)) (line : List ℕ) → HasOneMore new set line → HasOneMore (x ∷ new) (x ∷ set) line
later x new set line more p =
    let front = sum_by-cons (λ x. cond (p x) 1 0) x new in
    let behind = sum_by-cons (λ x. cond (p x) 1 0) x set in
    omega (arith, front, behind, more p)

-- a line in front of others, at the first of them, or behind it
placed : (o : Ordering) (x : List ℕ) (set behind : List (List ℕ)) (line : List ℕ) → (behind ≡ set) ⊎ HasOneMore behind set line
    → (match_ordering o (line ∷ x ∷ set) (x ∷ set) (x ∷ behind) ≡ x ∷ set)
    ⊎ HasOneMore (match_ordering o (line ∷ x ∷ set) (x ∷ set) (x ∷ behind)) (x ∷ set) line
placed Less x set behind line rest = inr (first (x ∷ set) line)
placed Equal x set behind line rest = inl refl
placed Greater x set behind line rest = elim rest [
  | inl same ↦ inl (ap (λ lines. x ∷ lines) same)
  | inr more ↦ inr (later x behind set line more)
]

-- a line is there already, or one more
inserted : (set : List (List ℕ)) (line : List ℕ)
    → (insert_key (slice_cmp nat_cmp) set line ≡ set) ⊎ HasOneMore (insert_key (slice_cmp nat_cmp) set line) set line
inserted [] line = inr (first [] line)
inserted (x ∷ set) line = placed (slice_cmp nat_cmp line x) x set (insert_key (slice_cmp nat_cmp) set line) line (inserted set line)

counted : (set new : List (List ℕ)) (line : List ℕ) → new ≡ insert_key (slice_cmp nat_cmp) set line → length new ≡ length set + 1
    → counts_of new ≡ counts_with (counts_of set) line
counted set new line is longer = elim (inserted set line) [
  | inl same ↦ let short = ap length (is ∙ same) in absurd (omega arith)
  | inr more ↦
      let all : HasOneMore new set line = subst (λ lines. HasOneMore lines set line) (sym is) more in
      cc (all (begins_with 69), all (begins_with 73), all (begins_with 77), all (begins_with 79), all (begins_with 83), all is_whole_stack)
]

-- the counts of a set to which a line is new
pub counted_new : (keys new : List (Vec ℕ Global)) (line : Vec ℕ Global)
    → new ≡ insert_key (λ x y. slice_cmp nat_cmp x.items y.items) keys line → length new ≡ length keys + 1
    → counts_of (bytes_of new) ≡ counts_with (counts_of (bytes_of keys)) line.items
counted_new keys new line is longer =
    counted (bytes_of keys) (bytes_of new) line.items (ap bytes_of is ∙ bytes_of-insert_key keys line)
    (omega (arith, longer, length-map new (λ l. l.items), length-map keys (λ l. l.items)))

pub are_small : (keys : List (Vec ℕ Global)) → length keys < 2 ^ 63 → AreSmall (counts_of (bytes_of keys))
are_small keys few =
    let short : length (bytes_of keys) < 2 ^ 63 = omega (arith, few, length-map keys (λ l. l.items)) in
    let below : (p : List ℕ → Bool) → count_by p (bytes_of keys) < 2 ^ 63 = λ p. omega (arith, short, count_by-le-length p (bytes_of keys)) in record {
      edges = below (begins_with 69);
      instrs = below (begins_with 73);
      accesses = below (begins_with 77);
      opens = below (begins_with 79);
      stacks = below (begins_with 83);
      whole = below is_whole_stack;
    }
