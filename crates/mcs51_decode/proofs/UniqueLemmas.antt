-- An address has one answer.
use Rattle.std.proofs.Common.{◌≡◌, ℕ, zero, suc, ◌+◌, ◌%◌, ◌<◌, refl, sym, ap, subst, ◌∙◌, arith, Option, None, Result, Ok, Err, List, [], ◌∷◌, length, inl, inr, ◌⊎◌}
use Rattle.std.proofs.lemmas.Bool.Decides.{nat_tests}
use Rattle.mcs51_decode.specs.declared.instr.Instr.{Instr}
use Rattle.mcs51_decode.specs.declared.refusal.NoInstr.{NoInstr}
use Rattle.mcs51_decode.specs.declared.refusal.NoInstr.TheVariants.{OffImage, Excluded}
use Rattle.mcs51_decode.specs.Table.{Row, length_at}
use Rattle.mcs51_decode.specs.Standing.{upward, AreThere, IsShort, Stands, Lacks, HasExcluded, Decodes}
use Rattle.mcs51_decode.specs.Encoding.{bytes_of, length_of}
use Rattle.mcs51_decode.proofs.BytesLemmas.{made_of, one_row, row_bytes, row_length}

-- bytes that are there agree
same_bytes : (there : ℕ → Option ℕ) (i : ℕ) (xs ys : List ℕ) → AreThere there i xs → AreThere there i ys →
    length xs ≡ length ys → xs ≡ ys
same_bytes there i [] [] a b e = refl
same_bytes there i [] (y ∷ ys) a b e = absurd (omega arith)
same_bytes there i (x ∷ xs) [] a b e = absurd (omega arith)
same_bytes there i (x ∷ xs) (y ∷ ys) a b e =
    let h : x ≡ y = cc (a.0, b.0) in
    let t = same_bytes there (suc i) xs ys a.1 b.1 (omega arith) in
    cc

moved : (n i : ℕ) → suc n + i ≡ n + suc i
moved n i = omega arith

-- no byte of those that are there is missing
no_gap : (there : ℕ → Option ℕ) (i k : ℕ) (xs : List ℕ) → AreThere there i xs → k < length xs → there (k + i) ≡ None → ⊥
no_gap there i k [] a h gap = absurd (omega arith)
no_gap there i zero (x ∷ xs) a h gap = let e : zero + i ≡ i = omega arith in absurd (cc (a.0, rw e at gap))
no_gap there i (suc k) (x ∷ xs) a h gap = no_gap there (suc i) k xs a.1 (omega arith) (rw (moved k i) at gap)

gap_at : (image : List (Option ℕ)) (pc k : ℕ) (xs : List ℕ) → AreThere (upward image pc) 0 xs → k < length xs → upward image pc k ≡ None → ⊥
gap_at image pc k xs a h gap = let e : k + 0 ≡ k = omega arith in no_gap (upward image pc) 0 k xs a h (rw e gap)

-- the length of a row is that of its opcode
stands_length : (opcode : ℕ) (operands : List ℕ) (i : Instr) → Row (opcode ∷ operands) i → suc (length operands) ≡ length_at opcode
stands_length opcode operands i r = (made_of opcode operands i r).same

same_rows : (image : List (Option ℕ)) (pc : ℕ) (xs ys : List ℕ) (i j : Instr) → Row xs i → Row ys j →
    AreThere (upward image pc) 0 xs → AreThere (upward image pc) 0 ys → xs ≡ ys
same_rows image pc [] ys i j r s a b = absurd r
same_rows image pc (x ∷ xs) [] i j r s a b = absurd s
same_rows image pc (x ∷ xs) (y ∷ ys) i j r s a b =
    let e : x ≡ y = cc (a.0, b.0) in
    let l = stands_length x xs i r ∙ ap length_at e ∙ sym (stands_length y ys j s) in
    same_bytes (upward image pc) 0 (x ∷ xs) (y ∷ ys) a b l

stands_once : (image : List (Option ℕ)) (pc m n : ℕ) (i j : Instr) → Stands image pc i m → Stands image pc j n → (i ≡ j) × (m ≡ n)
stands_once image pc m n i j a b =
    let e = same_rows image pc a.0 b.0 i j a.1 b.1 a.3 b.3 in
    (one_row b.0 i j (subst (λ xs. Row xs i) e a.1) b.1, sym a.2 ∙ ap length e ∙ b.2)

either : (m n : ℕ) → (m < n) ⊎ ((n < m) ⊎ (m ≡ n))
either zero zero = inr (inr refl)
either zero (suc n) = inl (omega arith)
either (suc m) zero = inr (inl (omega arith))
either (suc m) (suc n) = elim (either m n) [
  | inl h ↦ inl (omega arith)
  | inr r ↦ elim r [
    | inl h ↦ inr (inl (omega arith))
    | inr e ↦ inr (inr (ap suc e))
  ]
]

lacks_once : (image : List (Option ℕ)) (pc m n : ℕ) → Lacks image pc m → Lacks image pc n → m ≡ n
lacks_once image pc m n a b = elim (either (length a.0) (length b.0)) [
  | inl h ↦ absurd (gap_at image pc (length a.0) b.0 b.1 h a.3)
  | inr r ↦ elim r [
    | inl h ↦ absurd (gap_at image pc (length b.0) a.0 a.1 h b.3)
    | inr e ↦ a.4 ∙ ap (λ k. (pc + k) % 65536) e ∙ sym b.4
  ]
]

-- a front with the same opcode as a row is short only where it is shorter
shorter : (image : List (Option ℕ)) (pc : ℕ) (xs front : List ℕ) (i : Instr) → Row xs i → IsShort front →
    AreThere (upward image pc) 0 xs → AreThere (upward image pc) 0 front → length front < length xs
shorter image pc [] front i r short a b = absurd r
shorter image pc (x ∷ xs) [] i r short a b = omega arith
shorter image pc (x ∷ xs) (y ∷ ys) i r short a b =
    let e : y ≡ x = cc (a.0, b.0) in
    let l = stands_length x xs i r in
    let k = ap length_at e in
    let s = short.1 in
    omega arith

stands_whole : (image : List (Option ℕ)) (pc m n : ℕ) (i : Instr) → Stands image pc i m → Lacks image pc n → ⊥
stands_whole image pc m n i a b = gap_at image pc (length b.0) a.0 a.3 (shorter image pc a.0 b.0 i a.1 b.2 a.3 b.1) b.3

allowed_row : (image : List (Option ℕ)) (pc : ℕ) (xs : List ℕ) (i : Instr) → Row xs i → AreThere (upward image pc) 0 xs
    → HasExcluded image pc → ⊥
allowed_row image pc [] i r a x = absurd r
allowed_row image pc (opcode ∷ operands) i r a x =
    let e : opcode ≡ 0xA5 = cc (a.0, x) in
    let allowed = r.allowed in
    absurd (grind (arith, nat_tests))

stands_allowed : (image : List (Option ℕ)) (pc m : ℕ) (i : Instr) → Stands image pc i m → HasExcluded image pc → ⊥
stands_allowed image pc m i a x = allowed_row image pc a.0 i a.1 a.3 x

allowed_front : (image : List (Option ℕ)) (pc : ℕ) (front : List ℕ) → AreThere (upward image pc) 0 front → IsShort front →
    upward image pc (length front) ≡ None → HasExcluded image pc → ⊥
allowed_front image pc [] a short gap x = absurd (cc (gap, x))
allowed_front image pc (opcode ∷ operands) a short gap x =
    let e : opcode ≡ 0xA5 = cc (a.0, x) in
    let allowed = short.0 in
    absurd (grind (arith, nat_tests))

lacks_allowed : (image : List (Option ℕ)) (pc m : ℕ) → Lacks image pc m → HasExcluded image pc → ⊥
lacks_allowed image pc m a x = allowed_front image pc a.0 a.1 a.2 a.3 x

-- an address has one answer
pub one_answer : (image : List (Option ℕ)) (pc : ℕ) (a b : Result (Instr × ℕ) NoInstr) → Decodes image pc a → Decodes image pc b → a ≡ b
one_answer image pc (Ok (i, m)) (Ok (j, n)) h k =
    let e = stands_once image pc m n i j h k in
    let x = e.0 in let y = e.1 in cc
one_answer image pc (Ok (i, m)) (Err (OffImage at)) h k = absurd (stands_whole image pc m at i h k)
one_answer image pc (Ok (i, m)) (Err Excluded) h k = absurd (stands_allowed image pc m i h k)
one_answer image pc (Err (OffImage at)) (Ok (j, n)) h k = absurd (stands_whole image pc n at j k h)
one_answer image pc (Err (OffImage at)) (Err (OffImage other)) h k = ap (λ x. Err (OffImage x)) (lacks_once image pc at other h k)
one_answer image pc (Err (OffImage at)) (Err Excluded) h k = absurd (lacks_allowed image pc at h k)
one_answer image pc (Err Excluded) (Ok (j, n)) h k = absurd (stands_allowed image pc n j k h)
one_answer image pc (Err Excluded) (Err (OffImage at)) h k = absurd (lacks_allowed image pc at k h)
one_answer image pc (Err Excluded) (Err Excluded) h k = refl

-- what stands at an address has the bytes of its instruction
pub stands_bytes : (image : List (Option ℕ)) (pc len : ℕ) (i : Instr) → Stands image pc i len →
    Row (bytes_of i) i × (len ≡ length_of i) × AreThere (upward image pc) 0 (bytes_of i)
stands_bytes image pc len i h =
    let e = sym (row_bytes h.0 i h.1) in
    (subst (λ bytes. Row bytes i) e h.1, sym h.2 ∙ row_length h.0 i h.1, subst (AreThere (upward image pc) 0) e h.3)
