-- Bytes have one instruction, and an address has one answer.
use Rattle.std.proofs.Common.{◌≡◌, ℕ, suc, ◌+◌, ◌*◌, ◌/◌, ◌%◌, ◌<◌, ◌≤◌, refl, sym, ap, subst, ◌∙◌, append_assoc, length-append, zero-add, arith, Option, None, Result, Ok, Err, IfOk, List, [], ◌∷◌, ◌++◌, length, inl, inr}
use Rattle.std.specs.List.{flat_map}
use Rattle.msp430_decode.specs.declared.refusal.NoInstr.{NoInstr}
use Rattle.msp430_decode.specs.declared.refusal.NoInstr.TheVariants.{OffImage, Excluded}
use Rattle.msp430_decode.specs.declared.instr.Instr.{Instr}
use Rattle.msp430_decode.specs.Table.{IsInstr, Row, first_word, extension_words, word_bytes, bytes_of, length_of}
use Rattle.msp430_decode.specs.Standing.{upward, AreThere, Stands, Lacks, IsExcluded, Decodes}
use Rattle.msp430_decode.proofs.OperandLemmas.{first_of, second_of}
use Rattle.msp430_decode.proofs.AgainLemmas.{instr_again}
use Rattle.msp430_decode.proofs.MadeLemmas.{instr_count}
use Rattle.msp430_decode.proofs.StandLemmas.{same_word}

length_words : (ws : List ℕ) → length (flat_map word_bytes ws) ≡ 2 * length ws
length_words [] = refl
length_words (w ∷ ws) = let e = length_words ws in omega arith

pub length_row : (bytes : List ℕ) (i : Instr) → Row bytes i → length bytes ≡ length_of i
length_row bytes i row = rw row.1 (omega (arith, length_words (extension_words i)))

same_words : (xs ys : List ℕ) → flat_map word_bytes xs ≡ flat_map word_bytes ys → xs ≡ ys
same_words [] [] e = refl
same_words [] (y ∷ ys) e = absurd (cc)
same_words (x ∷ xs) [] e = absurd (cc)
same_words (x ∷ xs) (y ∷ ys) e =
    let low : x % 256 ≡ y % 256 = cc in
    let high : x / 256 ≡ y / 256 = cc in
    let rest : flat_map word_bytes xs ≡ flat_map word_bytes ys = cc in
    let head = same_word x y low high in
    let tail = same_words xs ys rest in
    cc

-- the length of an instruction is that of each with its first word
same_length : (i j : Instr) → IsInstr i → IsInstr j → first_word i ≡ first_word j → length_of i ≡ length_of j
same_length i j hi hj e =
    let a = instr_again i (first_word i) _ _ hi refl refl refl in
    let b = instr_again j (first_word i) _ _ hj e refl refl in
    let m = instr_count (first_word i) (first_of (extension_words i)) (second_of (extension_words i)) in
    let n = instr_count (first_word i) (first_of (extension_words j)) (second_of (extension_words j)) in
    let c = ap length_of a in
    let d = ap length_of b in
    omega arith

pub one_row : (bytes : List ℕ) (i j : Instr) → Row bytes i → Row bytes j → i ≡ j
one_row bytes i j a b =
    let e : bytes_of i ≡ bytes_of j = sym a.1 ∙ b.1 in
    let low : first_word i % 256 ≡ first_word j % 256 = cc in
    let high : first_word i / 256 ≡ first_word j / 256 = cc in
    let rest : flat_map word_bytes (extension_words i) ≡ flat_map word_bytes (extension_words j) = cc in
    let w = same_word (first_word i) (first_word j) low high in
    let xs = same_words (extension_words i) (extension_words j) rest in
    sym (instr_again i (first_word i) (first_of (extension_words i)) (second_of (extension_words i)) a.0 refl refl refl)
    ∙ instr_again j (first_word i) (first_of (extension_words i)) (second_of (extension_words i)) b.0 w (ap first_of xs) (ap second_of xs)

-- no row goes on behind a row
pub rows_end : (bytes more : List ℕ) (i j : Instr) → Row bytes i → Row (bytes ++ more) j → length more ≡ 0
rows_end bytes more i j a b =
    let e : bytes_of i ++ more ≡ bytes_of j = ap (λ xs. xs ++ more) (sym a.1) ∙ b.1 in
    let low : first_word i % 256 ≡ first_word j % 256 = cc in
    let high : first_word i / 256 ≡ first_word j / 256 = cc in
    let w = same_word (first_word i) (first_word j) low high in
    let l = same_length i j a.0 b.0 w in
    let m = length_row bytes i a in
    let n = length_row (bytes ++ more) j b in
    omega (arith, length-append bytes more)

moved : (n i : ℕ) → suc n + i ≡ n + suc i
moved n i = omega arith

-- where what follows some bytes isn't there, all that is there is in front of it
begins : (there : ℕ → Option ℕ) (i : ℕ) (xs ys : List ℕ) → AreThere there i xs → AreThere there i ys →
    there (length ys + i) ≡ None → (rest : List ℕ) × (ys ≡ xs ++ rest)
begins there i [] ys a b gap = (ys, refl)
begins there i (x ∷ xs) [] a b gap =
    let e : there i ≡ None = rw zero-add at gap in absurd (cc (a.0))
begins there i (x ∷ xs) (y ∷ ys) a b gap =
    let next : there (length ys + suc i) ≡ None = rw (moved (length ys) i) at gap in
    let r = begins there (suc i) xs ys a.1 b.1 next in
    let e : x ≡ y = cc (a.0, b.0) in
    (r.0, cc (r.1, e))

-- bytes that are there agree
same_bytes : (there : ℕ → Option ℕ) (i : ℕ) (xs ys : List ℕ) → AreThere there i xs → AreThere there i ys →
    length xs ≡ length ys → xs ≡ ys
same_bytes there i [] [] a b e = refl
same_bytes there i [] (y ∷ ys) a b e = absurd (omega arith)
same_bytes there i (x ∷ xs) [] a b e = absurd (omega arith)
same_bytes there i (x ∷ xs) (y ∷ ys) a b e =
    let h : x ≡ y = cc (a.0, b.0) in
    let t = same_bytes there (suc i) xs ys a.1 b.1 (omega arith) in
    cc

-- the same at the front of what is there
begins_at : (image : List (Option ℕ)) (pc : ℕ) (xs ys : List ℕ) → AreThere (upward image pc) 0 xs → AreThere (upward image pc) 0 ys →
    upward image pc (length ys) ≡ None → (rest : List ℕ) × (ys ≡ xs ++ rest)
begins_at image pc xs ys a b gap =
    let e : length ys + 0 ≡ length ys = omega arith in
    begins (upward image pc) 0 xs ys a b (rw e gap)

two_bytes : (bytes : List ℕ) (i : Instr) → Row bytes i → 2 ≤ length bytes
two_bytes bytes i row = omega (arith, length_row bytes i row)

stands_once : (image : List (Option ℕ)) (pc m n : ℕ) (i j : Instr) → Stands image pc i m → Stands image pc j n → (i ≡ j) × (m ≡ n)
stands_once image pc m n i j a b =
    let ta : AreThere (upward image pc) 0 (bytes_of i) = subst (AreThere (upward image pc) 0) a.1.1 a.3 in
    let tb : AreThere (upward image pc) 0 (bytes_of j) = subst (AreThere (upward image pc) 0) b.1.1 b.3 in
    let low : first_word i % 256 ≡ first_word j % 256 = cc (ta.0, tb.0) in
    let high : first_word i / 256 ≡ first_word j / 256 = cc (ta.1.0, tb.1.0) in
    let w = same_word (first_word i) (first_word j) low high in
    let l = same_length i j a.1.0 b.1.0 w in
    let la = length_row a.0 i a.1 in
    let lb = length_row b.0 j b.1 in
    let lens : length a.0 ≡ length b.0 = la ∙ l ∙ sym lb in
    let e = same_bytes (upward image pc) 0 a.0 b.0 a.3 b.3 lens in
    (one_row b.0 i j (subst (λ xs. Row xs i) e a.1) b.1, sym a.2 ∙ lens ∙ b.2)

lacks_once : (image : List (Option ℕ)) (pc m n : ℕ) → Lacks image pc m → Lacks image pc n → m ≡ n
lacks_once image pc m n a b =
    let r = begins_at image pc a.0 b.0 a.1 b.1 b.3 in
    let s = begins_at image pc b.0 a.0 b.1 a.1 a.3 in
    let x = ap length r.1 ∙ length-append a.0 r.0 in
    let y = ap length s.1 ∙ length-append b.0 s.0 in
    let e : length a.0 ≡ length b.0 = omega arith in
    a.4 ∙ ap (λ k. (pc + k) % 65536) e ∙ sym b.4

stands_whole : (image : List (Option ℕ)) (pc m n : ℕ) (i : Instr) → Stands image pc i m → Lacks image pc n → ⊥
stands_whole image pc m n i a b =
    let r = begins_at image pc a.0 b.0 a.3 b.1 b.3 in
    let x = ap length r.1 ∙ length-append a.0 r.0 in
    let two = two_bytes a.0 i a.1 in
    elim b.2 [
      | inl short ↦ absurd (omega arith)
      | inr long ↦
          (let row : Row ((a.0 ++ r.0) ++ long.0) long.1 = subst (λ xs. Row (xs ++ long.0) long.1) r.1 long.3 in
          let e = rows_end a.0 (r.0 ++ long.0) i long.1 a.1 (subst (λ xs. Row xs long.1) (append_assoc a.0 r.0 long.0) row) in
          let f = length-append r.0 long.0 in
          let h : 0 < length long.0 = long.2 in
          absurd (omega arith))
    ]

stands_allowed : (image : List (Option ℕ)) (pc m : ℕ) (i : Instr) → Stands image pc i m → IsExcluded image pc → ⊥
stands_allowed image pc m i a b =
    let t : AreThere (upward image pc) 0 (bytes_of i) = subst (AreThere (upward image pc) 0) a.1.1 a.3 in
    let low : first_word i % 256 ≡ b.0 = cc (t.0, b.2.0) in
    let high : first_word i / 256 ≡ b.1 = cc (t.1.0, b.2.1.0) in
    let e : bytes_of i ≡ b.0 ∷ b.1 ∷ flat_map word_bytes (extension_words i) = cc in
    b.3 (flat_map word_bytes (extension_words i)) i (a.1.0, sym e)

lacks_allowed : (image : List (Option ℕ)) (pc m : ℕ) → Lacks image pc m → IsExcluded image pc → ⊥
lacks_allowed image pc m a b =
    let r = begins_at image pc (b.0 ∷ b.1 ∷ []) a.0 b.2 a.1 a.3 in
    let x : length a.0 ≡ suc (suc (length r.0)) = ap length r.1 in
    elim a.2 [
      | inl short ↦ absurd (omega arith)
      | inr long ↦ b.3 (r.0 ++ long.0) long.1 (subst (λ xs. Row (xs ++ long.0) long.1) r.1 long.3)
    ]

-- an address has one answer
pub one_answer : (image : List (Option ℕ)) (pc : ℕ) (a b : Result (Instr × ℕ) NoInstr) → Decodes image pc a → Decodes image pc b → a ≡ b
one_answer image pc (Ok (i, m)) (Ok (j, n)) h k =
    let e = stands_once image pc m n i j h k in
    let x = e.0 in let y = e.1 in cc
one_answer image pc (Ok (i, m)) (Err (OffImage at)) h k = absurd (stands_whole image pc m at i h k)
one_answer image pc (Ok (i, m)) (Err Excluded) h k = absurd (stands_allowed image pc m i h k)
one_answer image pc (Err (OffImage at)) (Ok (j, n)) h k = absurd (stands_whole image pc n at j k h)
one_answer image pc (Err (OffImage at)) (Err (OffImage other)) h k = ap (λ x. Err (OffImage x)) (lacks_once image pc at other h k)
one_answer image pc (Err (OffImage at)) (Err Excluded) h k = absurd (lacks_allowed image pc at h k)
one_answer image pc (Err Excluded) (Ok (j, n)) h k = absurd (stands_allowed image pc n j k h)
one_answer image pc (Err Excluded) (Err (OffImage at)) h k = absurd (lacks_allowed image pc at k h)
one_answer image pc (Err Excluded) (Err Excluded) h k = refl

-- what is decoded is in the table
pub answer_in_table : (image : List (Option ℕ)) (pc : ℕ) (answer : Result (Instr × ℕ) NoInstr) → Decodes image pc answer →
    IfOk answer (λ found. IsInstr found.0)
answer_in_table image pc (Ok (i, m)) h = h.1.0
answer_in_table image pc (Err refusal) h = tt
