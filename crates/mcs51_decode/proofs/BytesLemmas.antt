-- The bytes of a row are those of its instruction, and some bytes are the row of one instruction.
use Rattle.std.proofs.Common.{◌≡◌, ℕ, suc, ◌<◌, ◌≤◌, refl, sym, ap, subst, ◌∙◌, length-append, arith, All, Option, None, Some, List, [], ◌∷◌, ◌++◌, length, take, IfSome, true, false, ◌==◌, inl, inr}
use Rattle.std.proofs.lemmas.Bool.Decides.{nat_tests}
use Rattle.mcs51_decode.specs.declared.instr.Instr.{Instr}
use Rattle.mcs51_decode.specs.Table.{row_at, is_excluded, operand, IsRow, Row}
use Rattle.mcs51_decode.specs.Encoding.{bytes_of, length_of}
use Rattle.mcs51_decode.specs.Decoding.{instr_of_row, instr_of_opcode, instr_of_bytes}
use Rattle.plain_lemmas.specs.Cases.{told}
use Rattle.mcs51_decode.proofs.RowLemmas.{IsMade, row_made}

first_below : (opcode : ℕ) (operands : List ℕ) → All (λ byte. byte < 256) (opcode ∷ operands) → operand operands 0 < 256
first_below opcode [] h = omega arith
first_below opcode (x ∷ operands) h = h 1 0 (omega arith)

second_below : (opcode : ℕ) (operands : List ℕ) → All (λ byte. byte < 256) (opcode ∷ operands) → operand operands 1 < 256
second_below opcode [] h = omega arith
second_below opcode (x ∷ []) h = omega arith
second_below opcode (x ∷ y ∷ operands) h = h 2 0 (omega arith)

-- what is made of a row
pub made_of : (opcode : ℕ) (operands : List ℕ) (i : Instr) → IsRow opcode operands i →
    IsMade opcode (operand operands 0) (operand operands 1) (suc (length operands), i) (row_at opcode 0 0)
made_of opcode operands i r =
    let h = r.are_bytes in
    subst (λ row. IsMade opcode (operand operands 0) (operand operands 1) row (row_at opcode 0 0)) r.row
    (row_made opcode (operand operands 0) (operand operands 1) (h 0 0 (omega arith)) r.allowed
    (first_below opcode operands h) (second_below opcode operands h))

taken : (opcode : ℕ) (operands : List ℕ) → suc (length operands) ≤ 3 →
    take (suc (length operands)) (opcode ∷ operand operands 0 ∷ operand operands 1 ∷ []) ≡ opcode ∷ operands
taken opcode [] h = refl
taken opcode (x ∷ []) h = refl
taken opcode (x ∷ y ∷ []) h = refl
taken opcode (x ∷ y ∷ z ∷ operands) h = absurd (omega arith)

pub row_bytes : (bytes : List ℕ) (i : Instr) → Row bytes i → bytes_of i ≡ bytes
row_bytes [] i r = absurd r
row_bytes (opcode ∷ operands) i r = let m = made_of opcode operands i r in m.bytes ∙ taken opcode operands m.most

pub row_length : (bytes : List ℕ) (i : Instr) → Row bytes i → length bytes ≡ length_of i
row_length bytes i r = ap length (sym (row_bytes bytes i r))

pub one_row : (bytes : List ℕ) (i j : Instr) → Row bytes i → Row bytes j → i ≡ j
one_row [] i j r s = absurd r
one_row (opcode ∷ operands) i j r s = ap (λ row. row.1) (sym r.row ∙ s.row)

-- no row goes on behind a row
pub rows_end : (bytes more : List ℕ) (i j : Instr) → Row bytes i → Row (bytes ++ more) j → length more ≡ 0
rows_end [] more i j r s = absurd r
rows_end (opcode ∷ operands) more i j r s =
    let a = (made_of opcode operands i r).same in
    let b = (made_of opcode (operands ++ more) j s).same in
    omega (arith, length-append operands more)

same_pair : (n : ℕ) (row : ℕ × Instr) → row.0 ≡ n → row ≡ (n, row.1)
same_pair n (len, i) e = ap (λ k. (k, i)) e

-- what is found in bytes of this length, and how
found_in : (n opcode x y : ℕ) (i : Instr) → instr_of_opcode n opcode x y ≡ Some i →
    (is_excluded opcode ≡ false) × (row_at opcode x y ≡ (n, i))
found_in n opcode x y i e = elim (told (is_excluded opcode)) [
  | inl excluded ↦ absurd (cc (rw excluded at e))
  | inr allowed ↦
      (let f : instr_of_row n (row_at opcode x y) ≡ Some i = rw allowed at e in
      elim (told ((row_at opcode x y).0 == n)) [
        | inl same ↦
            (let found : Some (row_at opcode x y).1 ≡ Some i = rw same at f in
            let len : (row_at opcode x y).0 ≡ n = grind (arith, nat_tests) in
            let instr : (row_at opcode x y).1 ≡ i = cc in
            (allowed, same_pair n (row_at opcode x y) len ∙ ap (λ k. (n, k)) instr))
        | inr other ↦ absurd (cc (rw other at f))
      ])
]

pub found_row : (bytes : List ℕ) (i : Instr) → All (λ byte. byte < 256) bytes → instr_of_bytes bytes ≡ Some i → Row bytes i
unfolding instr_of_bytes
found_row (a ∷ []) i h e = let f = found_in 1 a 0 0 i e in record { are_bytes = h; allowed = f.0; row = f.1 }
found_row (a ∷ x ∷ []) i h e = let f = found_in 2 a x 0 i e in record { are_bytes = h; allowed = f.0; row = f.1 }
found_row (a ∷ x ∷ y ∷ []) i h e = let f = found_in 3 a x y i e in record { are_bytes = h; allowed = f.0; row = f.1 }
found_row bytes i h e = absurd (cc)

in_row : (n opcode x y : ℕ) (i : Instr) → is_excluded opcode ≡ false → row_at opcode x y ≡ (n, i) → instr_of_opcode n opcode x y ≡ Some i
in_row n opcode x y i allowed e =
    let same : (n == n) ≡ true = grind (arith, nat_tests) in
    rw (allowed, e, same) refl

pub row_found : (bytes : List ℕ) (i : Instr) → Row bytes i → instr_of_bytes bytes ≡ Some i
unfolding instr_of_bytes
row_found [] i r = absurd r
row_found (a ∷ []) i r = in_row 1 a 0 0 i r.allowed r.row
row_found (a ∷ x ∷ []) i r = in_row 2 a x 0 i r.allowed r.row
row_found (a ∷ x ∷ y ∷ []) i r = in_row 3 a x y i r.allowed r.row
row_found (a ∷ x ∷ y ∷ z ∷ operands) i r = absurd (omega (arith, (made_of a (x ∷ y ∷ z ∷ operands) i r).most))

pub found_rows : (bytes : List ℕ) (found : Option Instr) → All (λ byte. byte < 256) bytes → found ≡ instr_of_bytes bytes →
    IfSome found (λ instr. Row bytes instr)
found_rows bytes None h e = tt
found_rows bytes (Some i) h e = found_row bytes i h (sym e)
