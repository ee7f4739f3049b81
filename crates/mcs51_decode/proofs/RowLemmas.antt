-- Each row of the opcode map has the bytes of its instruction.
use Rattle.std.proofs.Common.{◌≡◌, ℕ, ◌+◌, ◌*◌, ◌/◌, ◌%◌, ◌<◌, ◌≤◌, refl, arith, [], ◌∷◌, take, true, false, ◌==◌, ◌&&◌, inl, inr, nat_lt}
use Rattle.std.proofs.lemmas.Bool.{and_parts, cases_Bool, ltb-true}
use Rattle.std.proofs.lemmas.Bool.Decides.{nat_tests}
use Rattle.plain_lemmas.specs.Below.{one_of_sixteen}
use Rattle.mcs51_decode.specs.declared.instr.Register.TheVariants as register
use Rattle.mcs51_decode.specs.declared.instr.Pointer.TheVariants as pointer
use Rattle.mcs51_decode.specs.declared.instr.Working.{Working}
use Rattle.mcs51_decode.specs.declared.instr.Working.TheVariants as working
use Rattle.mcs51_decode.specs.declared.instr.Instr.{Instr}
use Rattle.mcs51_decode.specs.Table.{column_0, column_1, column_2, column_3, column_4, column_5, working_columns, line_D, row_in, row_at, is_excluded}
use Rattle.mcs51_decode.specs.Encoding.{working_column, bytes_of}

-- A row for an opcode, two bytes behind it, and the row of the same opcode with the first one's bytes left out.
pub record IsMade (opcode x y : ℕ) (row plain : ℕ × Instr) : Type 0 where
  pub bytes : bytes_of row.1 ≡ take row.0 (opcode ∷ x ∷ y ∷ [])
  pub least : 1 ≤ row.0
  pub most : row.0 ≤ 3
  pub same : row.0 ≡ plain.0

-- a row of one to three bytes
made : {opcode x y : ℕ} {row plain : ℕ × Instr} → bytes_of row.1 ≡ take row.0 (opcode ∷ x ∷ y ∷ [])
    → (nat_lt 0 row.0 && nat_lt row.0 4) ≡ true
    → row.0 ≡ plain.0 → IsMade opcode x y row plain
made {row = row} bytes length same =
    let (least, most) = and_parts (nat_lt 0 row.0) (nat_lt row.0 4) length in
    record { bytes = bytes; least = ltb-true 0 row.0 least; most = omega (arith, ltb-true row.0 4 most); same = same }

high : (x y : ℕ) → y < 256 → (256 * x + y) / 256 ≡ x
high x y h = omega arith

low : (x y : ℕ) → y < 256 → (256 * x + y) % 256 ≡ y
low x y h = omega arith

made_0 : (line x y : ℕ) → line < 16 → x < 256 → y < 256 → IsMade (16 * line + 0) x y (column_0 line x y) (column_0 line 0 0)
unfolding column_0
made_0 line x y h hx hy =
    one_of_sixteen (λ k. IsMade (16 * k + 0) x y (column_0 k x y) (column_0 k 0 0))
    (made refl refl refl) (made refl refl refl) (made refl refl refl) (made refl refl refl)
    (made refl refl refl) (made refl refl refl) (made refl refl refl) (made refl refl refl)
    (made refl refl refl) (made (rw (high x y hy, low x y hy) refl) refl refl) (made refl refl refl) (made refl refl refl)
    (made refl refl refl) (made refl refl refl) (made refl refl refl) (made refl refl refl)
    line h

page : (line x : ℕ) → line < 16 → x < 256 → (line / 2 * 256 + x) / 256 % 8 ≡ line / 2
page line x h hx = omega arith

page_low : (line x : ℕ) → x < 256 → (line / 2 * 256 + x) % 256 ≡ x
page_low line x hx = omega arith

even_line : (line : ℕ) → (line % 2 == 0) ≡ true → 0x01 + 32 * (line / 2) ≡ 16 * line + 1
even_line line e = let even : line % 2 ≡ 0 = grind (arith, nat_tests) in omega arith

odd_line : (line : ℕ) → (line % 2 == 0) ≡ false → 0x11 + 32 * (line / 2) ≡ 16 * line + 1
odd_line line e = let odd : line % 2 ≡ 1 = grind (arith, nat_tests) in omega arith

made_1 : (line x y : ℕ) → line < 16 → x < 256 → y < 256 → IsMade (16 * line + 1) x y (column_1 line x) (column_1 line 0)
unfolding column_1
made_1 line x y h hx hy = elim (cases_Bool (line % 2 == 0)) [
  | inl e ↦ rw e (made (rw (page line x h hx, page_low line x hx, even_line line e) refl) refl refl)
  | inr e ↦ rw e (made (rw (page line x h hx, page_low line x hx, odd_line line e) refl) refl refl)
]

made_2 : (line x y : ℕ) → line < 16 → x < 256 → y < 256 → IsMade (16 * line + 2) x y (column_2 line x y) (column_2 line 0 0)
unfolding column_2
made_2 line x y h hx hy =
    one_of_sixteen (λ k. IsMade (16 * k + 2) x y (column_2 k x y) (column_2 k 0 0))
    (made (rw (high x y hy, low x y hy) refl) refl refl) (made (rw (high x y hy, low x y hy) refl) refl refl) (made refl refl refl) (made refl refl refl)
    (made refl refl refl) (made refl refl refl) (made refl refl refl) (made refl refl refl)
    (made refl refl refl) (made refl refl refl) (made refl refl refl) (made refl refl refl)
    (made refl refl refl) (made refl refl refl) (made refl refl refl) (made refl refl refl)
    line h

made_3 : (line x y : ℕ) → line < 16 → x < 256 → y < 256 → IsMade (16 * line + 3) x y (column_3 line x y) (column_3 line 0 0)
unfolding column_3
made_3 line x y h hx hy =
    one_of_sixteen (λ k. IsMade (16 * k + 3) x y (column_3 k x y) (column_3 k 0 0))
    (made refl refl refl) (made refl refl refl) (made refl refl refl) (made refl refl refl)
    (made refl refl refl) (made refl refl refl) (made refl refl refl) (made refl refl refl)
    (made refl refl refl) (made refl refl refl) (made refl refl refl) (made refl refl refl)
    (made refl refl refl) (made refl refl refl) (made refl refl refl) (made refl refl refl)
    line h

made_4 : (line x y : ℕ) → line < 16 → x < 256 → y < 256 → IsMade (16 * line + 4) x y (column_4 line x y) (column_4 line 0 0)
unfolding column_4
made_4 line x y h hx hy =
    one_of_sixteen (λ k. IsMade (16 * k + 4) x y (column_4 k x y) (column_4 k 0 0))
    (made refl refl refl) (made refl refl refl) (made refl refl refl) (made refl refl refl)
    (made refl refl refl) (made refl refl refl) (made refl refl refl) (made refl refl refl)
    (made refl refl refl) (made refl refl refl) (made refl refl refl) (made refl refl refl)
    (made refl refl refl) (made refl refl refl) (made refl refl refl) (made refl refl refl)
    line h

made_5 : (line x y : ℕ) → line < 16 → is_excluded (16 * line + 5) ≡ false → x < 256 → y < 256 →
    IsMade (16 * line + 5) x y (column_5 line x y) (column_5 line 0 0)
unfolding column_5
made_5 line x y h allowed hx hy =
    one_of_sixteen (λ k. is_excluded (16 * k + 5) ≡ false → IsMade (16 * k + 5) x y (column_5 k x y) (column_5 k 0 0))
    (λ _. made refl refl refl) (λ _. made refl refl refl) (λ _. made refl refl refl) (λ _. made refl refl refl)
    (λ _. made refl refl refl) (λ _. made refl refl refl) (λ _. made refl refl refl) (λ _. made refl refl refl)
    (λ _. made refl refl refl) (λ _. made refl refl refl) (λ allowed. absurd (cc)) (λ _. made refl refl refl)
    (λ _. made refl refl refl) (λ _. made refl refl refl) (λ _. made refl refl refl) (λ _. made refl refl refl)
    line h allowed

-- the line D by its operand
made_D : (w : Working) (x y : ℕ) → IsMade (16 * 13 + working_column w) x y (line_D w x) (line_D w 0)
made_D (working.Indirect pointer.R0) x y = made refl refl refl
made_D (working.Indirect pointer.R1) x y = made refl refl refl
made_D (working.Register n) x y = made refl refl refl

made_working : (line : ℕ) (w : Working) (x y : ℕ) → line < 16 → x < 256 → y < 256 →
    IsMade (16 * line + working_column w) x y (working_columns line w x y) (working_columns line w 0 0)
unfolding working_columns
made_working line w x y h hx hy =
    one_of_sixteen (λ k. IsMade (16 * k + working_column w) x y (working_columns k w x y) (working_columns k w 0 0))
    (made refl refl refl) (made refl refl refl) (made refl refl refl) (made refl refl refl)
    (made refl refl refl) (made refl refl refl) (made refl refl refl) (made refl refl refl)
    (made refl refl refl) (made refl refl refl) (made refl refl refl) (made refl refl refl)
    (made refl refl refl) (made_D w x y) (made refl refl refl) (made refl refl refl)
    line h

made_in : (line column x y : ℕ) → line < 16 → column < 16 → is_excluded (16 * line + column) ≡ false → x < 256 → y < 256 →
    IsMade (16 * line + column) x y (row_in line column x y) (row_in line column 0 0)
unfolding row_in
made_in line column x y h hc allowed hx hy =
    one_of_sixteen (λ k. is_excluded (16 * line + k) ≡ false → IsMade (16 * line + k) x y (row_in line k x y) (row_in line k 0 0))
    (λ _. made_0 line x y h hx hy)
    (λ _. made_1 line x y h hx hy)
    (λ _. made_2 line x y h hx hy)
    (λ _. made_3 line x y h hx hy)
    (λ _. made_4 line x y h hx hy)
    (λ five. made_5 line x y h five hx hy)
    (λ _. made_working line (working.Indirect pointer.R0) x y h hx hy)
    (λ _. made_working line (working.Indirect pointer.R1) x y h hx hy)
    (λ _. made_working line (working.Register register.R0) x y h hx hy)
    (λ _. made_working line (working.Register register.R1) x y h hx hy)
    (λ _. made_working line (working.Register register.R2) x y h hx hy)
    (λ _. made_working line (working.Register register.R3) x y h hx hy)
    (λ _. made_working line (working.Register register.R4) x y h hx hy)
    (λ _. made_working line (working.Register register.R5) x y h hx hy)
    (λ _. made_working line (working.Register register.R6) x y h hx hy)
    (λ _. made_working line (working.Register register.R7) x y h hx hy)
    column hc allowed

split : (opcode : ℕ) → 16 * (opcode / 16) + opcode % 16 ≡ opcode
split opcode = omega arith

-- the row of an opcode
pub row_made : (opcode x y : ℕ) → opcode < 256 → is_excluded opcode ≡ false → x < 256 → y < 256 →
    IsMade opcode x y (row_at opcode x y) (row_at opcode 0 0)
row_made opcode x y h allowed hx hy =
    rw (split opcode) at (made_in (opcode / 16) (opcode % 16) x y (omega arith) (omega arith) (rw (split opcode) allowed) hx hy)
