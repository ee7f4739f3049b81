-- The instructions of the opcode map have operands that fit.
use Rattle.std.proofs.Common.{ℕ, zero, suc, ◌+◌, ◌*◌, ◌/◌, ◌%◌, ◌<◌, ◌==◌, Option, List, [], ◌∷◌, All, refl, subst, arith}
use Rattle.std.proofs.lemmas.Bool.{cond_both}
use Rattle.std.proofs.lemmas.List.Elements.{All-rest}
use Rattle.plain_lemmas.specs.Below.{one_of_sixteen}
use Rattle.mcs51_decode.specs.declared.instr.Instr.{Instr}
use Rattle.mcs51_decode.specs.declared.instr.Instr.TheVariants.{AbsoluteCall, AbsoluteJump}
use Rattle.mcs51_decode.specs.declared.instr.Working.{Working}
use Rattle.mcs51_decode.specs.declared.instr.Working.TheVariants.{Indirect, Register}
use Rattle.mcs51_decode.specs.Fitting.{IsInstr}
use Rattle.mcs51_decode.specs.Standing.{Stands}
use Rattle.mcs51_decode.specs.Table.{IsRow, Row, column_0, column_1, column_2, column_3, column_4, column_5, line_D, operand, row_in, working_at, working_columns}

column_1_fits : (line x : ℕ) → line < 16 → x < 256 → IsInstr (column_1 line x).1
unfolding column_1
column_1_fits line x h hx =
    let target = line / 2 * 256 + x in
    let below : target < 2048 = omega arith in
    cond_both (line % 2 == 0) (2, AbsoluteJump target) (2, AbsoluteCall target) (λ (row : ℕ × Instr). IsInstr row.1) (λ _. below) (λ _. below)

line_D_fits : (w : Working) (x : ℕ) → x < 256 → IsInstr (line_D w x).1
line_D_fits (Indirect i) x hx = tt
line_D_fits (Register n) x hx = (tt, hx)

column_0_fits : (line : ℕ) (x y : ℕ) → line < 16 → x < 256 → y < 256 → IsInstr (column_0 line x y).1
unfolding column_0
column_0_fits line x y h hx hy = one_of_sixteen (λ row. IsInstr (column_0 row x y).1)
    tt (hx, hy) (hx, hy) (hx, hy) hx hx hx hx hx (omega arith) hx hx hx hx tt tt line h

column_2_fits : (line : ℕ) (x y : ℕ) → line < 16 → x < 256 → y < 256 → IsInstr (column_2 line x y).1
unfolding column_2
column_2_fits line x y h hx hy = one_of_sixteen (λ row. IsInstr (column_2 row x y).1)
    (omega arith) (omega arith) tt tt (hx, tt) (hx, tt) (hx, tt) hx hx hx hx hx hx hx tt tt line h

column_3_fits : (line : ℕ) (x y : ℕ) → line < 16 → x < 256 → y < 256 → IsInstr (column_3 line x y).1
unfolding column_3
column_3_fits line x y h hx hy = one_of_sixteen (λ row. IsInstr (column_3 row x y).1)
    tt tt tt tt (hx, hy) (hx, hy) (hx, hy) tt tt tt tt tt tt tt tt tt line h

column_4_fits : (line : ℕ) (x y : ℕ) → line < 16 → x < 256 → y < 256 → IsInstr (column_4 line x y).1
unfolding column_4
column_4_fits line x y h hx hy = one_of_sixteen (λ row. IsInstr (column_4 row x y).1)
    tt tt hx hx hx hx hx (tt, hx) tt hx tt (hx, hy) tt tt tt tt line h

working_columns_fits : (line : ℕ) (w : Working) (x y : ℕ) → line < 16 → x < 256 → y < 256 → IsInstr (working_columns line w x y).1
unfolding working_columns
working_columns_fits line w x y h hx hy = one_of_sixteen (λ row. IsInstr (working_columns row w x y).1)
    tt tt tt tt tt tt tt (tt, hx) (hx, tt) tt hx (hx, hy) tt (line_D_fits w x hx) tt tt line h

column_5_fits : (line : ℕ) (x y : ℕ) → line < 16 → x < 256 → y < 256 → IsInstr (column_5 line x y).1
unfolding column_5
column_5_fits line x y h hx hy = one_of_sixteen (λ row. IsInstr (column_5 row x y).1)
    hx hx hx hx hx hx hx (hx, hy) (hy, hx) hx hx (hx, hy) hx (hx, hy) hx hx line h

row_fits : (line column x y : ℕ) → line < 16 → column < 16 → x < 256 → y < 256 → IsInstr (row_in line column x y).1
unfolding row_in
row_fits line column x y h hc hx hy =
    let working : (c : ℕ) → IsInstr (working_columns line (working_at c) x y).1 = λ c. working_columns_fits line (working_at c) x y h hx hy in
    one_of_sixteen (λ c. IsInstr (row_in line c x y).1)
    (column_0_fits line x y h hx hy) (column_1_fits line x h hx) (column_2_fits line x y h hx hy) (column_3_fits line x y h hx hy) (column_4_fits line x y h hx hy) (column_5_fits line x y h hx hy)
    (working 6) (working 7) (working 8) (working 9) (working 10) (working 11) (working 12) (working 13) (working 14) (working 15) column hc

operand_below : (operands : List ℕ) (i : ℕ) → All (λ byte. byte < 256) operands → operand operands i < 256
operand_below [] i h = omega arith
operand_below (byte ∷ operands) zero h = h zero 0 (omega arith)
operand_below (byte ∷ operands) (suc i) h = operand_below operands i (All-rest (λ one. one < 256) byte operands (byte ∷ operands) refl h)

of_row : (opcode : ℕ) (operands : List ℕ) (instr_so : Instr) → IsRow opcode operands instr_so → IsInstr instr_so
of_row opcode operands instr_so row =
    let code : opcode < 256 = row.are_bytes zero 0 (omega arith) in
    let behind = All-rest (λ one. one < 256) opcode operands (opcode ∷ operands) refl row.are_bytes in
    let x = operand operands 0 in
    let y = operand operands 1 in
    let fit = row_fits (opcode / 16) (opcode % 16) x y (omega arith) (omega arith) (operand_below operands 0 behind) (operand_below operands 1 behind) in
    subst (λ (found : ℕ × Instr). IsInstr found.1) row.row fit

-- an instruction with a row is one of the table's
row_is_instr : (bytes : List ℕ) (instr_so : Instr) → Row bytes instr_so → IsInstr instr_so
row_is_instr [] instr_so row = absurd row
row_is_instr (opcode ∷ operands) instr_so row = of_row opcode operands instr_so row

-- and so is one that stands in an image
pub standing_is_instr : (image : List (Option ℕ)) (pc : ℕ) (instr_so : Instr) (len : ℕ) → Stands image pc instr_so len → IsInstr instr_so
standing_is_instr image pc instr_so len (bytes, row, long, there) = row_is_instr bytes instr_so row
