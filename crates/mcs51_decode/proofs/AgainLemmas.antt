-- The bytes of an instruction are a row, which is that instruction.
use Rattle.std.proofs.Common.{◌≡◌, ℕ, zero, suc, ◌+◌, ◌*◌, ◌/◌, ◌%◌, ◌<◌, ◌≤◌, refl, arith, All, List, [], ◌∷◌, true, false, ◌==◌, inl, inr}
use Rattle.std.proofs.lemmas.Bool.Decides.{nat_tests}
use Rattle.std.proofs.lemmas.List.Elements.{All-cons}
use Rattle.mcs51_decode.specs.declared.instr.Register.TheVariants as register
use Rattle.mcs51_decode.specs.declared.instr.Pointer.TheVariants as pointer
use Rattle.mcs51_decode.specs.declared.instr.Working.{Working}
use Rattle.mcs51_decode.specs.declared.instr.Working.TheVariants as working
use Rattle.mcs51_decode.specs.declared.instr.Memory.TheVariants as memory
use Rattle.mcs51_decode.specs.declared.instr.Source.TheVariants as source
use Rattle.mcs51_decode.specs.declared.instr.Place.TheVariants as place
use Rattle.mcs51_decode.specs.declared.instr.Operation.TheVariants as operation
use Rattle.mcs51_decode.specs.declared.instr.Logic.TheVariants as logic
use Rattle.mcs51_decode.specs.declared.instr.Mask.TheVariants as mask
use Rattle.mcs51_decode.specs.declared.instr.AccumulatorOperation.TheVariants as accumulator
use Rattle.mcs51_decode.specs.declared.instr.CarryOperation.TheVariants as carry
use Rattle.mcs51_decode.specs.declared.instr.CarryByBit.TheVariants as by_bit
use Rattle.mcs51_decode.specs.declared.instr.BitOperation.TheVariants as bit
use Rattle.mcs51_decode.specs.declared.instr.Condition.TheVariants as condition
use Rattle.mcs51_decode.specs.declared.instr.BitTest.TheVariants as test
use Rattle.mcs51_decode.specs.declared.instr.Comparison.TheVariants as comparison
use Rattle.mcs51_decode.specs.declared.instr.Counter.TheVariants as counter
use Rattle.mcs51_decode.specs.declared.instr.CodeBase.TheVariants as base
use Rattle.mcs51_decode.specs.declared.instr.External.TheVariants as external
use Rattle.mcs51_decode.specs.declared.instr.Instr.{Instr}
use Rattle.mcs51_decode.specs.declared.instr.Instr.TheVariants.{Nop, AbsoluteJump, AbsoluteCall, LongJump, LongCall, Return, ReturnFromInterrupt, JumpIndirect, JumpOn, JumpOnBit, CompareJump, DecrementJump, ChangeAccumulator, Increment, Decrement, IncrementDataPointer, Accumulate, DirectLogic, Multiply, Divide, ChangeCarry, CarryBit, ChangeBit, MoveImmediate, MoveToDirect, MoveFromDirect, LoadDataPointer, Load, Store, MoveCode, ReadExternal, WriteExternal, Push, Pop, Exchange, ExchangeDigit}
use Rattle.mcs51_decode.specs.Table.{column_0, column_1, column_2, column_3, column_4, column_5, working_columns, row_in, row_at, is_excluded, operand, Row}
use Rattle.mcs51_decode.specs.Encoding.{working_column, opcode_of, operand_bytes, bytes_of, length_of}
use Rattle.mcs51_decode.specs.Fitting.{IsInstr}
use Rattle.mcs51_decode.specs.NumberFacts.{register_below}
use Rattle.plain_lemmas.specs.Cases.{told}
use Rattle.mcs51_decode.proofs.ByteLists.{none, one, two}

record IsPlaced (i : Instr) : Type 0 where
  pub code : opcode_of i < 256
  pub allowed : is_excluded (opcode_of i) ≡ false
  pub bytes : All (λ byte. byte < 256) (operand_bytes i)
  pub row : row_at (opcode_of i) (operand (operand_bytes i) 0) (operand (operand_bytes i) 1) ≡ (length_of i, i)

working_below : (w : Working) → (6 ≤ working_column w) × (working_column w < 16)
working_below (working.Indirect pointer.R0) = (omega arith, omega arith)
working_below (working.Indirect pointer.R1) = (omega arith, omega arith)
working_below (working.Register n) = let h = register_below n in (omega arith, omega arith)

line_of : (line column : ℕ) → column < 16 → (16 * line + column) / 16 ≡ line
line_of line column h = omega arith

column_of : (line column : ℕ) → column < 16 → (16 * line + column) % 16 ≡ column
column_of line column h = omega arith

in_columns : (line : ℕ) (w : Working) (x y : ℕ) → row_in line (working_column w) x y ≡ working_columns line w x y
unfolding row_in
in_columns line (working.Indirect pointer.R0) x y = refl
in_columns line (working.Indirect pointer.R1) x y = refl
in_columns line (working.Register register.R0) x y = refl
in_columns line (working.Register register.R1) x y = refl
in_columns line (working.Register register.R2) x y = refl
in_columns line (working.Register register.R3) x y = refl
in_columns line (working.Register register.R4) x y = refl
in_columns line (working.Register register.R5) x y = refl
in_columns line (working.Register register.R6) x y = refl
in_columns line (working.Register register.R7) x y = refl

in_working : (line : ℕ) (w : Working) (x y : ℕ) → row_at (16 * line + working_column w) x y ≡ working_columns line w x y
in_working line w x y =
    let h = (working_below w).1 in
    rw (line_of line (working_column w) h, column_of line (working_column w) h) (in_columns line w x y)

allowed_working : (line : ℕ) (w : Working) → is_excluded (16 * line + working_column w) ≡ false
allowed_working line w = elim (told (is_excluded (16 * line + working_column w))) [
  | inl e ↦
      (let is : 16 * line + working_column w ≡ 165 = grind (arith, nat_tests) in
      absurd (omega (arith, (working_below w).0, (working_below w).1)))
  | inr e ↦ e
]

code_working : (line : ℕ) (w : Working) → line < 16 → 16 * line + working_column w < 256
code_working line w h = omega (arith, (working_below w).1)

joined : (word : ℕ) → 256 * (word / 256) + word % 256 ≡ word
joined word = omega arith

even_code : (target : ℕ) → (0x01 + 32 * (target / 256 % 8)) / 16 ≡ 2 * (target / 256 % 8)
even_code target = omega arith

even_column : (target : ℕ) → (0x01 + 32 * (target / 256 % 8)) % 16 ≡ 1
even_column target = omega arith

odd_code : (target : ℕ) → (0x11 + 32 * (target / 256 % 8)) / 16 ≡ 2 * (target / 256 % 8) + 1
odd_code target = omega arith

odd_column : (target : ℕ) → (0x11 + 32 * (target / 256 % 8)) % 16 ≡ 1
odd_column target = omega arith

even_test : (n : ℕ) → (2 * n % 2 == 0) ≡ true
even_test n = let e : 2 * n % 2 ≡ 0 = omega arith in grind (arith, nat_tests)

odd_test : (n : ℕ) → ((2 * n + 1) % 2 == 0) ≡ false
odd_test n = let e : (2 * n + 1) % 2 ≡ 1 = omega arith in grind (arith, nat_tests)

even_target : (target : ℕ) → target < 2048 → 2 * (target / 256 % 8) / 2 * 256 + target % 256 ≡ target
even_target target h = omega arith

odd_target : (target : ℕ) → target < 2048 → (2 * (target / 256 % 8) + 1) / 2 * 256 + target % 256 ≡ target
odd_target target h = omega arith

even_row : (target y : ℕ) → target < 2048 → row_at (0x01 + 32 * (target / 256 % 8)) (target % 256) y ≡ (2, AbsoluteJump target)
unfolding row_in column_1
even_row target y h =
    rw (even_code target, even_column target) (rw (even_test (target / 256 % 8), even_target target h) refl)

odd_row : (target y : ℕ) → target < 2048 → row_at (0x11 + 32 * (target / 256 % 8)) (target % 256) y ≡ (2, AbsoluteCall target)
unfolding row_in column_1
odd_row target y h =
    rw (odd_code target, odd_column target) (rw (odd_test (target / 256 % 8), odd_target target h) refl)

no_excluded : (code : ℕ) → code % 16 ≡ 1 → is_excluded code ≡ false
no_excluded code h = elim (told (is_excluded code)) [
  | inl e ↦ (let is : code ≡ 165 = grind (arith, nat_tests) in absurd (omega arith))
  | inr e ↦ e
]

placed : (i : Instr) → IsInstr i → IsPlaced i
unfolding column_0 column_1 column_2 column_3 column_4 column_5 working_columns row_in
placed Nop h = record { code = omega arith; allowed = refl; bytes = none; row = refl }
placed (AbsoluteJump target) h = record { code = omega arith; allowed = no_excluded _ (even_column target); bytes = one (target % 256) (omega arith); row = even_row target 0 h }
placed (AbsoluteCall target) h = record { code = omega arith; allowed = no_excluded _ (odd_column target); bytes = one (target % 256) (omega arith); row = odd_row target 0 h }
placed (LongJump target) h = record { code = omega arith; allowed = refl; bytes = two (target / 256) (target % 256) (omega arith) (omega arith); row = rw (joined target) refl }
placed (LongCall target) h = record { code = omega arith; allowed = refl; bytes = two (target / 256) (target % 256) (omega arith) (omega arith); row = rw (joined target) refl }
placed Return h = record { code = omega arith; allowed = refl; bytes = none; row = refl }
placed ReturnFromInterrupt h = record { code = omega arith; allowed = refl; bytes = none; row = refl }
placed JumpIndirect h = record { code = omega arith; allowed = refl; bytes = none; row = refl }
placed (JumpOn condition.Carry rel) h = record { code = omega arith; allowed = refl; bytes = one rel h; row = refl }
placed (JumpOn condition.NoCarry rel) h = record { code = omega arith; allowed = refl; bytes = one rel h; row = refl }
placed (JumpOn condition.Zero rel) h = record { code = omega arith; allowed = refl; bytes = one rel h; row = refl }
placed (JumpOn condition.NotZero rel) h = record { code = omega arith; allowed = refl; bytes = one rel h; row = refl }
placed (JumpOn condition.Always rel) h = record { code = omega arith; allowed = refl; bytes = one rel h; row = refl }
placed (JumpOnBit test.SetAndClear address rel) h = record { code = omega arith; allowed = refl; bytes = two address rel h.0 h.1; row = refl }
placed (JumpOnBit test.Set address rel) h = record { code = omega arith; allowed = refl; bytes = two address rel h.0 h.1; row = refl }
placed (JumpOnBit test.Clear address rel) h = record { code = omega arith; allowed = refl; bytes = two address rel h.0 h.1; row = refl }
placed (CompareJump (comparison.AccumulatorImmediate value) rel) h = record { code = omega arith; allowed = refl; bytes = two value rel h.0 h.1; row = refl }
placed (CompareJump (comparison.AccumulatorDirect direct) rel) h = record { code = omega arith; allowed = refl; bytes = two direct rel h.0 h.1; row = refl }
placed (CompareJump (comparison.WorkingImmediate w value) rel) h = record { code = code_working 11 w (omega arith); allowed = allowed_working 11 w; bytes = two value rel h.0 h.1; row = in_working 11 w value rel }
placed (DecrementJump (counter.Direct direct) rel) h = record { code = omega arith; allowed = refl; bytes = two direct rel h.0 h.1; row = refl }
placed (DecrementJump (counter.Register n) rel) h = record { code = code_working 13 (working.Register n) (omega arith); allowed = allowed_working 13 (working.Register n); bytes = one rel h.1; row = in_working 13 (working.Register n) rel 0 }
placed (ChangeAccumulator accumulator.Rr) h = record { code = omega arith; allowed = refl; bytes = none; row = refl }
placed (ChangeAccumulator accumulator.Rrc) h = record { code = omega arith; allowed = refl; bytes = none; row = refl }
placed (ChangeAccumulator accumulator.Rl) h = record { code = omega arith; allowed = refl; bytes = none; row = refl }
placed (ChangeAccumulator accumulator.Rlc) h = record { code = omega arith; allowed = refl; bytes = none; row = refl }
placed (ChangeAccumulator accumulator.Swap) h = record { code = omega arith; allowed = refl; bytes = none; row = refl }
placed (ChangeAccumulator accumulator.Da) h = record { code = omega arith; allowed = refl; bytes = none; row = refl }
placed (ChangeAccumulator accumulator.Clr) h = record { code = omega arith; allowed = refl; bytes = none; row = refl }
placed (ChangeAccumulator accumulator.Cpl) h = record { code = omega arith; allowed = refl; bytes = none; row = refl }
placed (Increment place.Accumulator) h = record { code = omega arith; allowed = refl; bytes = none; row = refl }
placed (Increment (place.Memory (memory.Direct direct))) h = record { code = omega arith; allowed = refl; bytes = one direct h; row = refl }
placed (Increment (place.Memory (memory.Working w))) h = record { code = code_working 0 w (omega arith); allowed = allowed_working 0 w; bytes = none; row = in_working 0 w 0 0 }
placed (Decrement place.Accumulator) h = record { code = omega arith; allowed = refl; bytes = none; row = refl }
placed (Decrement (place.Memory (memory.Direct direct))) h = record { code = omega arith; allowed = refl; bytes = one direct h; row = refl }
placed (Decrement (place.Memory (memory.Working w))) h = record { code = code_working 1 w (omega arith); allowed = allowed_working 1 w; bytes = none; row = in_working 1 w 0 0 }
placed IncrementDataPointer h = record { code = omega arith; allowed = refl; bytes = none; row = refl }
placed (Accumulate operation.Add (source.Immediate value)) h = record { code = omega arith; allowed = refl; bytes = one value h; row = refl }
placed (Accumulate operation.Add (source.Memory (memory.Direct direct))) h = record { code = omega arith; allowed = refl; bytes = one direct h; row = refl }
placed (Accumulate operation.Add (source.Memory (memory.Working w))) h = record { code = code_working 2 w (omega arith); allowed = allowed_working 2 w; bytes = none; row = in_working 2 w 0 0 }
placed (Accumulate operation.Addc (source.Immediate value)) h = record { code = omega arith; allowed = refl; bytes = one value h; row = refl }
placed (Accumulate operation.Addc (source.Memory (memory.Direct direct))) h = record { code = omega arith; allowed = refl; bytes = one direct h; row = refl }
placed (Accumulate operation.Addc (source.Memory (memory.Working w))) h = record { code = code_working 3 w (omega arith); allowed = allowed_working 3 w; bytes = none; row = in_working 3 w 0 0 }
placed (Accumulate operation.Orl (source.Immediate value)) h = record { code = omega arith; allowed = refl; bytes = one value h; row = refl }
placed (Accumulate operation.Orl (source.Memory (memory.Direct direct))) h = record { code = omega arith; allowed = refl; bytes = one direct h; row = refl }
placed (Accumulate operation.Orl (source.Memory (memory.Working w))) h = record { code = code_working 4 w (omega arith); allowed = allowed_working 4 w; bytes = none; row = in_working 4 w 0 0 }
placed (Accumulate operation.Anl (source.Immediate value)) h = record { code = omega arith; allowed = refl; bytes = one value h; row = refl }
placed (Accumulate operation.Anl (source.Memory (memory.Direct direct))) h = record { code = omega arith; allowed = refl; bytes = one direct h; row = refl }
placed (Accumulate operation.Anl (source.Memory (memory.Working w))) h = record { code = code_working 5 w (omega arith); allowed = allowed_working 5 w; bytes = none; row = in_working 5 w 0 0 }
placed (Accumulate operation.Xrl (source.Immediate value)) h = record { code = omega arith; allowed = refl; bytes = one value h; row = refl }
placed (Accumulate operation.Xrl (source.Memory (memory.Direct direct))) h = record { code = omega arith; allowed = refl; bytes = one direct h; row = refl }
placed (Accumulate operation.Xrl (source.Memory (memory.Working w))) h = record { code = code_working 6 w (omega arith); allowed = allowed_working 6 w; bytes = none; row = in_working 6 w 0 0 }
placed (Accumulate operation.Subb (source.Immediate value)) h = record { code = omega arith; allowed = refl; bytes = one value h; row = refl }
placed (Accumulate operation.Subb (source.Memory (memory.Direct direct))) h = record { code = omega arith; allowed = refl; bytes = one direct h; row = refl }
placed (Accumulate operation.Subb (source.Memory (memory.Working w))) h = record { code = code_working 9 w (omega arith); allowed = allowed_working 9 w; bytes = none; row = in_working 9 w 0 0 }
placed (DirectLogic logic.Orl direct mask.Accumulator) h = record { code = omega arith; allowed = refl; bytes = one direct h.0; row = refl }
placed (DirectLogic logic.Orl direct (mask.Immediate value)) h = record { code = omega arith; allowed = refl; bytes = two direct value h.0 h.1; row = refl }
placed (DirectLogic logic.Anl direct mask.Accumulator) h = record { code = omega arith; allowed = refl; bytes = one direct h.0; row = refl }
placed (DirectLogic logic.Anl direct (mask.Immediate value)) h = record { code = omega arith; allowed = refl; bytes = two direct value h.0 h.1; row = refl }
placed (DirectLogic logic.Xrl direct mask.Accumulator) h = record { code = omega arith; allowed = refl; bytes = one direct h.0; row = refl }
placed (DirectLogic logic.Xrl direct (mask.Immediate value)) h = record { code = omega arith; allowed = refl; bytes = two direct value h.0 h.1; row = refl }
placed Multiply h = record { code = omega arith; allowed = refl; bytes = none; row = refl }
placed Divide h = record { code = omega arith; allowed = refl; bytes = none; row = refl }
placed (ChangeCarry carry.Cpl) h = record { code = omega arith; allowed = refl; bytes = none; row = refl }
placed (ChangeCarry carry.Clr) h = record { code = omega arith; allowed = refl; bytes = none; row = refl }
placed (ChangeCarry carry.Setb) h = record { code = omega arith; allowed = refl; bytes = none; row = refl }
placed (CarryBit by_bit.Orl address) h = record { code = omega arith; allowed = refl; bytes = one address h; row = refl }
placed (CarryBit by_bit.Anl address) h = record { code = omega arith; allowed = refl; bytes = one address h; row = refl }
placed (CarryBit by_bit.OrlComplement address) h = record { code = omega arith; allowed = refl; bytes = one address h; row = refl }
placed (CarryBit by_bit.AnlComplement address) h = record { code = omega arith; allowed = refl; bytes = one address h; row = refl }
placed (CarryBit by_bit.Mov address) h = record { code = omega arith; allowed = refl; bytes = one address h; row = refl }
placed (ChangeBit bit.MovCarry address) h = record { code = omega arith; allowed = refl; bytes = one address h; row = refl }
placed (ChangeBit bit.Cpl address) h = record { code = omega arith; allowed = refl; bytes = one address h; row = refl }
placed (ChangeBit bit.Clr address) h = record { code = omega arith; allowed = refl; bytes = one address h; row = refl }
placed (ChangeBit bit.Setb address) h = record { code = omega arith; allowed = refl; bytes = one address h; row = refl }
placed (MoveImmediate place.Accumulator value) h = record { code = omega arith; allowed = refl; bytes = one value h.1; row = refl }
placed (MoveImmediate (place.Memory (memory.Direct direct)) value) h = record { code = omega arith; allowed = refl; bytes = two direct value h.0 h.1; row = refl }
placed (MoveImmediate (place.Memory (memory.Working w)) value) h = record { code = code_working 7 w (omega arith); allowed = allowed_working 7 w; bytes = one value h.1; row = in_working 7 w value 0 }
placed (MoveToDirect to (memory.Direct from)) h = record { code = omega arith; allowed = refl; bytes = two from to h.1 h.0; row = refl }
placed (MoveToDirect to (memory.Working w)) h = record { code = code_working 8 w (omega arith); allowed = allowed_working 8 w; bytes = one to h.0; row = in_working 8 w to 0 }
placed (MoveFromDirect w from) h = record { code = code_working 10 w (omega arith); allowed = allowed_working 10 w; bytes = one from h; row = in_working 10 w from 0 }
placed (LoadDataPointer value) h = record { code = omega arith; allowed = refl; bytes = two (value / 256) (value % 256) (omega arith) (omega arith); row = rw (joined value) refl }
placed (Load (memory.Direct direct)) h = record { code = omega arith; allowed = refl; bytes = one direct h; row = refl }
placed (Load (memory.Working w)) h = record { code = code_working 14 w (omega arith); allowed = allowed_working 14 w; bytes = none; row = in_working 14 w 0 0 }
placed (Store (memory.Direct direct)) h = record { code = omega arith; allowed = refl; bytes = one direct h; row = refl }
placed (Store (memory.Working w)) h = record { code = code_working 15 w (omega arith); allowed = allowed_working 15 w; bytes = none; row = in_working 15 w 0 0 }
placed (MoveCode base.ProgramCounter) h = record { code = omega arith; allowed = refl; bytes = none; row = refl }
placed (MoveCode base.DataPointer) h = record { code = omega arith; allowed = refl; bytes = none; row = refl }
placed (ReadExternal external.DataPointer) h = record { code = omega arith; allowed = refl; bytes = none; row = refl }
placed (ReadExternal (external.Indirect pointer.R0)) h = record { code = omega arith; allowed = refl; bytes = none; row = refl }
placed (ReadExternal (external.Indirect pointer.R1)) h = record { code = omega arith; allowed = refl; bytes = none; row = refl }
placed (WriteExternal external.DataPointer) h = record { code = omega arith; allowed = refl; bytes = none; row = refl }
placed (WriteExternal (external.Indirect pointer.R0)) h = record { code = omega arith; allowed = refl; bytes = none; row = refl }
placed (WriteExternal (external.Indirect pointer.R1)) h = record { code = omega arith; allowed = refl; bytes = none; row = refl }
placed (Push direct) h = record { code = omega arith; allowed = refl; bytes = one direct h; row = refl }
placed (Pop direct) h = record { code = omega arith; allowed = refl; bytes = one direct h; row = refl }
placed (Exchange (memory.Direct direct)) h = record { code = omega arith; allowed = refl; bytes = one direct h; row = refl }
placed (Exchange (memory.Working w)) h = record { code = code_working 12 w (omega arith); allowed = allowed_working 12 w; bytes = none; row = in_working 12 w 0 0 }
placed (ExchangeDigit pointer.R0) h = record { code = omega arith; allowed = refl; bytes = none; row = refl }
placed (ExchangeDigit pointer.R1) h = record { code = omega arith; allowed = refl; bytes = none; row = refl }

pub row_again : (i : Instr) → IsInstr i → Row (bytes_of i) i
row_again i h =
    let p = placed i h in
    record { are_bytes = All-cons (λ byte. byte < 256) (opcode_of i) (operand_bytes i) p.code p.bytes; allowed = p.allowed; row = p.row }
