-- Sixteen registers keep their form where one is set: lemmas, also for the proofs of crates above.
use Rattle.std.proofs.Common.{◌≡◌, ℕ, ◌%◌, ◌<◌, ◌≤◌, List, length, slice_index, slice_set, get_or-set_same, get_or-set_other, sym, subst, ◌∙◌, inl, inr, arith}
use Rattle.std.specs.Prelude.{All}
use Rattle.std.proofs.lemmas.Bool.{cases_eq}
use Rattle.std.proofs.lemmas.List.{length-set}
use Rattle.std.proofs.lemmas.List.Elements.{All-set}

-- sixteen words, of which PC and SP are even, SR holds its bits 8 to 0 and R3 nothing
pub record AreRegisters (registers : List ℕ) : Type 0 where
  pub count : length registers ≡ 16
  pub words : All (λ r. r < 65536) registers
  pub even_pc : slice_index registers 0 % 2 ≡ 0
  pub even_sp : slice_index registers 1 % 2 ≡ 0
  pub status : slice_index registers 2 < 512
  pub nothing : slice_index registers 3 ≡ 0

-- a register has a property that it had, and that the value has if it is put there
pub kept_at : (P : ℕ → Type 0) (registers : List ℕ) (i value at : ℕ) → at < length registers → (at ≡ i → P value)
    → P (slice_index registers at)
    → P (slice_index (slice_set registers i value) at)
kept_at P registers i value at inside new old = elim (cases_eq at i) [
  | inl same ↦ subst (λ n. P (slice_index (slice_set registers n value) at)) same (subst P (sym (get_or-set_same registers at value 0 inside)) (new same))
  | inr other ↦ subst P (sym (get_or-set_other registers i at value 0 other)) old
]

set_one : (registers : List ℕ) (i value : ℕ) → AreRegisters registers → value < 65536 → (i < 2 → value % 2 ≡ 0)
    → (i ≡ 2 → value < 512) → (i ≡ 3 → value ≡ 0)
    → AreRegisters (slice_set registers i value)
set_one registers i value are below even status nothing = record {
  count = length-set registers i value ∙ are.count;
  words = All-set (λ r. r < 65536) registers i value below are.words;
  even_pc = kept_at (λ r. r % 2 ≡ 0) registers i value 0 (omega (arith, are.count)) (λ e. even (omega (arith, e))) are.even_pc;
  even_sp = kept_at (λ r. r % 2 ≡ 0) registers i value 1 (omega (arith, are.count)) (λ e. even (omega (arith, e))) are.even_sp;
  status = kept_at (λ r. r < 512) registers i value 2 (omega (arith, are.count)) (λ e. status (sym e)) are.status;
  nothing = kept_at (λ r. r ≡ 0) registers i value 3 (omega (arith, are.count)) (λ e. nothing (sym e)) are.nothing;
}

pub set_pc : (registers : List ℕ) (value : ℕ) → AreRegisters registers → value < 65536 → value % 2 ≡ 0
    → AreRegisters (slice_set registers 0 value)
set_pc registers value are below is = set_one registers 0 value are below (λ e. is) (λ e. omega (arith, e)) (λ e. omega (arith, e))

pub set_sp : (registers : List ℕ) (value : ℕ) → AreRegisters registers → value < 65536 → value % 2 ≡ 0
    → AreRegisters (slice_set registers 1 value)
set_sp registers value are below is = set_one registers 1 value are below (λ e. is) (λ e. omega (arith, e)) (λ e. omega (arith, e))

pub set_status : (registers : List ℕ) (value : ℕ) → AreRegisters registers → value < 512 → AreRegisters (slice_set registers 2 value)
set_status registers value are below =
    set_one registers 2 value are (omega arith) (λ e. omega (arith, e)) (λ e. below) (λ e. omega (arith, e))

pub set_other : (registers : List ℕ) (i value : ℕ) → AreRegisters registers → 4 ≤ i → value < 65536
    → AreRegisters (slice_set registers i value)
set_other registers i value are high below =
    set_one registers i value are below (λ e. omega (arith, e, high)) (λ e. omega (arith, e, high)) (λ e. omega (arith, e, high))

pub ruleset registers_kept = (set_pc, set_sp, set_status, set_other)
