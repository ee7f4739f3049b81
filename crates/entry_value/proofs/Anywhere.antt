-- A write at one of the addresses of a set: where the set has one address alone, a write at that.
use Rattle.std.proofs.Common.{◌≡◌, ℕ, ◌<◌, ◌≤◌, List, [], ◌∷◌, length, refl, sym, subst, inl, inr, arith}
use Prim.Native.Nat.{zero, suc}
use Rattle.std.specs.Prelude.{◌==◌, slice_index}
use Rattle.std.specs.List.{Contains}
use Rattle.std.proofs.lemmas.Bool.{cases_Bool, eq-eqb, eqb-true, ne_eqb}
use Rattle.value_set.specs.declared.form.Form.{Form}
use Rattle.value_set.specs.Form.{Has, IsNormal, members}
use Rattle.value_set.specs.Summing.{count_of}
use Rattle.entry_value.specs.declared.word.Word.{Word}
use Rattle.entry_value.specs.Cells.{CellMap, StandsUnder, AreCells, written, write_one, write_several, write_any}
use Rattle.entry_value.proofs.Bytes.{IsSize}
use Rattle.value_set.specs.Laws.{SetLaws}
use Rattle.entry_value.proofs.Scattering.{CoversWrites, several_covers, several_form, several_lo, several_hi}
use Rattle.entry_value.proofs.Writing.{one_covers, one_form, one_lo, one_hi}

pub only_member : (xs : List ℕ) (x : ℕ) → length xs ≡ 1 → Contains xs x → slice_index xs 0 ≡ x
only_member [] x one h = absurd (omega (arith, h.1))
only_member (y ∷ xs) x one (zero, below, is) = is
only_member (y ∷ xs) x one (suc k, below, is) = absurd (omega (arith, below))

pub at_one : (map : CellMap) (at : Form) (size : ℕ) (word : Word) → count_of 65536 at ≡ 1
    → write_any map at size word ≡ write_one map (slice_index (members 65536 at) 0) size word
unfolding write_any
at_one map at size word one = rw (eq-eqb (count_of 65536 at) 1 one) refl

pub at_several : (map : CellMap) (at : Form) (size : ℕ) (word : Word) → (count_of 65536 at ≡ 1 → ⊥)
    → write_any map at size word ≡ write_several map at size word
unfolding write_any
at_several map at size word several = rw (ne_eqb (count_of 65536 at) 1 several) refl

pub any_covers : SetLaws → CoversWrites write_any
unfolding write_any
any_covers sets first ram from size address v map at word below are addresses is normal byte stands h holds = elim (cases_Bool (count_of 65536 at == 1)) [
  | inl one ↦ rw one (
      subst (λ (a : ℕ). StandsUnder first (write_one map a size word).cells (written ram address size v))
      (sym (only_member (members 65536 at) address (eqb-true (count_of 65536 at) 1 one) h))
      (one_covers sets first ram from address size v map word below are (sets.below 65536 address at addresses h) is normal byte stands holds))
  | inr several ↦ rw several (several_covers sets first ram from size address v map at word below are addresses is normal byte stands h holds)
]

pub any_form : SetLaws → (from size : ℕ) (map : CellMap) (at : Form) (word : Word) → map.hi < 65536 → from ≤ map.lo
    → AreCells map.lo map.hi from map.cells → IsSize size
    → IsNormal 65536 word.set → (size ≡ 1 → (n : ℕ) → Has 65536 word.set n → n < 256)
    → AreCells map.lo map.hi from (write_any map at size word).cells
unfolding write_any
any_form sets from size map at word below first are is normal byte = elim (cases_Bool (count_of 65536 at == 1)) [
  | inl one ↦ rw one (one_form from (slice_index (members 65536 at) 0) size map word below first are is normal byte)
  | inr several ↦ rw several (several_form sets from size map at word are normal byte)
]

pub any_lo : (size : ℕ) (map : CellMap) (at : Form) (word : Word) → (write_any map at size word).lo ≡ map.lo
unfolding write_any
any_lo size map at word = elim (cases_Bool (count_of 65536 at == 1)) [
  | inl one ↦ rw one (one_lo (slice_index (members 65536 at) 0) size map word)
  | inr several ↦ rw several (several_lo size map at word)
]

pub any_hi : (size : ℕ) (map : CellMap) (at : Form) (word : Word) → (write_any map at size word).hi ≡ map.hi
unfolding write_any
any_hi size map at word = elim (cases_Bool (count_of 65536 at == 1)) [
  | inl one ↦ rw one (one_hi (slice_index (members 65536 at) 0) size map word)
  | inr several ↦ rw several (several_hi size map at word)
]
