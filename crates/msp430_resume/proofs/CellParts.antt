-- Cells and touched ranges where a suspended state goes on.
use Rattle.std.proofs.Common.{◌≡◌, ℕ, ◌<◌, Bool, true, false, Option, None, Some, List, refl, sym, ◌∙◌, subst, inl, inr, arith}
use Rattle.std.specs.Prelude.{◌==◌, Contains}
use Rattle.std.specs.Option.{option_map}
use Rattle.std.proofs.lemmas.Bool.{cases_Bool}
use Rattle.entry_value.specs.declared.cells.Cell.{Cell}
use Rattle.entry_value.specs.declared.word.Word.{Word}
use Rattle.entry_value.specs.Cells.{AreCells}
use Rattle.irq_frames.specs.Ranges.{touched_behind}
use Rattle.irq_frames.specs.TouchFacts.{agree_behind}
use Rattle.entry_value.specs.CellLists.{cell_of}
use Rattle.irq_frames.specs.Resuming.{CanResume, EachTells, IsCellMap, IsFromEither, resumed_cells, resumed_sized, resumed_word}
use Rattle.msp430_chip.specs.declared.device.Device.{Device}
use Rattle.msp430_chip.specs.declared.state.ChipState.{ChipState}
use Rattle.msp430_chip.specs.State.{register_of}
use Rattle.msp430_state.specs.Forms.{IsChipCell, IsKnown, IsRelation, IsWord}
use Rattle.msp430_state.specs.Holding.{KeepsUntouched, ram_byte, suspended_of}
use Rattle.msp430_state.specs.Known.{Known}
use Rattle.msp430_resume.specs.Resume.{place_word}
use Rattle.msp430_alu.specs.Laws.{MemoryLaws}
use Rattle.msp430_resume.proofs.HeldWords.{IsSuspended, has_masks, place_form, relation_tells, resumed_form}

-- WHAT IS ASKED OF CELLS

pub map_form : (lo hi : ℕ) (framed : Bool) (a : Known) → hi < 65536 → IsKnown lo hi framed a → IsCellMap a.cells
map_form lo hi framed a below form =
    let high : a.cells.hi ≡ hi = form.up_to in
    let cells = subst (λ (low : ℕ). AreCells low hi low a.cells.cells) (sym form.from) form.cells in
    record { high = omega (arith, high, below); are = subst (λ (top : ℕ). AreCells a.cells.lo top a.cells.lo a.cells.cells) (sym high) cells }

pub can_resume : (laws : MemoryLaws) (lo hi : ℕ) (framed : Bool) (a exit : Known) (pc : ℕ) → hi < 65536 → pc < 65536
    → IsKnown lo hi framed a → IsKnown lo hi true exit
    → CanResume (place_word a pc) exit.cells
can_resume laws lo hi framed a exit pc below small form exit_form = record {
  form = map_form lo hi true exit below exit_form;
  normal = λ place. (place_form laws lo hi framed a pc small form place).normal;
  masks = λ cell held. has_masks cell.word.entry (exit_form.each_cell cell held).entry;
}

pub each_tells : (laws : MemoryLaws) (device : Device) (framed : Bool) (a exit : Known) (f : ChipState) (first : Option ChipState)
    → IsSuspended device framed a f first → IsKnown device.ram.lo device.ram.hi true exit
    → EachTells (place_word a (register_of f 0)) (suspended_of f) (option_map suspended_of first) exit.cells.cells
each_tells laws device framed a exit f first is form = λ cell held. relation_tells laws device framed a f first is cell.word.entry (form.each_cell cell held).entry

-- THEIR FORM

-- a byte has no relation
sized_is_byte : (places : ℕ → Word) (cell : Cell) → cell.size ≡ 1 → (resumed_sized places cell).entry ≡ None
sized_is_byte places cell one = rw one refl

sized_relation : (framed : Bool) (places : ℕ → Word) (cell : Cell)
    → IsRelation framed (resumed_word places cell.word).entry → IsRelation framed (resumed_sized places cell).entry
sized_relation framed places cell form = elim (cases_Bool (cell.size == 1)) [
  | inl one ↦ rw one tt
  | inr two ↦ rw two form
]

-- the word of a cell, of which alone the form of its relation is asked
chip_cell : (laws : MemoryLaws) (lo hi : ℕ) (framed : Bool) (a exit : Known) (pc : ℕ) (cell : Cell) → pc < 65536
    → IsKnown lo hi framed a → IsKnown lo hi true exit
    → IsFromEither (resumed_sized (place_word a pc)) a.cells.cells exit.cells.cells cell → IsChipCell framed cell
chip_cell laws lo hi framed a exit pc cell small form exit_form (inl held) = form.each_cell cell held
chip_cell laws lo hi framed a exit pc cell small form exit_form (inr (one, held, is)) =
    let own = exit_form.each_cell one held in
    let places = place_word a pc in
    let word : IsWord true one.word = record { normal = (cell_of lo hi lo exit.cells.cells one exit_form.cells held).normal; entry = own.entry } in
    subst (IsChipCell framed) is record {
      even = own.even;
      byte = sized_is_byte places one;
      entry = sized_relation framed places one (resumed_form laws framed places one.word (place_form laws lo hi framed a pc small form) word).entry;
    }

pub cells_form : (laws : MemoryLaws) (lo hi : ℕ) (framed : Bool) (a exit : Known) (pc : ℕ) → hi < 65536 → pc < 65536
    → IsKnown lo hi framed a → IsKnown lo hi true exit
    → AreCells lo hi lo (resumed_cells (place_word a pc) a.cells exit.cells exit.touched).cells
cells_form laws lo hi framed a exit pc below small form exit_form =
    let places = place_word a pc in
    let map = resumed_cells places a.cells exit.cells exit.touched in
    let words = resumed_sized places in
    let can = can_resume laws lo hi framed a exit pc below small form exit_form in
    let formed = laws.known.frames.untouched_form words a.cells exit.cells exit.touched (map_form lo hi framed a below form) can.form
    (laws.known.frames.sized_fit places exit.cells can) in
    let low : map.lo ≡ lo = laws.known.frames.untouched_lo words a.cells exit.cells exit.touched ∙ form.from in
    let high : map.hi ≡ hi = laws.known.frames.untouched_hi words a.cells exit.cells exit.touched ∙ form.up_to in
    subst (λ (top : ℕ). AreCells lo top lo map.cells) high (subst (λ (bottom : ℕ). AreCells bottom map.hi bottom map.cells) low formed.are)

pub each_cell : (laws : MemoryLaws) (lo hi : ℕ) (framed : Bool) (a exit : Known) (pc : ℕ) → pc < 65536
    → IsKnown lo hi framed a → IsKnown lo hi true exit
    → (cell : Cell) → Contains (resumed_cells (place_word a pc) a.cells exit.cells exit.touched).cells cell → IsChipCell framed cell
each_cell laws lo hi framed a exit pc small form exit_form cell held =
    chip_cell laws lo hi framed a exit pc cell small form exit_form (laws.known.frames.origin (resumed_sized (place_word a pc)) a.cells exit.cells exit.touched cell held)

-- TOUCHED RANGES

none_some : (g : ChipState) → Some g ≡ None → ⊥
none_some g e = absurd (cc)

pub untouched_behind : (laws : MemoryLaws) (device : Device) (framed : Bool) (touched exit : List (ℕ × ℕ)) (f : ChipState) (ram : List ℕ) (first : Option ChipState)
    → (framed ≡ false → first ≡ None)
    → KeepsUntouched device touched f.ram first → KeepsUntouched device exit ram (Some f)
    → KeepsUntouched device (touched_behind framed touched exit) ram first
untouched_behind laws device framed touched exit f ram None base before behind = tt
untouched_behind laws device false touched exit f ram (Some g) base before behind = absurd (none_some g (base refl))
untouched_behind laws device true touched exit f ram (Some g) base before behind =
    agree_behind laws.known.ranges touched exit (ram_byte device g.ram) (ram_byte device f.ram) (ram_byte device ram) before behind
