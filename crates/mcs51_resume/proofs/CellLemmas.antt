-- RAM where a suspended state goes on.
use Rattle.std.proofs.Common.{◌≡◌, ℕ, ◌<◌, Bool, true, false, Option, None, Some, List, [], ◌∷◌, refl, sym, ◌∙◌, subst, inl, inr, arith, All}
use Rattle.std.specs.Prelude.{slice_index}
use Rattle.std.specs.Option.{option_map}
use Rattle.std.proofs.lemmas.List.Elements.{All-cons, All-contains, All-nil}
use Rattle.value_set.specs.Summing.{single}
use Rattle.entry_value.specs.declared.byte.Byte.{Byte}
use Rattle.entry_value.specs.declared.cells.Cell.{Cell}
use Rattle.entry_value.specs.declared.word.Entry.{Entry}
use Rattle.entry_value.specs.declared.word.Word.{Word}
use Rattle.entry_value.specs.CellLists.{Each, cell_of, each_from}
use Rattle.entry_value.specs.Cells.{IsCell, AreCells, StandsUnder, number_at}
use Rattle.entry_value.specs.Words.{Suspended, IsFromEntry, HoldsOfWord}
use Rattle.irq_frames.specs.KnownLaws.{KnownLaws}
use Rattle.irq_frames.specs.Laws.{RangeLaws}
use Rattle.irq_frames.specs.Ranges.{touched_behind}
use Rattle.irq_frames.specs.Resuming.{EachFits, EachHolds, FitsCell, IsCellMap, IsFromEither}
use Rattle.irq_frames.specs.TouchFacts.{agree_behind}
use Rattle.mcs51_chip.specs.declared.state.ChipState.{ChipState}
use Rattle.mcs51_state.specs.FormFacts.{no_relation}
use Rattle.mcs51_state.specs.Forms.{IsChipCell, IsKnown, IsRelation}
use Rattle.mcs51_state.specs.Holding.{KeepsUntouched}
use Rattle.mcs51_state.specs.Known.{Known}
use Rattle.mcs51_state.specs.Places.{suspended_of}
use Rattle.mcs51_state.specs.Under.{IsFramed, IsUnder}
use Rattle.mcs51_results.specs.InstructionLaws.{InstructionLaws}
use Rattle.mcs51_resume.specs.Resume.{cell_word_by, masked_by, place_byte, resumed_cell_word, resumed_cells}
use Rattle.mcs51_resume.proofs.Masks.{AreFormed, Tells, masked_form, told_holds}
use Rattle.mcs51_resume.proofs.PlaceLemmas.{relation_formed, relation_tells}

-- THE EXIT'S CELLS

word_fits : (laws : KnownLaws) (framed : Bool) (places : ℕ → Byte) (size : ℕ) (word : Word) (entry : Option Entry)
    → AreFormed framed places entry → IsRelation true entry
    → FitsCell size word → FitsCell size (cell_word_by places word entry)
word_fits laws framed places size word None formed form fits = fits
word_fits laws framed places size word (Some entry) formed form fits =
    let held = masked_form laws framed entry (places entry.place) form.1 form.2 formed in record {
      normal = laws.bits.pair_normal (masked_by entry (places entry.place)).set (single 0) held.normal (laws.sets.single 256 0 (omega arith)).0;
      byte = λ one v. laws.bits.pair_byte (masked_by entry (places entry.place)).set v held.normal;
    }

by_relation : (laws : KnownLaws) (framed : Bool) (places : ℕ → Byte) (word : Word) (entry : Option Entry)
    → word.entry ≡ entry → AreFormed framed places entry → IsRelation true entry
    → IsRelation framed (cell_word_by places word entry).entry
by_relation laws framed places word None is formed form = subst (IsRelation framed) (sym is) (no_relation framed)
by_relation laws framed places word (Some entry) is formed form = (masked_form laws framed entry (places entry.place) form.1 form.2 formed).entry

by_holds : (laws : KnownLaws) (framed : Bool) (places : ℕ → Byte) (f : Suspended) (first : Option Suspended) (word : Word) (entry : Option Entry) (v : ℕ)
    → word.entry ≡ entry → AreFormed framed places entry
    → IsRelation true entry → Tells places f first entry → HoldsOfWord (Some f) word v
    → HoldsOfWord first (cell_word_by places word entry) v
by_holds laws framed places f first word None v is formed form tells holds = (holds.0, subst (λ (e : Option Entry). IsFromEntry first e v) (sym is) tt)
by_holds laws framed places f first word (Some entry) v is formed form tells holds =
    laws.values.bytes.to_word first v (masked_by entry (places entry.place)) (masked_form laws framed entry (places entry.place) form.1 form.2 formed).normal
    (told_holds laws places f first entry v tells (subst (λ (e : Option Entry). IsFromEntry (Some f) e v) is holds.1))

-- RAM THAT GOES ON

map_form : (framed : Bool) (a : Known) → IsKnown framed a → IsCellMap a.cells
map_form framed a form =
    let high : a.cells.hi ≡ 255 = form.up_to in
    let cells = subst (λ (low : ℕ). AreCells low 255 low a.cells.cells) (sym form.from) form.cells in
    record { high = omega (arith, high); are = subst (λ (top : ℕ). AreCells a.cells.lo top a.cells.lo a.cells.cells) (sym high) cells }

all_of : (P : Cell → Type 0) (cells : List Cell) → Each P cells → All P cells
all_of P [] h = All-nil P
all_of P (cell ∷ cells) h = All-cons P cell cells h.0 (all_of P cells h.1)

module _ (laws : InstructionLaws) (framed : Bool) (a exit : Known) (pc : ℕ) (small : pc < 65536) (form : IsKnown framed a) (exit_form : IsKnown true exit) where
  each_fits : EachFits (resumed_cell_word (place_byte framed a pc)) exit.cells.cells
  each_fits cell held =
      let is : IsCell 0 255 cell = cell_of 0 255 0 exit.cells.cells cell exit_form.cells held in
      let own = All-contains (IsChipCell true) exit.cells.cells cell exit_form.each_cell held in
      word_fits laws.known framed (place_byte framed a pc) cell.size cell.word cell.word.entry (relation_formed laws framed a pc small form cell.word.entry own.entry) own.entry
      record { normal = is.normal; byte = is.byte }

  pub cells_formed : IsCellMap (resumed_cells (place_byte framed a pc) a.cells exit.cells exit.touched)
  cells_formed = laws.known.frames.untouched_form (resumed_cell_word (place_byte framed a pc)) a.cells exit.cells exit.touched (map_form framed a form)
      (map_form true exit exit_form) each_fits

  pub cells_from : (resumed_cells (place_byte framed a pc) a.cells exit.cells exit.touched).lo ≡ 0
  cells_from = laws.known.frames.untouched_lo (resumed_cell_word (place_byte framed a pc)) a.cells exit.cells exit.touched ∙ form.from

  pub cells_up_to : (resumed_cells (place_byte framed a pc) a.cells exit.cells exit.touched).hi ≡ 255
  cells_up_to = laws.known.frames.untouched_hi (resumed_cell_word (place_byte framed a pc)) a.cells exit.cells exit.touched ∙ form.up_to

  pub cells_are : AreCells 0 255 0 (resumed_cells (place_byte framed a pc) a.cells exit.cells exit.touched).cells
  cells_are =
      let all = resumed_cells (place_byte framed a pc) a.cells exit.cells exit.touched in
      subst (λ (top : ℕ). AreCells 0 top 0 all.cells) cells_up_to (subst (λ (bottom : ℕ). AreCells bottom all.hi bottom all.cells) cells_from cells_formed.are)

  chip_cell : (cell : Cell)
      → IsFromEither (resumed_cell_word (place_byte framed a pc)) a.cells.cells exit.cells.cells cell
      → IsChipCell framed cell
  chip_cell cell (inl held) = All-contains (IsChipCell framed) a.cells.cells cell form.each_cell held
  chip_cell cell (inr (one, held, is)) =
      let own = All-contains (IsChipCell true) exit.cells.cells one exit_form.each_cell held in
      subst (IsChipCell framed) is record {
        size = own.size;
        entry = by_relation laws.known framed (place_byte framed a pc) one.word one.word.entry refl
            (relation_formed laws framed a pc small form one.word.entry own.entry) own.entry;
      }

  pub each_chip_cell : All (IsChipCell framed) (resumed_cells (place_byte framed a pc) a.cells exit.cells exit.touched).cells
  each_chip_cell =
      let cells = (resumed_cells (place_byte framed a pc) a.cells exit.cells exit.touched).cells in
      all_of (IsChipCell framed) cells (each_from (IsChipCell framed) cells
      (λ cell held. chip_cell cell (laws.known.frames.origin (resumed_cell_word (place_byte framed a pc)) a.cells exit.cells exit.touched cell held)))

each_holds : (laws : InstructionLaws) (framed : Bool) (a exit : Known) (f t : ChipState) (first : Option ChipState)
    → IsUnder framed a f first → IsUnder true exit t (Some f)
    → EachHolds (option_map suspended_of first) (resumed_cell_word (place_byte framed a f.pc)) (slice_index t.ram) exit.cells.cells
each_holds laws framed a exit f t first under left cell held =
    let own = All-contains (IsChipCell true) exit.cells.cells cell left.form.each_cell held in
    by_holds laws.known framed (place_byte framed a f.pc) (suspended_of f) (option_map suspended_of first) cell.word cell.word.entry
    (number_at (slice_index t.ram) cell.place cell.size) refl
    (relation_formed laws framed a f.pc under.holds.state.pc under.form cell.word.entry own.entry) own.entry (relation_tells laws framed a f first under cell.word.entry own.entry)
    (left.holds.parts.cells.1 cell held)

pub cells_stand : (laws : InstructionLaws) (framed : Bool) (a exit : Known) (f t : ChipState) (first : Option ChipState)
    → IsUnder framed a f first → IsUnder true exit t (Some f)
    → StandsUnder (option_map suspended_of first) (resumed_cells (place_byte framed a f.pc) a.cells exit.cells exit.touched).cells (slice_index t.ram)
cells_stand laws framed a exit f t first under left =
    laws.known.frames.untouched (resumed_cell_word (place_byte framed a f.pc)) (option_map suspended_of first) (slice_index f.ram) (slice_index t.ram)
    a.cells exit.cells exit.touched
    (map_form framed a under.form) (map_form true exit left.form) (each_fits laws framed a exit f.pc under.holds.state.pc under.form left.form)
    (each_holds laws framed a exit f t first under left) left.holds.parts.untouched left.holds.parts.cells.0 under.holds.parts.cells

-- TOUCHED RANGES

pub untouched_behind : (laws : RangeLaws) (framed : Bool) (touched exit : List (ℕ × ℕ)) (f t : ChipState) (first : Option ChipState)
    → IsFramed framed first
    → KeepsUntouched touched f first → KeepsUntouched exit t (Some f) → KeepsUntouched (touched_behind framed touched exit) t first
untouched_behind laws framed touched exit f t None base before behind = tt
untouched_behind laws false touched exit f t (Some g) base before behind = absurd (cc)
untouched_behind laws true touched exit f t (Some g) base before behind =
    agree_behind laws touched exit (slice_index g.ram) (slice_index f.ram) (slice_index t.ram) before behind
