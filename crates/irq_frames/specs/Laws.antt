-- What touched ranges, and cells where a handler begins and behind it, hold. A proof over them takes these laws from one record.
use Rattle.std.specs.Prelude.{◌≡◌, ◌≤◌, ◌<◌, ◌||◌, ◌∷◌, ℕ, true, Option, Some, None, [], List, Contains}
use Rattle.value_set.specs.Form.{IsNormal}
use Rattle.entry_value.specs.declared.cells.Cell.{Cell}
use Rattle.entry_value.specs.declared.word.Entry.{Entry}
use Rattle.entry_value.specs.declared.word.Word.{Word}
use Rattle.entry_value.specs.Words.{Suspended, HoldsOfWord}
use Rattle.entry_value.specs.Cells.{AreCells, CellMap, StandsUnder, kept}
use Rattle.irq_frames.specs.Ranges.{AreRanges, has_address, lies_in, ranges_within, united, with_range}
use Rattle.irq_frames.specs.Resuming.{AgreeOutside, AreNormal, CanResume, EachFits, EachHolds, EachTells, HasMasks, IsBehind, IsCellMap, IsFromEither, Tells, cells_behind, resumed_sized, resumed_word}
use Rattle.irq_frames.specs.Unrelated.{plain_cell, unrelated}

-- A range that is added, and two lists of ranges that are united, give ascending ranges with the addresses of both. Being
-- within others is an order, and ranges within others have no address that these lack.
pub record RangeLaws : Type 0 where
  pub add_form : (from hi low high : ℕ) (ranges : List (ℕ × ℕ)) → from ≤ low → low ≤ high → high ≤ hi → AreRanges from hi ranges
      → AreRanges from hi (with_range low high ranges)
  pub add : (from hi at low high : ℕ) (ranges : List (ℕ × ℕ)) → low ≤ high → AreRanges from hi ranges
      → has_address (with_range low high ranges) at ≡ (has_address ranges at || lies_in (at, at) (low, high))
  pub unite_form : (lo hi : ℕ) (ranges others : List (ℕ × ℕ)) → AreRanges lo hi ranges → AreRanges lo hi others
      → AreRanges lo hi (united ranges others)
  pub unite_first : (ranges others : List (ℕ × ℕ)) → ranges_within ranges (united ranges others) ≡ true
  pub unite_second : (ranges others : List (ℕ × ℕ)) → ranges_within others (united ranges others) ≡ true
  pub has : (at : ℕ) (ranges others : List (ℕ × ℕ)) → ranges_within ranges others ≡ true → has_address ranges at ≡ true
      → has_address others at ≡ true
  pub itself : (ranges : List (ℕ × ℕ)) → ranges_within ranges ranges ≡ true
  pub along : (a b c : List (ℕ × ℕ)) → ranges_within a b ≡ true → ranges_within b c ≡ true → ranges_within a c ≡ true
  pub whole : (lo hi : ℕ) (ranges : List (ℕ × ℕ)) → AreRanges lo hi ranges → ranges_within ranges ((lo, hi) ∷ []) ≡ true

pub record FrameLaws : Type 0 where
  -- where a handler begins: cells without relations
  pub plain_stands : (first other : Option Suspended) (ram : ℕ → ℕ) (cells : List Cell) → StandsUnder first cells ram
      → StandsUnder other (kept unrelated cells) ram
  pub plain_form : (lo hi from : ℕ) (cells : List Cell) → AreCells lo hi from cells → AreCells lo hi from (kept unrelated cells)
  pub plain_each : (cells : List Cell) (cell : Cell) → Contains (kept unrelated cells) cell
      → (held : Cell) × Contains cells held × (plain_cell held ≡ cell)
  -- words that go on behind it
  pub word : (places : ℕ → Word) (suspended : Suspended) (first : Option Suspended) (exit : Word) (v : ℕ)
      → AreNormal places → HasMasks exit.entry
      → Tells places suspended first exit.entry → HoldsOfWord (Some suspended) exit v → HoldsOfWord first (resumed_word places exit) v
  pub word_normal : (places : ℕ → Word) (exit : Word) → AreNormal places → HasMasks exit.entry → IsNormal 65536 exit.set
      → IsNormal 65536 (resumed_word places exit).set
  pub word_none : (places : ℕ → Word) (exit : Word) → exit.entry ≡ None → (resumed_word places exit).entry ≡ None
  pub word_entry : (places : ℕ → Word) (exit : Word) (entry : Entry) → exit.entry ≡ Some entry
      → IsBehind entry (places entry.place).entry (resumed_word places exit).entry
  -- cells that go on behind it, where each word of the exit's fits its cell and holds: a RAM that stands under the exit's cells,
  -- and is what it was outside the touched ranges, stands under them
  pub untouched : (words : Cell → Word) (first : Option Suspended) (before now : ℕ → ℕ) (at exit : CellMap) (touched : List (ℕ × ℕ))
      → IsCellMap at → IsCellMap exit → EachFits words exit.cells → EachHolds first words now exit.cells → AgreeOutside touched now before
      → ((b : ℕ) → now b < 256) → StandsUnder first at.cells before → StandsUnder first (cells_behind words at exit touched).cells now
  pub untouched_form : (words : Cell → Word) (at exit : CellMap) (touched : List (ℕ × ℕ)) → IsCellMap at
      → IsCellMap exit → EachFits words exit.cells
      → IsCellMap (cells_behind words at exit touched)
  pub untouched_lo : (words : Cell → Word) (at exit : CellMap) (touched : List (ℕ × ℕ)) → (cells_behind words at exit touched).lo ≡ at.lo
  pub untouched_hi : (words : Cell → Word) (at exit : CellMap) (touched : List (ℕ × ℕ)) → (cells_behind words at exit touched).hi ≡ at.hi
  pub origin : (words : Cell → Word) (at exit : CellMap) (touched : List (ℕ × ℕ)) (cell : Cell)
      → Contains (cells_behind words at exit touched).cells cell
      → IsFromEither words at.cells exit.cells cell
  -- words by what the places held fit and hold
  pub sized_fit : (places : ℕ → Word) (exit : CellMap) → CanResume places exit → EachFits (resumed_sized places) exit.cells
  pub sized_hold : (places : ℕ → Word) (suspended : Suspended) (first : Option Suspended) (now : ℕ → ℕ) (exit : CellMap)
      → CanResume places exit
      → EachTells places suspended first exit.cells → StandsUnder (Some suspended) exit.cells now
      → EachHolds first (resumed_sized places) now exit.cells
