-- What words, bytes, relations and cells hold. A proof over them takes these laws from one record.
use Rattle.std.specs.Prelude.{◌≡◌, ◌≢◌, ◌^◌, ◌≤◌, ◌<◌, ℕ, ◌⊎◌, true, Contains, Option, None, Some, List, [], slice_index, option_map, bit_and, bit_or}
use Rattle.value_set.specs.declared.form.Form.{Form}
use Rattle.value_set.specs.Form.{Has, IsNormal, members}
use Rattle.value_set.specs.Laws.{AreMarks, IsBelow}
use Rattle.value_set.specs.Summing.{count_of, single}
use Rattle.value_bits.specs.Sets.{low_set, pair_set}
use Rattle.entry_value.specs.declared.byte.Byte.{Byte}
use Rattle.entry_value.specs.declared.cells.Cell.{Cell}
use Rattle.entry_value.specs.declared.word.Entry.{Entry}
use Rattle.entry_value.specs.declared.word.Word.{Word}
use Rattle.entry_value.specs.Cells as cells
use Rattle.entry_value.specs.Cells.{AreCells, CellMap, IsCell, StandsUnder, are_within, join_cells, kept, number_at, widen_cells, write_any, write_one, written}
use Rattle.entry_value.specs.Values.{HoldsOf, IsFormed, Value, all_of_width, is_value_within, of_byte, of_word, value_and, value_joined, value_or, value_widened}
use Rattle.entry_value.specs.Words.{Suspended, IsFromEntry, HoldsOfWord, HoldsOfByte, common_entry, is_entry_within, entry_and, entry_or}

-- Relations of numbers to places of the suspended state: what came from a place came from it, behind a mask, by the masked
-- relation; a relation says what another one does that it is within, and what either says their common one says.
pub record EntryLaws : Type 0 where
  pub holds : (first : Option Suspended) (v : ℕ) (a b : Option Entry) → is_entry_within a b ≡ true
      → IsFromEntry first a v → IsFromEntry first b v
  pub and : (first : Option Suspended) (entry : Option Entry) (v m : ℕ) → IsFromEntry first entry v
      → IsFromEntry first (option_map (entry_and m) entry) (bit_and v m)
  pub or : (first : Option Suspended) (entry : Option Entry) (v m : ℕ) → IsFromEntry first entry v
      → IsFromEntry first (option_map (entry_or m) entry) (bit_or v m)
  pub common_first : (first : Option Suspended) (a b : Option Entry) (v : ℕ) → IsFromEntry first a v
      → IsFromEntry first (common_entry a b) v
  pub common_second : (first : Option Suspended) (a b : Option Entry) (v : ℕ) → IsFromEntry first b v
      → IsFromEntry first (common_entry a b) v
  pub common_is : (a b : Option Entry) → (common_entry a b ≡ None) ⊎ (common_entry a b ≡ a)
  -- their order
  pub itself : (a : Option Entry) → is_entry_within a a ≡ true
  pub along : (a b c : Option Entry) → is_entry_within a b ≡ true → is_entry_within b c ≡ true → is_entry_within a c ≡ true
  pub join_first : (a b : Option Entry) → is_entry_within a (common_entry a b) ≡ true
  pub join_second : (a b : Option Entry) → is_entry_within b (common_entry a b) ≡ true
  pub whole : (a : Option Entry) → is_entry_within a None ≡ true

-- Of values of a width: what holds of a number under a suspended state holds of it behind joins, widenings and greater sets, and
-- of the number behind a mask where it has passed that mask. Sets stay in normal form, and `within` is an order.
pub record SizedLaws {A : Type 0} (width : ℕ) (of : A → Value) : Type 0 where
  pub holds : (first : Option Suspended) (v : ℕ) (a b : A) → is_value_within width (of a) (of b) ≡ true
      → HoldsOf width first (of a) v → HoldsOf width first (of b) v
  pub join_normal : (a b : A) → IsFormed width (of a) → IsFormed width (of b) → IsFormed width (value_joined width (of a) (of b))
  pub join_holds_first : (first : Option Suspended) (v : ℕ) (a b : A) → IsFormed width (of a) → IsFormed width (of b)
      → HoldsOf width first (of a) v
      → HoldsOf width first (value_joined width (of a) (of b)) v
  pub join_holds_second : (first : Option Suspended) (v : ℕ) (a b : A) → IsFormed width (of a) → IsFormed width (of b)
      → HoldsOf width first (of b) v
      → HoldsOf width first (value_joined width (of a) (of b)) v
  pub widen_normal : (held new : A) (marks : List ℕ) → IsFormed width (of held) → IsFormed width (of new) → AreMarks (2 ^ width) marks
      → IsFormed width (value_widened width (of held) (of new) marks)
  pub widen_holds_held : (first : Option Suspended) (v : ℕ) (held new : A) (marks : List ℕ) → IsFormed width (of held)
      → IsFormed width (of new)
      → AreMarks (2 ^ width) marks → HoldsOf width first (of held) v → HoldsOf width first (value_widened width (of held) (of new) marks) v
  pub widen_holds_new : (first : Option Suspended) (v : ℕ) (held new : A) (marks : List ℕ) → IsFormed width (of held)
      → IsFormed width (of new)
      → AreMarks (2 ^ width) marks → HoldsOf width first (of new) v → HoldsOf width first (value_widened width (of held) (of new) marks) v
  -- masks
  pub and_normal : (m : ℕ) (a : A) → m < 2 ^ width → IsFormed width (of a) → IsFormed width (value_and width m (of a))
  pub and : (first : Option Suspended) (m v : ℕ) (a : A) → m < 2 ^ width → IsFormed width (of a) → HoldsOf width first (of a) v
      → HoldsOf width first (value_and width m (of a)) (bit_and v m)
  pub or_normal : (m : ℕ) (a : A) → m < 2 ^ width → IsFormed width (of a) → IsFormed width (value_or width m (of a))
  pub or : (first : Option Suspended) (m v : ℕ) (a : A) → m < 2 ^ width → IsFormed width (of a) → HoldsOf width first (of a) v
      → HoldsOf width first (value_or width m (of a)) (bit_or v m)
  -- their order
  pub itself : (a : A) → is_value_within width (of a) (of a) ≡ true
  pub along : (a b c : A) → is_value_within width (of a) (of b) ≡ true → is_value_within width (of b) (of c) ≡ true
      → is_value_within width (of a) (of c) ≡ true
  pub join_first : (a b : A) → IsFormed width (of a) → IsFormed width (of b)
      → is_value_within width (of a) (value_joined width (of a) (of b)) ≡ true
  pub join_second : (a b : A) → IsFormed width (of a) → IsFormed width (of b)
      → is_value_within width (of b) (value_joined width (of a) (of b)) ≡ true
  pub widen_held : (held new : A) (marks : List ℕ) → IsFormed width (of held) → IsFormed width (of new) → AreMarks (2 ^ width) marks
      → is_value_within width (of held) (value_widened width (of held) (of new) marks) ≡ true
  pub widen_new : (held new : A) (marks : List ℕ) → IsFormed width (of held) → IsFormed width (of new) → AreMarks (2 ^ width) marks
      → is_value_within width (of new) (value_widened width (of held) (of new) marks) ≡ true
  pub whole : (a : A) → IsFormed width (of a) → is_value_within width (of a) (all_of_width width) ≡ true

abbrev pub WordLaws : Type 0
WordLaws = SizedLaws 16 of_word

-- bytes are words with the high byte 0 too
pub record ByteLaws : Type 0 where
  pub sized : SizedLaws 8 of_byte
  pub to_word : (first : Option Suspended) (v : ℕ) (byte : Byte) → IsNormal 256 byte.set → HoldsOfByte first byte v
      → HoldsOfWord first (record { set = pair_set byte.set (single 0); entry = byte.entry }) v
  pub to_byte : (first : Option Suspended) (v : ℕ) (word : Word) → IsNormal 65536 word.set → v < 256 → HoldsOfWord first word v
      → HoldsOfByte first (record { set = low_set word.set; entry = word.entry }) v

pub record ValueLaws : Type 0 where
  pub entries : EntryLaws
  pub words : WordLaws
  pub bytes : ByteLaws

pub record CellLaws : Type 0 where
  -- members
  pub each : (lo hi from : ℕ) (list : List Cell) (cell : Cell) → AreCells lo hi from list → Contains list cell → IsCell lo hi cell
  pub kept_from : (f : Cell → Option Cell) (list : List Cell) (cell : Cell) → Contains (kept f list) cell
      → (held : Cell) × Contains list held × (f held ≡ Some cell)
  pub write_from : (at size : ℕ) (map : CellMap) (word : Word) (cell : Cell) → Contains (write_one map at size word).cells cell
      → (cell ≡ record { place = at; size = size; word = word }) ⊎ Contains map.cells cell
  -- reads
  pub reads : (first : Option Suspended) (ram : ℕ → ℕ) (lo hi from at size : ℕ) (list : List Cell) → AreCells lo hi from list → at < 65536
      → (size ≡ 1) ⊎ (size ≡ 2)
      → StandsUnder first list ram → HoldsOfWord first (cells.read list at size) (number_at ram at size)
  pub read_normal : (lo hi from at size : ℕ) (list : List Cell) → AreCells lo hi from list → IsNormal 65536 (cells.read list at size).set
  pub read_byte : (lo hi from at size : ℕ) (list : List Cell) → AreCells lo hi from list → size ≡ 1
      → IsBelow 65536 256 (cells.read list at size).set
  -- words of which each is a byte, as a write of one byte takes them
  pub byte_single : (n v : ℕ) → n < 256 → Has 65536 (single n) v → v < 256
  pub byte_any : (v : ℕ) → Has 65536 (cells.any_of 1) v → v < 256
  pub byte_widened_normal : (held new : Word) (marks : List ℕ) → IsNormal 65536 held.set → IsNormal 65536 new.set
      → IsNormal 65536 (cells.byte_widened held new marks).set
  pub byte_widened : (held new : Word) (marks : List ℕ) → IsNormal 65536 held.set → IsNormal 65536 new.set → IsBelow 65536 256 held.set
      → IsBelow 65536 256 (cells.byte_widened held new marks).set
  -- a write at one address
  pub write : (first : Option Suspended) (ram : ℕ → ℕ) (from at size v : ℕ) (map : CellMap) (word : Word)
      → map.hi < 65536 → AreCells map.lo map.hi from map.cells → at < 65536 → (size ≡ 1) ⊎ (size ≡ 2)
      → IsNormal 65536 word.set → (size ≡ 1 → IsBelow 65536 256 word.set)
      → StandsUnder first map.cells ram → HoldsOfWord first word v
      → StandsUnder first (write_one map at size word).cells (written ram at size v)
  pub write_form : (from at size : ℕ) (map : CellMap) (word : Word) → map.hi < 65536 → from ≤ map.lo → AreCells map.lo map.hi from map.cells
      → (size ≡ 1) ⊎ (size ≡ 2)
      → IsNormal 65536 word.set → (size ≡ 1 → IsBelow 65536 256 word.set) → AreCells map.lo map.hi from (write_one map at size word).cells
  pub write_lo : (at size : ℕ) (map : CellMap) (word : Word) → (write_one map at size word).lo ≡ map.lo
  pub write_hi : (at size : ℕ) (map : CellMap) (word : Word) → (write_one map at size word).hi ≡ map.hi
  -- a write at the addresses of a set
  pub store : (first : Option Suspended) (ram : ℕ → ℕ) (from size address v : ℕ) (map : CellMap) (at : Form) (word : Word)
      → map.hi < 65536 → AreCells map.lo map.hi from map.cells → IsNormal 65536 at → (size ≡ 1) ⊎ (size ≡ 2)
      → IsNormal 65536 word.set → (size ≡ 1 → IsBelow 65536 256 word.set)
      → StandsUnder first map.cells ram → Has 65536 at address → HoldsOfWord first word v
      → StandsUnder first (write_any map at size word).cells (written ram address size v)
  pub store_form : (from size : ℕ) (map : CellMap) (at : Form) (word : Word) → map.hi < 65536 → from ≤ map.lo
      → AreCells map.lo map.hi from map.cells
      → (size ≡ 1) ⊎ (size ≡ 2)
      → IsNormal 65536 word.set → (size ≡ 1 → IsBelow 65536 256 word.set) → AreCells map.lo map.hi from (write_any map at size word).cells
  pub store_lo : (size : ℕ) (map : CellMap) (at : Form) (word : Word) → (write_any map at size word).lo ≡ map.lo
  pub store_hi : (size : ℕ) (map : CellMap) (at : Form) (word : Word) → (write_any map at size word).hi ≡ map.hi
  pub store_one : (map : CellMap) (at : Form) (size : ℕ) (word : Word) → count_of 65536 at ≡ 1
      → write_any map at size word ≡ write_one map (slice_index (members 65536 at) 0) size word
  pub store_only : (at : Form) (address : ℕ) → count_of 65536 at ≡ 1 → Has 65536 at address → slice_index (members 65536 at) 0 ≡ address
  pub store_several : (map : CellMap) (at : Form) (size : ℕ) (word : Word) → count_of 65536 at ≢ 1
      → write_any map at size word ≡ cells.write_several map at size word
  -- what stands under cells
  pub holds : (first : Option Suspended) (ram : ℕ → ℕ) (new held : List Cell) → are_within new held ≡ true → StandsUnder first new ram
      → StandsUnder first held ram
  pub none : (first : Option Suspended) (ram : ℕ → ℕ) → ((at : ℕ) → ram at < 256) → StandsUnder first [] ram
  pub agree : (first : Option Suspended) (one other : ℕ → ℕ) (lo hi from : ℕ) (list : List Cell) → hi < 65536 → AreCells lo hi from list
      → ((at : ℕ) → other at < 256)
      → ((at : ℕ) → lo ≤ at → at ≤ hi → one at ≡ other at) → StandsUnder first list one → StandsUnder first list other
  -- joins and widened cells
  pub join_form : (lo hi from low high start : ℕ) (held new : List Cell) → AreCells lo hi from held → AreCells low high start new
      → AreCells lo hi from (join_cells held new)
  pub join_stands_held : (first : Option Suspended) (ram : ℕ → ℕ) (lo hi from low high start : ℕ) (held new : List Cell)
      → AreCells lo hi from held
      → AreCells low high start new
      → StandsUnder first held ram → StandsUnder first (join_cells held new) ram
  pub join_stands_new : (first : Option Suspended) (ram : ℕ → ℕ) (lo hi from low high start : ℕ) (held new : List Cell)
      → AreCells lo hi from held
      → AreCells low high start new
      → StandsUnder first new ram → StandsUnder first (join_cells held new) ram
  pub widen_form : (lo hi from low high start : ℕ) (held new : List Cell) (marks : List ℕ) → AreCells lo hi from held
      → AreCells low high start new
      → AreMarks 65536 marks → AreCells lo hi from (widen_cells held new marks)
  pub widen_stands_held : (first : Option Suspended) (ram : ℕ → ℕ) (lo hi from low high start : ℕ) (held new : List Cell) (marks : List ℕ)
      → AreCells lo hi from held → AreCells low high start new
      → AreMarks 65536 marks → StandsUnder first held ram → StandsUnder first (widen_cells held new marks) ram
  pub widen_stands_new : (first : Option Suspended) (ram : ℕ → ℕ) (lo hi from low high start : ℕ) (held new : List Cell) (marks : List ℕ)
      → AreCells lo hi from held → AreCells low high start new
      → AreMarks 65536 marks → StandsUnder first new ram → StandsUnder first (widen_cells held new marks) ram
  -- their order
  pub itself : (lo hi from : ℕ) (list : List Cell) → AreCells lo hi from list → are_within list list ≡ true
  pub along : (a b c : List Cell) → are_within a b ≡ true → are_within b c ≡ true → are_within a c ≡ true
  pub join_held : (lo hi from low high start : ℕ) (held new : List Cell) → AreCells lo hi from held → AreCells low high start new
      → are_within held (join_cells held new) ≡ true
  pub join_new : (lo hi from low high start : ℕ) (held new : List Cell) → AreCells lo hi from held → AreCells low high start new
      → are_within new (join_cells held new) ≡ true
  pub widen_held : (lo hi from low high start : ℕ) (held new : List Cell) (marks : List ℕ) → AreCells lo hi from held
      → AreCells low high start new
      → AreMarks 65536 marks → are_within held (widen_cells held new marks) ≡ true
  pub widen_new : (lo hi from low high start : ℕ) (held new : List Cell) (marks : List ℕ) → AreCells lo hi from held
      → AreCells low high start new
      → AreMarks 65536 marks → are_within new (widen_cells held new marks) ≡ true
