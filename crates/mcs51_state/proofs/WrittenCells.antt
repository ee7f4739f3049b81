-- The cells of RAM behind a write of a byte.
use Rattle.std.proofs.Common.{◌≡◌, ℕ, suc, ◌+◌, ◌%◌, ◌<◌, ◌==◌, ◌&&◌, not, Bool, Option, Some, List, [], ◌∷◌, length, get_or, set, refl, sym, ap, ◌∙◌, subst, inl, inr, arith, All, Contains, get_or-set_same, get_or-set_other}
use Rattle.std.specs.Prelude.{nat_lt, ◌||◌, ◌-◌, slice_index}
use Rattle.std.specs.List.{filter}
use Rattle.std.proofs.lemmas.Bool.{cond_both, cond-true, cond-false, cases_eq, cases_lt, eq-eqb, ne_eqb}
use Rattle.std.proofs.lemmas.List.{get_or_past}
use Rattle.std.proofs.lemmas.List.Elements.{All-cons, All-head, All-tail, All-filter, All-get_or}
use Rattle.plain_lemmas.specs.Members.{in_none, in_cons}
use Rattle.entry_value.specs.declared.byte.Byte.{Byte}
use Rattle.entry_value.specs.declared.cells.Cell.{Cell}
use Rattle.entry_value.specs.declared.word.Word.{Word}
use Rattle.entry_value.specs.Cells.{CellMap, AreCells, StandsUnder, cell_at, found_or, put_together, read, meets, insert, is_nothing, with_cell, write_one, written}
use Rattle.entry_value.specs.RelationFacts.{common_entry_keeps}
use Rattle.entry_value.specs.Words.{Suspended, HoldsOfWord, word_join}
use Rattle.value_set.specs.Form.{Has, IsNormal}
use Rattle.irq_frames.specs.KnownLaws.{KnownLaws}
use Rattle.mcs51_chip.specs.declared.state.ChipState.{ChipState}
use Rattle.mcs51_chip.specs.State.{IsChipState}
use Rattle.mcs51_state.specs.FormFacts.{no_relation}
use Rattle.mcs51_state.specs.Forms.{IsByte, IsChipCell, IsRelation}
use Rattle.mcs51_state.specs.Writing.{word_of_byte, cell_joined, cells_joined, cells_written}

-- FORM

-- a word that a cell of one byte may hold
pub record IsStored (framed : Bool) (word : Word) : Type 0 where
  pub normal : IsNormal 65536 word.set
  pub byte : (n : ℕ) → Has 65536 word.set n → n < 256
  pub entry : IsRelation framed word.entry

pub byte_stored : (laws : KnownLaws) (framed : Bool) (byte : Byte) → IsByte framed byte → IsStored framed (word_of_byte byte)
byte_stored laws framed byte is = record {
  normal = laws.bits.pair_normal byte.set _ is.normal (laws.sets.single 256 0 (omega arith)).0;
  byte = λ n h. laws.bits.pair_byte byte.set n is.normal h;
  entry = is.entry;
}

-- the cells of 256 bytes, each of one byte
pub record AreByteCells (framed : Bool) (map : CellMap) : Type 0 where
  pub from : map.lo ≡ 0
  pub up_to : map.hi ≡ 255
  pub cells : AreCells 0 255 0 map.cells
  pub each : All (IsChipCell framed) map.cells

inserted : (P : Cell → Type 0) (cell : Cell) (cells : List Cell) → P cell → All P cells → All P (insert cell cells)
inserted P cell [] one all = All-cons P cell [] one all
inserted P cell (c ∷ cs) one all = cond_both (nat_lt cell.place c.place) (cell ∷ c ∷ cs) (c ∷ insert cell cs) (All P)
    (λ e. All-cons P cell (c ∷ cs) one all)
    (λ e. All-cons P c (insert cell cs) (All-head P c cs all) (inserted P cell cs one (All-tail P c cs all)))

with_cell_all : (P : Cell → Type 0) (lo hi : ℕ) (cell : Cell) (cells : List Cell) → P cell → All P cells
    → All P (with_cell lo hi cell cells)
with_cell_all P lo hi cell cells one all =
    cond_both (nat_lt cell.place lo || nat_lt hi (cell.place + cell.size - 1) || is_nothing cell.size cell.word) cells (insert cell cells) (All P)
    (λ e. all) (λ e. inserted P cell cells one all)

written_each : (framed : Bool) (map : CellMap) (at : ℕ) (word : Word) → IsStored framed word → All (IsChipCell framed) map.cells
    → All (IsChipCell framed) (write_one map at 1 word).cells
unfolding write_one
written_each framed map at word is all =
    with_cell_all (IsChipCell framed) map.lo map.hi (record { place = at; size = 1; word = word }) (filter (λ cell. not (meets at 1 cell)) map.cells)
    (record { size = refl; entry = is.entry }) (All-filter (λ cell. not (meets at 1 cell)) (IsChipCell framed) map.cells all)

-- the cells as laws of cells take them
whole_cells : (framed : Bool) (map : CellMap) → AreByteCells framed map → AreCells map.lo map.hi map.lo map.cells
whole_cells framed map are =
    subst (λ lo. AreCells lo map.hi lo map.cells) (sym are.from) (subst (λ hi. AreCells 0 hi 0 map.cells) (sym are.up_to) are.cells)

top_of_ram : (framed : Bool) (map : CellMap) → AreByteCells framed map → map.hi < 65536
top_of_ram framed map are = omega (arith, are.up_to)

pub one_form : (laws : KnownLaws) (framed : Bool) (map : CellMap) (at : ℕ) (word : Word) → IsStored framed word → AreByteCells framed map
    → AreByteCells framed (write_one map at 1 word)
one_form laws framed map at word is are =
    let form = laws.cells.write_form map.lo at 1 map word (top_of_ram framed map are) (omega arith) (whole_cells framed map are) (inl refl) is.normal (λ e. is.byte) in
    record {
      from = laws.cells.write_lo at 1 map word ∙ are.from;
      up_to = laws.cells.write_hi at 1 map word ∙ are.up_to;
      cells = subst (λ hi. AreCells 0 hi 0 (write_one map at 1 word).cells) are.up_to (subst (λ lo. AreCells lo map.hi lo (write_one map at 1 word).cells) are.from form);
      each = written_each framed map at word is are.each;
    }

found_entry : (framed : Bool) (at : ℕ) (otherwise : Word) (cells : List Cell) → IsRelation framed otherwise.entry
    → All (IsChipCell framed) cells
    → IsRelation framed (found_or (cell_at cells at 1) otherwise).entry
found_entry framed at otherwise [] none all = none
found_entry framed at otherwise (cell ∷ cells) none all =
    cond_both ((cell.place == at) && (cell.size == 1)) (Some cell.word) (cell_at cells at 1) (λ found. IsRelation framed (found_or found otherwise).entry)
    (λ e. let head = All-head (IsChipCell framed) cell cells all in head.entry)
    (λ e. found_entry framed at otherwise cells none (All-tail (IsChipCell framed) cell cells all))

read_entry : (framed : Bool) (at : ℕ) (cells : List Cell) → All (IsChipCell framed) cells → IsRelation framed (read cells at 1).entry
unfolding read
read_entry framed at cells all = found_entry framed at (put_together cells at 1) cells (no_relation framed) all

joined_stored : (laws : KnownLaws) (framed : Bool) (map : CellMap) (at : ℕ) (word : Word) → IsStored framed word → AreByteCells framed map
    → IsStored framed (word_join (read map.cells at 1) word)
joined_stored laws framed map at word is are =
    let held = read map.cells at 1 in
    let normal = laws.cells.read_normal 0 255 0 at 1 map.cells are.cells in
    record {
      normal = laws.values.words.join_normal held word normal is.normal;
      byte = laws.sets.join_below 256 65536 held.set word.set (omega arith) normal is.normal (laws.cells.read_byte 0 255 0 at 1 map.cells are.cells refl) is.byte;
      entry = common_entry_keeps (IsRelation framed) held.entry word.entry (no_relation framed) (read_entry framed at map.cells are.each);
    }

joined_one_form : (laws : KnownLaws) (framed : Bool) (map : CellMap) (at : ℕ) (word : Word) → IsStored framed word → AreByteCells framed map
    → AreByteCells framed (cell_joined map at word)
joined_one_form laws framed map at word is are = one_form laws framed map at (word_join (read map.cells at 1) word) (joined_stored laws framed map at word is are) are

joined_form : (laws : KnownLaws) (framed : Bool) (map : CellMap) (list : List ℕ) (word : Word) → IsStored framed word
    → AreByteCells framed map
    → AreByteCells framed (cells_joined map list word)
joined_form laws framed map [] word is are = are
joined_form laws framed map (at ∷ rest) word is are = joined_form laws framed (cell_joined map at word) rest word is (joined_one_form laws framed map at word is are)

pub cells_form : (laws : KnownLaws) (framed : Bool) (map : CellMap) (list : List ℕ) (word : Word) → IsStored framed word
    → AreByteCells framed map
    → AreByteCells framed (cells_written map list word)
cells_form laws framed map [] word is are = are
cells_form laws framed map (at ∷ []) word is are = one_form laws framed map at word is are
cells_form laws framed map (at ∷ next ∷ rest) word is are = joined_form laws framed map (at ∷ next ∷ rest) word is are

-- WHAT STANDS UNDER THEM

one_covers : (laws : KnownLaws) (first : Option Suspended) (framed : Bool) (ram : ℕ → ℕ) (map : CellMap) (at v : ℕ) (word : Word) → at < 256
    → IsStored framed word → AreByteCells framed map
    → StandsUnder first map.cells ram → HoldsOfWord first word v → StandsUnder first (write_one map at 1 word).cells (written ram at 1 v)
one_covers laws first framed ram map at v word low is are stands holds =
    laws.cells.write first ram map.lo at 1 v map word (top_of_ram framed map are) (whole_cells framed map are) (omega (arith, low)) (inl refl) is.normal (λ e. is.byte) stands holds

written_same : (ram : ℕ → ℕ) (at b : ℕ) → ram at < 256 → written ram at 1 (ram at) b ≡ ram b
unfolding written
written_same ram at b small = elim (cases_eq b at) [
  | inl same ↦ cond-true (b == at) (ram at % 256) (ram b) (eq-eqb b at same) ∙ (let whole : ram at % 256 ≡ ram at = omega (arith, small) in whole) ∙ ap ram (sym same)
  | inr other ↦ cond-false (b == at) (ram at % 256) (ram b) (ne_eqb b at other)
]

-- a cell that isn't written holds what it held
stays_under : (laws : KnownLaws) (first : Option Suspended) (framed : Bool) (ram : ℕ → ℕ) (map : CellMap) (at : ℕ) (word : Word) → at < 256
    → IsStored framed word → AreByteCells framed map
    → StandsUnder first map.cells ram → StandsUnder first (cell_joined map at word).cells ram
stays_under laws first framed ram map at word low is are stands =
    let held = read map.cells at 1 in
    let normal = laws.cells.read_normal 0 255 0 at 1 map.cells are.cells in
    let reads : HoldsOfWord first held (ram at) = laws.cells.reads first ram 0 255 0 at 1 map.cells are.cells (omega (arith, low)) (inl refl) stands in
    let both = laws.values.words.join_holds_first first (ram at) held word normal is.normal reads in
    let behind = one_covers laws first framed ram map at (ram at) (word_join held word) low (joined_stored laws framed map at word is are) are stands both in
    let form = joined_one_form laws framed map at word is are in
    laws.cells.agree first (written ram at 1 (ram at)) ram 0 255 0 (cell_joined map at word).cells (omega arith) form.cells stands.0 (λ b from to. written_same ram at b (stands.0 at)) behind

joins_under : (laws : KnownLaws) (first : Option Suspended) (framed : Bool) (ram : ℕ → ℕ) (map : CellMap) (at v : ℕ) (word : Word)
    → at < 256
    → IsStored framed word → AreByteCells framed map
    → StandsUnder first map.cells ram → HoldsOfWord first word v → StandsUnder first (cell_joined map at word).cells (written ram at 1 v)
joins_under laws first framed ram map at v word low is are stands holds =
    let held = read map.cells at 1 in
    let normal = laws.cells.read_normal 0 255 0 at 1 map.cells are.cells in
    one_covers laws first framed ram map at v (word_join held word) low (joined_stored laws framed map at word is are) are stands
    (laws.values.words.join_holds_second first v held word normal is.normal holds)

abbrev pub AreLow : List ℕ → Type 0
AreLow list = (v : ℕ) → Contains list v → v < 256

pub rest_low : (at : ℕ) (rest : List ℕ) → AreLow (at ∷ rest) → AreLow rest
rest_low at rest low v h = low v (suc h.0, omega (arith, h.1), h.2)

pub first_low : (at : ℕ) (rest : List ℕ) → AreLow (at ∷ rest) → at < 256
first_low at rest low = low at (0, omega arith, refl)

stay_under : (laws : KnownLaws) (first : Option Suspended) (framed : Bool) (ram : ℕ → ℕ) (map : CellMap) (list : List ℕ) (word : Word)
    → AreLow list
    → IsStored framed word → AreByteCells framed map
    → StandsUnder first map.cells ram → StandsUnder first (cells_joined map list word).cells ram
stay_under laws first framed ram map [] word low is are stands = stands
stay_under laws first framed ram map (at ∷ rest) word low is are stands =
    stay_under laws first framed ram (cell_joined map at word) rest word (rest_low at rest low) is (joined_one_form laws framed map at word is are)
    (stays_under laws first framed ram map at word (first_low at rest low) is are stands)

joined_covers : (laws : KnownLaws) (first : Option Suspended) (framed : Bool) (ram : ℕ → ℕ) (map : CellMap) (list : List ℕ) (address v : ℕ) (word : Word)
    → AreLow list → Contains list address
    → IsStored framed word → AreByteCells framed map → StandsUnder first map.cells ram → HoldsOfWord first word v
    → StandsUnder first (cells_joined map list word).cells (written ram address 1 v)
joined_covers laws first framed ram map [] address v word low there is are stands holds = absurd (in_none address there)
joined_covers laws first framed ram map (at ∷ rest) address v word low there is are stands holds =
    let form = joined_one_form laws framed map at word is are in
    elim (in_cons at rest address there) [
      | inl same ↦
          let here = joins_under laws first framed ram map at v word (first_low at rest low) is are stands holds in
          subst (λ n. StandsUnder first (cells_joined (cell_joined map at word) rest word).cells (written ram n 1 v)) same
          (stay_under laws first framed (written ram at 1 v) (cell_joined map at word) rest word (rest_low at rest low) is form here)
      | inr later ↦
          joined_covers laws first framed ram (cell_joined map at word) rest address v word (rest_low at rest low) later is form
          (stays_under laws first framed ram map at word (first_low at rest low) is are stands) holds
    ]

list_covers : (laws : KnownLaws) (first : Option Suspended) (framed : Bool) (ram : ℕ → ℕ) (map : CellMap) (list : List ℕ) (address v : ℕ) (word : Word)
    → AreLow list → Contains list address
    → IsStored framed word → AreByteCells framed map → StandsUnder first map.cells ram → HoldsOfWord first word v
    → StandsUnder first (cells_written map list word).cells (written ram address 1 v)
list_covers laws first framed ram map [] address v word low there is are stands holds = absurd (in_none address there)
list_covers laws first framed ram map (at ∷ []) address v word low there is are stands holds = elim (in_cons at [] address there) [
  | inl same ↦ subst (λ n. StandsUnder first (write_one map at 1 word).cells (written ram n 1 v)) same (one_covers laws first framed ram map at v word (first_low at [] low) is are stands holds)
  | inr none ↦ absurd (in_none address none)
]
list_covers laws first framed ram map (at ∷ next ∷ rest) address v word low there is are stands holds =
    joined_covers laws first framed ram map (at ∷ next ∷ rest) address v word low there is are stands holds

-- THE CHIP'S RAM

pub ram_small : (s : ChipState) → IsChipState s → (at : ℕ) → slice_index s.ram at < 256
ram_small s is at = elim (cases_lt at 256) [
  | inl low ↦ All-get_or (λ b. b < 256) s.ram at 0 (omega (arith, is.ram, low)) is.bytes
  | inr high ↦ let past : get_or s.ram at 0 ≡ 0 = get_or_past s.ram at 0 (omega (arith, is.ram, high)) in omega (arith, past)
]

set_is_written : (ram : List ℕ) (address v b : ℕ) → v < 256 → address < length ram
    → written (slice_index ram) address 1 v b ≡ slice_index (set ram address v) b
unfolding written
set_is_written ram address v b small inside = elim (cases_eq b address) [
  | inl same ↦
      cond-true (b == address) (v % 256) (get_or ram b 0) (eq-eqb b address same) ∙ (let whole : v % 256 ≡ v = omega (arith, small) in whole)
      ∙ sym (get_or-set_same ram address v 0 inside) ∙ ap (λ n. get_or (set ram address v) n 0) (sym same)
  | inr other ↦ cond-false (b == address) (v % 256) (get_or ram b 0) (ne_eqb b address other) ∙ sym (get_or-set_other ram address b v 0 other)
]

pub cells_cover : (laws : KnownLaws) (first : Option Suspended) (framed : Bool) (s after : ChipState) (map : CellMap) (list : List ℕ) (address v : ℕ) (word : Word)
    → AreLow list → Contains list address
    → IsChipState s → IsChipState after → after.ram ≡ set s.ram address v → v < 256 → IsStored framed word → AreByteCells framed map
    → StandsUnder first map.cells (slice_index s.ram) → HoldsOfWord first word v
    → StandsUnder first (cells_written map list word).cells (slice_index after.ram)
cells_cover laws first framed s after map list address v word low there state state_after ram_is small is are stands holds =
    let form = cells_form laws framed map list word is are in
    let inside : address < length s.ram = omega (arith, state.ram, low address there) in
    laws.cells.agree first (written (slice_index s.ram) address 1 v) (slice_index after.ram) 0 255 0 (cells_written map list word).cells (omega arith) form.cells (ram_small after state_after)
    (λ b from to. set_is_written s.ram address v b small inside ∙ ap (λ list_so. slice_index list_so b) (sym ram_is))
    (list_covers laws first framed (slice_index s.ram) map list address v word low there is are stands holds)
