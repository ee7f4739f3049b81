-- Cells of one byte, in all 256 bytes of RAM: where one is read and where one is written.
use Rattle.std.proofs.Common.{◌≡◌, ℕ, ◌+◌, ◌-◌, ◌%◌, ◌<◌, ◌≤◌, ◌==◌, Bool, Option, Some, List, [], ◌∷◌, refl, sym, subst, inl, arith}
use Rattle.std.specs.Prelude.{◌&&◌, ◌||◌, nat_lt, not, All}
use Rattle.std.specs.List.{filter}
use Rattle.std.proofs.lemmas.Bool.{cond_both}
use Rattle.std.proofs.lemmas.Bool.Decides.{nat_tests}
use Rattle.std.proofs.lemmas.List.Elements.{All-cons, All-filter, All-head, All-tail}
use Rattle.entry_value.specs.declared.cells.Cell.{Cell}
use Rattle.entry_value.specs.declared.word.Word.{Word}
use Rattle.entry_value.specs.Cells.{AreCells, CellMap, StandsUnder, cell_at, found_or, insert, is_nothing, meets, put_together, read, write_one, written}
use Rattle.entry_value.specs.Laws.{CellLaws}
use Rattle.entry_value.specs.Words.{HoldsOfWord, Suspended}
use Rattle.value_set.specs.Form.{IsNormal}
use Rattle.value_set.specs.Laws.{IsBelow}
use Rattle.mcs51_state.specs.FormFacts.{no_relation}
use Rattle.mcs51_state.specs.Forms.{IsChipCell, IsRelation}

-- READING

pub cell_read : (laws : CellLaws) (first : Option Suspended) (ram : ℕ → ℕ) (at : ℕ) (cells : List Cell)
    → AreCells 0 255 0 cells → at < 65536
    → StandsUnder first cells ram → HoldsOfWord first (read cells at 1) (ram at)
cell_read laws first ram at cells are below stands = laws.reads first ram 0 255 0 at 1 cells are below (inl refl) stands

pub cell_normal : (laws : CellLaws) (at : ℕ) (cells : List Cell) → AreCells 0 255 0 cells → IsNormal 65536 (read cells at 1).set
cell_normal laws at cells are = laws.read_normal 0 255 0 at 1 cells are

found_relation : (framed : Bool) (cells : List Cell) (at size : ℕ) (otherwise : Word) → All (IsChipCell framed) cells
    → IsRelation framed otherwise.entry
    → IsRelation framed (found_or (cell_at cells at size) otherwise).entry
found_relation framed [] at size otherwise forms none = none
found_relation framed (cell ∷ cells) at size otherwise forms none =
    cond_both ((cell.place == at) && (cell.size == size)) (Some cell.word) (cell_at cells at size) (λ found. IsRelation framed (found_or found otherwise).entry)
    (λ e. (All-head (IsChipCell framed) cell cells forms).entry)
    (λ e. found_relation framed cells at size otherwise (All-tail (IsChipCell framed) cell cells forms) none)

pub read_relation : (framed : Bool) (cells : List Cell) (at size : ℕ) → All (IsChipCell framed) cells
    → IsRelation framed (read cells at size).entry
unfolding read
read_relation framed cells at size forms = found_relation framed cells at size (put_together cells at size) forms (no_relation framed)

-- WRITING

insert_each : (P : Cell → Type 0) (cell : Cell) (cells : List Cell) → P cell → All P cells → All P (insert cell cells)
insert_each P cell [] is each = All-cons P cell [] is each
insert_each P cell (first ∷ cells) is each =
    cond_both (nat_lt cell.place first.place) (cell ∷ first ∷ cells) (first ∷ insert cell cells) (All P)
    (λ e. All-cons P cell (first ∷ cells) is each)
    (λ e. All-cons P first (insert cell cells) (All-head P first cells each) (insert_each P cell cells is (All-tail P first cells each)))

pub write_each : (P : Cell → Type 0) (map : CellMap) (at size : ℕ) (word : Word)
    → P (record { place = at; size = size; word = word }) → All P map.cells
    → All P (write_one map at size word).cells
unfolding write_one
write_each P map at size word is each =
    let cell : Cell = record { place = at; size = size; word = word } in
    let test = λ (c : Cell). not (meets at size c) in
    let left = filter test map.cells in
    let rest : All P left = All-filter test P map.cells each in
    cond_both (nat_lt at map.lo || nat_lt map.hi (at + size - 1) || is_nothing size word) left (insert cell left) (All P)
    (λ e. rest) (λ e. insert_each P cell left is rest)

-- a byte that is written
in_range : (map : CellMap) → map.lo ≡ 0 → map.hi ≡ 255 → AreCells 0 255 0 map.cells → AreCells map.lo map.hi 0 map.cells
in_range map from up_to are =
    subst (λ lo. AreCells lo map.hi 0 map.cells) (sym from) (subst (λ hi. AreCells 0 hi 0 map.cells) (sym up_to) are)

pub cell_put : (laws : CellLaws) (first : Option Suspended) (ram : ℕ → ℕ) (at v : ℕ) (map : CellMap) (word : Word)
    → map.lo ≡ 0 → map.hi ≡ 255 → AreCells 0 255 0 map.cells → at < 65536 → IsNormal 65536 word.set → IsBelow 65536 256 word.set
    → StandsUnder first map.cells ram → HoldsOfWord first word v → StandsUnder first (write_one map at 1 word).cells (written ram at 1 v)
cell_put laws first ram at v map word from up_to are below normal bytes stands holds =
    laws.write first ram 0 at 1 v map word (omega (arith, up_to)) (in_range map from up_to are) below (inl refl) normal (λ e. bytes) stands holds

pub cell_put_form : (laws : CellLaws) (at : ℕ) (map : CellMap) (word : Word) → map.lo ≡ 0 → map.hi ≡ 255 → AreCells 0 255 0 map.cells
    → IsNormal 65536 word.set → IsBelow 65536 256 word.set → AreCells 0 255 0 (write_one map at 1 word).cells
cell_put_form laws at map word from up_to are normal bytes =
    let put = laws.write_form 0 at 1 map word (omega (arith, up_to)) (omega arith) (in_range map from up_to are) (inl refl) normal (λ e. bytes) in
    subst (λ lo. AreCells lo 255 0 (write_one map at 1 word).cells) from (subst (λ hi. AreCells map.lo hi 0 (write_one map at 1 word).cells) up_to put)

pub cells_alike : (laws : CellLaws) (first : Option Suspended) (one other : ℕ → ℕ) (cells : List Cell) → AreCells 0 255 0 cells
    → ((at : ℕ) → other at < 256) → ((at : ℕ) → 0 ≤ at → at ≤ 255 → one at ≡ other at) → StandsUnder first cells one
    → StandsUnder first cells other
cells_alike laws first one other cells are bytes same stands = laws.agree first one other 0 255 0 cells (omega arith) are bytes same stands

-- a byte that is written as it was
pub written_same : (ram : ℕ → ℕ) (at : ℕ) → ram at < 256 → (address : ℕ) → written ram at 1 (ram at) address ≡ ram address
unfolding written
written_same ram at small address =
    cond_both (address == at) (ram at % 256) (ram address) (λ n. n ≡ ram address)
    (λ e. let same : at ≡ address = grind (arith, nat_tests, e) in subst (λ a. ram at % 256 ≡ ram a) same (omega (arith, small)))
    (λ e. refl)
