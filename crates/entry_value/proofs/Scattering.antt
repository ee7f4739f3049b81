-- What stands in a RAM behind a write at one of several addresses.
use Rattle.std.proofs.Common.{◌≡◌, ℕ, ◌+◌, ◌%◌, ◌<◌, ◌≤◌, Bool, true, false, Option, refl, sym, ◌∙◌, subst, inl, inr, arith}
use Rattle.std.specs.Prelude.{◌==◌, ◌&&◌}
use Rattle.std.proofs.lemmas.Bool.{cases_Bool, and_from, or_parts, eq-eqb, eqb-true, eqb-false}
use Rattle.value_set.specs.declared.form.Form.{Form}
use Rattle.value_set.specs.Form.{Has, IsNormal, members}
use Rattle.value_set.specs.Joining.{is_in}
use Rattle.entry_value.specs.declared.word.Word.{Word}
use Rattle.entry_value.specs.declared.cells.Cell.{Cell}
use Rattle.entry_value.specs.Words.{Suspended, HoldsOfWord, word_join}
use Rattle.entry_value.specs.Cells.{CellMap, StandsUnder, IsCell, AreCells, number_at, written, meets_beside, is_nothing, cell_behind, kept, write_several}
use Rattle.entry_value.proofs.Bytes.{IsSize, AreBytes, written_bytes, written_itself}
use Rattle.entry_value.specs.CellLists.{IsAlike, OfSome, StandsAt, each_from, each_in, each_both, each_kept, each_cell, kept_form}
use Rattle.value_set.specs.Laws.{SetLaws}
use Rattle.entry_value.proofs.Uniting.{of_telling, small_number}
use Rattle.entry_value.proofs.Values.{join_covers, join_forms}
use Rattle.entry_value.proofs.Writing.{whole_turn, stays}
use Rattle.plain_lemmas.specs.AnyOf.{any_from}
use Rattle.plain_lemmas.specs.Cases.{clash}

-- ---- addresses

no_address : (at : Form) (x address : ℕ) → Has 65536 at address → is_in 65536 at x ≡ false → x ≡ address → ⊥
no_address at x address h other e = clash (is_in 65536 at x) (subst (λ (n : ℕ). is_in 65536 at n ≡ true) (sym e) (any_from address (members 65536 at) h)) other

previous : (address place : ℕ) → address < 65536 → place ≡ (address + 1) % 65536 → (place + 65535) % 65536 ≡ address
previous address place below e = omega arith

same_next : (address place : ℕ) → address < 65536 → place < 65536 → (place + 1) % 65536 ≡ (address + 1) % 65536 → place ≡ address
same_next address place below low e = omega arith

its_place : (place size hi : ℕ) → IsSize size → place + size ≤ hi + 1 → hi < 65536 → place < 65536
its_place place size hi (inl one) high below = omega arith
its_place place size hi (inr two) high below = omega arith

-- where a test fails beside another that holds
second_fails : (size : ℕ) (x : Bool) → ((size == 2) && x) ≡ false → size ≡ 2 → x ≡ false
second_fails size true h two = absurd (clash ((size == 2) && true) (and_from (size == 2) true (eq-eqb size 2 two) refl) h)
second_fails size false h two = refl

-- no access at these addresses has a byte of the cell beside one at its own place
not_beside : (lo hi size address : ℕ) (at : Form) (cell : Cell) → hi < 65536 → IsCell lo hi cell → address < 65536 → Has 65536 at address
    → meets_beside at size cell ≡ false → (ram : ℕ → ℕ) (v : ℕ) → (cell.place ≡ address → ⊥)
    → number_at (written ram address size v) cell.place cell.size ≡ number_at ram cell.place cell.size
not_beside lo hi size address at cell below is low h apart ram v other =
    let parts = or_parts ((cell.size == 2) && is_in 65536 at (cell.place + 1)) ((size == 2) && is_in 65536 at ((cell.place + 65535) % 65536)) apart in
    let place_below = its_place cell.place cell.size hi is.size is.high below in
    stays ram address size v cell.place cell.size is.size (
      other,
      λ two e. no_address at (cell.place + 1) address h (second_fails cell.size (is_in 65536 at (cell.place + 1)) parts.0 two)
          (sym (whole_turn cell.place cell.size hi two is.high below) ∙ e),
    )
    (λ wide. (
      (λ e. no_address at ((cell.place + 65535) % 65536) address h (second_fails size (is_in 65536 at ((cell.place + 65535) % 65536)) parts.1 wide)
          (previous address cell.place low e)),
      (λ two e. other (same_next address cell.place low place_below e)),
    ))

-- ---- a write at one of them

joined_stands : SetLaws → (first : Option Suspended) (ram : ℕ → ℕ) → AreBytes ram
    → (lo hi size address v : ℕ) (at : Form) (word : Word) (cell : Cell)
    → hi < 65536 → IsCell lo hi cell
    → address < 65536 → IsSize size → (size ≡ 1 → v < 256) → Has 65536 at address → IsNormal 65536 word.set
    → HoldsOfWord first word v → StandsAt first ram cell
    → meets_beside at size cell ≡ false → cell.size ≡ size
    → HoldsOfWord first (word_join cell.word word) (number_at (written ram address size v) cell.place cell.size)
joined_stands sets first ram bytes lo hi size address v at word cell below is low its small h normal holds stands apart same =
    let covers = join_covers sets first size in
    elim (cases_Bool (cell.place == address)) [
      | inl hit ↦ subst (λ (n : ℕ). HoldsOfWord first (word_join cell.word word) n)
          (sym (subst (λ (s : ℕ). number_at (written ram address size v) cell.place s ≡ v) (sym same)
          (subst (λ (p : ℕ). number_at (written ram address size v) p size ≡ v) (sym (eqb-true cell.place address hit)) (written_itself ram address size v low its small))))
          (covers.other cell.word word v is.normal normal small holds)
      | inr missed ↦ subst (λ (n : ℕ). HoldsOfWord first (word_join cell.word word) n)
          (sym (not_beside lo hi size address at cell below is low h apart ram v (eqb-false cell.place address missed)))
          (covers.one cell.word word (number_at ram cell.place cell.size) is.normal normal (λ one. small_number ram bytes cell.place cell.size (same ∙ one)) stands)
    ]

-- what becomes of a cell
of_behind : (P : Cell → Type 0) (at : Form) (size : ℕ) (word : Word) (cell : Cell)
    → (meets_beside at size cell ≡ false → is_in 65536 at cell.place ≡ false → P cell)
    → (meets_beside at size cell ≡ false → cell.size ≡ size → let c : Cell = record { place = cell.place; size = size; word = word_join cell.word word } in is_nothing size (word_join cell.word word) ≡ false → P c)
    → OfSome P (cell_behind at size word cell)
of_behind P at size word cell kept_one joined = elim (cases_Bool (meets_beside at size cell)) [
  | inl beside ↦ rw beside tt
  | inr apart ↦ rw apart (elim (cases_Bool (is_in 65536 at cell.place)) [
    | inr other ↦ rw other (kept_one apart other)
    | inl hit ↦ rw hit (elim (cases_Bool (cell.size == size)) [
      | inr differ ↦ rw differ tt
      | inl same ↦ rw same (of_telling P (record { place = cell.place; size = size; word = word_join cell.word word }) (joined apart (eqb-true cell.size size same)))
    ])
  ])
]

behind_stands : SetLaws → (first : Option Suspended) (ram : ℕ → ℕ) → AreBytes ram
    → (lo hi size address v : ℕ) (at : Form) (word : Word) → hi < 65536
    → address < 65536 → IsSize size → (size ≡ 1 → v < 256) → Has 65536 at address → IsNormal 65536 word.set → HoldsOfWord first word v
    → (cell : Cell) → StandsAt first ram cell × IsCell lo hi cell
    → OfSome (StandsAt first (written ram address size v)) (cell_behind at size word cell)
behind_stands sets first ram bytes lo hi size address v at word below low its small h normal holds cell old = of_behind (StandsAt first (written ram address size v)) at size word cell
    (λ apart other. subst (λ (n : ℕ). HoldsOfWord first cell.word n)
    (sym (not_beside lo hi size address at cell below old.1 low h apart ram v (no_address at cell.place address h other))) old.0)
    (λ apart same says. subst (λ (s : ℕ). HoldsOfWord first (word_join cell.word word) (number_at (written ram address size v) cell.place s)) same
    (joined_stands sets first ram bytes lo hi size address v at word cell below old.1 low its small h normal holds old.0 apart same))

-- a write at one of the addresses of a set leaves what stands in the RAM that is written at any of them
abbrev pub CoversWrites : (CellMap → Form → (size : ℕ) → Word → CellMap) → Type 0
CoversWrites write = (first : Option Suspended) (ram : ℕ → ℕ) (from size address v : ℕ) (map : CellMap) (at : Form) (word : Word)
    → map.hi < 65536 → AreCells map.lo map.hi from map.cells
    → IsNormal 65536 at → IsSize size → IsNormal 65536 word.set → (size ≡ 1 → (n : ℕ) → Has 65536 word.set n → n < 256)
    → StandsUnder first map.cells ram → Has 65536 at address → HoldsOfWord first word v
    → StandsUnder first (write map at size word).cells (written ram address size v)

pub several_covers : SetLaws → CoversWrites write_several
unfolding write_several
several_covers sets first ram from size address v map at word below are addresses is normal byte stands h holds =
    let low = sets.below 65536 address at addresses h in
    let old = each_both (StandsAt first ram) (IsCell map.lo map.hi) map.cells (each_from (StandsAt first ram) map.cells stands.1) (each_cell map.lo map.hi from map.cells are) in (
      written_bytes ram address size v stands.0 (sets.below 65536 v word.set normal holds.0),
      each_in (StandsAt first (written ram address size v)) (kept (cell_behind at size word) map.cells)
          (each_kept (λ c. StandsAt first ram c × IsCell map.lo map.hi c) (StandsAt first (written ram address size v)) (cell_behind at size word) map.cells
          (behind_stands sets first ram stands.0 map.lo map.hi size address v at word below low is (λ one. byte one v holds.0) h normal holds) old),
    )

-- ---- its form

behind_form : SetLaws → (lo hi size : ℕ) (at : Form) (word : Word) → IsNormal 65536 word.set
    → (size ≡ 1 → (n : ℕ) → Has 65536 word.set n → n < 256)
    → (cell : Cell) → IsCell lo hi cell → OfSome (IsAlike lo hi cell) (cell_behind at size word cell)
behind_form sets lo hi size at word normal byte cell is = of_behind (IsAlike lo hi cell) at size word cell
    (λ apart other. (is, refl, refl))
    (λ apart same says.
    let forms = join_forms sets size in (
      record {
        size = subst IsSize same is.size;
        low = is.low;
        high = subst (λ (s : ℕ). cell.place + s ≤ hi + 1) same is.high;
        normal = forms.normal cell.word word is.normal normal;
        byte = λ one. forms.byte cell.word word is.normal normal one (is.byte (same ∙ one)) (byte one);
        says = says;
      },
      refl,
      sym same,
    ))

pub several_form : SetLaws → (from size : ℕ) (map : CellMap) (at : Form) (word : Word)
    → AreCells map.lo map.hi from map.cells → IsNormal 65536 word.set
    → (size ≡ 1 → (n : ℕ) → Has 65536 word.set n → n < 256) → AreCells map.lo map.hi from (write_several map at size word).cells
unfolding write_several
several_form sets from size map at word are normal byte = kept_form map.lo map.hi from (cell_behind at size word) map.cells (behind_form sets map.lo map.hi size at word normal byte) are

pub several_lo : (size : ℕ) (map : CellMap) (at : Form) (word : Word) → (write_several map at size word).lo ≡ map.lo
unfolding write_several
several_lo size map at word = refl

pub several_hi : (size : ℕ) (map : CellMap) (at : Form) (word : Word) → (write_several map at size word).hi ≡ map.hi
unfolding write_several
several_hi size map at word = refl
