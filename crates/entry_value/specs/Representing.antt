-- What a representation of cells owes to its callers, from what its cells are: lemmas, also for the proofs of crates above.
use Rattle.std.proofs.Common.{◌≡◌, ℕ, ◌<◌, true, Option, List, All, arith, sym, ◌∙◌, ap, subst}
use Rattle.std.specs.Prelude.{◌≢◌, ◌⊎◌}
use Rattle.value_set.specs.declared.form.Form.{Form}
use Rattle.value_set.specs.Form.{Has, IsNormal}
use Rattle.value_set.specs.Laws.{IsBelow}
use Rattle.value_set.specs.Summing.{count_of}
use Rattle.entry_value.specs.declared.cells.Cell.{Cell}
use Rattle.entry_value.specs.declared.word.Word.{Word}
use Rattle.entry_value.specs.Cells.{AreCells, CellMap, StandsUnder, are_within, join_cells, number_at, read, widen_cells, write_any, write_one, write_several, written}
use Rattle.entry_value.specs.Laws.{CellLaws}
use Rattle.entry_value.specs.Words.{Suspended, HoldsOfWord}

-- cells as a representation holds them, and as its callers see them
pub record IsSeen (held now : CellMap) : Type 0 where
  pub is : held ≡ now
  pub high : held.hi < 65536
  pub are : AreCells held.lo held.hi held.lo held.cells

abbrev with_cells : CellMap → List Cell → CellMap
with_cells map cells = record { lo = map.lo; hi = map.hi; cells = cells }

-- READS

pub record IsRead (now : CellMap) (at size : ℕ) (word : Word) : Type 0 where
  pub value : word ≡ read now.cells at size
  pub byte : size ≡ 1 → IsBelow 65536 256 word.set
  pub holds : (first : Option Suspended) (ram : ℕ → ℕ) → StandsUnder first now.cells ram → HoldsOfWord first word (number_at ram at size)

pub is_read : CellLaws → (held now : CellMap) (at size : ℕ) (word : Word) → IsSeen held now → at < 65536
    → (size ≡ 1) ⊎ (size ≡ 2) → word ≡ read held.cells at size
    → IsRead now at size word
is_read laws held now at size word seen below sized same = subst (λ (map : CellMap). IsRead map at size word) seen.is record {
  value = same;
  byte = λ one. subst (λ (w : Word). IsBelow 65536 256 w.set) (sym same) (laws.read_byte held.lo held.hi held.lo at size held.cells seen.are one);
  holds = λ first ram h. subst (λ w. HoldsOfWord first w (number_at ram at size)) (sym same)
      (laws.reads first ram held.lo held.hi held.lo at size held.cells seen.are below sized h);
}

-- WRITES

-- a word that is written, in one byte or in two
pub record CanWrite (size : ℕ) (word : Word) : Type 0 where
  pub sized : (size ≡ 1) ⊎ (size ≡ 2)
  pub normal : IsNormal 65536 word.set
  pub byte : size ≡ 1 → IsBelow 65536 256 word.set

pub record IsWritten (held now : CellMap) (at size : ℕ) (word : Word) (made : List Cell) : Type 0 where
  pub are : AreCells held.lo held.hi held.lo made
  pub value : with_cells held made ≡ write_one now at size word
  pub covers : (first : Option Suspended) (ram : ℕ → ℕ) (v : ℕ) → StandsUnder first now.cells ram → HoldsOfWord first word v
      → StandsUnder first made (written ram at size v)

pub is_written : CellLaws → (held now : CellMap) (at size : ℕ) (word : Word) (made : List Cell) → IsSeen held now
    → at < 65536 → CanWrite size word
    → made ≡ (write_one held at size word).cells → IsWritten held now at size word made
unfolding write_one
is_written laws held now at size word made seen below can same = subst (λ (map : CellMap). IsWritten held map at size word made) seen.is record {
  are = subst (AreCells held.lo held.hi held.lo) (sym same) (laws.write_form held.lo at size held word seen.high (omega arith) seen.are can.sized can.normal can.byte);
  value = ap (with_cells held) same;
  covers = λ first ram v h holds. subst (λ cells. StandsUnder first cells (written ram at size v)) (sym same)
      (laws.write first ram held.lo at size v held word seen.high seen.are below can.sized can.normal can.byte h holds);
}

-- at one of several addresses
pub record IsScattered (held now : CellMap) (at : Form) (size : ℕ) (word : Word) (made : List Cell) : Type 0 where
  pub are : AreCells held.lo held.hi held.lo made
  pub value : with_cells held made ≡ write_any now at size word
  pub covers : (first : Option Suspended) (ram : ℕ → ℕ) (address v : ℕ) → StandsUnder first now.cells ram
      → Has 65536 at address → HoldsOfWord first word v
      → StandsUnder first made (written ram address size v)

pub is_scattered : CellLaws → (held now : CellMap) (at : Form) (size : ℕ) (word : Word) (made : List Cell)
    → IsSeen held now → IsNormal 65536 at → CanWrite size word
    → count_of 65536 at ≢ 1 → made ≡ (write_several held at size word).cells → IsScattered held now at size word made
unfolding write_several
is_scattered laws held now at size word made seen normal can several is =
    let whole = laws.store_several held at size word several in
    let same : made ≡ (write_any held at size word).cells = is ∙ ap (λ (map : CellMap). map.cells) (sym whole) in
    subst (λ (map : CellMap). IsScattered held map at size word made) seen.is record {
      are = subst (AreCells held.lo held.hi held.lo) (sym same) (laws.store_form held.lo size held at word seen.high (omega arith) seen.are can.sized can.normal can.byte);
      value = ap (with_cells held) is ∙ sym whole;
      covers = λ first ram address v h has holds. subst (λ cells. StandsUnder first cells (written ram address size v)) (sym same)
          (laws.store first ram held.lo size address v held at word seen.high seen.are normal can.sized can.normal can.byte h has holds);
    }

-- JOINS AND WIDENED CELLS

-- what is made of two lists of cells has the form of the first, and covers both
pub record Unites (unite : List Cell → List Cell → List Cell) : Type 0 where
  pub form : (lo hi from low high start : ℕ) (held new : List Cell) → AreCells lo hi from held
      → AreCells low high start new → AreCells lo hi from (unite held new)
  pub own : (first : Option Suspended) (ram : ℕ → ℕ) (lo hi from low high start : ℕ) (held new : List Cell)
      → AreCells lo hi from held → AreCells low high start new
      → StandsUnder first held ram → StandsUnder first (unite held new) ram
  pub others : (first : Option Suspended) (ram : ℕ → ℕ) (lo hi from low high start : ℕ) (held new : List Cell)
      → AreCells lo hi from held → AreCells low high start new
      → StandsUnder first new ram → StandsUnder first (unite held new) ram

pub joins_unite : CellLaws → Unites join_cells
joins_unite laws = record { form = laws.join_form; own = laws.join_stands_held; others = laws.join_stands_new }

pub widenings_unite : CellLaws → (marks : List ℕ) → All (λ mark. mark < 65536) marks → Unites (λ held new. widen_cells held new marks)
widenings_unite laws marks below = record {
  form = λ lo hi from low high start held new are others. laws.widen_form lo hi from low high start held new marks are others below;
  own = λ first ram lo hi from low high start held new are others. laws.widen_stands_held first ram lo hi from low high start held new marks are others below;
  others = λ first ram lo hi from low high start held new are others. laws.widen_stands_new first ram lo hi from low high start held new marks are others below;
}

pub record IsUnited (unite : List Cell → List Cell → List Cell) (held now other : CellMap) (made : List Cell) : Type 0 where
  pub are : AreCells held.lo held.hi held.lo made
  pub value : with_cells held made ≡ record now { cells = unite now.cells other.cells }
  pub own : (first : Option Suspended) (ram : ℕ → ℕ) → StandsUnder first now.cells ram → StandsUnder first made ram
  pub others : (first : Option Suspended) (ram : ℕ → ℕ) → StandsUnder first other.cells ram → StandsUnder first made ram

pub is_united : (unite : List Cell → List Cell → List Cell) → Unites unite
    → (held now new other : CellMap) (made : List Cell) → IsSeen held now → IsSeen new other
    → made ≡ unite held.cells new.cells → IsUnited unite held now other made
is_united unite unites held now new other made seen others same =
    subst (λ (map : CellMap). IsUnited unite held map other made) seen.is (subst (λ (map : CellMap). IsUnited unite held held map made) others.is record {
      are = subst (AreCells held.lo held.hi held.lo) (sym same) (unites.form held.lo held.hi held.lo new.lo new.hi new.lo held.cells new.cells seen.are others.are);
      value = ap (with_cells held) same;
      own = λ first ram h. subst (λ cells. StandsUnder first cells ram) (sym same)
          (unites.own first ram held.lo held.hi held.lo new.lo new.hi new.lo held.cells new.cells seen.are others.are h);
      others = λ first ram h. subst (λ cells. StandsUnder first cells ram) (sym same)
          (unites.others first ram held.lo held.hi held.lo new.lo new.hi new.lo held.cells new.cells seen.are others.are h);
    })

-- INCLUSION

pub stands_within : CellLaws → (new now held other : CellMap) → new ≡ now → held ≡ other
    → are_within new.cells held.cells ≡ true → (first : Option Suspended) (ram : ℕ → ℕ)
    → StandsUnder first now.cells ram → StandsUnder first other.cells ram
stands_within laws new now held other is other_is within first ram h = subst (λ (map : CellMap). StandsUnder first map.cells ram) other_is
    (laws.holds first ram new.cells held.cells within (subst (λ (map : CellMap). StandsUnder first map.cells ram) (sym is) h))
