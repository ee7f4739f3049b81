-- The parts that both chips' states have: bits, sets, relations, and cells of RAM.
use Rattle.std.proofs.Common.{◌≡◌, ℕ, ◌%◌, true, None, List, [], refl}
use Rattle.entry_value.specs.declared.cells.Cell.{Cell}
use Rattle.entry_value.specs.CellLists.{Each}
use Rattle.entry_value.specs.Cells.{AreCells, are_within, join_cells, widen_cells}
use Rattle.entry_value.specs.Laws.{CellLaws, ValueLaws}
use Rattle.entry_value.specs.Words.{common_entry, is_entry_within}
use Rattle.value_bits.specs.declared.tri.Tri.TheVariants.{Either}
use Rattle.value_set.specs.declared.form.Form.{Form}
use Rattle.value_set.specs.Form.{IsNormal, make}
use Rattle.value_set.specs.Joining.{is_within, join}
use Rattle.value_set.specs.Laws.{AreMarks, SetLaws}
use Rattle.value_set.specs.Remainders.{HasRemainder}
use Rattle.value_set.specs.Widening.{widen}
use Rattle.known_parts.specs.Bits.{bit_along, bit_common, bit_itself, bit_top, common_bit, is_bit_within}
use Rattle.known_parts.specs.CellForms.{StaysSo, joined_stay, widened_stay}
use Rattle.plain_lemmas.specs.Orders.{IsAny, IsOrdered, any_ordered}

pub bit_ordered : IsOrdered IsAny is_bit_within common_bit Either
bit_ordered = any_ordered bit_itself bit_along bit_common bit_top

-- SETS

module _ (laws : SetLaws) where
  set_itself : (m : ℕ) (a : Form) → is_within m a a ≡ true
  set_itself m a = (laws.tested m a a).1 (λ v has. has)

  set_along : (m : ℕ) (a b c : Form) → is_within m a b ≡ true → is_within m b c ≡ true → is_within m a c ≡ true
  set_along m a b c h k = (laws.tested m a c).1 (λ v has. (laws.tested m b c).0 k v ((laws.tested m a b).0 h v has))

  set_whole : (m : ℕ) (a : Form) → IsNormal m a → is_within m a (make m 0 1 m) ≡ true
  set_whole m a form = (laws.tested m a (make m 0 1 m)).1 (λ v has. laws.whole m v (laws.below m v a form has))

  set_joined : (m : ℕ) → IsOrdered (IsNormal m) (is_within m) (join m) (make m 0 1 m)
  set_joined m = record {
    itself = λ a form. set_itself m a;
    along = set_along m;
    form = laws.join_normal m;
    held = λ a b f g. (laws.tested m a (join m a b)).1 (laws.join_first m a b f g);
    new = λ a b f g. (laws.tested m b (join m a b)).1 (laws.join_second m a b f g);
    whole = set_whole m;
  }

  set_widened : (m : ℕ) (marks : List ℕ) → AreMarks m marks
      → IsOrdered (IsNormal m) (is_within m) (λ held new. widen m held new marks) (make m 0 1 m)
  set_widened m marks below = record {
    itself = λ a form. set_itself m a;
    along = set_along m;
    form = λ a b f g. laws.widen_normal m a b marks f g below;
    held = λ a b f g. (laws.tested m a (widen m a b marks)).1 (laws.widen_held m a b marks f g below);
    new = λ a b f g. (laws.tested m b (widen m a b marks)).1 (laws.widen_new m a b marks f g below);
    whole = set_whole m;
  }

-- RELATIONS

pub relation_ordered : ValueLaws → IsOrdered IsAny is_entry_within common_entry None
relation_ordered laws =
    let laws = laws.entries in
    any_ordered laws.itself laws.along (λ a b. (laws.join_first a b, laws.join_second a b)) laws.whole

-- CELLS

module _ (laws : CellLaws) where
  cells_joined : (lo hi : ℕ) → IsOrdered (AreCells lo hi lo) are_within join_cells []
  cells_joined lo hi = record {
    itself = laws.itself lo hi lo;
    along = laws.along;
    form = laws.join_form lo hi lo lo hi lo;
    held = laws.join_held lo hi lo lo hi lo;
    new = laws.join_new lo hi lo lo hi lo;
    whole = λ cells form. refl;
  }

  cells_widened : (lo hi : ℕ) (marks : List ℕ) → AreMarks 65536 marks
      → IsOrdered (AreCells lo hi lo) are_within (λ held new. widen_cells held new marks) []
  cells_widened lo hi marks below = record {
    itself = laws.itself lo hi lo;
    along = laws.along;
    form = λ a b f g. laws.widen_form lo hi lo lo hi lo a b marks f g below;
    held = λ a b f g. laws.widen_held lo hi lo lo hi lo a b marks f g below;
    new = λ a b f g. laws.widen_new lo hi lo lo hi lo a b marks f g below;
    whole = λ cells form. refl;
  }

-- UNIONS of sets and of cells, as a join and a widening have them

pub record AreUnions (m lo hi : ℕ) (of_sets : Form → Form → Form) (of_cells : List Cell → List Cell → List Cell) : Type 1 where
  pub sets : IsOrdered (IsNormal m) (is_within m) of_sets (make m 0 1 m)
  pub rest : (n r : ℕ) (held new : Form) → m % n ≡ 0 → IsNormal m held → IsNormal m new → HasRemainder m n r held → HasRemainder m n r new
      → HasRemainder m n r (of_sets held new)
  pub cells : IsOrdered (AreCells lo hi lo) are_within of_cells []
  pub each_cell : (P : Cell → Type 0) → StaysSo P → (held new : List Cell) → Each P held → Each P (of_cells held new)

pub join_unions : SetLaws → CellLaws → (m lo hi : ℕ) → AreUnions m lo hi (join m) join_cells
join_unions sets cells m lo hi = record {
  sets = set_joined sets m;
  rest = λ n r held new. sets.join_rest m n r held new;
  cells = cells_joined cells lo hi;
  each_cell = joined_stay;
}

pub widen_unions : SetLaws → CellLaws → (m lo hi : ℕ) (marks : List ℕ) → AreMarks m marks → AreMarks 65536 marks
    → AreUnions m lo hi (λ held new. widen m held new marks) (λ held new. widen_cells held new marks)
widen_unions sets cells m lo hi marks below words = record {
  sets = set_widened sets m marks below;
  rest = λ n r held new. sets.widen_rest m n r held new marks;
  cells = cells_widened cells lo hi marks words;
  each_cell = λ P stays held new. widened_stay P stays marks held new;
}
