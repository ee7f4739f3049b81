-- The rows of a table: keys with their values and marks. They are kept in two lists, so that keys with values are one.
use Rattle.std.specs.Prelude.{◌≡◌, ℕ, zero, suc, Option, None, Some, List, [], ◌∷◌, ◌++◌, map}

-- rows in order, and for how many more there is room
pub record Rows (X : Type 0) : Type 0 where
  pub rows : List X
  pub room : ℕ

module _ {K V M : Type 0} where
  -- the two parts of a row
  abbrev pub mark_part : K × (V × M) → K × M
  mark_part row = (row.0, row.1.1)

  abbrev pub value_part : K × (V × M) → K × V
  value_part row = (row.0, row.1.0)

  -- the rows of which these are the parts
  abbrev pub rows_of : List (K × M) → List (K × V) → List (K × (V × M))
  rows_of [] values = []
  rows_of (m ∷ marks) [] = []
  rows_of (m ∷ marks) (v ∷ values) = (v.0, (v.1, m.1)) ∷ rows_of marks values

  -- both lists are the parts of the same rows
  pub record AreRowsOf (marks : List (K × M)) (values : List (K × V)) : Type 0 where
    pub marks_are : marks ≡ map mark_part (rows_of marks values)
    pub values_are : values ≡ map value_part (rows_of marks values)

module _ {K V : Type 0} where
  -- with a value in a place, whose key stays
  abbrev pub with_value : List (K × V) → ℕ → V → List (K × V)
  with_value [] place value = []
  with_value (x ∷ xs) zero value = (x.0, value) ∷ xs
  with_value (x ∷ xs) (suc place) value = x ∷ with_value xs place value

  -- with a value in the place of its key, or last
  abbrev pub with_entry : List (K × V) → Option ℕ → K → V → List (K × V)
  with_entry xs None key value = xs ++ (key, value) ∷ []
  with_entry xs (Some place) key value = with_value xs place value
