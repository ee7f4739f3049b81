-- The least and the greatest member of a set.
use Rattle.std.specs.Prelude.{ℕ, ◌+◌, ◌-◌, nat_lt, if◌then◌else◌, length, slice_index}
use Rattle.value_set.specs.Widening.{last_of, up_to}
use Rattle.value_set.specs.declared.form.Form.{Form}
use Rattle.value_set.specs.declared.form.Form.TheVariants.{Values, Run}

-- that of a run that goes round stands behind the turn
unfoldable pub least : ℕ → Form → ℕ
least m (Values xs) = slice_index xs 0
least m (Run p) = if nat_lt (last_of p) m then p.base else up_to p.base p.stride m + p.stride - m

-- that of a run that goes round stands in front of the turn
unfoldable pub greatest : ℕ → Form → ℕ
greatest m (Values xs) = slice_index xs (length xs - 1)
greatest m (Run p) = if nat_lt (last_of p) m then last_of p else up_to p.base p.stride m
