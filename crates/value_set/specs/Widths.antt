-- Sets of words that are sets of bytes.
use Rattle.std.specs.Prelude.{ℕ, ◌<◌}
use Rattle.std.specs.List.{Contains}
use Rattle.value_set.specs.declared.form.Form.{Form}
use Rattle.value_set.specs.declared.form.Form.TheVariants.{Values, Run}

-- a list of numbers below 256
abbrev pub IsByteList : Form → Type 0
IsByteList (Values xs) = (v : ℕ) → Contains xs v → v < 256
IsByteList (Run p) = ⊥
