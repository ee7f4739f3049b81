-- Sets whose members all have one remainder, as the sets of even numbers.
use Rattle.std.specs.Prelude.{◌≡◌, ℕ, ◌%◌}
use Rattle.value_set.specs.Form.{Has}
use Rattle.value_set.specs.declared.form.Form.{Form}

-- each member has the remainder r modulo n
abbrev pub HasRemainder : (m n r : ℕ) → Form → Type 0
HasRemainder m n r set = (v : ℕ) → Has m set v → v % n ≡ r
