-- What is read at one of several addresses, joined.
use Rattle.std.specs.Prelude.{ℕ, List, [], ◌∷◌}
use Rattle.value_set.specs.declared.form.Form.{Form}
use Rattle.value_set.specs.Joining.{join}
use Rattle.mcs51_state.specs.Known.{any_byte}

-- the sets of several addresses, joined in this order
abbrev pub all_joined : (read : ℕ → Form) → Form → List ℕ → Form
all_joined read set [] = set
all_joined read set (at ∷ rest) = all_joined read (join 256 set (read at)) rest

abbrev pub any_of : (read : ℕ → Form) → List ℕ → Form
any_of read [] = any_byte
any_of read (at ∷ rest) = all_joined read (read at) rest
