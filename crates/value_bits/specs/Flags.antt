-- A flag that an operation on two numbers and a carry sets, over all combinations of members.
use Rattle.std.specs.Prelude.{◌≡◌, ℕ, ◌*◌, nat_le, if◌then◌else◌, Bool, true, false, List}
use Rattle.std.specs.List.{list_all}
use Rattle.value_set.specs.Form.{members}
use Rattle.value_set.specs.Summing.{count_of}
use Rattle.value_set.specs.declared.form.Form.{Form}
use Rattle.value_bits.specs.declared.tri.Tri.{Tri}
use Rattle.value_bits.specs.declared.tri.Tri.TheVariants.{Zero, One, Either}

-- a flag as it is known
abbrev pub IsFlag : Tri → Bool → Type 0
IsFlag Zero flag = flag ≡ false
IsFlag One flag = flag ≡ true
IsFlag Either flag = Unit {0}

abbrev pub has_value : (wanted flag : Bool) → Bool
has_value true flag = flag
has_value false flag = if flag then false else true

-- whether the flag has a value for each x with each y and each carry
abbrev pub each_has : Bool → (ℕ → ℕ → ℕ → Bool) → (xs ys zs : List ℕ) → Bool
each_has wanted flag xs ys zs = list_all (λ x. list_all (λ y. list_all (λ z. has_value wanted (flag x y z)) zs) ys) xs

-- a flag that is known
abbrev pub known : Bool → Tri
known flag = if flag then One else Zero

-- a flag that may be known
abbrev pub known_where : (is_known flag : Bool) → Tri
known_where is_known flag = if is_known then known flag else Either

-- known where all agree
abbrev pub agreed_of : (ℕ → ℕ → ℕ → Bool) → (xs ys zs : List ℕ) → Tri
agreed_of flag xs ys zs = if each_has true flag xs ys zs then One else if each_has false flag xs ys zs then Zero else Either

-- known where at most 256 combinations of members agree
unfoldable pub agreed : (m : ℕ) → (ℕ → ℕ → ℕ → Bool) → (first second carry : Form) → Tri
agreed m flag first second carry =
    if nat_le (count_of m first * (count_of m second * count_of m carry)) 256
    then agreed_of flag (members m first) (members m second) (members m carry)
    else Either
