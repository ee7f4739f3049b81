-- The join of two sets modulo m.
use Rattle.std.specs.Prelude.{ℕ, ◌+◌, ◌-◌, ◌*◌, ◌/◌, ◌==◌, nat_lt, nat_le, if◌then◌else◌, Bool, true, false, List, ◌++◌, length, Option, Some, None}
use Rattle.std.specs.List.{list_any, list_all}
use Rattle.value_set.specs.Gcd.{gcd}
use Rattle.value_set.specs.Form.{members, make, above, span, hull, ascending, class, greater}
use Rattle.value_set.specs.declared.form.Progression.{Progression}
use Rattle.value_set.specs.declared.form.Stretch.{Stretch}
use Rattle.value_set.specs.declared.form.Form.{Form}
use Rattle.value_set.specs.declared.form.Form.TheVariants.{Values, Run}

abbrev pub is_in : ℕ → Form → ℕ → Bool
is_in m set v = list_any (λ x. x == v) (members m set)

-- whether each member of the first set is one of the second
unfoldable pub is_within : ℕ → Form → Form → Bool
is_within m smaller larger = list_all (λ v. is_in m larger v) (members m smaller)

-- the distance from the first number of a run to its last
abbrev pub reach : Progression → ℕ
reach p = (p.count - 1) * p.stride

-- Two runs drawn from one that begins with the first.
unfoldable pub candidate : (m : ℕ) (first second : Progression) → Stretch
candidate m first second = record {
  base = first.base;
  stride = gcd (gcd first.stride second.stride) (above m first.base second.base);
  end = greater (reach first) (above m first.base second.base + reach second);
}

abbrev pub stretched : ℕ → Stretch → Form
stretched m s = make m s.base s.stride (s.end / s.stride + 1)

-- Whether the other of two stretches is taken: it doesn't go round, and it ends earlier than one, which may go round; of
-- equal ends the one with the lesser base is taken.
abbrev pub is_second : (m : ℕ) (one other : Stretch) → Bool
is_second m one other =
    if nat_le m other.end then false
    else if nat_le m one.end then true
    else if other.end == one.end then nat_lt other.base one.base
    else nat_lt other.end one.end

unfoldable pub choose : (m : ℕ) (one other : Stretch) → Form
choose m one other =
    if is_second m one other then stretched m other
    else if nat_lt one.end m then stretched m one
    else class m one.base one.stride

abbrev pub join_spans : (m : ℕ) (first second : Progression) → Form
join_spans m first second = choose m (candidate m first second) (candidate m second first)

-- the members of two lists together, where they are few
abbrev pub few_together : List ℕ → List ℕ → Option (List ℕ)
few_together xs ys = if nat_le (length (ascending (xs ++ ys))) 16 then Some (ascending (xs ++ ys)) else None

abbrev pub values_or : Option (List ℕ) → Form → Form
values_or None form = form
values_or (Some xs) form = Values xs

-- Neither is within the other: all members where they are few together, else one run that both are drawn from. A run
-- alone isn't few.
unfoldable pub join_apart : ℕ → Form → Form → Form
join_apart m (Values xs) (Values ys) = values_or (few_together xs ys) (join_spans m (hull m xs) (hull m ys))
join_apart m (Values xs) (Run q) = join_spans m (hull m xs) q
join_apart m (Run p) second = join_spans m p (span m second)

unfoldable pub join : ℕ → Form → Form → Form
join m first second =
    if is_within m second first then first
    else if is_within m first second then second
    else join_apart m first second
