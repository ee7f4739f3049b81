-- The cut of a set to a window: the numbers less than a length above its low end, round the circle modulo m.
use Rattle.std.specs.Prelude.{ℕ, ◌+◌, ◌-◌, ◌*◌, ◌/◌, ◌%◌, ◌==◌, nat_lt, if◌then◌else◌, List, [], ◌∷◌, Option, Some, None}
use Rattle.std.specs.List.{filter}
use Rattle.value_set.specs.Form.{make, above}
use Rattle.value_set.specs.Joining.{join}
use Rattle.value_set.specs.Widening.{lesser}
use Rattle.value_set.specs.declared.form.Progression.{Progression}
use Rattle.value_set.specs.declared.form.Form.{Form}
use Rattle.value_set.specs.declared.form.Form.TheVariants.{Values, Run}

-- a fact of the set that there is
abbrev pub IfThere : (Form → Type 0) → Option Form → Type 0
IfThere P None = Unit {0}
IfThere P (Some set) = P set

abbrev pub list_or_none : List ℕ → Option Form
list_or_none [] = None
list_or_none (x ∷ xs) = Some (Values (x ∷ xs))

-- how many of base + i * stride, for i below the count, lie below an end
unfoldable pub count_below : (end base stride count : ℕ) → ℕ
count_below end base stride count = if nat_lt base end then lesser count ((end - 1 - base) / stride + 1) else 0

abbrev pub part : (m base stride count : ℕ) → Option Form
part m base stride count = if count == 0 then None else Some (make m base stride count)

-- what there is of two parts, the one in front of the turn first
abbrev pub join_parts : ℕ → Option Form → Option Form → Option Form
join_parts m None behind = behind
join_parts m (Some front) None = Some front
join_parts m (Some front) (Some behind) = Some (join m front behind)

-- how many numbers of a run stand in front of the turn, seen from the low end of the window
abbrev pub front_count : (m : ℕ) (p : Progression) (low : ℕ) → ℕ
front_count m p low = count_below m (above m low p.base) p.stride p.count

-- the first number behind the turn, seen from there
abbrev pub behind_base : (m : ℕ) (p : Progression) (low : ℕ) → ℕ
behind_base m p low = above m low p.base + front_count m p low * p.stride - m

unfoldable pub cut_run : (m : ℕ) (p : Progression) (low len : ℕ) → Option Form
cut_run m p low len = join_parts m
    (part m p.base p.stride (count_below len (above m low p.base) p.stride (front_count m p low)))
    (part m ((low + behind_base m p low) % m) p.stride (count_below len (behind_base m p low) p.stride (p.count - front_count m p low)))

unfoldable pub cut : (m : ℕ) (set : Form) (low len : ℕ) → Option Form
cut m (Values xs) low len = list_or_none (filter (λ v. nat_lt (above m low v) len) xs)
cut m (Run p) low len = cut_run m p low len
