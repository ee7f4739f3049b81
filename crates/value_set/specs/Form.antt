-- Sets of numbers below a modulus m, which is 256 or 65536. A set is a list of 1 to 16 ascending numbers, or a run of at
-- least 17: strided intervals that go round at the modulus, as in Balakrishnan and Reps, "WYSINWYX", 2010.
use Rattle.std.specs.Prelude.{◌≡◌, ℕ, ◌+◌, ◌-◌, ◌*◌, ◌%◌, ◌/◌, ◌<◌, ◌≤◌, ◌==◌, nat_lt, nat_le, if◌then◌else◌, List, [], ◌∷◌, length, slice_index, map}
use Rattle.std.specs.List.{range_with_len, fold, Contains}
use Rattle.value_set.specs.Gcd.{gcd}
use Rattle.value_set.specs.declared.form.Progression.{Progression}
use Rattle.value_set.specs.declared.form.Form.{Form}
use Rattle.value_set.specs.declared.form.Form.TheVariants.{Values, Run}

-- base + i * stride modulo m, for each i below the count
unfoldable pub steps : (m base stride count : ℕ) → List ℕ
steps m base stride count = map (λ i. (base + i * stride) % m) (range_with_len 0 count)

-- the members of a set: those of a list ascend, and those of a run go from its base
abbrev pub members : ℕ → Form → List ℕ
members m (Values xs) = xs
members m (Run p) = steps m p.base p.stride p.count

abbrev pub Has : ℕ → Form → ℕ → Type 0
Has m set v = Contains (members m set) v

-- each member of the second is one of the first
abbrev pub Includes : ℕ → Form → Form → Type 0
Includes m larger smaller = (v : ℕ) → Has m smaller v → Has m larger v

-- numbers that ascend, from low on and below m
abbrev pub Ascends : (low m : ℕ) → List ℕ → Type 0
Ascends low m [] = Unit {0}
Ascends low m (x ∷ xs) = (low ≤ x) × (x < m) × Ascends (x + 1) m xs

-- A run whose last number is less than once round from its first. One that closes the round begins at its least number.
pub record IsNormalRun (m base stride count : ℕ) : Type 0 where
  pub long : 17 ≤ count
  pub strides : 1 ≤ stride
  pub below : base < m
  pub once : (count - 1) * stride < m
  pub least : count * stride ≡ m → base < stride

-- the one form of each set
abbrev pub IsNormal : ℕ → Form → Type 0
IsNormal m (Values xs) = (1 ≤ length xs) × (length xs ≤ 16) × Ascends 0 m xs
IsNormal m (Run p) = IsNormalRun m p.base p.stride p.count

-- the number put in its place among ascending numbers, unless it is there
unfoldable pub put : ℕ → List ℕ → List ℕ
put v [] = v ∷ []
put v (x ∷ xs) = if nat_lt v x then v ∷ x ∷ xs else if v == x then x ∷ xs else x ∷ put v xs

-- with these numbers put in their places
abbrev pub put_all : List ℕ → List ℕ → List ℕ
put_all held xs = fold (λ ascending_numbers v. put v ascending_numbers) held xs

-- the numbers of a list in ascending order, each once
abbrev pub ascending : List ℕ → List ℕ
ascending xs = put_all [] xs

-- the set of base + i * stride modulo m, for each i below the count
unfoldable pub make : (m base stride count : ℕ) → Form
make m base stride count =
    if nat_le count 16 then Values (ascending (steps m base stride count))
    else Run (record { base = if count * stride == m then base % stride else base % m; stride = stride; count = count })

-- such a run goes round less than once
pub record Fits (m stride count : ℕ) : Type 0 where
  pub positive : 0 < m
  pub some : 1 ≤ count
  pub once : (count - 1) * stride < m
  pub strides : 1 < count → 1 ≤ stride

-- how far v stands above a number, upward round the circle modulo m
abbrev pub above : (m from v : ℕ) → ℕ
above m from v = (v + m - from) % m

-- the number behind the widest gap between neighbours, the first one of several: so far it is `best`, behind a gap of
-- this width, and `previous` is the number before the others
unfoldable pub behind_widest : (best width previous : ℕ) → List ℕ → ℕ
behind_widest best width previous [] = best
behind_widest best width previous (x ∷ xs) =
    behind_widest (if nat_lt width (x - previous) then x else best) (if nat_lt width (x - previous) then x - previous else width) x xs

-- of ascending numbers, the one behind the widest gap on the circle modulo m; of equally wide gaps the least such number
unfoldable pub hull_base : ℕ → List ℕ → ℕ
hull_base m [] = 0
hull_base m (x ∷ xs) = behind_widest x (x + m - slice_index (x ∷ xs) (length xs)) x xs

-- the greatest common divisor of the distances from a number up to others
abbrev pub common_stride : (m from : ℕ) → List ℕ → ℕ
common_stride m from xs = fold (λ g v. gcd g (above m from v)) 0 xs

-- the greater of two numbers
abbrev pub greater : ℕ → ℕ → ℕ
greater a b = if nat_lt a b then b else a

-- the greatest of these distances
abbrev pub farthest : (m from : ℕ) → List ℕ → ℕ
farthest m from xs = fold (λ most v. greater most (above m from v)) 0 xs

-- the run that ascending numbers are drawn from: it begins behind their widest gap. Of one number the stride is 0.
unfoldable pub hull : ℕ → List ℕ → Progression
hull m xs = record {
  base = hull_base m xs;
  stride = common_stride m (hull_base m xs) xs;
  count = farthest m (hull_base m xs) xs / common_stride m (hull_base m xs) xs + 1;
}

-- the run that a set is drawn from
abbrev pub span : ℕ → Form → Progression
span m (Values xs) = hull m xs
span m (Run p) = p

-- a run that begins below m and goes round less than once
pub record IsSpan (m base stride count : ℕ) : Type 0 where
  pub below : base < m
  pub some : 1 ≤ count
  pub once : (count - 1) * stride < m
  pub strides : 1 < count → 1 ≤ stride

-- the set of some ascending numbers: they themselves where they are few, else the run that they are drawn from
unfoldable pub set_of : ℕ → List ℕ → Form
set_of m xs = if nat_le (length xs) 16 then Values xs else make m (hull m xs).base (hull m xs).stride (hull m xs).count

-- the set of some numbers
abbrev pub gather : ℕ → List ℕ → Form
gather m xs = set_of m (ascending xs)

-- All numbers with the remainder of the base modulo the greatest common divisor of stride and m. Since m is a power of
-- two, that divisor is the greatest power of two that divides both, and for stride 0 it is m.
unfoldable pub class : (m base stride : ℕ) → Form
class m base stride = make m (base % gcd stride m) (gcd stride m) (m / gcd stride m)
