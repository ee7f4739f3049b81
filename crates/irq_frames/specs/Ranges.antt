-- Ranges of addresses, each from its first address to its last one.
use Rattle.std.specs.Prelude.{ℕ, ◌+◌, ◌≤◌, ◌&&◌, ◌||◌, nat_le, nat_lt, if◌then◌else◌, Bool, true, false, List, [], ◌∷◌}
use Prim.Native.Nat.{suc, min, max}

-- ranges from an address on to another, which ascend and neither overlap nor touch
abbrev pub AreRanges : (from hi : ℕ) → List (ℕ × ℕ) → Type 0
AreRanges from hi [] = Unit {0}
AreRanges from hi (range ∷ ranges) =
    (from ≤ range.0) × (range.0 ≤ range.1) × (range.1 ≤ hi) × AreRanges (range.1 + 2) hi ranges

-- a range lies in another, and in one of some ranges
abbrev pub lies_in : ℕ × ℕ → ℕ × ℕ → Bool
lies_in smaller larger = nat_le larger.0 smaller.0 && nat_le smaller.1 larger.1

abbrev pub lies_in_one : ℕ × ℕ → List (ℕ × ℕ) → Bool
lies_in_one range [] = false
lies_in_one range (larger ∷ others) = lies_in range larger || lies_in_one range others

-- one of the ranges has the address
abbrev pub has_address : List (ℕ × ℕ) → ℕ → Bool
has_address ranges at = lies_in_one (at, at) ranges

-- each of some ranges lies in one of others
abbrev pub ranges_within : List (ℕ × ℕ) → List (ℕ × ℕ) → Bool
ranges_within [] others = true
ranges_within (range ∷ ranges) others = lies_in_one range others && ranges_within ranges others

-- how many ranges end in front of an address, before one that doesn't
abbrev pub ends_below : List (ℕ × ℕ) → ℕ → ℕ
ends_below [] at = 0
ends_below (range ∷ ranges) at = if nat_lt range.1 at then suc (ends_below ranges at) else 0

-- ascending ranges with the addresses of one more: it takes up those that it overlaps or touches
unfoldable pub with_range : (lo hi : ℕ) → List (ℕ × ℕ) → List (ℕ × ℕ)
with_range lo hi [] = (lo, hi) ∷ []
with_range lo hi (range ∷ ranges) =
    if nat_lt (range.1 + 1) lo then range ∷ with_range lo hi ranges
    else if nat_lt (hi + 1) range.0 then (lo, hi) ∷ range ∷ ranges
    else with_range (min lo range.0) (max hi range.1) ranges

-- the addresses of both
abbrev pub united : List (ℕ × ℕ) → List (ℕ × ℕ) → List (ℕ × ℕ)
united ranges [] = ranges
united ranges (range ∷ others) = united (with_range range.0 range.1 ranges) others

-- what may be touched in the state that goes on: in an interrupt's frame what either handler touched, else nothing
abbrev pub touched_behind : (framed : Bool) → (at exit : List (ℕ × ℕ)) → List (ℕ × ℕ)
touched_behind framed at exit = if framed then united at exit else []

-- each range ends at an address, behind it, or right in front of it
abbrev pub EachReaches : (at : ℕ) → List (ℕ × ℕ) → Type 0
EachReaches at [] = Unit {0}
EachReaches at (range ∷ ranges) = (at ≤ range.1 + 1) × EachReaches at ranges
