-- Places in a list with room.
use Rattle.std.specs.Prelude.{ℕ, ◌<◌, Option, None, Some}

-- there is such a place, or room for one more
abbrev pub HasPlace : ℕ → ℕ → Option ℕ → Type 0
HasPlace len capacity None = len < capacity
HasPlace len capacity (Some index) = index < len
