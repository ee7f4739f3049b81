-- The runs that there are none of.
use Rattle.std.specs.Prelude.{◌≡◌, ℕ, ◌-◌, ◌*◌, ◌<◌, ◌≤◌, ◌⊎◌}

-- no numbers, more than there are, one number twice, or a run that goes round
abbrev pub IsNoRun : (m stride count : ℕ) → Type 0
IsNoRun m stride count = (count ≡ 0) ⊎ ((m < count) ⊎ (((stride ≡ 0) × (1 < count)) ⊎ (m ≤ (count - 1) * stride)))
