-- The levels that interrupts come in.
use Rattle.std.proofs.Common.{◌≡◌, ℕ, ◌==◌, Bool, true, false, refl}
use Rattle.std.specs.Prelude.{◌||◌, not, if◌then◌else◌}
use Rattle.std.proofs.lemmas.Bool.{and_from, cond_both}
use Rattle.mcs51_chip.specs.declared.state.ChipState.{ChipState}
use Rattle.mcs51_chip.specs.Interrupts.{is_allowed}
use Rattle.mcs51_state.specs.Forms.{AreLevels}
use Rattle.mcs51_state.specs.Known.{Known}
use Rattle.mcs51_state.specs.Levels.{may_serve}
use Rattle.mcs51_entry.specs.Coming.{may_have, may_level}
use Rattle.mcs51_entry.specs.Entering.{levels_at}

-- a level is allowed by what is in service
pub allows : (high low up : Bool) → Bool
allows true low up = not up
allows false low up = not (low || up)

pub allowed_so : (s : ChipState) (high : Bool) → is_allowed s high ≡ true → allows high s.serves_low s.serves_high ≡ true
unfolding allows
allowed_so s true e = e
allowed_so s false e = e

-- the levels in service in the handler
abbrev pub level_by : (high low : Bool) → ℕ
level_by high low = if high then if low then 3 else 2 else 1

pub level_may : (a : Known) (source : ℕ) (high low up : Bool) → may_serve a.levels low up ≡ true
    → allows high low up ≡ true → may_have a source high ≡ true → may_level a source (level_by high low) ≡ true
unfolding allows
level_may a source true true false serves allowed have = and_from (may_have a source true) a.levels.low have serves
level_may a source true false false serves allowed have = and_from (may_have a source true) a.levels.none have serves
level_may a source false false false serves allowed have = and_from (may_have a source false) a.levels.none have serves
level_may a source true low true serves allowed have = absurd (cc)
level_may a source false true up serves allowed have = absurd (cc)
level_may a source false false true serves allowed have = absurd (cc)

-- those of the handler's state: the source's level is then in service
pub level_serves : (high low up : Bool) → allows high low up ≡ true
    → may_serve (levels_at (level_by high low)) (if high then low else true) (if high then true else up) ≡ true
unfolding allows
level_serves true true false allowed = refl
level_serves true false false allowed = refl
level_serves false false false allowed = refl
level_serves true low true allowed = absurd (cc)
level_serves false true up allowed = absurd (cc)
level_serves false false true allowed = absurd (cc)

pub levels_some : (level : ℕ) → AreLevels (levels_at level)
levels_some level =
    cond_both (level == 1) (record { none = false; low = true; high = false; both = false }) (if level == 2 then record { none = false; low = false; high = true; both = false } else record { none = false; low = false; high = false; both = true })
    AreLevels (λ e. (true, false, refl))
    (λ e. cond_both (level == 2) (record { none = false; low = false; high = true; both = false }) (record { none = false; low = false; high = false; both = true }) AreLevels (λ e. (false, true, refl)) (λ e. (true, true, refl)))
