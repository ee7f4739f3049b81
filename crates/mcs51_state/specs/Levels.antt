-- Which interrupt levels may be in service: the low one, and the high one, which may interrupt the low one (Intel, MCS-51
-- Microcontroller Family User's Manual, "Priority Level Structure").
use Rattle.std.specs.Prelude.{Bool, true, false, ◌&&◌, ◌||◌, not}
use Rattle.mcs51_state.specs.declared.levels.Levels.{Levels}

-- it may be that the low level, and that the high level, is or isn't in service
abbrev pub may_serve : Levels → (low high : Bool) → Bool
may_serve levels false false = levels.none
may_serve levels true false = levels.low
may_serve levels false true = levels.high
may_serve levels true true = levels.both

abbrev pub only_none : Levels
only_none = record { none = true; low = false; high = false; both = false }

abbrev pub all_levels : Levels
all_levels = record { none = true; low = true; high = true; both = true }

-- what may be in either
abbrev pub levels_joined : Levels → Levels → Levels
levels_joined held new = record {
  none = held.none || new.none;
  low = held.low || new.low;
  high = held.high || new.high;
  both = held.both || new.both;
}

-- what may be in the first may be in the second
abbrev pub levels_within : Levels → Levels → Bool
levels_within new held =
    (not new.none || held.none) && (not new.low || held.low) && (not new.high || held.high) && (not new.both || held.both)
