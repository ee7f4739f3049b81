-- A jump that goes one way or not at all.
use Rattle.std.specs.Prelude.{◌≡◌, Bool, true, false, Option, None, Some, Result, Ok, Err}
use Rattle.no_memory.specs.declared.refusal.Memory.{Memory}
use Rattle.mcs51_state.specs.Known.{Known}

-- what is known where the jump goes this way, if it can; else all is as it was
abbrev pub Goes : Option Known → (goes : Bool) → (old new : Known) → Type 0
Goes way true old new = way ≡ Some new
Goes way false old new = (way ≡ None) × (new ≡ old)

-- the same, where memory may lack
abbrev pub IsWay : Option Known → Result Bool Memory → (old new : Known) → Type 0
IsWay way (Ok goes) old new = Goes way goes old new
IsWay way (Err lack) old new = new ≡ old
