-- What a call that reads a source tells of the source's faults.
use Rattle.std.specs.Prelude.{◌≡◌, ◌≢◌, ℕ, Result, Ok, Err}
use Rattle.streams.specs.Stream.{HasRisen}

-- The error that stands for a fault is told only where the count of faults rose, and else none did.
abbrev pub TellsFaults : {A E : Type 0} → (fault : E) → (before after : ℕ) → Result A E → Type 0
TellsFaults fault before after (Ok a) = after ≡ before
TellsFaults fault before after (Err error) = (error ≡ fault → HasRisen before after) × (error ≢ fault → after ≡ before)
