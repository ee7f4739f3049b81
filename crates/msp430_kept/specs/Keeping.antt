-- Which steps of the MSP430 keep promises.
use Rattle.std.specs.Prelude.{◌≡◌, ℕ, ◌-◌, ◌%◌, Bool, true, Option, Some, List}
use Rattle.choosing.specs.Outcome.Outcome.{Next, Wild as Leaves}
use Rattle.msp430_chip.specs.declared.device.Device.{Device}
use Rattle.msp430_chip.specs.declared.state.ChipState.{ChipState}
use Rattle.msp430_chip.specs.declared.state.Wild.TheVariants.{NoInstr, Push, Store as WroteProgram}
use Rattle.msp430_chip.specs.Outcome.{Outcome}
use Rattle.msp430_chip.specs.State.{register_of}
use Rattle.msp430_kept.specs.Sites.{site_at, spoken}
use Rattle.promises.specs.Keeping.{is_in_one, keeps, windows_at}
use Rattle.promises.specs.declared.promise.Promise.{Promise}
use Rattle.promises.specs.declared.promise.Window.{Window}
use Rattle.promises.specs.declared.spoken.Site.{Site}
use Rattle.promises.specs.declared.spoken.Site.TheVariants.{Store}

-- a store that would write this byte stands in one of the windows; that of a word begins at an even address
abbrev pub stands_in : Option (List Window) → Site → (sp at : ℕ) → Bool
stands_in (Some windows) (Store size) sp at = is_in_one windows sp (at - at % size) size
stands_in windows site sp at = true

-- a state may leave the model by the store of its instruction over this byte of the program
abbrev pub keeps_store : Device → List Promise → ChipState → (at : ℕ) → Bool
keeps_store device promises s at = let pc = register_of s 0 in
    stands_in (windows_at (spoken device.image) promises pc) (site_at device.image pc) (register_of s 1) at

-- what a state leads to keeps the promises; no promise speaks of what leaves the model otherwise
abbrev pub IsKept : Device → List Promise → ChipState → Outcome ChipState → Type 0
IsKept device promises s (Next items t) = keeps (spoken device.image) promises items ≡ true
IsKept device promises s (Leaves (WroteProgram at)) = keeps_store device promises s at ≡ true
IsKept device promises s (Leaves (NoInstr refusal)) = Unit {0}
IsKept device promises s (Leaves (Push at)) = Unit {0}
