-- What a step of the machine says of the chip.
use Rattle.std.specs.Prelude.{◌≡◌, ℕ, Option, None, Some, List, map}
use Rattle.chip_numbers.specs.Single.{Single}
use Rattle.image.specs.declared.ram_range.RamRange.{RamRange}
use Rattle.image.specs.declared.rule_set.Rules.{Rules}
use Rattle.image.specs.declared.rule_set.Rules.TheVariants.{Msp430, Mcs51}
use Rattle.msp430_chip.specs.declared.device.Device.{Device}
use Rattle.msp430_chip.specs.declared.state.ChipState.{ChipState}
use Rattle.msp430_chip.specs.Memory.{HasRam}
use Rattle.msp430_chip.specs.Outcome.{Outcome}
use Rattle.choosing.specs.Outcome.Outcome.{Next, Wild as LeavesModel}
use Rattle.msp430_chip.specs.Step.{step_of}
use Rattle.msp430_emu.specs.declared.stepped.Stepped.{Stepped}
use Rattle.msp430_emu.specs.declared.stepped.Stepped.TheVariants.{Met, Wild, NeedChoice}
use Rattle.msp430_emu.specs.Planning.{item_of}
use Rattle.msp430_emu.specs.Ranges.{range}

-- a step from s with these choices left, to t with that many left
abbrev pub Steps : Device → ChipState → List ℕ → Stepped → ChipState → List ℕ → Type 0
Steps device s choices (Met items) t left =
    (singles : List Single) × (step_of device s choices ≡ Some (Next singles t, left)) × (items.items ≡ map item_of singles)
Steps device s choices (Wild cause) t left =
    (rest : List ℕ) × (step_of device s choices ≡ Some (LeavesModel cause, rest))
Steps device s choices NeedChoice t left = step_of device s choices ≡ None

-- no step is done
abbrev pub IsStill : Stepped → Type 0
IsStill (Met items) = ⊥
IsStill (Wild cause) = Unit {0}
IsStill NeedChoice = Unit {0}

-- the device of an image and RAM
abbrev pub device_of : List (Option ℕ) → RamRange → Device
device_of image ram = record { image = image; ram = ram }

-- the rules are those of an MSP430 with RAM
abbrev pub IsMsp430 : Rules → Type 0
IsMsp430 (Msp430 ram) = HasRam (range ram)
IsMsp430 Mcs51 = ⊥

-- the device of an image under rules; those of another chip have none
abbrev pub device_under : Rules → List (Option ℕ) → Device
device_under (Msp430 ram) image = device_of image ram
device_under Mcs51 image = device_of image (record { lo = 0; hi = 0; mirror = None })

-- the answer for an outcome, and the state behind it
abbrev pub Ends : Outcome ChipState → Stepped → ChipState → Type 0
Ends (Next singles next) (Met items) t = (t ≡ next) × (items.items ≡ map item_of singles)
Ends (LeavesModel why) (Wild cause) t = cause ≡ why
Ends outcome other t = ⊥
