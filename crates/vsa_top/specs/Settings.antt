-- What of each chip the words set: the MSP430's RAM, and how much an analysis follows. Nothing is promised.
use Rattle.std.specs.Prelude.{ℕ, List, Option, []}
use Rattle.analysis_limits.specs.declared.limits.Limits.{Limits}
use Rattle.image.specs.declared.ram_range.RamRange.{RamRange}
use Rattle.mcs51_flow.specs.declared.setting.Setting.{Setting as Mcs51Setting}
use Rattle.msp430_chip.specs.declared.device.Device.{Device}
use Rattle.msp430_flow.specs.declared.setting.Setting.{Setting as Msp430Setting}

-- the MSP430 with an image and this RAM
abbrev pub device_of : RamRange → List (Option ℕ) → Device
device_of ram image = record { image = image; ram = ram }

abbrev pub msp430_setting : RamRange → Limits → List (Option ℕ) → Msp430Setting
msp430_setting ram limits image = record { device = device_of ram image; limits = limits; promises = [] }

abbrev pub mcs51_setting : Limits → List (Option ℕ) → Mcs51Setting
mcs51_setting limits image = record { image = image; limits = limits; promises = [] }
