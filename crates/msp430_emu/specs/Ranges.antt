-- The range of RAM, with its mirror.
use Rattle.std.specs.Prelude.{ℕ, Option, None, Some, []}
use Rattle.std.proofs.Props.{props}
use Rattle.image.specs.declared.ram_range.RamRange.{RamRange}
use Rattle.image.specs.Kept.{HasMirror}
use Rattle.msp430_chip.specs.declared.device.Device.{Device}
use Rattle.msp430_chip.specs.Memory.{HasRam}

-- a device of which only RAM matters
abbrev pub range : RamRange → Device
range ram = record { image = []; ram = ram }

HasMirror-prop : (lo hi : ℕ) → (mirror : Option (ℕ × ℕ)) → IsProp (HasMirror lo hi mirror)
HasMirror-prop lo hi None = hlevel props
HasMirror-prop lo hi (Some (first, last)) = hlevel props

-- that a device has RAM is told in one way, so a machine keeps it
pub HasRam-prop : (device : Device) → IsProp (HasRam device)
HasRam-prop device = hlevel (HasMirror-prop, props)
