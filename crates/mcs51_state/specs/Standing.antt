-- Where an operand may stand: at an address of a set in RAM, or in one register (Intel, MCS-51 Programmer's Guide and
-- Instruction Set, "Addressing Modes").
use Rattle.std.specs.Prelude.{◌≡◌, ◌<◌, ◌≤◌}
use Rattle.value_set.specs.Form.{Has, IsNormal}
use Rattle.mcs51_chip.specs.declared.place.Address.{Address}
use Rattle.mcs51_chip.specs.declared.place.Address.TheVariants.{InRam as AtRam, InSfr as AtSfr}
use Rattle.mcs51_state.specs.declared.addresses.Addresses.{Addresses}
use Rattle.mcs51_state.specs.declared.addresses.Addresses.TheVariants.{InRam, InSfr}

abbrev pub MayStandAt : Addresses → Address → Type 0
MayStandAt (InRam set) (AtRam at) = Has 256 set at
MayStandAt (InRam set) (AtSfr at) = ⊥
MayStandAt (InSfr register) (AtRam at) = ⊥
MayStandAt (InSfr register) (AtSfr at) = at ≡ register

-- the set is in its one form, and registers have the addresses from 80h
abbrev pub AreAddresses : Addresses → Type 0
AreAddresses (InRam set) = IsNormal 256 set
AreAddresses (InSfr register) = (128 ≤ register) × (register < 256)
