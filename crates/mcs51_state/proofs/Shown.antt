-- The accesses to operands are shown.
use Rattle.std.proofs.Common.{ℕ, Bool, false, Option, [], ◌∷◌, refl, sym, subst}
use Rattle.call_context.specs.Showing.{Shows}
use Rattle.value_set.specs.Form.{Has}
use Rattle.value_set.specs.Summing.{single}
use Rattle.irq_frames.specs.KnownLaws.{KnownLaws}
use Rattle.mcs51_decode.specs.declared.instr.Memory.{Memory}
use Rattle.mcs51_decode.specs.declared.instr.Memory.TheVariants.{Direct, Working as InWorking}
use Rattle.mcs51_decode.specs.declared.instr.Working.{Working}
use Rattle.mcs51_decode.specs.declared.instr.Working.TheVariants.{Indirect, Register}
use Rattle.mcs51_chip.specs.declared.place.Access.TheVariants.{Internal}
use Rattle.mcs51_chip.specs.declared.place.Address.{Address}
use Rattle.mcs51_chip.specs.declared.place.Address.TheVariants.{InRam as AtRam, InSfr as AtSfr}
use Rattle.mcs51_chip.specs.declared.state.ChipState.{ChipState}
use Rattle.mcs51_chip.specs.Memory.{address_reads, pointer_address, pointer_reads}
use Rattle.mcs51_chip.specs.Step.{accessed}
use Rattle.mcs51_state.specs.declared.addresses.Addresses.{Addresses}
use Rattle.mcs51_state.specs.declared.addresses.Addresses.TheVariants.{InRam, InSfr}
use Rattle.mcs51_state.specs.Known.{Known}
use Rattle.mcs51_state.specs.Standing.{AreAddresses, MayStandAt}
use Rattle.mcs51_state.specs.Under.{IsUnder}
use Rattle.mcs51_state.specs.Operands.{pointer_addresses}
use Rattle.mcs51_state.specs.ShowingFacts.{none_shown, one_shown}
use Rattle.mcs51_state.specs.Showing.{AreShown, access_of, address_accesses, pointer_accesses}
use Rattle.mcs51_state.proofs.Standing.{pointers_have}

access_shows : (laws : KnownLaws) (pc : ℕ) (write : Bool) (addresses : Addresses) (address : Address)
    → MayStandAt addresses address → AreAddresses addresses
    → Shows (access_of pc write addresses) (accessed pc (Internal write address))
access_shows laws pc write (InRam set) (AtRam at) stands are = (refl, refl, refl, refl, stands)
access_shows laws pc write (InRam set) (AtSfr at) stands are = absurd stands
access_shows laws pc write (InSfr register) (AtRam at) stands are = absurd stands
access_shows laws pc write (InSfr register) (AtSfr at) stands are =
    (refl, refl, refl, refl, subst (Has 256 (single register)) (sym stands) (laws.sets.single 256 register are.1).1)

pub operand_shown : (laws : KnownLaws) (pc : ℕ) (write : Bool) (addresses : Addresses) (address : Address)
    → MayStandAt addresses address → AreAddresses addresses
    → AreShown (access_of pc write addresses ∷ []) pc (Internal write address ∷ [])
operand_shown laws pc write addresses address stands are =
    one_shown (access_of pc write addresses) pc (Internal write address) (access_shows laws pc write addresses address stands are)

pub pointer_shown : (laws : KnownLaws) (framed : Bool) (pc : ℕ) (known : Known) (s : ChipState) (first : Option ChipState)
    → IsUnder framed known s first → (w : Working)
    → AreShown (pointer_accesses pc known w) pc (pointer_reads s w)
pointer_shown laws framed pc known s first under (Indirect i) =
    one_shown (access_of pc false (InRam (pointer_addresses known i))) pc (Internal false (AtRam (pointer_address s i)))
    (refl, refl, refl, refl, pointers_have laws framed known s first under i)
pointer_shown laws framed pc known s first under (Register n) = none_shown [] pc

pub address_shown : (laws : KnownLaws) (framed : Bool) (pc : ℕ) (known : Known) (s : ChipState) (first : Option ChipState)
    → IsUnder framed known s first → (m : Memory)
    → AreShown (address_accesses pc known m) pc (address_reads s m)
address_shown laws framed pc known s first under (Direct direct) = none_shown [] pc
address_shown laws framed pc known s first under (InWorking w) = pointer_shown laws framed pc known s first under w
