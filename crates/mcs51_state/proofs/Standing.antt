-- Operands stand where they may.
use Rattle.std.proofs.Common.{◌≡◌, ℕ, ◌+◌, ◌*◌, ◌/◌, ◌%◌, ◌<◌, ◌≤◌, Bool, Option, refl, subst, arith}
use Rattle.std.specs.Prelude.{nat_lt}
use Rattle.std.proofs.lemmas.Bool.{cond_both, ltb-false, ltb-true}
use Rattle.value_set.specs.Form.{Has, IsNormal}
use Rattle.value_set.specs.Summing.{single}
use Rattle.irq_frames.specs.KnownLaws.{KnownLaws}
use Rattle.mcs51_decode.specs.declared.instr.Memory.{Memory}
use Rattle.mcs51_decode.specs.declared.instr.Memory.TheVariants.{Direct, Working as InWorking}
use Rattle.mcs51_decode.specs.declared.instr.Pointer.{Pointer}
use Rattle.mcs51_decode.specs.declared.instr.Working.{Working}
use Rattle.mcs51_decode.specs.declared.instr.Working.TheVariants.{Indirect, Register}
use Rattle.mcs51_decode.specs.Encoding.{pointer_number, register_number}
use Rattle.mcs51_decode.specs.Fitting.{IsMemory}
use Rattle.mcs51_chip.specs.declared.place.Address.{Address}
use Rattle.mcs51_chip.specs.declared.place.Address.TheVariants.{InRam as AtRam, InSfr as AtSfr}
use Rattle.mcs51_chip.specs.declared.state.ChipState.{ChipState}
use Rattle.mcs51_chip.specs.Memory.{address_of, bit_address, direct_address, pointer_address, working_address}
use Rattle.mcs51_decode.specs.NumberFacts.{pointer_below, register_below}
use Rattle.mcs51_chip.specs.Registers.{register_address}
use Rattle.mcs51_state.specs.Forms.{IsKnown}
use Rattle.mcs51_state.specs.Known.{Known}
use Rattle.mcs51_state.specs.Standing.{AreAddresses, MayStandAt}
use Rattle.mcs51_state.specs.Under.{IsUnder}
use Rattle.mcs51_state.specs.Operands.{addresses_of, bank_bits, bank_of, bit_addresses, direct_addresses, only_at, pointer_addresses, register_addresses, working_addresses}
use Rattle.mcs51_state.proofs.BitReads.{bank_agrees}
use Rattle.mcs51_state.proofs.RamReads.{values_have, values_normal}

-- WORKING REGISTERS

pub registers_normal : (laws : KnownLaws) (known : Known) (n : ℕ) → n < 8 → IsNormal 256 (register_addresses known n)
unfolding register_addresses
registers_normal laws known n small =
    laws.sets.add_normal 256 (bank_of known.psw.bits) (single n) (laws.bits.from_normal 8 (bank_bits known.psw.bits) refl) (laws.sets.single 256 n (omega (arith, small))).0

pub registers_have : (laws : KnownLaws) (framed : Bool) (known : Known) (s : ChipState) (first : Option ChipState)
    → IsUnder framed known s first → (n : ℕ) → n < 8
    → Has 256 (register_addresses known n) (register_address s n)
unfolding register_addresses
registers_have laws framed known s first under n small =
    let at = 8 * (s.psw / 8 % 4) in
    let one = laws.sets.single 256 n (omega (arith, small)) in
    let agrees = bank_agrees known.psw.bits s.psw under.form.bits under.holds.parts.psw.bits in
    let same : (at + n) % 256 ≡ register_address s n = omega (arith, small) in
    subst (Has 256 (register_addresses known n)) same
    (laws.sets.add 256 at n (bank_of known.psw.bits) (single n) (laws.bits.from_normal 8 (bank_bits known.psw.bits) refl) one.0 (laws.bits.from 8 at (bank_bits known.psw.bits) refl agrees) one.1)

pub pointers_have : (laws : KnownLaws) (framed : Bool) (known : Known) (s : ChipState) (first : Option ChipState)
    → IsUnder framed known s first → (i : Pointer)
    → Has 256 (pointer_addresses known i) (pointer_address s i)
pointers_have laws framed known s first under i = registers_have laws framed known s first under (pointer_number i) (pointer_below i)

-- ONE ADDRESS

-- RAM has 256 bytes, and registers have the addresses from 80h
abbrev pub IsAddress : Address → Type 0
IsAddress (AtRam at) = at < 256
IsAddress (AtSfr at) = (128 ≤ at) × (at < 256)

only_stands : (laws : KnownLaws) (address : Address) → IsAddress address
    → MayStandAt (only_at address) address × AreAddresses (only_at address)
only_stands laws (AtRam at) inside = let one = laws.sets.single 256 at inside in (one.1, one.0)
only_stands laws (AtSfr at) inside = (refl, inside)

direct_is : (direct : ℕ) → direct < 256 → IsAddress (direct_address direct)
direct_is direct small = cond_both (nat_lt direct 128) (AtRam direct) (AtSfr direct) IsAddress (λ e. small)
    (λ e. (ltb-false direct 128 e, small))

bit_is : (bit : ℕ) → bit < 256 → IsAddress (bit_address bit)
bit_is bit small = cond_both (nat_lt bit 128) (AtRam (32 + bit / 8)) (AtSfr (bit / 8 * 8)) IsAddress (λ e. omega (arith, small))
    (λ e. let high = ltb-false bit 128 e in (omega (arith, high), omega (arith, small)))

pub direct_stands : (laws : KnownLaws) (direct : ℕ) → direct < 256
    → MayStandAt (direct_addresses direct) (direct_address direct) × AreAddresses (direct_addresses direct)
direct_stands laws direct small = only_stands laws (direct_address direct) (direct_is direct small)

pub bit_stands : (laws : KnownLaws) (bit : ℕ) → bit < 256
    → MayStandAt (bit_addresses bit) (bit_address bit) × AreAddresses (bit_addresses bit)
bit_stands laws bit small = only_stands laws (bit_address bit) (bit_is bit small)

direct_may : (laws : KnownLaws) (direct : ℕ) → MayStandAt (direct_addresses direct) (direct_address direct)
direct_may laws direct = cond_both (nat_lt direct 128) (AtRam direct) (AtSfr direct) (λ address. MayStandAt (only_at address) address)
    (λ e. let low = ltb-true direct 128 e in (laws.sets.single 256 direct (omega (arith, low))).1) (λ e. refl)

-- OPERANDS

pub working_stands : (laws : KnownLaws) (framed : Bool) (known : Known) (s : ChipState) (first : Option ChipState)
    → IsUnder framed known s first → (w : Working)
    → MayStandAt (working_addresses known w) (working_address s w)
working_stands laws framed known s first under (Indirect i) =
    values_have laws framed known s first under (pointer_addresses known i) (pointer_address s i) (registers_normal laws known (pointer_number i) (pointer_below i)) (pointers_have laws framed known s first under i)
working_stands laws framed known s first under (Register n) = registers_have laws framed known s first under (register_number n) (register_below n)

pub working_form : (laws : KnownLaws) (framed : Bool) (known : Known) → IsKnown framed known → (w : Working)
    → AreAddresses (working_addresses known w)
working_form laws framed known form (Indirect i) = values_normal laws known form.cells (pointer_addresses known i)
working_form laws framed known form (Register n) = registers_normal laws known (register_number n) (register_below n)

pub operand_stands : (laws : KnownLaws) (framed : Bool) (known : Known) (s : ChipState) (first : Option ChipState)
    → IsUnder framed known s first → (m : Memory)
    → MayStandAt (addresses_of known m) (address_of s m)
operand_stands laws framed known s first under (Direct direct) = direct_may laws direct
operand_stands laws framed known s first under (InWorking w) = working_stands laws framed known s first under w

pub operand_form : (laws : KnownLaws) (framed : Bool) (known : Known) → IsKnown framed known → (m : Memory) → IsMemory m
    → AreAddresses (addresses_of known m)
operand_form laws framed known form (Direct direct) small = (direct_stands laws direct small).1
operand_form laws framed known form (InWorking w) small = working_form laws framed known form w
