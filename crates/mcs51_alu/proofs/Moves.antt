-- MOV A, INC A and DEC A.
use Rattle.std.proofs.Common.{◌≡◌, ℕ, ◌+◌, ◌%◌, ◌<◌, Bool, true, false, Option, None, Some, refl, arith}
use Rattle.std.specs.Prelude.{if◌then◌else◌, slice_index}
use Rattle.std.specs.Option.{option_map}
use Rattle.value_set.specs.Summing.{single}
use Rattle.mcs51_decode.specs.declared.instr.Memory.{Memory}
use Rattle.mcs51_decode.specs.Fitting.{IsMemory}
use Rattle.mcs51_chip.specs.declared.state.ChipState.{ChipState}
use Rattle.mcs51_chip.specs.Leading.{MayRead}
use Rattle.mcs51_chip.specs.Memory.{address_of}
use Rattle.mcs51_chip.specs.Registers.{with_accumulator}
use Rattle.mcs51_state.specs.FormFacts.{byte_form as plain_byte}
use Rattle.mcs51_state.specs.Forms.{IsKnown, IsLinear}
use Rattle.mcs51_state.specs.Holding.{HoldsOfLinear}
use Rattle.mcs51_state.specs.Known.{Known, byte_of}
use Rattle.mcs51_state.specs.Places.{suspended_of}
use Rattle.mcs51_state.specs.Under.{IsUnder}
use Rattle.mcs51_state.specs.Operands.{addresses_of}
use Rattle.mcs51_state.specs.Reading.{read_byte}
use Rattle.mcs51_results.specs.Results.{decreased, increased}
use Rattle.mcs51_alu.specs.Accumulator.{counted, immediate, loaded}
use Rattle.mcs51_alu.specs.LinearFacts.{loaded_fact, only_address, whole}
use Rattle.mcs51_results.specs.InstructionLaws.{InstructionLaws}
use Rattle.mcs51_alu.proofs.OnlyBytes.{address_small, only_read}
use Rattle.mcs51_alu.proofs.Written.{byte_form, byte_under}

-- THE FACT BEHIND A MOVE

loaded_is : (only : Option ℕ) → ((at : ℕ) → only ≡ Some at → at < 256) → IsLinear (option_map whole only)
loaded_is None small = tt
loaded_is (Some at) small = (small at refl, omega arith, omega arith)

loaded_holds : (only : Option ℕ) (s : ChipState) (x : ℕ) → x < 256 → ((at : ℕ) → only ≡ Some at → x ≡ slice_index s.ram at)
    → HoldsOfLinear (option_map whole only) (with_accumulator x s)
loaded_holds None s x small reads = tt
loaded_holds (Some at) s x small reads = let same = reads at refl in omega (arith, same, small)

-- MOV

pub load_form : (laws : InstructionLaws) (framed : Bool) (a : Known) (m : Memory) → IsKnown framed a → IsMemory m
    → IsKnown framed (loaded framed m a)
unfolding loaded
load_form laws framed a m form is =
    let addresses = addresses_of a m in
    let are = laws.operands.stands.operand_form framed a form m is in
    byte_form framed (read_byte framed a addresses) (loaded_fact addresses) a (laws.operands.reads.form framed a form addresses are)
    (loaded_is (only_address addresses) (λ at e. address_small laws.known.sets.below addresses at are e)) form

pub load_so : (laws : InstructionLaws) (framed : Bool) (a : Known) (s : ChipState) (first : Option ChipState) (m : Memory) (x : ℕ)
    → IsUnder framed a s first
    → IsMemory m → MayRead s (address_of s m) x
    → IsUnder framed (loaded framed m a) (with_accumulator x s) first
unfolding loaded
load_so laws framed a s first m x under is may =
    let addresses = addresses_of a m in
    let are = laws.operands.stands.operand_form framed a under.form m is in
    let stands = laws.operands.stands.operand framed a s first under m in
    let byte = read_byte framed a addresses in
    let form = laws.operands.reads.form framed a under.form addresses are in
    let holds = laws.operands.reads.byte framed a s first under addresses (address_of s m) x stands are may in
    byte_under laws framed byte (loaded_fact addresses) a s first x form holds (loaded_is (only_address addresses) (λ at e. address_small laws.known.sets.below addresses at are e))
    (loaded_holds (only_address addresses) s x (laws.known.sets.below 256 x byte.set form.normal holds.0) (λ at e. only_read addresses (address_of s m) s at x e stands may)) under

pub immediate_form : (laws : InstructionLaws) (framed : Bool) (a : Known) (value : ℕ) → IsKnown framed a → value < 256
    → IsKnown framed (immediate value a)
unfolding immediate
immediate_form laws framed a value form small = byte_form framed (byte_of (single value)) None a (plain_byte framed (single value) (laws.known.sets.single 256 value small).0) tt form

pub immediate_so : (laws : InstructionLaws) (framed : Bool) (a : Known) (s : ChipState) (first : Option ChipState) (value : ℕ)
    → IsUnder framed a s first
    → value < 256 → IsUnder framed (immediate value a) (with_accumulator value s) first
unfolding immediate
immediate_so laws framed a s first value under small =
    let one = laws.known.sets.single 256 value small in
    byte_under laws framed (byte_of (single value)) None a s first value (plain_byte framed (single value) one.0) (one.1, tt) tt tt under

-- INC AND DEC

pub count_form : (laws : InstructionLaws) (framed : Bool) (a : Known) (up : Bool) → IsKnown framed a → IsKnown framed (counted up a)
unfolding counted
count_form laws framed a true form = byte_form framed (increased a.a) None a (laws.results.changes.increased_form framed a.a form.a) tt form
count_form laws framed a false form = byte_form framed (decreased a.a) None a (laws.results.changes.decreased_form framed a.a form.a) tt form

pub count_so : (laws : InstructionLaws) (framed : Bool) (a : Known) (s : ChipState) (first : Option ChipState) (up : Bool)
    → IsUnder framed a s first
    → IsUnder framed (counted up a) (with_accumulator (if up then (s.a + 1) % 256 else (s.a + 255) % 256) s) first
unfolding counted
count_so laws framed a s first true under =
    byte_under laws framed (increased a.a) None a s first ((s.a + 1) % 256) (laws.results.changes.increased_form framed a.a under.form.a)
    (laws.results.changes.increased framed (option_map suspended_of first) a.a s.a under.form.a under.holds.parts.a) tt tt under
count_so laws framed a s first false under =
    byte_under laws framed (decreased a.a) None a s first ((s.a + 255) % 256) (laws.results.changes.decreased_form framed a.a under.form.a)
    (laws.results.changes.decreased framed (option_map suspended_of first) a.a s.a under.form.a under.holds.parts.a) tt tt under
