-- ORL, ANL and XRL of a direct byte.
use Rattle.std.proofs.Common.{ℕ, ◌<◌, ◌==◌, Bool, Option, List, [], refl, sym, subst, arith}
use Rattle.std.specs.Option.{option_map}
use Rattle.std.proofs.lemmas.Bool.{cond_both, eqb-true}
use Rattle.choosing.specs.Gives.{Gives}
use Rattle.entry_value.specs.declared.byte.Byte.{Byte}
use Rattle.mcs51_decode.specs.declared.instr.Instr.TheVariants.{DirectLogic}
use Rattle.mcs51_decode.specs.declared.instr.Logic.{Logic}
use Rattle.mcs51_decode.specs.declared.instr.Mask.{Mask}
use Rattle.mcs51_decode.specs.declared.instr.Mask.TheVariants as mask
use Rattle.mcs51_decode.specs.Fitting.{IsMask}
use Rattle.mcs51_chip.specs.declared.place.Address.TheVariants.{InSfr}
use Rattle.mcs51_chip.specs.declared.state.ChipState.{ChipState}
use Rattle.mcs51_chip.specs.Arithmetic.{masked}
use Rattle.mcs51_chip.specs.Leading.{MayRead}
use Rattle.mcs51_chip.specs.Memory.{direct_address, write}
use Rattle.mcs51_chip.specs.Step.{effect_of, mask_value}
use Rattle.mcs51_state.specs.Forms.{IsKnown}
use Rattle.mcs51_state.specs.Known.{Known}
use Rattle.mcs51_state.specs.Places.{suspended_of}
use Rattle.mcs51_state.specs.Under.{IsUnder}
use Rattle.mcs51_state.specs.Operands.{direct_addresses}
use Rattle.mcs51_state.specs.Reading.{read_byte}
use Rattle.mcs51_results.specs.declared.made.Operand.{Operand}
use Rattle.mcs51_results.specs.Holding.{AreOperands, IsOperand}
use Rattle.mcs51_results.specs.HoldingFacts.{status_of_known}
use Rattle.mcs51_results.specs.Results.{masked_made}
use Rattle.mcs51_results.specs.StatusBytes.{masked_status}
use Rattle.mcs51_state.specs.Following.{IsValue}
use Rattle.mcs51_state.specs.Writing.{byte_written, status_written}
use Rattle.mcs51_state.specs.Doing.{DoesSo, LeadsSo}
use Rattle.mcs51_state.specs.Accesses.{update_at}
use Rattle.mcs51_moves.specs.Moves.{direct_made, direct_masked, mask_operand}
use Rattle.mcs51_results.specs.InstructionLaws.{InstructionLaws}
use Rattle.mcs51_moves.proofs.Written.{direct_placed, read_value, value_small, written_leads}

-- MASKS

mask_is : (framed : Bool) (a : Known) (by : Mask) → IsKnown framed a → IsMask by → AreOperands (mask_operand a by)
mask_is framed a mask.Accumulator form is = form.a.normal
mask_is framed a (mask.Immediate value) form is = is

mask_so : (framed : Bool) (a : Known) (s : ChipState) (first : Option ChipState) (by : Mask) → IsUnder framed a s first → IsMask by
    → IsOperand (mask_operand a by) (mask_value s by)
mask_so framed a s first mask.Accumulator under is = record { normal = under.form.a.normal; has = under.holds.parts.a.0 }
mask_so framed a s first (mask.Immediate value) under is = (is, refl)

-- BYTES

masked_value : (laws : InstructionLaws) (framed : Bool) (first : Option ChipState) (done : Logic) (byte : Byte) (operand : Operand) (x m : ℕ)
    → IsValue framed first byte x → AreOperands operand → IsOperand operand m
    → IsValue framed first (masked_made done byte operand) (masked done x m)
masked_value laws framed first done byte operand x m value are is = record {
  form = laws.results.changes.masked_form framed done byte operand value.form are;
  holds = laws.results.changes.masked framed (option_map suspended_of first) done byte operand x m value.form value.holds is;
}

-- PSW

status_leads : (laws : InstructionLaws) (framed : Bool) (a : Known) (s : ChipState) (first : Option ChipState) (done : Logic) (operand : Operand) (x m : ℕ)
    → IsUnder framed a s first → AreOperands operand → IsOperand operand m
    → MayRead s (InSfr 0xD0) x → masked done x m < 256
    → LeadsSo framed first (status_written (masked_status done a.psw operand) a) s (write (InSfr 0xD0) (masked done x m) s)
unfolding write
status_leads laws framed a s first done operand x m under are is may small =
    let held = status_of_known framed a under.form in
    let status = masked_status done a.psw operand in
    let form = laws.results.statuses.masked_form framed done a.psw operand held are in
    record {
      onward = refl;
      under = laws.stores.flags.status framed first status (masked done x m) small form.bits form.entry
          (laws.results.statuses.masked framed first done a.psw operand s x m under.holds.state held under.holds.parts.psw may is) a s under;
    }

-- THE INSTRUCTION

masked_leads : (laws : InstructionLaws) (framed : Bool) (a : Known) (s : ChipState) (first : Option ChipState) (done : Logic) (direct : ℕ) (by : Mask) (x : ℕ)
    → IsUnder framed a s first → direct < 256 → IsMask by
    → MayRead s (direct_address direct) x
    → LeadsSo framed first (direct_masked framed done direct by a) s (write (direct_address direct) (masked done x (mask_value s by)) s)
unfolding direct_masked
masked_leads laws framed a s first done direct by x under small is may =
    let at = direct_addresses direct in
    let m = mask_value s by in
    let operand = mask_operand a by in
    let operand_are = mask_is framed a by under.form is in
    let operand_is = mask_so framed a s first by under is in
    let placed = direct_placed laws direct small in
    let value = masked_value laws framed first done (read_byte framed a at) operand x m (read_value laws framed a s first at (direct_address direct) x under placed may) operand_are operand_is in
    cond_both (direct == 0xD0) (status_written (masked_status done a.psw operand) a) (byte_written framed at (direct_made framed done direct by a) a)
    (λ (behind : Known). LeadsSo framed first behind s (write (direct_address direct) (masked done x m) s))
    (λ psw. let same = eqb-true direct 0xD0 psw in
    subst (λ n. LeadsSo framed first (status_written (masked_status done a.psw operand) a) s (write (direct_address n) (masked done x m) s)) (sym same)
    (status_leads laws framed a s first done operand x m under operand_are operand_is (subst (λ n. MayRead s (direct_address n) x) same may)
    (value_small laws framed first (direct_made framed done direct by a) (masked done x m) value)))
    (λ other. written_leads laws framed a s first at (direct_address direct) (direct_made framed done direct by a) (masked done x m) under placed value)

pub mask_direct_so : (laws : InstructionLaws) (framed : Bool) (a : Known) (s : ChipState) (first : Option ChipState) (image : List (Option ℕ)) (pc : ℕ) (done : Logic) (direct : ℕ) (by : Mask)
    → IsUnder framed a s first
    → direct < 256 → IsMask by
    → Gives (DoesSo framed first (update_at pc (direct_addresses direct)) pc (direct_masked framed done direct by a) s) (effect_of image s (DirectLogic done direct by))
unfolding effect_of
mask_direct_so laws framed a s first image pc done direct by under small is =
    let placed = direct_placed laws direct small in
    laws.operands.formats.updating framed first [] pc (direct_masked framed done direct by a) s [] (direct_addresses direct) (direct_address direct)
    (λ x. write (direct_address direct) (masked done x (mask_value s by)) s) (λ access there. absurd (omega (arith, there.1))) placed.stands placed.are
    (λ x may. masked_leads laws framed a s first done direct by x under small is may)

pub mask_direct_form : (laws : InstructionLaws) (framed : Bool) (a : Known) (done : Logic) (direct : ℕ) (by : Mask)
    → IsKnown framed a → direct < 256 → IsMask by
    → IsKnown framed (direct_masked framed done direct by a)
unfolding direct_masked
mask_direct_form laws framed a done direct by form small is =
    let at = direct_addresses direct in
    let operand = mask_operand a by in
    let operand_are = mask_is framed a by form is in
    let are = (direct_placed laws direct small).are in
    let status = laws.results.statuses.masked_form framed done a.psw operand (status_of_known framed a form) operand_are in
    cond_both (direct == 0xD0) (status_written (masked_status done a.psw operand) a) (byte_written framed at (direct_made framed done direct by a) a) (IsKnown framed)
    (λ psw. laws.stores.forms.status framed (masked_status done a.psw operand) status.bits status.entry a form)
    (λ other. laws.stores.forms.byte framed at (direct_made framed done direct by a) are
    (laws.results.changes.masked_form framed done (read_byte framed a at) operand (laws.operands.reads.form framed a form at are) operand_are) a form)
