-- The operand of CJNE that stands in RAM.
use Rattle.std.proofs.Common.{◌≡◌, ℕ, Bool, Option, List, [], ◌∷◌, Contains, refl, sym, subst, ap}
use Rattle.std.specs.Prelude.{slice_index}
use Rattle.std.proofs.lemmas.List.Elements.{Contains-push}
use Rattle.plain_lemmas.specs.Members.{in_one}
use Rattle.value_set.specs.declared.form.Form.{Form}
use Rattle.value_set.specs.Form.{Has, IsNormal, members}
use Rattle.mcs51_decode.specs.declared.instr.Memory.TheVariants.{Working as InWorking}
use Rattle.mcs51_decode.specs.declared.instr.Working.{Working}
use Rattle.mcs51_decode.specs.declared.instr.Working.TheVariants.{Indirect, Register}
use Rattle.mcs51_decode.specs.Encoding.{register_number}
use Rattle.mcs51_chip.specs.declared.place.Address.TheVariants.{InRam as AtRam}
use Rattle.mcs51_chip.specs.declared.state.ChipState.{ChipState}
use Rattle.mcs51_chip.specs.Leading.{MayRead}
use Rattle.mcs51_chip.specs.Memory.{pointed_by, working_address}
use Rattle.mcs51_chip.specs.Registers.{register_address}
use Rattle.mcs51_state.specs.declared.addresses.Addresses.TheVariants.{InRam}
use Rattle.mcs51_state.specs.Forms.{IsKnown}
use Rattle.mcs51_state.specs.Known.{Known}
use Rattle.mcs51_state.specs.Under.{IsUnder}
use Rattle.mcs51_state.specs.Reading.{ram_values, read_byte}
use Rattle.mcs51_branch.specs.Jumps.{IsNumberOf, IsOperand}
use Rattle.mcs51_jumps.specs.Jumps.{operand_among, operand_at, working_set}
use Rattle.mcs51_jumps.proofs.PartLaws.{PartLaws}

-- RAM AT ONE OF SOME ADDRESSES

values_normal : (laws : PartLaws) (framed : Bool) (a : Known) (at : Form) → IsKnown framed a → IsNormal 256 at
    → IsNormal 256 (ram_values a at)
unfolding read_byte
values_normal laws framed a at form normal = (laws.instructions.operands.reads.form framed a form (InRam at) normal).normal

values_have : (laws : PartLaws) (framed : Bool) (a : Known) (s : ChipState) (first : Option ChipState) (at : Form) (place : ℕ)
    → IsUnder framed a s first
    → IsNormal 256 at → Has 256 at place
    → Has 256 (ram_values a at) (slice_index s.ram place)
unfolding read_byte
values_have laws framed a s first at place under normal has = (laws.instructions.operands.reads.byte framed a s first under (InRam at) (AtRam place) (slice_index s.ram place) has normal refl).0

-- THE OPERAND

among_is : (laws : PartLaws) (framed : Bool) (a : Known) (at : Form) (places : List ℕ) → IsKnown framed a
    → IsNormal 256 at → members 256 at ≡ places
    → IsOperand (operand_among a at places)
among_is laws framed a at [] form normal all = values_normal laws framed a at form normal
among_is laws framed a at (place ∷ []) form normal all =
    laws.instructions.known.sets.below 256 place at normal (subst (λ (xs : List ℕ). Contains xs place) (sym all) (Contains-push [] place))
among_is laws framed a at (place ∷ next ∷ rest) form normal all = values_normal laws framed a at form normal

among_has : (laws : PartLaws) (framed : Bool) (a : Known) (s : ChipState) (first : Option ChipState) (at : Form) (places : List ℕ) (place : ℕ)
    → IsUnder framed a s first → IsNormal 256 at → members 256 at ≡ places
    → Has 256 at place → IsNumberOf (operand_among a at places) s (slice_index s.ram place)
among_has laws framed a s first at [] place under normal all has = values_have laws framed a s first at place under normal has
among_has laws framed a s first at (one ∷ []) place under normal all has =
    ap (slice_index s.ram) (sym (in_one one place (subst (λ (xs : List ℕ). Contains xs place) all has)))
among_has laws framed a s first at (one ∷ next ∷ rest) place under normal all has = values_have laws framed a s first at place under normal has

-- @Ri AND Rn

working_normal : (laws : PartLaws) (framed : Bool) (a : Known) (w : Working) → IsKnown framed a → IsNormal 256 (working_set a w)
working_normal laws framed a (Indirect i) form = laws.instructions.operands.stands.operand_form framed a form (InWorking (Indirect i)) tt
working_normal laws framed a (Register n) form = laws.instructions.operands.stands.operand_form framed a form (InWorking (Register n)) tt

pub operand_is : (laws : PartLaws) (framed : Bool) (a : Known) (w : Working) → IsKnown framed a → IsOperand (operand_at a (working_set a w))
operand_is laws framed a w form = among_is laws framed a (working_set a w) (members 256 (working_set a w)) form (working_normal laws framed a w form) refl

pub operand_has : (laws : PartLaws) (framed : Bool) (a : Known) (s : ChipState) (first : Option ChipState) (w : Working) (x : ℕ)
    → IsUnder framed a s first
    → MayRead s (working_address s w) x
    → IsNumberOf (operand_at a (working_set a w)) s x
operand_has laws framed a s first (Indirect i) x under may =
    let at = working_set a (Indirect i) in
    subst (IsNumberOf (operand_at a at) s) (sym may)
    (among_has laws framed a s first at (members 256 at) (pointed_by s i) under (working_normal laws framed a (Indirect i) under.form) refl (laws.instructions.operands.stands.operand framed a s first under (InWorking (Indirect i))))
operand_has laws framed a s first (Register n) x under may =
    let at = working_set a (Register n) in
    subst (IsNumberOf (operand_at a at) s) (sym may)
    (among_has laws framed a s first at (members 256 at) (register_address s (register_number n)) under (working_normal laws framed a (Register n) under.form) refl (laws.instructions.operands.stands.operand framed a s first under (InWorking (Register n))))
