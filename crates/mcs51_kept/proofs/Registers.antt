-- Where R0 and R1 stand.
use Rattle.std.proofs.Common.{◌≡◌, ℕ, ◌<◌, Bool, Option, None, Some, List, [], ◌∷◌, refl, sym, ◌∙◌, subst, Contains}
use Rattle.plain_lemmas.specs.Cases.{same_Some}
use Rattle.plain_lemmas.specs.Members.{in_first, in_one}
use Rattle.value_set.specs.Form.{Has, IsNormal, members}
use Rattle.value_set.specs.Laws.{SetLaws}
use Rattle.mcs51_decode.specs.declared.instr.Pointer.{Pointer}
use Rattle.mcs51_decode.specs.declared.instr.Pointer.TheVariants as pointer
use Rattle.mcs51_decode.specs.declared.instr.Register.TheVariants as register
use Rattle.mcs51_decode.specs.declared.instr.Working.TheVariants.{Register as InRegister}
use Rattle.mcs51_chip.specs.declared.state.ChipState.{ChipState}
use Rattle.mcs51_chip.specs.Memory.{pointer_address}
use Rattle.mcs51_state.specs.Forms.{IsKnown}
use Rattle.mcs51_state.specs.Known.{Known}
use Rattle.mcs51_state.specs.OperandLaws.{OperandLaws}
use Rattle.mcs51_state.specs.Operands.{pointer_addresses}
use Rattle.mcs51_state.specs.Under.{IsUnder}
use Rattle.mcs51_kept.specs.Front.{only_one, register_at}

-- ONE NUMBER

only_has : (xs : List ℕ) (n : ℕ) → only_one xs ≡ Some n → Contains xs n
only_has [] n e = absurd (cc)
only_has (x ∷ []) n e = subst (Contains (x ∷ [])) (same_Some e) (in_first x [])
only_has (x ∷ y ∷ xs) n e = absurd (cc)

only_is : (xs : List ℕ) (n v : ℕ) → only_one xs ≡ Some n → Contains xs v → n ≡ v
only_is [] n v e there = absurd (cc)
only_is (x ∷ []) n v e there = sym (same_Some e) ∙ in_one x v there
only_is (x ∷ y ∷ xs) n v e there = absurd (cc)

-- REGISTERS

registers_normal : (operands : OperandLaws) (framed : Bool) (a : Known) (i : Pointer) → IsKnown framed a → IsNormal 256 (pointer_addresses a i)
registers_normal operands framed a pointer.R0 form = operands.stands.working_form framed a form (InRegister register.R0)
registers_normal operands framed a pointer.R1 form = operands.stands.working_form framed a form (InRegister register.R1)

registers_have : (operands : OperandLaws) (framed : Bool) (a : Known) (s : ChipState) (first : Option ChipState) (i : Pointer)
    → IsUnder framed a s first → Has 256 (pointer_addresses a i) (pointer_address s i)
registers_have operands framed a s first pointer.R0 under = operands.stands.working framed a s first under (InRegister register.R0)
registers_have operands framed a s first pointer.R1 under = operands.stands.working framed a s first under (InRegister register.R1)

pub register_below : (sets : SetLaws) (operands : OperandLaws) (framed : Bool) (a : Known) (i : Pointer) (at : ℕ) → IsKnown framed a
    → register_at a i ≡ Some at → at < 256
register_below sets operands framed a i at form e =
    sets.below 256 at (pointer_addresses a i) (registers_normal operands framed a i form) (only_has (members 256 (pointer_addresses a i)) at e)

pub register_is : (operands : OperandLaws) (framed : Bool) (a : Known) (s : ChipState) (first : Option ChipState) (i : Pointer) (at : ℕ)
    → IsUnder framed a s first → register_at a i ≡ Some at → at ≡ pointer_address s i
register_is operands framed a s first i at under e =
    only_is (members 256 (pointer_addresses a i)) at (pointer_address s i) e (registers_have operands framed a s first i under)
