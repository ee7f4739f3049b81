-- MOVC.
use Rattle.std.proofs.Common.{◌≡◌, ℕ, ◌+◌, ◌*◌, ◌%◌, Bool, true, false, cond, ltb, nat_lt, Option, None, Some, List, [], ◌∷◌, length, refl, sym, subst, arith, All}
use Rattle.std.proofs.lemmas.List.Elements.{All-get_or}
use Rattle.std.proofs.lemmas.List.{get_or_past}
use borrow.Author.Tests.{ltb-true, ltb-false}
use Rattle.image.specs.Image.{IsByte as IsImageByte, byte_at}
use Rattle.call_context.specs.declared.shown.Item.TheVariants.{Access}
use Rattle.call_context.specs.declared.shown.Set.TheVariants.{W}
use Rattle.chip_numbers.specs.declared.space.Space.TheVariants.{Code}
use Rattle.call_context.specs.Showing.{Shows}
use Rattle.choosing.specs.Gives.{Gives}
use Rattle.value_bits.specs.Sets.{pair_set}
use Rattle.value_set.specs.declared.form.Form.{Form}
use Rattle.value_set.specs.Form.{Has, IsNormal, members}
use Rattle.value_set.specs.Summing.{single}
use Rattle.mcs51_decode.specs.declared.instr.CodeBase.{CodeBase}
use Rattle.mcs51_decode.specs.declared.instr.CodeBase.TheVariants.{ProgramCounter, DataPointer}
use Rattle.mcs51_decode.specs.declared.instr.Instr.TheVariants.{MoveCode}
use Rattle.mcs51_chip.specs.declared.place.Access.TheVariants.{Code as ACode}
use Rattle.mcs51_chip.specs.declared.state.ChipState.{ChipState}
use Rattle.mcs51_chip.specs.Leading.{MayReadCode}
use Rattle.mcs51_chip.specs.Registers.{data_pointer, with_accumulator}
use Rattle.mcs51_chip.specs.Step.{accessed, effect_of, reading_code}
use Rattle.mcs51_state.specs.Forms.{IsKnown}
use Rattle.mcs51_state.specs.Known.{Known, any_byte, byte_of}
use Rattle.mcs51_state.specs.Under.{IsUnder}
use Rattle.mcs51_state.specs.Giving.{of_one}
use Rattle.mcs51_state.specs.Doing.{DoesSo, LeadsSo}
use Rattle.mcs51_memories.specs.Codes.{byte_set, code_addresses, code_items, code_loaded, code_set, code_values}
use Rattle.mcs51_results.specs.InstructionLaws.{InstructionLaws}
use Rattle.mcs51_state.specs.ShowingFacts.{one_shown}
use Rattle.mcs51_state.specs.ValueFacts.{plain_value}
use Rattle.mcs51_state.specs.FormFacts.{byte_form}
use Rattle.mcs51_state.specs.Joined.{any_of}
use Rattle.mcs51_state.specs.JoinedFacts.{any_has, any_normal}

-- ONE ADDRESS

byte_by : (image : List (Option ℕ)) (at : ℕ) → All IsImageByte image → (within : Bool) → ltb at (length image) ≡ within
    → IsImageByte (byte_at image at)
byte_by image at bytes true test = All-get_or IsImageByte image at None (ltb-true at (length image) test) bytes
byte_by image at bytes false test = let past : byte_at image at ≡ None = get_or_past image at None (ltb-false at (length image) test) in rw past tt

byte_is : (image : List (Option ℕ)) (at : ℕ) → All IsImageByte image → IsImageByte (byte_at image at)
byte_is image at bytes = byte_by image at bytes (ltb at (length image)) refl

set_normal : (laws : InstructionLaws) (byte : Option ℕ) → IsImageByte byte → IsNormal 256 (byte_set byte)
set_normal laws None is = laws.known.sets.whole_normal 256 (omega arith)
set_normal laws (Some byte) is = (laws.known.sets.single 256 byte is).0

set_has : (laws : InstructionLaws) (byte : Option ℕ) (x : ℕ) → IsImageByte byte → MayReadCode byte x → Has 256 (byte_set byte) x
set_has laws None x is may = laws.known.sets.whole 256 x may
set_has laws (Some byte) x is may = subst (Has 256 (single byte)) (sym may) (laws.known.sets.single 256 byte is).1

code_normal : (laws : InstructionLaws) (image : List (Option ℕ)) (at : ℕ) → All IsImageByte image → IsNormal 256 (code_set image at)
code_normal laws image at bytes = set_normal laws (byte_at image at) (byte_is image at bytes)

-- SEVERAL ADDRESSES

list_normal : (laws : InstructionLaws) (image : List (Option ℕ)) → All IsImageByte image → (list : List ℕ)
    → IsNormal 256 (any_of (code_set image) list)
list_normal laws image bytes = any_normal laws.known (code_set image) (λ at. code_normal laws image at bytes)

or_any_normal : (laws : InstructionLaws) (many : Bool) (set : Form) → IsNormal 256 set → IsNormal 256 (cond many any_byte set)
or_any_normal laws true set normal = laws.known.sets.whole_normal 256 (omega arith)
or_any_normal laws false set normal = normal

or_any_has : (laws : InstructionLaws) (many : Bool) (set : Form) (v : ℕ) → IsNormal 256 set → Has 256 set v
    → Has 256 (cond many any_byte set) v
or_any_has laws true set v normal has = laws.known.sets.whole 256 v (laws.known.sets.below 256 v set normal has)
or_any_has laws false set v normal has = has

values_normal : (laws : InstructionLaws) (image : List (Option ℕ)) (set : Form) → All IsImageByte image
    → IsNormal 256 (code_values image set)
unfolding code_values
values_normal laws image set bytes = or_any_normal laws (nat_lt 256 (length (members 65536 set))) (any_of (code_set image) (members 65536 set)) (list_normal laws image bytes (members 65536 set))

values_have : (laws : InstructionLaws) (image : List (Option ℕ)) (set : Form) (at v : ℕ) → All IsImageByte image
    → Has 65536 set at → Has 256 (code_set image at) v
    → Has 256 (code_values image set) v
unfolding code_values
values_have laws image set at v bytes there has =
    let list = members 65536 set in
    or_any_has laws (nat_lt 256 (length list)) (any_of (code_set image) list) v (list_normal laws image bytes list) (any_has laws.known (code_set image) (λ at. code_normal laws image at bytes) list at v there has)

-- MOVC

pub code_form : (laws : InstructionLaws) (framed : Bool) (a : Known) (image : List (Option ℕ)) (base : CodeBase) (next : ℕ)
    → IsKnown framed a → All IsImageByte image
    → IsKnown framed (code_loaded image base next a)
unfolding code_loaded
code_form laws framed a image base next form bytes =
    let set = code_values image (code_addresses base next a) in
    laws.stores.forms.accumulator framed (byte_of set) (byte_form framed set (values_normal laws image (code_addresses base next a) bytes)) a form

code_leads : (laws : InstructionLaws) (framed : Bool) (a : Known) (s : ChipState) (first : Option ChipState) (image : List (Option ℕ)) (base : CodeBase) (at x : ℕ)
    → IsUnder framed a s first → All IsImageByte image
    → Has 65536 (code_addresses base s.pc a) at → MayReadCode (byte_at image at) x
    → LeadsSo framed first (code_loaded image base s.pc a) s (with_accumulator x s)
unfolding code_loaded
code_leads laws framed a s first image base at x under bytes there may =
    let addresses = code_addresses base s.pc a in
    let set = code_values image addresses in
    let has = values_have laws image addresses at x bytes there (set_has laws (byte_at image at) x (byte_is image at bytes) may) in
    record {
      onward = refl;
      under = laws.stores.writes.accumulator framed first (byte_of set) x (plain_value framed first set x (values_normal laws image addresses bytes) has) a s under;
    }

code_at : (laws : InstructionLaws) (framed : Bool) (a : Known) (s : ChipState) (first : Option ChipState) (image : List (Option ℕ)) (pc : ℕ) (base : CodeBase) (at : ℕ)
    → IsUnder framed a s first → All IsImageByte image
    → Has 65536 (code_addresses base s.pc a) at
    → Gives (DoesSo framed first (code_items pc base s.pc a) pc (code_loaded image base s.pc a) s) (reading_code image s at)
code_at laws framed a s first image pc base at under bytes there =
    let shows : Shows (Access pc Code false 1 (W (code_addresses base s.pc a))) (accessed pc (ACode at)) = (refl, refl, refl, refl, there) in
    of_one (DoesSo framed first (code_items pc base s.pc a) pc (code_loaded image base s.pc a) s) (MayReadCode (byte_at image at)) (λ x. (ACode at ∷ [], with_accumulator x s)) (reading_code image s at)
    (laws.chip.code image s at)
    (λ x may. record { shown = one_shown (Access pc Code false 1 (W (code_addresses base s.pc a))) pc (ACode at) shows; leads = code_leads laws framed a s first image base at x under bytes there may })

counter_has : (laws : InstructionLaws) (framed : Bool) (a : Known) (s : ChipState) (first : Option ChipState) → IsUnder framed a s first
    → Has 65536 (code_addresses ProgramCounter s.pc a) ((s.a + s.pc) % 65536)
counter_has laws framed a s first under =
    let next = laws.known.sets.single 65536 s.pc under.holds.state.pc in
    let zero_so = laws.known.sets.single 256 0 (omega arith) in
    let offset = laws.known.bits.pair s.a 0 a.a.set (single 0) under.form.a.normal zero_so.0 under.holds.parts.a.0 zero_so.1 in
    let normal = laws.known.bits.pair_normal a.a.set (single 0) under.form.a.normal zero_so.0 in
    let sum = laws.known.sets.add 65536 s.pc (s.a + 0 * 256) (single s.pc) (pair_set a.a.set (single 0)) next.0 normal next.1 offset in
    subst (Has 65536 (code_addresses ProgramCounter s.pc a)) (omega arith) sum

pub code_does : (laws : InstructionLaws) (framed : Bool) (a : Known) (s : ChipState) (first : Option ChipState) (image : List (Option ℕ)) (pc : ℕ) (base : CodeBase)
    → IsUnder framed a s first → All IsImageByte image
    → Gives (DoesSo framed first (code_items pc base s.pc a) pc (code_loaded image base s.pc a) s) (effect_of image s (MoveCode base))
unfolding effect_of
code_does laws framed a s first image pc ProgramCounter under bytes =
    code_at laws framed a s first image pc ProgramCounter ((s.a + s.pc) % 65536) under bytes (counter_has laws framed a s first under)
code_does laws framed a s first image pc DataPointer under bytes =
    code_at laws framed a s first image pc DataPointer ((s.a + data_pointer s) % 65536) under bytes (laws.operands.jumps.has framed a s first under)
