-- What an instruction stores through a register.
use Rattle.std.proofs.Common.{◌≡◌, ℕ, ◌+◌, ◌%◌, true, Option, None, Some, List, [], ◌∷◌, ◌++◌, refl, sym, ap, subst, Contains}
use Rattle.std.proofs.lemmas.List.Elements.{Contains-append_right}
use Rattle.choosing.specs.Asking.{Asking}
use Rattle.choosing.specs.Gives.{Gives, answer_gives, weaken}
use Rattle.plain_lemmas.specs.Cases.{same_Some}
use Rattle.plain_lemmas.specs.Members.{in_first}
use Rattle.mcs51_decode.specs.declared.instr.Instr.{Instr}
use Rattle.mcs51_decode.specs.declared.instr.Instr.TheVariants.{Nop, AbsoluteJump, AbsoluteCall, LongJump, LongCall, Return, ReturnFromInterrupt, JumpIndirect, JumpOn, JumpOnBit, CompareJump, DecrementJump, ChangeAccumulator, Increment, Decrement, IncrementDataPointer, Accumulate, DirectLogic, Multiply, Divide, ChangeCarry, CarryBit, ChangeBit, MoveImmediate, MoveToDirect, MoveFromDirect, LoadDataPointer, Load, Store, MoveCode, ReadExternal, WriteExternal, Push, Pop, Exchange, ExchangeDigit}
use Rattle.mcs51_decode.specs.declared.instr.Memory.{Memory}
use Rattle.mcs51_decode.specs.declared.instr.Memory.TheVariants.{Direct, Working as InWorking}
use Rattle.mcs51_decode.specs.declared.instr.Place.TheVariants.{Accumulator, Memory as InMemory}
use Rattle.mcs51_decode.specs.declared.instr.Pointer.{Pointer}
use Rattle.mcs51_decode.specs.declared.instr.Working.{Working}
use Rattle.mcs51_decode.specs.declared.instr.Working.TheVariants.{Indirect, Register}
use Rattle.mcs51_chip.specs.declared.place.Access.{Access}
use Rattle.mcs51_chip.specs.declared.place.Access.TheVariants.{Internal}
use Rattle.mcs51_chip.specs.declared.place.Address.{Address}
use Rattle.mcs51_chip.specs.declared.place.Address.TheVariants.{InRam}
use Rattle.mcs51_chip.specs.declared.state.ChipState.{ChipState}
use Rattle.mcs51_chip.specs.Laws.{FormatsLead}
use Rattle.mcs51_chip.specs.Leading.{IsOfOne, MayRead}
use Rattle.mcs51_chip.specs.Memory.{address_of, address_reads, direct_address, pointed_by, pointer_reads, reads, working_address, write, writes}
use Rattle.mcs51_chip.specs.Step.{Effect, digit_exchanged_with, effect_of, exchanged_with, moving, updating, writing}
use Rattle.mcs51_kept.specs.Sites.{memory_pointer, pointer_of, working_pointer}

-- the accesses have a store there
abbrev pub StoresAt : Address → Effect → Type 0
StoresAt address effect = Contains effect.0 (Internal true address)

-- FORMATS

written_there : (before : List Access) (address : Address) → Contains (before ++ writes address) (Internal true address)
written_there before address = Contains-append_right before (writes address) (Internal true address) (in_first (Internal true address) [])

stored : (s : ChipState) (before : List Access) (address : Address) (x : ℕ) → Gives (StoresAt address) (writing s before address x)
stored s before address x = answer_gives (StoresAt address) (before ++ writes address, write address x s) (written_there before address)

made_one : (May : ℕ → Type 0) (leads : ℕ → Effect) (address : Address) → ((x : ℕ) → StoresAt address (leads x)) → (effect : Effect)
    → IsOfOne May leads effect → StoresAt address effect
made_one May leads address each effect (x, may, is) = subst (StoresAt address) (sym is) (each x)

updated : (formats : FormatsLead) (s : ChipState) (before : List Access) (address : Address) (leads : ℕ → ChipState)
    → Gives (StoresAt address) (updating s before address leads)
updated formats s before address leads =
    let made = λ (x : ℕ). let effect : Effect = (before ++ reads address ++ writes address, leads x) in effect in
    let there = written_there (before ++ reads address) address in
    weaken (IsOfOne (MayRead s address) made) (StoresAt address) (updating s before address leads)
    (made_one (MayRead s address) made address (λ x. there)) (formats.updating s before address leads)

moved : (formats : FormatsLead) (s : ChipState) (before : List Access) (from to : Address) → Gives (StoresAt to) (moving s before from to)
moved formats s before from to =
    let made = λ (x : ℕ). let effect : Effect = (before ++ reads from ++ writes to, write to x s) in effect in
    let there = written_there (before ++ reads from) to in
    weaken (IsOfOne (MayRead s from) made) (StoresAt to) (moving s before from to)
    (made_one (MayRead s from) made to (λ x. there)) (formats.moving s before from to)

-- OPERANDS

working_there : (s : ChipState) (working : Working) (pointer : Pointer) → working_pointer working ≡ Some pointer
    → working_address s working ≡ InRam (pointed_by s pointer)
working_there s (Indirect one) pointer e = ap (λ (p : Pointer). InRam (pointed_by s p)) (same_Some e)
working_there s (Register register) pointer e = absurd (cc)

memory_there : (s : ChipState) (memory : Memory) (pointer : Pointer) → memory_pointer memory ≡ Some pointer
    → address_of s memory ≡ InRam (pointed_by s pointer)
memory_there s (Direct direct) pointer e = absurd (cc)
memory_there s (InWorking working) pointer e = working_there s working pointer e

-- INSTRUCTIONS

pub stores : (formats : FormatsLead) (image : List (Option ℕ)) (s : ChipState) (instr : Instr) (pointer : Pointer)
    → pointer_of instr ≡ Some pointer → Gives (StoresAt (InRam (pointed_by s pointer))) (effect_of image s instr)
unfolding pointer_of effect_of
stores formats image s (Increment Accumulator) pointer e = absurd (cc)
stores formats image s (Increment (InMemory m)) pointer e =
    subst (λ at. Gives (StoresAt at) (effect_of image s (Increment (InMemory m)))) (memory_there s m pointer e)
    (updated formats s (address_reads s m) (address_of s m) (λ x. write (address_of s m) ((x + 1) % 256) s))
stores formats image s (Decrement Accumulator) pointer e = absurd (cc)
stores formats image s (Decrement (InMemory m)) pointer e =
    subst (λ at. Gives (StoresAt at) (effect_of image s (Decrement (InMemory m)))) (memory_there s m pointer e)
    (updated formats s (address_reads s m) (address_of s m) (λ x. write (address_of s m) ((x + 255) % 256) s))
stores formats image s (MoveImmediate Accumulator value) pointer e = absurd (cc)
stores formats image s (MoveImmediate (InMemory m) value) pointer e =
    subst (λ at. Gives (StoresAt at) (effect_of image s (MoveImmediate (InMemory m) value))) (memory_there s m pointer e)
    (stored s (address_reads s m) (address_of s m) value)
stores formats image s (MoveFromDirect to from) pointer e =
    subst (λ at. Gives (StoresAt at) (effect_of image s (MoveFromDirect to from))) (working_there s to pointer e)
    (moved formats s (pointer_reads s to) (direct_address from) (working_address s to))
stores formats image s (Store m) pointer e =
    subst (λ at. Gives (StoresAt at) (effect_of image s (Store m))) (memory_there s m pointer e)
    (stored s (address_reads s m) (address_of s m) s.a)
stores formats image s (Exchange m) pointer e =
    subst (λ at. Gives (StoresAt at) (effect_of image s (Exchange m))) (memory_there s m pointer e)
    (updated formats s (address_reads s m) (address_of s m) (exchanged_with s (address_of s m)))
stores formats image s (ExchangeDigit i) pointer e =
    subst (λ at. Gives (StoresAt at) (effect_of image s (ExchangeDigit i))) (working_there s (Indirect i) pointer e)
    (updated formats s (pointer_reads s (Indirect i)) (working_address s (Indirect i)) (digit_exchanged_with s (working_address s (Indirect i))))
stores formats image s Nop pointer e = absurd (cc)
stores formats image s (AbsoluteJump one) pointer e = absurd (cc)
stores formats image s (AbsoluteCall one) pointer e = absurd (cc)
stores formats image s (LongJump one) pointer e = absurd (cc)
stores formats image s (LongCall one) pointer e = absurd (cc)
stores formats image s Return pointer e = absurd (cc)
stores formats image s ReturnFromInterrupt pointer e = absurd (cc)
stores formats image s JumpIndirect pointer e = absurd (cc)
stores formats image s (JumpOn one other) pointer e = absurd (cc)
stores formats image s (JumpOnBit one other more) pointer e = absurd (cc)
stores formats image s (CompareJump one other) pointer e = absurd (cc)
stores formats image s (DecrementJump one other) pointer e = absurd (cc)
stores formats image s (ChangeAccumulator one) pointer e = absurd (cc)
stores formats image s IncrementDataPointer pointer e = absurd (cc)
stores formats image s (Accumulate one other) pointer e = absurd (cc)
stores formats image s (DirectLogic one other more) pointer e = absurd (cc)
stores formats image s Multiply pointer e = absurd (cc)
stores formats image s Divide pointer e = absurd (cc)
stores formats image s (ChangeCarry one) pointer e = absurd (cc)
stores formats image s (CarryBit one other) pointer e = absurd (cc)
stores formats image s (ChangeBit one other) pointer e = absurd (cc)
stores formats image s (MoveToDirect one other) pointer e = absurd (cc)
stores formats image s (LoadDataPointer one) pointer e = absurd (cc)
stores formats image s (Load one) pointer e = absurd (cc)
stores formats image s (MoveCode one) pointer e = absurd (cc)
stores formats image s (ReadExternal one) pointer e = absurd (cc)
stores formats image s (WriteExternal one) pointer e = absurd (cc)
stores formats image s (Push one) pointer e = absurd (cc)
stores formats image s (Pop one) pointer e = absurd (cc)
