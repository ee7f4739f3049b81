-- The formats of instructions, and steps, lead to what the relations without choices say.
use Rattle.std.proofs.Common.{◌≡◌, ℕ, ◌+◌, ◌-◌, ◌*◌, ◌%◌, ◌<◌, ◌==◌, Bool, true, false, cond, nat_lt, List, [], ◌∷◌, ◌++◌, length, slice_index, Option, None, Some, Result, Ok, Err, refl, arith}
use Rattle.std.specs.Prelude.{Contains}
use Rattle.std.specs.Int.{bit_at}
use Rattle.std.proofs.lemmas.Bool.Decides.{nat_tests}
use Rattle.std.proofs.lemmas.List.Elements.{Contains-get_or}
use Rattle.image.specs.Image.{byte_at}
use Rattle.chip_numbers.specs.Single.Single.{Instr as Ran}
use Rattle.mcs51_decode.specs.declared.instr.BitTest.TheVariants.{SetAndClear, Set, Clear}
use Rattle.mcs51_decode.specs.declared.instr.Instr.{Instr}
use Rattle.mcs51_decode.specs.declared.instr.External.{External as AnExternal}
use Rattle.mcs51_decode.specs.declared.instr.External.TheVariants.{DataPointer, Indirect}
use Rattle.mcs51_decode.specs.declared.refusal.NoInstr.{NoInstr}
use Rattle.mcs51_decode.specs.Decoding.{decoded}
use Rattle.mcs51_decode.specs.Encoding.{bytes_of}
use Rattle.mcs51_decode.specs.Standing.{Decodes}
use Rattle.mcs51_decode.specs.Targets.{following}
use Rattle.choosing.specs.Asking.{Asking, answer, ask, and_then, IsOption}
use Rattle.choosing.specs.Outcome.Outcome.{Wild}
use Rattle.choosing.specs.Gives.{Gives, answer_gives, ask_gives, ask_if_gives, option_gives, then_gives}
use Rattle.mcs51_chip.specs.declared.place.Access.{Access}
use Rattle.mcs51_chip.specs.declared.place.Access.TheVariants.{External, Code}
use Rattle.mcs51_chip.specs.declared.place.Address.{Address}
use Rattle.mcs51_chip.specs.declared.place.Address.TheVariants.{InRam, InSfr}
use Rattle.mcs51_chip.specs.declared.place.Sfr.{Sfr}
use Rattle.mcs51_chip.specs.declared.place.Sfr.TheVariants.{Sp, Dpl, Dph, Ie, Ip, Psw, Acc, B, Other}
use Rattle.mcs51_chip.specs.declared.state.ChipState.{ChipState}
use Rattle.mcs51_chip.specs.Arithmetic.{divided, divided_by_zero}
use Rattle.mcs51_chip.specs.Interrupts.{coming}
use Rattle.mcs51_chip.specs.Leading.{MayReadSfr, MayRead, MayReadCode, MayPush, MayBeAt, IsOfOne, pushed_from, popped_into, MayReadExternal, MayDivide, MayDo, MayLead}
use Rattle.mcs51_chip.specs.Leading.MayLead.{Enters, Runs, NoneStands}
use Rattle.mcs51_chip.specs.Memory.{direct_address, pointed_by, read, write, read_code, reads, writes}
use Rattle.mcs51_chip.specs.Registers.{parity, sfr_at, read_sfr, with_accumulator}
use Rattle.mcs51_chip.specs.Step.{Effect, implied, reading, updating, moving, going_to, branched, cleared, jumping_on_bit, push_value, pushing, popping, reading_code, external_address, external_reads, reading_external, writing_external, dividing, effect_of, stepped, executed, entered, run, step_of}

-- ---- bytes

-- one question of so many options, and what its option makes
made_of : (options : ℕ) (made : ℕ → ℕ) → 0 < options
    → Gives (λ (x : ℕ). (option : ℕ) × (option < options) × (x ≡ made option)) (and_then (ask options) (λ option. answer (made option)))
made_of options made some = then_gives (λ (option : ℕ). option < options) (λ (x : ℕ). (option : ℕ) × (option < options) × (x ≡ made option)) _ _ (ask_gives options some)
    (λ option below. answer_gives (λ (x : ℕ). (option : ℕ) × (option < options) × (x ≡ made option)) (made option) (option, below, refl))

sfr_leads : (s : ChipState) (sfr : Sfr) → Gives (MayReadSfr s sfr) (read_sfr s sfr)
sfr_leads s Sp = answer_gives (MayReadSfr s Sp) s.sp refl
sfr_leads s Dpl = answer_gives (MayReadSfr s Dpl) s.dpl refl
sfr_leads s Dph = answer_gives (MayReadSfr s Dph) s.dph refl
sfr_leads s Ie = made_of 2 (λ bit. s.ie + 64 * bit) (omega arith)
sfr_leads s Ip = made_of 4 (λ bits. s.ip + 64 * bits) (omega arith)
sfr_leads s Psw = made_of 2 (λ bit. s.psw + 2 * bit + parity s.a) (omega arith)
sfr_leads s Acc = answer_gives (MayReadSfr s Acc) s.a refl
sfr_leads s B = answer_gives (MayReadSfr s B) s.b refl
sfr_leads s Other = ask_gives 256 (omega arith)

read_leads : (s : ChipState) (address : Address) → Gives (MayRead s address) (read s address)
unfolding read
read_leads s (InRam at) = answer_gives (MayRead s (InRam at)) (slice_index s.ram at) refl
read_leads s (InSfr at) = sfr_leads s (sfr_at at)

code_leads : (byte : Option ℕ) → Gives (MayReadCode byte) (read_code byte)
unfolding read_code
code_leads (Some byte) = answer_gives (MayReadCode (Some byte)) byte refl
code_leads None = ask_gives 256 (omega arith)

push_by : (b : Bool) (s : ChipState) (direct : ℕ) → Gives (MayPush b s direct) (λ choices.
    cond b (and_then (ask 2) (λ option. answer ((s.sp + option) % 256)) choices) (read s (direct_address direct) choices))
push_by true s direct = record { each = (made_of 2 (λ option. (s.sp + option) % 256) (omega arith)).each }
push_by false s direct = record { each = (read_leads s (direct_address direct)).each }

value_leads : (s : ChipState) (direct : ℕ) → Gives (MayPush (direct == 0x81) s direct) (push_value s direct)
unfolding push_value
value_leads s direct = push_by (direct == 0x81) s direct

at_leads : (s : ChipState) (external : AnExternal) → Gives (MayBeAt s external) (external_address s external)
unfolding external_address
at_leads s DataPointer = answer_gives (MayBeAt s DataPointer) _ refl
at_leads s (Indirect i) = made_of 256 (λ high. pointed_by s i + 256 * high) (omega arith)

-- ---- formats

-- what comes of each number that is asked for
of_each : (May : ℕ → Type 0) (leads : ℕ → Effect) (asking : Asking ℕ) → Gives May asking
    → Gives (IsOfOne May leads) (and_then asking (λ x. answer (leads x)))
of_each May leads asking gives = then_gives May (IsOfOne May leads) asking _ gives (λ x may. answer_gives (IsOfOne May leads) (leads x) (x, may, refl))

of_byte : (s : ChipState) (address : Address) (leads : ℕ → Effect)
    → Gives (IsOfOne (MayRead s address) leads) (and_then (read s address) (λ x. answer (leads x)))
of_byte s address leads = of_each (MayRead s address) leads (read s address) (read_leads s address)

pub reading_leads : (s : ChipState) (before : List Access) (address : Address) (leads : ℕ → ChipState)
    → Gives (IsOfOne (MayRead s address) (λ x. (before ++ reads address, leads x))) (reading s before address leads)
unfolding reading
reading_leads s before address leads = of_byte s address (λ x. (before ++ reads address, leads x))

pub updating_leads : (s : ChipState) (before : List Access) (address : Address) (leads : ℕ → ChipState)
    → Gives (IsOfOne (MayRead s address) (λ x. (before ++ reads address ++ writes address, leads x))) (updating s before address leads)
unfolding updating
updating_leads s before address leads = of_byte s address (λ x. (before ++ reads address ++ writes address, leads x))

pub moving_leads : (s : ChipState) (before : List Access) (from to : Address)
    → Gives (IsOfOne (MayRead s from) (λ x. (before ++ reads from ++ writes to, write to x s))) (moving s before from to)
unfolding moving
moving_leads s before from to = of_byte s from (λ x. (before ++ reads from ++ writes to, write to x s))

pub clearing_leads : (s : ChipState) (address : Address) (place rel : ℕ)
    → Gives (IsOfOne (MayRead s address) (cleared s address place rel)) (jumping_on_bit s SetAndClear address place rel)
unfolding jumping_on_bit
clearing_leads s address place rel = of_byte s address (cleared s address place rel)

pub pushing_leads : (s : ChipState) (direct : ℕ)
    → Gives (IsOfOne (MayPush (direct == 0x81) s direct) (pushed_from s direct)) (pushing s direct)
unfolding pushing
pushing_leads s direct = of_each (MayPush (direct == 0x81) s direct) (pushed_from s direct) (push_value s direct) (value_leads s direct)

pub popping_leads : (s : ChipState) (direct : ℕ)
    → Gives (IsOfOne (IsOption (direct == 0x81) 2) (popped_into s direct)) (popping s direct)
unfolding popping
popping_leads s direct = of_each (IsOption (direct == 0x81) 2) (popped_into s direct) _ (option_gives (direct == 0x81) 2 (omega arith))

pub code_reads_lead : (image : List (Option ℕ)) (s : ChipState) (at : ℕ)
    → Gives (IsOfOne (MayReadCode (byte_at image at)) (λ x. (Code at ∷ [], with_accumulator x s))) (reading_code image s at)
unfolding reading_code
code_reads_lead image s at =
    of_each (MayReadCode (byte_at image at)) (λ x. (Code at ∷ [], with_accumulator x s)) (read_code (byte_at image at)) (code_leads (byte_at image at))

pub external_reads_lead : (s : ChipState) (external : AnExternal)
    → Gives (MayReadExternal s external) (reading_external s external)
unfolding reading_external
external_reads_lead s external =
    let P : Effect → Type 0 = MayReadExternal s external in
    then_gives (MayBeAt s external) P _ _ (at_leads s external) (λ at may.
    then_gives (λ (x : ℕ). x < 256) P _ _ (ask_gives 256 (omega arith)) (λ x below.
    answer_gives P (external_reads s external ++ External false at ∷ [], with_accumulator x s) (at, may, (x, below, refl))))

pub external_writes_lead : (s : ChipState) (external : AnExternal)
    → Gives (IsOfOne (MayBeAt s external) (λ at. (external_reads s external ++ External true at ∷ [], s))) (writing_external s external)
unfolding writing_external
external_writes_lead s external =
    of_each (MayBeAt s external) (λ at. (external_reads s external ++ External true at ∷ [], s)) (external_address s external) (at_leads s external)

pub set_leads : (s : ChipState) (address : Address) (place rel : ℕ)
    → Gives (IsOfOne (MayRead s address) (λ x. (reads address, branched (bit_at x place == 1) rel s))) (jumping_on_bit s Set address place rel)
unfolding jumping_on_bit
set_leads s address place rel = reading_leads s [] address (λ x. branched (bit_at x place == 1) rel s)

pub clear_leads : (s : ChipState) (address : Address) (place rel : ℕ)
    → Gives (IsOfOne (MayRead s address) (λ x. (reads address, branched (bit_at x place == 0) rel s))) (jumping_on_bit s Clear address place rel)
unfolding jumping_on_bit
clear_leads s address place rel = reading_leads s [] address (λ x. branched (bit_at x place == 0) rel s)

zero_leads : (s : ChipState)
    → Gives (MayDivide true s) (and_then (ask 256) (λ a. and_then (ask 256) (λ b. implied (divided_by_zero a b s))))
zero_leads s = then_gives (λ (a : ℕ). a < 256) (MayDivide true s) _ _ (ask_gives 256 (omega arith)) (λ a h.
    then_gives (λ (b : ℕ). b < 256) (MayDivide true s) _ _ (ask_gives 256 (omega arith)) (λ b g.
    answer_gives (MayDivide true s) ([], divided_by_zero a b s) (a, b, h, g, refl)))

divide_by : (b : Bool) (s : ChipState) → Gives (MayDivide b s) (λ choices.
    cond b (and_then (ask 256) (λ a. and_then (ask 256) (λ b. implied (divided_by_zero a b s))) choices) (Some (([], divided s), choices)))
divide_by true s = record { each = (zero_leads s).each }
divide_by false s = record { each = (answer_gives (MayDivide false s) ([], divided s) refl).each }

pub dividing_leads : (s : ChipState) → Gives (MayDivide (s.b == 0) s) (dividing s)
unfolding dividing
dividing_leads s = divide_by (s.b == 0) s

-- ---- steps

effect_leads : (image : List (Option ℕ)) (s : ChipState) (instr : Instr)
    → Gives (MayDo image s instr) (effect_of image (going_to (following s.pc instr) s) instr)
effect_leads image s instr = record { each = λ choices rest effect e. (choices, rest, e) }

executed_leads : (image : List (Option ℕ)) (s : ChipState) (instr : Instr) (len : ℕ)
    → Decodes image s.pc (Ok (instr, len)) → Gives (MayLead image s) (executed image s instr)
unfolding executed
executed_leads image s instr len stands = then_gives (MayDo image s instr) (MayLead image s) _ _ (effect_leads image s instr) (λ effect does.
    answer_gives (MayLead image s) (stepped s (Ran s.pc (bytes_of instr) ∷ []) effect) (Runs instr len effect stands does refl))

run_leads : (image : List (Option ℕ)) (s : ChipState) (found : Result (Instr × ℕ) NoInstr) → Decodes image s.pc found
    → Gives (MayLead image s) (run image s found)
run_leads image s (Ok (instr, len)) stands = executed_leads image s instr len stands
run_leads image s (Err none) lacks = answer_gives (MayLead image s) (Wild none) (NoneStands none lacks refl)

one_of : (sources : List ℕ) (option : ℕ) → option < 1 + length sources → (option == 0) ≡ false
    → Contains sources (slice_index sources (option - 1))
one_of sources option below some = Contains-get_or sources (option - 1) 0 (grind (arith, nat_tests, below, some))

taken_by : (image : List (Option ℕ)) (s : ChipState) (option : ℕ) (none : Bool) → Decodes image s.pc (decoded image s.pc)
    → (none ≡ false → Contains (coming s) (slice_index (coming s) (option - 1)))
    → Gives (MayLead image s) (cond none (run image s (decoded image s.pc)) (answer (entered s (slice_index (coming s) (option - 1)))))
taken_by image s option true is comes = run_leads image s (decoded image s.pc) is
taken_by image s option false is comes =
    answer_gives (MayLead image s) _ (Enters (slice_index (coming s) (option - 1)) (comes refl) refl)

pub step_leads : (image : List (Option ℕ)) (s : ChipState) → Decodes image s.pc (decoded image s.pc)
    → Gives (MayLead image s) (step_of image s)
unfolding step_of
step_leads image s is = then_gives (λ (option : ℕ). option < 1 + length (coming s)) (MayLead image s) _ _
    (ask_if_gives (nat_lt 0 (length (coming s))) (1 + length (coming s)) (omega arith)) (λ option few.
    taken_by image s option (option == 0) is (one_of (coming s) option few))
