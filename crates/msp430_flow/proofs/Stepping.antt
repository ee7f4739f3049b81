-- The steps of states that stand under what is known, and the opens of works.
use Rattle.std.proofs.Common.{◌≡◌, ◌⊎◌, ℕ, ◌+◌, ◌*◌, ◌%◌, ◌<◌, ◌==◌, ◌++◌, Bool, false, Option, None, Some, Result, Ok, Err, List, [], ◌∷◌, slice_index, refl, sym, ap, ◌∙◌, subst, inl, inr, Contains}
use Rattle.std.proofs.lemmas.Bool.{cond_both, cond-true}
use Rattle.std.proofs.lemmas.List.Elements.{Contains-append_cases, Contains-append_left, Contains-append_right}
use Rattle.call_context.specs.declared.node.Frame.{Frame}
use Rattle.call_context.specs.declared.node.Frame.TheVariants.{Base, Irq}
use Rattle.call_context.specs.declared.node.Node.TheVariants.{At}
use Rattle.chip_numbers.specs.Single.{Single}
use Rattle.chip_numbers.specs.Single.Single.{Instr as Ran, Edge as Went, Stack as Stood}
use Rattle.chip_analysis.specs.declared.cause.Cause.{Cause}
use Rattle.chip_analysis.specs.declared.cause.Cause.TheVariants.{Fetch, Store, Targets}
use Rattle.chip_analysis.specs.declared.chip.Work.{Work}
use Rattle.chip_law.specs.Laws.{IsTold, Tells}
use Rattle.chip_law.specs.Outcome.{Leaving}
use Rattle.chip_law.specs.Outcome.Leaving.{entry_pushed, program_written}
use Rattle.chip_flow.specs.Causes.{BreaksLimit}
use Rattle.chip_flow.specs.Opens.{BreaksLimits, entry_open, fetch_open, store_open as instr_open}
use Rattle.chip_flow.specs.Standing.{Fetching, by_answer, found_by, none_found, one_found}
use Rattle.chip_flow.specs.Standing.Fetching.{none_stands, stands}
use Rattle.chip_flow.specs.Works.{store_opens, work_at, work_by}
use Rattle.chip_flow.specs.declared.going.Onward.TheVariants as onward
use Rattle.choosing.specs.Outcome.Outcome.{Wild as Leaves}
use Rattle.value_set.specs.declared.form.Form.{Form}
use Rattle.msp430_decode.specs.declared.instr.Instr.{Instr}
use Rattle.msp430_decode.specs.declared.refusal.NoInstr.{NoInstr}
use Rattle.msp430_decode.specs.Decoding.{decoded}
use Rattle.msp430_decode.specs.Standing.{Decodes, Stands}
use Rattle.msp430_decode.specs.Table.{IsInstr, bytes_of}
use Rattle.msp430_chip.specs.declared.device.Device.{Device}
use Rattle.msp430_chip.specs.declared.state.ChipState.{ChipState}
use Rattle.msp430_chip.specs.declared.state.Wild.{Wild as WildCause}
use Rattle.msp430_chip.specs.declared.state.Wild.TheVariants as wild_cause
use Rattle.msp430_decode.specs.declared.instr.Width.{Width}
use Rattle.msp430_decode.specs.declared.instr.Width.TheVariants.{Word}
use Rattle.msp430_chip.specs.Interrupts.{entered as chip_entered, entry, first_hit}
use Rattle.msp430_chip.specs.Memory.{program_hit, with_stored, HasRam}
use Rattle.msp430_state.specs.Forms.{HasChipForm, IsKnown}
use Rattle.msp430_chip.specs.Leading.{MayLead, MayRun}
use Rattle.msp430_chip.specs.Leading.MayLead.{Enters, Runs, NoneStands}
use Rattle.msp430_chip.specs.Outcome.{Outcome, unless_hit}
use Rattle.msp430_chip.specs.State.{allows_interrupts, register_of}
use Rattle.msp430_chip.specs.Step.{Left, done, step_of}
use Rattle.msp430_state.specs.Holding.{StandsIn}
use Rattle.msp430_state.specs.Known.{Known, is_interrupt, known_joined}
use Rattle.msp430_alu.specs.Doing.{here_at}
use Rattle.msp430_alu.specs.Formats.{IsHit, IsUnder, Worked}
use Rattle.msp430_entry.specs.declared.coming.Coming.{Coming}
use Rattle.msp430_entry.specs.Entry.{ComesSo, comings_of, counter_slot, entry_shows, status_slot}
use Rattle.msp430_alu.specs.Memory.{IsDevice}
use Rattle.msp430_flow.specs.Standing.{fetched}
use Rattle.msp430_flow.specs.declared.setting.Setting.{Setting}
use Rattle.msp430_kept.specs.Keeping.{IsKept}
use Rattle.msp430_flow.specs.Chip.{CanHit, IsProgram, followed_by, in_front, kept_worked, msp430_analysis, msp430_causes, msp430_flow, onward_of, open_store, push_opens, store_of}
use Rattle.msp430_flow.specs.Machine.{leaving_of}
use Rattle.msp430_flow.specs.Running.{may_hit, stored_width}
use Rattle.msp430_flow.specs.LawsBelow.{Laws}
use Rattle.plain_lemmas.specs.Cases.{same_Some}
use Rattle.plain_lemmas.specs.Members.{in_first, in_none, in_one}
use Rattle.msp430_flow.proofs.Ways.{open_of}
use Rattle.msp430_flow.proofs.Runs.{IsRun, instr_run}
use Rattle.msp430_flow.proofs.Stores.{hit_told, may_hit_can}

-- WHAT STANDS AT AN ADDRESS

pub fetching_at : (image : List (Option ℕ)) (pc : ℕ) → pc % 2 ≡ 0 → Fetching (decoded image pc) (fetched image pc)
unfolding fetched
fetching_at image pc even = subst (Fetching (decoded image pc)) (sym (cond-true _ (found_by (decoded image pc)) None (ap (λ n. n == 0) even)))
    (by_answer (decoded image pc))

instr_of : Laws → (device : Device) → IsProgram device → (pc : ℕ) (instr_so : Instr) (found : Option Instr)
    → found ≡ Some instr_so → Fetching (decoded device.image pc) found → IsInstr instr_so
instr_of laws device program pc instr_so found e (stands other len is same) =
    subst IsInstr (same_Some (sym same ∙ e)) (laws.decoding.instruction device.image pc len other program.read.size program.read.bytes is).0
instr_of laws device program pc instr_so found e (none_stands refusal is same) = absurd (let both = sym same ∙ e in cc)

-- what is found is an instruction of the table
pub instr_found : Laws → (device : Device) → IsProgram device → (pc : ℕ) (instr_so : Instr)
    → fetched device.image pc ≡ Some instr_so → pc % 2 ≡ 0 → IsInstr instr_so
instr_found laws device program pc instr_so found even = instr_of laws device program pc instr_so (fetched device.image pc) found (fetching_at device.image pc even)

-- PROGRAMS

pub has_ram : (device : Device) → IsProgram device → HasRam device
has_ram device program = record { low = program.ram.0; high = program.ram.1; some = program.ram.3; top = program.top; mirror = program.ram.4 }

pub device_of : (device : Device) → IsProgram device → IsDevice device
device_of device program = record {
  size = program.read.size;
  bytes = program.read.bytes;
  apart = program.read.suits.ram;
  ram = has_ram device program;
}

pub in_base : (device : Device) (frame : Frame) (s : ChipState) (first : Option ChipState) → StandsIn frame first
    → is_interrupt frame ≡ false → first ≡ None
in_base device Base s first stands_so e = stands_so
in_base device (Irq vector sp level) s first stands_so e = absurd (cc)

-- STEPS

-- what a step comes to: the entry of an interrupt, an instruction, or none
pub data Comes (setting : Setting) (framed : Bool) (a : Known) (s : ChipState) (first : Option ChipState) (outcome : Outcome ChipState) : Type 0 where
  entered : (coming_so : Coming) (bits : ℕ) → ComesSo setting.device a s coming_so → bits < 128
      → outcome ≡ entry setting.device s coming_so.vector bits → Comes setting framed a s first outcome
  ran : (instr_so : Instr) → fetched setting.device.image (register_of s 0) ≡ Some instr_so → IsInstr instr_so
      → IsUnder setting.device framed (in_front setting a (register_of s 0) instr_so) s first
      → IsRun (here_at setting.device framed (in_front setting a (register_of s 0) instr_so) s first) instr_so outcome → Comes setting framed a s first outcome
  refused : (refusal : NoInstr) → fetched setting.device.image (register_of s 0) ≡ None
      → outcome ≡ Leaves (wild_cause.NoInstr refusal) → Comes setting framed a s first outcome

leads : Laws → (setting : Setting) → IsProgram setting.device
    → (framed : Bool) (a : Known) (s : ChipState) (first : Option ChipState) (outcome : Outcome ChipState)
    → IsUnder setting.device framed a s first → IsKept setting.device setting.promises s outcome → register_of s 0 % 2 ≡ 0 → MayLead setting.device s outcome
    → Comes setting framed a s first outcome
leads laws setting program framed a s first outcome under is_kept even (Enters vector bits there below is) =
    let (coming_so, same, so) = laws.entries.comes setting.device framed a s first vector under there in
    entered coming_so bits so below (is ∙ ap (λ v. entry setting.device s v bits) (sym same))
leads laws setting program framed a s first outcome under is_kept even (Runs instr_so len standing may) =
    let device = setting.device in
    let pc = register_of s 0 in
    let is : decoded device.image pc ≡ Ok (instr_so, len) = sym (laws.decoding.one device.image pc (Ok (instr_so, len)) program.read.size program.read.bytes standing) in
    let row = laws.decoding.instruction device.image pc len instr_so program.read.size program.read.bytes is in
    let b = in_front setting a pc instr_so in
    let ahead = laws.fronts.holds device setting.promises framed a s first instr_so len outcome under is may is_kept in
    ran instr_so (one_found (decoded device.image pc) instr_so len (fetched device.image pc) is (fetching_at device.image pc even)) row.0 ahead
    (instr_run laws (here_at device framed b s first) instr_so outcome ahead row.0 (subst (λ l. MayRun device s instr_so l outcome) row.1 may))
leads laws setting program framed a s first outcome under is_kept even (NoneStands refusal decodes is) =
    let device = setting.device in
    let pc = register_of s 0 in
    let none : decoded device.image pc ≡ Err refusal = sym (laws.decoding.one device.image pc (Err refusal) program.read.size program.read.bytes decodes) in
    refused refusal (none_found (decoded device.image pc) refusal (fetched device.image pc) none (fetching_at device.image pc even)) is

pub comes : Laws → (setting : Setting) → IsProgram setting.device
    → (framed : Bool) (a : Known) (s : ChipState) (first : Option ChipState) (outcome : Outcome ChipState)
    → IsUnder setting.device framed a s first → IsKept setting.device setting.promises s outcome → (choices left : List ℕ)
    → step_of setting.device s choices ≡ Some (outcome, left) → Comes setting framed a s first outcome
comes laws setting program framed a s first outcome under is_kept choices left step =
    leads laws setting program framed a s first outcome under is_kept under.holds.state.even_pc
    ((laws.steps.lead setting.device s program.read.size program.read.bytes).each choices left outcome step)

-- OUT OF THE MODEL

-- what a step shows, and the state behind it
abbrev pub items_of : ChipState → Instr → List Single → Left → List Single
items_of s instr_so accesses left = Stood (register_of s 0) (register_of s 1) ∷ Ran (register_of s 0) (bytes_of instr_so) ∷ accesses ++ Went (register_of s 0) (slice_index left.registers 0) ∷ []

abbrev pub state_behind : ChipState → Left → ChipState
state_behind s left = record { registers = left.registers; ram = left.ram; late = allows_interrupts s }

-- the state behind the entry of an interrupt
abbrev pub entered_state : Device → ChipState → (vector bits : ℕ) → ChipState
entered_state device s vector bits = record {
  registers = chip_entered device s vector;
  ram = with_stored device (with_stored device s.ram Word ((register_of s 1 + 65534) % 65536) (register_of s 0)) Word ((register_of s 1 + 65532) % 65536) (register_of s 2 + 512 * bits);
  late = false;
}

pub done_by_hit : (s : ChipState) (instr_so : Instr) (accesses : List Single) (left : Left) (hit : Option ℕ) → left.hit ≡ hit
    → done s instr_so accesses left ≡ unless_hit wild_cause.Store hit (items_of s instr_so accesses left) (state_behind s left)
done_by_hit s instr_so accesses left hit e = ap (λ h. unless_hit wild_cause.Store h (items_of s instr_so accesses left) (state_behind s left)) e

-- the entry of an interrupt, by the byte of the program that it would write
pub entry_by : (device : Device) (s : ChipState) (vector bits : ℕ) (hit : Option ℕ)
    → first_hit (program_hit device Word ((register_of s 1 + 65534) % 65536)) (program_hit device Word ((register_of s 1 + 65532) % 65536)) ≡ hit
    → entry device s vector bits ≡ unless_hit wild_cause.Push hit (Stood (register_of s 0) (register_of s 1) ∷ entry_shows device s vector) (entered_state device s vector bits)
entry_by device s vector bits hit e = ap (λ h. unless_hit wild_cause.Push h (Stood (register_of s 0) (register_of s 1) ∷ entry_shows device s vector) (entered_state device s vector bits)) e

same_wild : {one other : WildCause} → ◌≡◌ {A = Outcome ChipState} (Leaves one) (Leaves other) → one ≡ other
same_wild e = cc

-- where an address of a store is in its set, the store is left open
opened_at : (device : Device) (width : Width) (set : Form) (at : ℕ) → IsHit device width (Some set) at
    → open_store device width set ≡ Some (Store set)
opened_at device width set at hit = cond-true (may_hit device width set) (Some (Store set)) None (hit_told device width set at hit)

told_by : (work : Work Known) (pc : ℕ) (set : Form) (why : Leaving) → Tells (Store set) why → Contains work.opens (pc, Store set) → IsTold work why
told_by work pc set why tells there = ((pc, Store set), there, tells)

-- the store of an instruction that leaves the model
store_told : (setting : Setting) (pc : ℕ) (calls : List ℕ) (frame : Frame) (a b : Known) (instr_so : Instr) (made_so : Worked) (at : ℕ) (store : Option Form)
    → made_so.store ≡ store → IsHit setting.device (stored_width instr_so) store at
    → IsTold (work_by known_joined (msp430_flow setting) pc calls frame a instr_so (followed_by setting frame b pc instr_so made_so)) (program_written at)
store_told setting pc calls frame a b instr_so made_so at None is hit = absurd hit
store_told setting pc calls frame a b instr_so made_so at (Some set) is hit =
    let width = stored_width instr_so in
    let made = followed_by setting frame b pc instr_so made_so in
    let opened : made.store ≡ Some (Store set) = ap (store_of setting.device width) is ∙ opened_at setting.device width set at hit in
    told_by (work_by known_joined (msp430_flow setting) pc calls frame a instr_so made) pc set (program_written at) tt (instr_open known_joined (msp430_flow setting) pc calls frame a instr_so made (Store set) opened)

hit_told_by : (setting : Setting) (calls : List ℕ) (frame : Frame) (a : Known) (s : ChipState) (first : Option ChipState) (instr_so : Instr) (wild : WildCause)
    → (run : IsRun (here_at setting.device (is_interrupt frame) (in_front setting a (register_of s 0) instr_so) s first) instr_so (Leaves wild)) → (hit : Option ℕ) → run.left.hit ≡ hit
    → IsTold (work_at known_joined (msp430_flow setting) (register_of s 0) calls frame a (Some instr_so)) (leaving_of wild)
hit_told_by setting calls frame a s first instr_so wild run None e =
    let outcome = run.outcome_is ∙ done_by_hit s instr_so run.accesses run.left None e in absurd (cc)
hit_told_by setting calls frame a s first instr_so wild run (Some at) e =
    let outcome = run.outcome_is ∙ done_by_hit s instr_so run.accesses run.left (Some at) e in
    let made_so = kept_worked setting (is_interrupt frame) a (register_of s 0) instr_so in
    let b = in_front setting a (register_of s 0) instr_so in
    subst (λ w. IsTold (work_at known_joined (msp430_flow setting) (register_of s 0) calls frame a (Some instr_so)) (leaving_of w)) (sym (same_wild outcome))
    (store_told setting (register_of s 0) calls frame a b instr_so made_so at made_so.store refl (run.hit at e))

opened_in : (device : Device) (pc at : ℕ) (set : Form) → IsHit device Word (Some set) at
    → Contains (store_opens pc (open_store device Word set)) (pc, Store set)
opened_in device pc at set hit = subst (λ store. Contains (store_opens pc store) (pc, Store set)) (sym (opened_at device Word set at hit)) (in_first (pc, Store set) [])

push_in : (device : Device) (pc at : ℕ) (coming_so : Coming)
    → IsHit device Word (Some (counter_slot device coming_so.sp)) at ⊎ IsHit device Word (Some (status_slot device coming_so.sp)) at
    → (set : Form) × Contains (push_opens device pc coming_so) (pc, Store set)
push_in device pc at coming_so hits =
    let counter = counter_slot device coming_so.sp in
    let status = status_slot device coming_so.sp in
    let first = store_opens pc (open_store device Word counter) in
    let second = store_opens pc (open_store device Word status) in
    elim hits [
      | inl hit ↦ (counter, Contains-append_left first second (pc, Store counter) (opened_in device pc at counter hit))
      | inr hit ↦ (status, Contains-append_right first second (pc, Store status) (opened_in device pc at status hit))
    ]

-- an entry that leaves the model does so by a push
entry_hit : (device : Device) (s : ChipState) (vector bits : ℕ) (wild : WildCause) (hit : Option ℕ)
    → first_hit (program_hit device Word ((register_of s 1 + 65534) % 65536)) (program_hit device Word ((register_of s 1 + 65532) % 65536)) ≡ hit
    → ◌≡◌ {A = Outcome ChipState} (Leaves wild) (entry device s vector bits) → (at : ℕ) × (hit ≡ Some at) × (wild ≡ wild_cause.Push at)
entry_hit device s vector bits wild None is leaves = absurd (let both = leaves ∙ entry_by device s vector bits None is in cc)
entry_hit device s vector bits wild (Some at) is leaves = (at, refl, same_wild (leaves ∙ entry_by device s vector bits (Some at) is))

entry_told : Laws
    → (setting : Setting) (calls : List ℕ) (frame : Frame) (a : Known) (s : ChipState) (first : Option ChipState) (wild : WildCause) (found : Option Instr)
    → IsUnder setting.device (is_interrupt frame) a s first → (coming_so : Coming) (bits : ℕ) → ComesSo setting.device a s coming_so
    → ◌≡◌ {A = Outcome ChipState} (Leaves wild) (entry setting.device s coming_so.vector bits)
    → IsTold (work_at known_joined (msp430_flow setting) (register_of s 0) calls frame a found) (leaving_of wild)
entry_told laws setting calls frame a s first wild found under coming_so bits so leaves =
    let device = setting.device in
    let pc = register_of s 0 in
    let hit = first_hit (program_hit device Word ((register_of s 1 + 65534) % 65536)) (program_hit device Word ((register_of s 1 + 65532) % 65536)) in
    let (at, is, why) = entry_hit device s coming_so.vector bits wild hit refl leaves in
    let (set, there) = push_in device pc at coming_so (laws.entries.hit device (is_interrupt frame) a s first coming_so at under so is) in
    let work = work_at known_joined (msp430_flow setting) pc calls frame a found in
    subst (λ w. IsTold work (leaving_of w)) (sym why)
    (told_by work pc set (entry_pushed at) tt (entry_open known_joined (msp430_flow setting) pc calls frame a found coming_so (pc, Store set) so.listed there))

pub told : Laws
    → (setting : Setting) (calls : List ℕ) (frame : Frame) (a : Known) (s : ChipState) (first : Option ChipState) (wild : WildCause)
    → IsUnder setting.device (is_interrupt frame) a s first → Comes setting (is_interrupt frame) a s first (Leaves wild)
    → IsTold (work_at known_joined (msp430_flow setting) (register_of s 0) calls frame a (fetched setting.device.image (register_of s 0))) (leaving_of wild)
told laws setting calls frame a s first wild under (entered coming_so bits so below is) =
    entry_told laws setting calls frame a s first wild (fetched setting.device.image (register_of s 0)) under coming_so bits so is
told laws setting calls frame a s first wild under (ran instr_so found fits ahead run) =
    subst (λ r. IsTold (work_at known_joined (msp430_flow setting) (register_of s 0) calls frame a r) (leaving_of wild)) (sym found)
    (hit_told_by setting calls frame a s first instr_so wild run run.left.hit refl)
told laws setting calls frame a s first wild under (refused refusal found is) =
    let pc = register_of s 0 in
    subst (λ r. IsTold (work_at known_joined (msp430_flow setting) pc calls frame a r) (leaving_of wild)) (sym found)
    ((pc, Fetch), fetch_open known_joined (msp430_flow setting) pc calls frame a, subst (λ w. Tells Fetch (leaving_of w)) (sym (same_wild is)) tt)

-- OPENS BREAK THEIR LIMITS

standing_of : Laws → (device : Device) → IsProgram device → (pc : ℕ) (instr_so : Instr) (found : Option Instr)
    → found ≡ Some instr_so → Fetching (decoded device.image pc) found
    → (len : ℕ) × Stands device.image pc instr_so len
standing_of laws device program pc instr_so found e (stands other len is same) = (
  len,
  subst (Decodes device.image pc) (is ∙ ap (λ (i : Instr). let answer : Result (Instr × ℕ) NoInstr = Ok (i, len) in answer) (same_Some (sym same ∙ e)))
      (laws.decoding.answer device.image pc program.read.size program.read.bytes),
)
standing_of laws device program pc instr_so found e (none_stands refusal is same) = absurd (let both = sym same ∙ e in cc)

-- a store that is left open can hit the program
opens_can : (device : Device) (width : Width) (set : Form) (cause : Cause) → open_store device width set ≡ Some cause
    → (cause ≡ Store set) × CanHit device width set
opens_can device width set cause is =
    cond_both (may_hit device width set) (Some (Store set)) None (λ (store : Option Cause). store ≡ Some cause → (cause ≡ Store set) × CanHit device width set)
    (λ may same. (sym (same_Some same), may_hit_can device width set may)) (λ _ same. absurd (cc)) is

-- an open of a store of an entry
slot_open : (device : Device) (pc : ℕ) (set : Form) (open_so : ℕ × Cause)
    → Contains (store_opens pc (open_store device Word set)) open_so
    → (open_so ≡ (pc, Store set)) × CanHit device Word set
slot_open device pc set open_so h =
    let own : ℕ × Cause = (pc, Store set) in
    cond_both (may_hit device Word set) (Some (Store set)) None (λ (store : Option Cause). Contains (store_opens pc store) open_so → (open_so ≡ own) × CanHit device Word set)
    (λ may there. (sym (in_one own open_so there), may_hit_can device Word set may)) (λ _ none. absurd (in_none open_so none)) h

module _ (laws : Laws) (setting : Setting) (program : IsProgram setting.device) (pc : ℕ) (calls : List ℕ) (frame : Frame) (a : Known) where
  -- an open is at an address, and breaks its limit there
  abbrev Breaking : ℕ × Cause → Type 0
  Breaking open_so = (pc ≡ open_so.0) × BreaksLimit (msp430_causes setting) (At pc calls frame) a open_so.1

  push_breaks : IsKnown setting.device.ram.lo setting.device.ram.hi (is_interrupt frame) a
      → (coming_so : Coming) (open_so : ℕ × Cause) → Contains (comings_of setting.device a) coming_so
      → Contains (push_opens setting.device pc coming_so) open_so → Breaking open_so
  push_breaks form coming_so open_so listed there =
      let device = setting.device in
      let has = (laws.entries.frame device (is_interrupt frame) a coming_so form listed).1 in
      let counter = counter_slot device coming_so.sp in
      let status = status_slot device coming_so.sp in
      let breaks : (set : Form) → (set ≡ counter) ⊎ (set ≡ status) → Contains (store_opens pc (open_store device Word set)) open_so → Breaking open_so =
      λ set pushed h. let (same, can) = slot_open device pc set open_so h in
      subst Breaking (sym same) (refl, inr (record { coming = coming_so; comes = listed; has_handler = has; pushed = pushed; can = can })) in
      elim (Contains-append_cases (store_opens pc (open_store device Word counter)) (store_opens pc (open_store device Word status)) open_so there) [
        | inl one ↦ breaks counter (inl refl) one
        | inr other ↦ breaks status (inr refl) other
      ]

  store_breaks : (instr_so : Instr) → fetched setting.device.image pc ≡ Some instr_so → pc % 2 ≡ 0 → (cause : Cause) (store : Option Form)
      → (kept_worked setting (is_interrupt frame) a pc instr_so).store ≡ store
      → store_of setting.device (stored_width instr_so) store ≡ Some cause
      → BreaksLimit (msp430_causes setting) (At pc calls frame) a cause
  store_breaks instr_so found even cause None stores is = absurd (cc)
  store_breaks instr_so found even cause (Some set) stores is =
      let (len, standing) = standing_of laws setting.device program pc instr_so (fetched setting.device.image pc) found (fetching_at setting.device.image pc even) in
      let (same, can) = opens_can setting.device (stored_width instr_so) set cause is in
      subst (BreaksLimit (msp430_causes setting) (At pc calls frame) a) (sym same) (inl (record { instr = instr_so; len = len; standing = standing; stores = stores; can = can }))

  targets_break : (instr_so : Instr) → fetched setting.device.image pc ≡ Some instr_so → pc % 2 ≡ 0 → (values : Form)
      → onward_of setting frame (in_front setting a pc instr_so) pc instr_so (kept_worked setting (is_interrupt frame) a pc instr_so) ≡ onward.Open values
      → BreaksLimit (msp430_causes setting) (At pc calls frame) a (Targets values)
  targets_break instr_so found even values is =
      let (len, standing) = standing_of laws setting.device program pc instr_so (fetched setting.device.image pc) found (fetching_at setting.device.image pc even) in
      let (next, many) = open_of setting frame (in_front setting a pc instr_so) pc instr_so (kept_worked setting (is_interrupt frame) a pc instr_so) values is in
      record { instr = instr_so; len = len; standing = standing; next = next; many = many }

  pub location_breaks : HasChipForm setting.device.ram.lo setting.device.ram.hi (At pc calls frame) a
      → BreaksLimits (msp430_analysis setting) known_joined (msp430_flow setting) pc calls frame a
  unfolding msp430_analysis
  location_breaks form =
      let image = setting.device.image in
      let even = form.0.0.1 in
      record {
        entry = push_breaks form.1;
        fetch = λ none instr_so len standing.
            let is : decoded image pc ≡ Ok (instr_so, len) = sym (laws.decoding.one image pc (Ok (instr_so, len)) program.read.size program.read.bytes standing) in
            let found = one_found (decoded image pc) instr_so len (fetched image pc) is (fetching_at image pc even) in
            absurd (let both = sym none ∙ found in cc);
        targets = λ instr_so values found is. targets_break instr_so found even values is;
        store = λ instr_so cause found is. store_breaks instr_so found even cause (kept_worked setting (is_interrupt frame) a pc instr_so).store refl is;
      }
