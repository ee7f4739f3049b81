-- Where steps land, and the forms of what is posted.
use Rattle.std.proofs.Common.{◌≡◌, ℕ, ◌+◌, ◌-◌, ◌*◌, ◌/◌, ◌%◌, ◌<◌, ◌==◌, nat_lt, Bool, true, false, Option, None, Some, List, [], ◌∷◌, length, refl, sym, ap, ◌∙◌, subst, arith, IfSome}
use Rattle.std.proofs.lemmas.Bool.{cond_both}
use Rattle.call_context.specs.declared.node.Frame.{Frame}
use Rattle.call_context.specs.declared.node.Node.TheVariants.{At}
use Rattle.chip_numbers.specs.Single.{Single}
use Rattle.chip_numbers.specs.Single.Single.{Stack as Stood}
use Rattle.chip_analysis.specs.declared.chip.Work.{Work}
use Rattle.chip_law.specs.Laws.{IsEntry, Lands}
use Rattle.chip_flow.specs.Along.{IsOnward, ways_formed}
use Rattle.flow_laws.specs.Landing.{Arrives, entry_lands as generic_entry_lands, others_alone, run_lands as generic_run_lands}
use Rattle.flow_laws.specs.Landing.Arrives.{at_exit, beyond, on_way}
use Rattle.chip_flow.specs.Works.{site_of, work_at}
use Rattle.chip_flow.specs.declared.going.Onward.{Onward as GoesOnward}
use Rattle.std.specs.List.{slice_index_or}
use Rattle.choosing.specs.Outcome.Outcome.{Next as Onward}
use Rattle.value_bits.specs.declared.tri.Tri.{Tri}
use Rattle.value_bits.specs.declared.tri.Tri.TheVariants.{Zero, One, Either}
use Rattle.value_bits.specs.Bits.{Agrees}
use Rattle.value_bits.specs.Flags.{IsFlag}
use Rattle.value_set.specs.Form.{Has}
use Rattle.msp430_decode.specs.declared.instr.Condition.{Condition}
use Rattle.msp430_decode.specs.declared.instr.Instr.{Instr}
use Rattle.msp430_decode.specs.declared.instr.Instr.TheVariants as instr
use Rattle.msp430_decode.specs.declared.instr.Destination.{Destination}
use Rattle.msp430_decode.specs.declared.instr.Destination.TheVariants as destination
use Rattle.msp430_decode.specs.declared.instr.Operation.{Operation}
use Rattle.msp430_decode.specs.declared.instr.Register.TheVariants.{Sr}
use Rattle.msp430_decode.specs.declared.instr.SingleOperation.{SingleOperation}
use Rattle.msp430_decode.specs.declared.instr.Source.{Source}
use Rattle.msp430_decode.specs.declared.instr.Source.TheVariants as source
use Rattle.msp430_decode.specs.declared.instr.Width.{Width}
use Rattle.msp430_decode.specs.declared.instr.SingleOperation.TheVariants.{Rrc, Swpb, Rra, Sxt, Push, Call}
use Rattle.msp430_decode.specs.Table.{IsInstr, extension_words, length_of, target_of}
use Rattle.msp430_chip.specs.declared.device.Device.{Device}
use Rattle.msp430_chip.specs.declared.state.ChipState.{ChipState}
use Rattle.msp430_chip.specs.Interrupts.{entry, first_hit}
use Rattle.msp430_chip.specs.Memory.{program_hit}
use Rattle.msp430_chip.specs.Outcome.{Outcome}
use Rattle.msp430_chip.specs.State.{allows_interrupts, register_of, IsChipState}
use Rattle.msp430_chip.specs.Step.{Left}
use Rattle.msp430_decode.specs.declared.instr.Width.TheVariants.{Word}
use Rattle.msp430_state.specs.declared.fact.FlagFact.{FlagFact}
use Rattle.msp430_state.specs.Forms.{IsEvenWord, IsFact, IsKnown}
use Rattle.msp430_state.specs.Holding.{Covers, HoldsOf, HoldsOfParts, StandsIn}
use Rattle.msp430_state.specs.Known.{Known, is_interrupt, known_joined}
use Rattle.msp430_state.specs.Status.{common_bit}
use Rattle.msp430_branch.specs.Cuts.{known_cut}
use Rattle.msp430_alu.specs.Doing.{IsWellMade, here_at}
use Rattle.msp430_alu.specs.Formats.{IsUnder, Worked}
use Rattle.msp430_alu.specs.Memory.{IsDevice}
use Rattle.msp430_entry.specs.declared.coming.Coming.{Coming}
use Rattle.msp430_entry.specs.Entry.{ComesSo, entry_shows}
use Rattle.msp430_flow.specs.declared.setting.Setting.{Setting}
use Rattle.msp430_flow.specs.Chip.{IsSetting, in_front, msp430_analysis, msp430_flow, onward_of}
use Rattle.msp430_flow.specs.Machine.{msp430_machine}
use Rattle.msp430_flow.specs.Running.{fact_of, followed, gie_of, known_behind, single_or_status, ways_onward, worked}
use Rattle.msp430_flow.specs.LawsBelow.{Laws}
use Rattle.msp430_flow.proofs.Ways.{onward_cases}
use Rattle.msp430_flow.proofs.Runs.{IsRun, late_form, width_of}
use Rattle.msp430_flow.proofs.Stepping.{device_of, done_by_hit, entered_state, entry_by, items_of, state_behind}

-- FORMS

-- the next addresses of an instruction are even words
next_even : Laws → {device : Device} {framed : Bool} {behind : ℕ} {made_so : Worked}
    → IsWellMade device framed behind made_so → behind % 2 ≡ 0 → (to : ℕ) → Has 65536 made_so.next to → IsEvenWord to
next_even laws {made_so = made_so} well even to has =
    (laws.known.sets.below 65536 to made_so.next well.next has, well.even even to has)

behind_even : (pc words : ℕ) → IsEvenWord pc → IsEvenWord ((pc + (2 + 2 * words)) % 65536)
behind_even pc words h = let even = h.1 in (omega arith, omega arith)

target_even : (pc offset : ℕ) → IsEvenWord pc → IsEvenWord (target_of pc offset)
target_even pc offset h = let even = h.1 in
    cond_both (nat_lt offset 512) ((pc + 2 + 2 * offset) % 65536) ((pc + 2 + 2 * offset + 65536 - 2048) % 65536) IsEvenWord
    (λ e. (omega arith, omega arith)) (λ e. (omega arith, omega arith))

module _ (laws : Laws) (device : Device) (framed : Bool) (a : Known) (pc : ℕ) (is : IsDevice device) (form : IsKnown device.ram.lo device.ram.hi framed a) where
  abbrev IsMade : Instr → Type 0
  IsMade instr_so = IsWellMade device framed ((pc + length_of instr_so) % 65536) (worked device framed a pc instr_so)

  double_made : (operation : Operation) (width : Width) (origin : Source) (target : Destination)
      → IsInstr (instr.Double operation width origin target) → IsMade (instr.Double operation width origin target)
  double_made operation width origin (destination.Register Sr) fits =
      laws.statuses.made device framed a pc (length_of (instr.Double operation width origin (destination.Register Sr)))
      operation width origin is form fits.0
  double_made operation width origin target fits =
      laws.doubles.made device framed a pc (length_of (instr.Double operation width origin target)) operation width origin
      target is form fits.0 fits.1

  -- an operation that pushes nothing
  plain_made : (operation : SingleOperation) (width : Width) (operand : Source)
      → IsInstr (instr.Single operation width operand)
      → let len = length_of (instr.Single operation width operand) in
      IsWellMade device framed ((pc + len) % 65536) (single_or_status device framed a pc len operation width operand)
  plain_made operation width (source.Register Sr) fits =
      laws.single_statuses.made device framed a pc (length_of (instr.Single operation width (source.Register Sr))) operation
      width form
  plain_made operation width operand fits =
      laws.singles.made device framed a pc (length_of (instr.Single operation width operand)) operation width operand is
      form fits.0 (width_of operation width operand fits)

  -- what every instruction makes
  pub worked_made : (instr_so : Instr) → IsInstr instr_so → IsMade instr_so
  worked_made (instr.Double operation width origin target) fits = double_made operation width origin target fits
  worked_made (instr.Single Push width operand) fits =
      laws.pushes.made device framed a pc (length_of (instr.Single Push width operand)) Push width operand is form fits.0
  worked_made (instr.Single Call width operand) fits =
      laws.pushes.made device framed a pc (length_of (instr.Single Call width operand)) Call width operand is form fits.0
  worked_made (instr.Single Rrc width operand) fits = plain_made Rrc width operand fits
  worked_made (instr.Single Swpb width operand) fits = plain_made Swpb width operand fits
  worked_made (instr.Single Rra width operand) fits = plain_made Rra width operand fits
  worked_made (instr.Single Sxt width operand) fits = plain_made Sxt width operand fits
  worked_made (instr.Jump condition offset) fits = record {
    form = form;
    next = (laws.known.sets.single 65536 ((pc + 2) % 65536) (omega arith)).0;
    even = laws.known.sets.single_rest 65536 2 0 ((pc + 2) % 65536);
  }
  worked_made instr.ReturnFromInterrupt fits = laws.returns.made device framed a pc ((pc + 2) % 65536) is form

-- WAYS

-- what is known ahead is in form, and an interrupt may come there as GIE was before
abbrev pub IsAhead : Device → Bool → Tri → Known → Type 0
IsAhead device framed late a = IsKnown device.ram.lo device.ram.hi framed a × (a.late ≡ late)

common_itself : (bit : Tri) → common_bit bit bit ≡ bit
common_itself Zero = refl
common_itself One = refl
common_itself Either = refl

joined_late : (late : Tri) (a b : Known) → a.late ≡ late → b.late ≡ late → (known_joined a b).late ≡ late
unfolding known_joined
joined_late late a b f g = ap (λ bit. common_bit bit b.late) f ∙ ap (λ bit. common_bit late bit) g ∙ common_itself late

pub joined_ahead : Laws → (device : Device) (framed : Bool) (late : Tri) (a b : Known) → IsAhead device framed late a
    → IsAhead device framed late b → IsAhead device framed late (known_joined a b)
joined_ahead laws device framed late a b f g = (laws.states.join_form device.ram.lo device.ram.hi framed a b f.0 g.0, joined_late late a b f.1 g.1)

cut_ahead : Laws
    → (device : Device) (framed : Bool) (condition : Condition) (taken : Bool) (a : Known) (found : Option Known)
    → IsKnown device.ram.lo device.ram.hi framed a
    → known_cut condition taken a ≡ found → IfSome found (IsAhead device framed a.late)
cut_ahead laws device framed condition taken a None known e = tt
cut_ahead laws device framed condition taken a (Some b) known e =
    (laws.cuts.form device.ram.lo device.ram.hi framed a b condition taken known e, (laws.cuts.interrupts a b condition taken e).1)

fact_form : Laws → (instr_so : Instr) (a : Known) → IsFact a.fact → IsFact (fact_of instr_so a)
fact_form laws (instr.Double operation width origin target) a h = laws.facts.form operation width origin target a h
fact_form laws (instr.Single operation width operand) a h = h
fact_form laws (instr.Jump condition offset) a h = h
fact_form laws instr.ReturnFromInterrupt a h = h

module _ (laws : Laws) (device : Device) (framed : Bool) (a : Known) (pc : ℕ) (is : IsDevice device) (form : IsKnown device.ram.lo device.ram.hi framed a) (even : IsEvenWord pc)
    (instr_so : Instr) (fits : IsInstr instr_so) where
  abbrev made_so : Worked
  made_so = worked device framed a pc instr_so

  well_made : IsWellMade device framed ((pc + length_of instr_so) % 65536) made_so
  well_made = worked_made laws device framed a pc is form instr_so fits

  next_so : (to : ℕ) → Has 65536 made_so.next to → IsEvenWord to
  next_so = next_even laws well_made (behind_even pc (length (extension_words instr_so)) even).1

  -- what is known behind an instruction, with a fact of the flags or none
  ahead_form : (fact : Option FlagFact) → IsFact fact → IsAhead device framed (gie_of a) (followed (gie_of a) fact made_so.after)
  ahead_form fact told =
      (late_form device.ram.lo device.ram.hi framed (gie_of a) fact made_so.after told well_made.form, refl)

  behind_form : IsAhead device framed (gie_of a) (known_behind device framed a pc instr_so)
  behind_form = ahead_form (fact_of instr_so made_so.after)
      (fact_form laws instr_so made_so.after well_made.form.fact)

  -- along its ways, before a jump tells more and behind it
  ways_ahead : (its : Instr) → IsAhead device framed (gie_of a) (known_behind device framed a pc instr_so)
      → IsOnward IsEvenWord (IsAhead device framed (gie_of a)) (ways_onward pc its made_so.next (known_behind device framed a pc instr_so))
  ways_ahead (instr.Double operation width origin target) ahead = (next_so, ahead)
  ways_ahead (instr.Single operation width operand) ahead = (next_so, ahead)
  ways_ahead (instr.Jump condition offset) ahead =
      let b = known_behind device framed a pc instr_so in (
        behind_even pc 0 even,
        target_even pc offset even,
        cut_ahead laws device framed condition false b (known_cut condition false b) ahead.0 refl,
        cut_ahead laws device framed condition true b (known_cut condition true b) ahead.0 refl,
      )
  ways_ahead instr.ReturnFromInterrupt ahead = (next_so, ahead)

  pub onward_formed : IsOnward IsEvenWord (IsAhead device framed (gie_of a)) (ways_onward pc instr_so made_so.next (known_behind device framed a pc instr_so))
  onward_formed = ways_ahead instr_so behind_form

  -- and what RETI leaves at the exit of its frame
  pub exit_formed : IsAhead device framed (gie_of a) (followed (gie_of a) None made_so.after)
  exit_formed = ahead_form None tt

-- COVER

gie_bit : (bits : List Tri) (v : ℕ) → Agrees bits v → IsFlag (slice_index_or bits 3 Either) (v / 8 % 2 == 1)
gie_bit [] v agrees = tt
gie_bit (a ∷ []) v agrees = tt
gie_bit (a ∷ b ∷ []) v agrees = tt
gie_bit (a ∷ b ∷ c ∷ []) v agrees = tt
gie_bit (a ∷ b ∷ c ∷ Zero ∷ bits) v agrees = let is : v / 2 / 2 / 2 % 2 ≡ 0 = agrees.1.1.1.0 in let bit : v / 8 % 2 ≡ 0 = omega arith in ap (λ n. n == 1) bit
gie_bit (a ∷ b ∷ c ∷ One ∷ bits) v agrees = let is : v / 2 / 2 / 2 % 2 ≡ 1 = agrees.1.1.1.0 in let bit : v / 8 % 2 ≡ 1 = omega arith in ap (λ n. n == 1) bit
gie_bit (a ∷ b ∷ c ∷ Either ∷ bits) v agrees = tt

-- what is known of GIE holds of it
gie_holds : (device : Device) (a : Known) (s : ChipState) (first : Option ChipState) → HoldsOf device a s first
    → IsFlag (gie_of a) (allows_interrupts s)
gie_holds device a s first holds = gie_bit a.status.bits (register_of s 2) holds.parts.status.bits

-- the state behind an instruction stands under what is known there
behind_holds : (device : Device) (a b : Known) (s : ChipState) (first : Option ChipState) (left : Left)
    → HoldsOf device a s first → b.late ≡ gie_of a
    → HoldsOfParts device b first left.registers left.ram → IsChipState device (state_behind s left)
    → HoldsOf device b (state_behind s left) first
behind_holds device a b s first left holds is parts form = record {
  state = form;
  suspended = holds.suspended;
  late = subst (λ bit. IsFlag bit (allows_interrupts s)) (sym is) (gie_holds device a s first holds);
  parts = parts;
}

-- WHERE AN INSTRUCTION LANDS

parts_of : (items_so others : List Single) (t u : ChipState)
    → ◌≡◌ {A = Outcome ChipState} (Onward items_so t) (Onward others u) → (items_so ≡ others) × (t ≡ u)
parts_of items_so others t u e = (cc, cc)

-- what a step of an instruction comes to at a location, by what is known there and in front of the instruction
pub record AtLocation (setting : Setting) (frame : Frame) (a : Known) (s : ChipState) (first : Option ChipState) (instr_so : Instr) : Type 0 where
  pub setting_so : IsSetting setting
  pub known : IsUnder setting.device (is_interrupt frame) a s first
  pub stands : IsUnder setting.device (is_interrupt frame) (in_front setting a (register_of s 0) instr_so) s first
  pub in_frame : StandsIn frame first
  pub fits : IsInstr instr_so
  pub even : IsEvenWord (register_of s 0)

module _ (laws : Laws) (setting : Setting) (calls : List ℕ) (frame : Frame) (a : Known) (s : ChipState) (first : Option ChipState) (instr_so : Instr)
    (at : AtLocation setting frame a s first instr_so) where
  abbrev work_so : Work Known
  work_so = work_at known_joined (msp430_flow setting) (register_of s 0) calls frame a (Some instr_so)

  abbrev LandsAt : List Single → ChipState → Type 0
  LandsAt = Lands (msp430_machine setting.device) (msp430_analysis setting) (Covers setting.device) (At (register_of s 0) calls frame) work_so s first

  abbrev front_so : Known
  front_so = in_front setting a (register_of s 0) instr_so

  arrives : (outcome : Outcome ChipState) (run : IsRun (here_at setting.device (is_interrupt frame) front_so s first) instr_so outcome)
      → IsChipState setting.device (state_behind s run.left)
      → Arrives (msp430_machine setting.device) (msp430_analysis setting) (Covers setting.device) known_joined (msp430_flow setting) (site_of (msp430_flow setting) (register_of s 0) calls frame instr_so)
      (onward_of setting frame front_so (register_of s 0) instr_so (worked setting.device (is_interrupt frame) front_so (register_of s 0) instr_so)) first (state_behind s run.left)
  unfolding msp430_machine
  arrives outcome run form =
      let device = setting.device in
      let framed = is_interrupt frame in
      let pc = register_of s 0 in
      let made_so = worked device framed front_so pc instr_so in
      let holds = at.stands.holds in
      let ahead = onward_formed laws device framed front_so pc (device_of device at.setting_so.program) at.stands.form at.even instr_so at.fits in
      let way = run.way in
      onward_cases setting frame front_so pc instr_so made_so
      (λ (made : GoesOnward Known). Arrives (msp430_machine device) (msp430_analysis setting) (Covers device) known_joined (msp430_flow setting) (site_of (msp430_flow setting) pc calls frame instr_so)
      made first (state_behind s run.left))
      (λ leaves_so. let state = followed (gie_of front_so) None made_so.after in let back = run.back frame at.in_frame leaves_so in
      at_exit state refl (back.goes (state_behind s run.left) refl, behind_holds device front_so state s first run.left holds refl back.parts form, at.in_frame))
      (λ _. beyond made_so.next refl)
      (λ _. let formed = ways_formed laws.ways known_joined IsEvenWord (IsAhead device framed (gie_of front_so)) (joined_ahead laws device framed (gie_of front_so))
      (ways_onward pc instr_so made_so.next (known_behind device framed front_so pc instr_so)) ahead way.way way.listed in
      on_way way.way way.listed way.goes (way.goes, behind_holds device front_so way.way.1 s first run.left holds formed.known.1 way.holds form, at.in_frame))

  pub run_lands : (items_so : List Single) (t : ChipState) (run : IsRun (here_at setting.device (is_interrupt frame) front_so s first) instr_so (Onward items_so t))
      → IsChipState setting.device t
      → work_so.opens ≡ [] → (hit : Option ℕ) → run.left.hit ≡ hit → LandsAt items_so t
  unfolding msp430_machine
  run_lands items_so t run form none (Some byte) e = let outcome = run.outcome_is ∙ done_by_hit s instr_so run.accesses run.left (Some byte) e in absurd (cc)
  run_lands items_so t run form none None e =
      let device = setting.device in
      let flow = msp430_flow setting in
      let pc = register_of s 0 in
      let singles = items_of s instr_so run.accesses run.left in
      let same = parts_of items_so singles t (state_behind s run.left) (run.outcome_is ∙ done_by_hit s instr_so run.accesses run.left None e) in
      subst (λ all. LandsAt all t) (sym same.0) (subst (LandsAt singles) (sym same.1)
      (generic_run_lands (msp430_machine device) (msp430_analysis setting) (Covers device) known_joined flow laws.ways pc calls frame a instr_so (flow.followed frame a pc instr_so)
      s first (register_of s 1) run.accesses (state_behind s run.left) at.known.holds.parts.sp run.shown
      (arrives (Onward items_so t) run (subst (IsChipState device) same.1 form)) none))

-- WHERE AN INTERRUPT LANDS

-- two pushes and an edge
is_entry : (device : Device) (s : ChipState) (vector : ℕ) → IsEntry (entry_shows device s vector)
is_entry device s vector = others_alone (entry_shows device s vector) refl

pub entry_lands : Laws
    → (setting : Setting) (calls : List ℕ) (frame : Frame) (a : Known) (s : ChipState) (first : Option ChipState) (found : Option Instr) (items_so : List Single) (t : ChipState)
    → IsUnder setting.device (is_interrupt frame) a s first → IsChipState setting.device t
    → (coming_so : Coming) (bits : ℕ) → ComesSo setting.device a s coming_so → bits < 128
    → (is : ◌≡◌ {A = Outcome ChipState} (Onward items_so t) (entry setting.device s coming_so.vector bits))
    → (hit : Option ℕ)
    → first_hit (program_hit setting.device Word ((register_of s 1 + 65534) % 65536)) (program_hit setting.device Word ((register_of s 1 + 65532) % 65536)) ≡ hit
    → Lands (msp430_machine setting.device) (msp430_analysis setting) (Covers setting.device) (At (register_of s 0) calls frame)
    (work_at known_joined (msp430_flow setting) (register_of s 0) calls frame a found) s first items_so t
entry_lands laws setting calls frame a s first found items_so t under form coming_so bits so below is (Some at) e =
    let outcome = is ∙ entry_by setting.device s coming_so.vector bits (Some at) e in absurd (cc)
entry_lands laws setting calls frame a s first found items_so t under form coming_so bits so below is None e =
    let device = setting.device in
    let framed = is_interrupt frame in
    let flow = msp430_flow setting in
    let pc = register_of s 0 in
    let shows = entry_shows device s coming_so.vector in
    let same = parts_of items_so (Stood pc (register_of s 1) ∷ shows) t (entered_state device s coming_so.vector bits) (is ∙ entry_by device s coming_so.vector bits None e) in
    subst (λ all. Lands (msp430_machine device) (msp430_analysis setting) (Covers device) (At pc calls frame) (work_at known_joined flow pc calls frame a found) s first all t) (sym same.0)
    (generic_entry_lands (msp430_machine device) (msp430_analysis setting) (Covers device) known_joined flow pc calls frame a found s first coming_so (register_of s 1) shows t
    so.listed (λ base. cc) under.holds.parts.sp (laws.entries.covered device framed a s t first coming_so bits items_so under so below (sym is) form)
    (is_entry device s coming_so.vector) (laws.entries.shown device framed a s first coming_so under so))
