-- What an instruction may lead to, from a state that stands under what is known.
use Rattle.std.proofs.Common.{◌≡◌, ℕ, ◌+◌, ◌%◌, ◌<◌, cond, Bool, true, false, Option, None, Some, List, [], length, slice_index, slice_set, refl, sym, ap, ◌∙◌, subst, arith, Contains, IfSome}
use Rattle.std.proofs.lemmas.Bool.{false≢true}
use Rattle.std.proofs.lemmas.List.{get_or-set_same, get_or-set_other}
use Rattle.chip_numbers.specs.Single.{Single}
use Rattle.std.specs.Option.{option_map}
use Rattle.entry_value.specs.Words.{HoldsOfWord}
use Rattle.value_bits.specs.declared.tri.Tri.{Tri}
use Rattle.value_set.specs.Form.{Has}
use Rattle.value_set.specs.Summing.{single}
use Rattle.msp430_decode.specs.declared.instr.Condition.{Condition}
use Rattle.msp430_decode.specs.declared.instr.Destination.{Destination}
use Rattle.msp430_decode.specs.declared.instr.Destination.TheVariants as destination
use Rattle.msp430_decode.specs.declared.instr.Register.TheVariants.{Sr}
use Rattle.msp430_return.specs.Return.{left_of_return}
use Rattle.msp430_decode.specs.declared.instr.Instr.{Instr}
use Rattle.msp430_decode.specs.declared.instr.Instr.TheVariants as instr
use Rattle.msp430_decode.specs.declared.instr.Operation.{Operation}
use Rattle.msp430_decode.specs.declared.instr.SingleOperation.{SingleOperation}
use Rattle.msp430_decode.specs.declared.instr.SingleOperation.TheVariants.{Rrc, Swpb, Rra, Sxt, Push, Call}
use Rattle.msp430_decode.specs.declared.instr.Source.{Source}
use Rattle.msp430_decode.specs.declared.instr.Source.TheVariants as source
use Rattle.call_context.specs.declared.node.Frame.{Frame}
use Rattle.msp430_decode.specs.declared.instr.Width.{Width}
use Rattle.msp430_decode.specs.declared.instr.Width.TheVariants.{Word, Byte}
use Rattle.msp430_decode.specs.Table.{IsInstr, length_of, target_of}
use Rattle.msp430_chip.specs.Arithmetic.{modulus}
use Rattle.msp430_chip.specs.declared.device.Device.{Device}
use Rattle.msp430_chip.specs.declared.state.ChipState.{ChipState}
use Rattle.msp430_chip.specs.Leading.{MayDouble, MayReturn, MayRun, MaySingle}
use Rattle.msp430_chip.specs.Outcome.{Outcome}
use Rattle.msp430_chip.specs.State.{register_of}
use Rattle.msp430_chip.specs.Step.{Left, behind, done, is_taken, jump}
use Rattle.msp430_state.specs.declared.fact.FlagFact.{FlagFact}
use Rattle.msp430_state.specs.Forms.{IsFact, IsKnown}
use Rattle.msp430_state.specs.Holding.{HoldsOfFact, HoldsOfParts, HoldsOfStatus, HasFlagsOf, GoesOn, StandsIn, suspended_of}
use Rattle.msp430_state.specs.Known.{Known, known_joined, word_of}
use Rattle.msp430_alu.specs.Doing.{ComesTo, Here, StandsHere, counter_of}
use Rattle.msp430_alu.specs.Formats.{AreShown, IsHit, Worked}
use Rattle.msp430_results.specs.Results.{HasWidth}
use Rattle.msp430_branch.specs.Cuts.{known_cut}
use Rattle.chip_flow.specs.Along.{HasWay as GoesAlong, way_jumped, way_on}
use Rattle.chip_flow.specs.Going.{ways_in}
use Rattle.unit_ways.specs.Ways.{Way, ways_to}
use Rattle.msp430_flow.specs.Running.{all_ways, fact_of, followed, gie_of, known_behind, leaves_frame, single_or_status, stored_width, ways_onward, worked}
use Rattle.msp430_flow.specs.LawsBelow.{Laws}
use Rattle.plain_lemmas.specs.Members.{in_none}

-- one of some ways goes to an address, and the registers and RAM stand under what is known there
abbrev pub HasWay : Device → Option ChipState → List (Way Known) → (to : ℕ) → (registers ram : List ℕ) → Type 0
HasWay device first all to registers ram = GoesAlong (λ b. HoldsOfParts device b first registers ram) all to

-- what is made of what is known of a state by an instruction at its PC
abbrev pub made_here : Here → Instr → Worked
made_here here instr_so = worked here.device here.framed here.known (counter_of here) instr_so

abbrev Comes : Here → Instr → Left → Outcome ChipState → Type 0
Comes here instr_so left outcome = ComesTo here (made_here here instr_so) instr_so (stored_width instr_so) left outcome

-- a return from its frame's interrupt leaves the state at the exit
pub record LeavesFrame (here : Here) (made_so : Worked) (frame : Frame) (left : Left) : Type 0 where
  pub goes : (t : ChipState) → t.registers ≡ left.registers → GoesOn frame t here.first
  pub parts : HoldsOfParts here.device (followed (gie_of here.known) None made_so.after) here.first left.registers left.ram

abbrev pub GoesBack : Here → Instr → Left → Type 0
GoesBack here instr_so left =
    (frame : Frame) → StandsIn frame here.first → leaves_frame here.device frame here.known instr_so ≡ true
    → LeavesFrame here (made_here here instr_so) frame left

-- what the instruction at PC comes to
pub record IsRun (here : Here) (instr_so : Instr) (outcome : Outcome ChipState) : Type 0 where
  pub left : Left
  pub accesses : List Single
  pub outcome_is : outcome ≡ done here.state instr_so accesses left
  pub way : let ways = all_ways here.device here.framed here.known (counter_of here) instr_so in
      HasWay here.device here.first ways (slice_index left.registers 0) left.registers left.ram
  pub shown : AreShown (made_here here instr_so).accesses accesses
  pub hit : (at : ℕ) → left.hit ≡ Some at
      → IsHit here.device (stored_width instr_so) (made_here here instr_so).store at
  pub back : GoesBack here instr_so left

parts_followed : (device : Device) (late : Tri) (fact : Option FlagFact) (b : Known) (first : Option ChipState) (registers ram : List ℕ)
    → HoldsOfParts device b first registers ram
    → HoldsOfFact fact registers → HoldsOfParts device (followed late fact b) first registers ram
parts_followed device late fact b first registers ram h told = assumption (h, told)

-- an instruction that goes to each address that PC may have
by_next : Laws → (here : Here) (instr_so : Instr) (left : Left) (outcome : Outcome ChipState)
    → let after = known_behind here.device here.framed here.known (counter_of here) instr_so in
    all_ways here.device here.framed here.known (counter_of here) instr_so ≡ ways_to (made_here here instr_so).next after
    → Comes here instr_so left outcome → HoldsOfFact (fact_of instr_so (made_here here instr_so).after) left.registers
    → GoesBack here instr_so left → IsRun here instr_so outcome
by_next laws here instr_so left outcome is comes fact back =
    let to = slice_index left.registers 0 in
    let made_so = made_here here instr_so in
    let behind_so = known_behind here.device here.framed here.known (counter_of here) instr_so in
    let way : Way Known = (to, behind_so) in
    record {
      left = left;
      accesses = comes.accesses;
      outcome_is = comes.outcome_is;
      way = record {
        way = way;
        listed = subst (λ all. Contains all way) (sym is) (laws.ways.to made_so.next behind_so to comes.left_so.next_is.has);
        goes = refl;
        holds = parts_followed here.device (gie_of here.known) (fact_of instr_so made_so.after) made_so.after here.first
            left.registers left.ram comes.left_so.parts fact;
      };
      shown = comes.shown;
      hit = comes.hit;
      back = back;
    }

-- TWO OPERANDS

double_comes : Laws → (here : Here) (operation : Operation) (width : Width) (origin : Source) (target : Destination)
    (outcome : Outcome ChipState)
    → StandsHere here → IsInstr (instr.Double operation width origin target)
    → let len = length_of (instr.Double operation width origin target) in
    (may : MayDouble here.device here.state len operation width origin target outcome)
    → Comes here (instr.Double operation width origin target) may.left outcome
double_comes laws here operation width origin (destination.Register Sr) outcome under fits may =
    laws.statuses.comes here (length_of (instr.Double operation width origin (destination.Register Sr))) operation width
    origin outcome under fits.0 may
double_comes laws here operation width origin target outcome under fits may =
    laws.doubles.comes here (length_of (instr.Double operation width origin target)) operation width origin target
    outcome under fits.0 fits.1 tt may

double_run : Laws → (here : Here) (operation : Operation) (width : Width) (origin : Source) (target : Destination)
    (outcome : Outcome ChipState)
    → StandsHere here → IsInstr (instr.Double operation width origin target)
    → let len = length_of (instr.Double operation width origin target) in
    MayDouble here.device here.state len operation width origin target outcome
    → IsRun here (instr.Double operation width origin target) outcome
double_run laws here operation width origin target outcome under fits may =
    let i = instr.Double operation width origin target in
    let comes = double_comes laws here operation width origin target outcome under fits may in
    let fact = laws.facts.holds here.device (made_here here i).after here.state here.first (length_of i) operation width
    origin target outcome under.holds.state may comes.left_so.parts in
    by_next laws here i may.left outcome refl comes fact (λ frame standing leaves. absurd (false≢true leaves))

-- ONE OPERAND

pub width_of : (operation : SingleOperation) (width : Width) (operand : Source)
    → IsInstr (instr.Single operation width operand) → HasWidth operation width
width_of Rrc width operand fits = tt
width_of Swpb Word operand fits = tt
width_of Swpb Byte operand fits = absurd fits.1.0
width_of Rra width operand fits = tt
width_of Sxt Word operand fits = tt
width_of Sxt Byte operand fits = absurd fits.1.0
width_of Push width operand fits = tt
width_of Call width operand fits = tt

-- an operation that pushes nothing
plain_comes : Laws → (here : Here) (operation : SingleOperation) (width : Width) (operand : Source)
    (outcome : Outcome ChipState)
    → StandsHere here → IsInstr (instr.Single operation width operand)
    → let len = length_of (instr.Single operation width operand) in
    (may : MaySingle here.device here.state len operation width operand outcome)
    → let made_so = single_or_status here.device here.framed here.known (counter_of here) len operation width operand in
    ComesTo here made_so (instr.Single operation width operand) width may.left outcome
plain_comes laws here operation width (source.Register Sr) outcome under fits may =
    laws.single_statuses.comes here (length_of (instr.Single operation width (source.Register Sr))) operation width
    outcome under (width_of operation width (source.Register Sr) fits) may
plain_comes laws here operation width operand outcome under fits may =
    laws.singles.comes here (length_of (instr.Single operation width operand)) operation width operand outcome under
    fits.0 tt (width_of operation width operand fits) may

single_run : Laws → (here : Here) (operation : SingleOperation) (width : Width) (operand : Source) (left : Left)
    (outcome : Outcome ChipState)
    → Comes here (instr.Single operation width operand) left outcome
    → IsRun here (instr.Single operation width operand) outcome
single_run laws here operation width operand left outcome comes =
    by_next laws here (instr.Single operation width operand) left outcome refl comes comes.left_so.parts.fact
    (λ frame standing leaves. absurd (false≢true leaves))

-- JUMPS

-- what a fact says, by the number in its register and SR
abbrev SaysOf : FlagFact → (value sr : ℕ) → Type 0
SaysOf fact value sr =
    HasFlagsOf fact.width ((value + fact.added) % modulus fact.width) fact.compared sr
    × (fact.width ≡ Byte → value < 256)

-- a fact speaks of SR and of one of R4 to R15
jumped_fact : (fact : Option FlagFact) (registers : List ℕ) (next : ℕ) → IsFact fact → HoldsOfFact fact registers
    → HoldsOfFact fact (slice_set registers 0 next)
jumped_fact None registers next is h = tt
jumped_fact (Some fact) registers next is h =
    let low : 3 < fact.register = is.0 in
    let value = get_or-set_other registers 0 fact.register next 0 (λ e. omega arith) in
    let sr = get_or-set_other registers 0 2 next 0 (λ e. omega arith) in
    subst (λ v. SaysOf fact v (slice_index (slice_set registers 0 next) 2)) (sym value)
    (subst (SaysOf fact (slice_index registers fact.register)) (sym sr) h)

-- registers with another PC
jumped_parts : (device : Device) (a : Known) (s : ChipState) (first : Option ChipState) (next : ℕ) → IsFact a.fact
    → HoldsOfParts device a first s.registers s.ram
    → HoldsOfParts device a first (slice_set s.registers 0 next) s.ram
jumped_parts device a s first next is h =
    let sp = get_or-set_other s.registers 0 1 next 0 (λ e. omega arith) in
    let sr = get_or-set_other s.registers 0 2 next 0 (λ e. omega arith) in
    record {
      sp = subst (λ v. Has 65536 a.sp v) (sym sp) h.sp;
      status = subst (HoldsOfStatus (option_map suspended_of first) a.status) (sym sr) h.status;
      words = λ register low high. subst (HoldsOfWord (option_map suspended_of first) (word_of a register))
          (sym (get_or-set_other s.registers 0 register next 0 (λ e. omega arith))) (h.words register low high);
      fact = jumped_fact a.fact s.registers next is h.fact;
      cells = h.cells;
      untouched = h.untouched;
    }

-- what a jump leaves
abbrev jump_left : ChipState → (offset : ℕ) → (taken : Bool) → Left
jump_left s offset taken = record {
  registers = slice_set s.registers 0 (cond taken (target_of (register_of s 0) offset) (behind s 2));
  ram = s.ram;
  hit = None;
}

jump_is : (s : ChipState) (condition : Condition) (offset : ℕ) (taken : Bool)
    → is_taken condition (register_of s 2) ≡ taken
    → jump s condition offset ≡ done s (instr.Jump condition offset) [] (jump_left s offset taken)
unfolding jump
jump_is s condition offset taken e = ap (λ t. done s (instr.Jump condition offset) [] (jump_left s offset t)) e

abbrev jump_ways : (pc offset : ℕ) → Condition → Known → List (Way Known)
jump_ways pc offset condition a =
    ways_in known_joined (ways_onward pc (instr.Jump condition offset) (single ((pc + 2) % 65536)) a)

module _ (laws : Laws) (device : Device) (framed : Bool) (first : Option ChipState) (registers ram : List ℕ) where
  abbrev Is : Known → Type 0
  Is = IsKnown device.ram.lo device.ram.hi framed

  abbrev Holds : Known → Type 0
  Holds b = HoldsOfParts device b first registers ram

  -- what is known on one of two ways that are joined
  joined_first : (a b : Known) → Is a → Is b → Holds a → Holds (known_joined a b)
  joined_first a b f g h =
      let within = laws.states.join_held device.ram.lo device.ram.hi framed a b f g in
      laws.states.parts device device.ram.lo device.ram.hi framed a (known_joined a b) first registers ram f within h

  joined_second : (a b : Known) → Is a → Is b → Holds b → Holds (known_joined a b)
  joined_second a b f g h =
      let within = laws.states.join_new device.ram.lo device.ram.hi framed a b f g in
      laws.states.parts device device.ram.lo device.ram.hi framed b (known_joined a b) first registers ram g within h

  cut_known : (condition : Condition) (taken : Bool) (a : Known) (found : Option Known) → Is a
      → known_cut condition taken a ≡ found → IfSome found Is
  cut_known condition taken a None f e = tt
  cut_known condition taken a (Some b) f e = laws.cuts.form device.ram.lo device.ram.hi framed a b condition taken f e

  -- the way that a jump takes
  way_of_jump : (pc offset : ℕ) (condition : Condition) (taken : Bool) (a b : Known)
      → Is a → known_cut condition taken a ≡ Some b → Holds b
      → let to = cond taken (target_of pc offset) ((pc + 2) % 65536) in
      HasWay device first (jump_ways pc offset condition a) to registers ram
  way_of_jump pc offset condition true a b f e h =
      let on = known_cut condition false a in
      let jumped = known_cut condition true a in
      let on_is = cut_known condition false a on f refl in
      let jumped_is = cut_known condition true a jumped f refl in
      way_jumped laws.ways known_joined Is Holds ((pc + 2) % 65536) (target_of pc offset) on jumped on_is jumped_is
      joined_second b e h
  way_of_jump pc offset condition false a b f e h =
      let on = known_cut condition false a in
      let jumped = known_cut condition true a in
      let on_is = cut_known condition false a on f refl in
      let jumped_is = cut_known condition true a jumped f refl in
      way_on laws.ways known_joined Is Holds ((pc + 2) % 65536) (target_of pc offset) on jumped on_is jumped_is
      joined_first b e h

pub late_form : (lo hi : ℕ) (framed : Bool) (late : Tri) (fact : Option FlagFact) (b : Known) → IsFact fact
    → IsKnown lo hi framed b → IsKnown lo hi framed (followed late fact b)
late_form lo hi framed late fact b told form = assumption (form, told)

jump_run : Laws → (here : Here) (condition : Condition) (offset : ℕ) (outcome : Outcome ChipState)
    → StandsHere here → outcome ≡ jump here.state condition offset
    → IsRun here (instr.Jump condition offset) outcome
jump_run laws here condition offset outcome under is =
    let device = here.device in
    let framed = here.framed in
    let a = here.known in
    let s = here.state in
    let first = here.first in
    let pc = counter_of here in
    let taken = is_taken condition (register_of s 2) in
    let next = cond taken (target_of pc offset) ((pc + 2) % 65536) in
    let registers = slice_set s.registers 0 next in
    let ahead = followed (gie_of a) a.fact a in
    let form = late_form device.ram.lo device.ram.hi framed (gie_of a) a.fact a under.form.fact under.form in
    let (b, cut_so, parts) = laws.cuts.parts device device.ram.lo device.ram.hi framed ahead first s.registers s.ram condition form
    (parts_followed device (gie_of a) a.fact a first s.registers s.ram under.holds.parts under.holds.parts.fact) in
    let fact : IsFact b.fact = (laws.cuts.form device.ram.lo device.ram.hi framed ahead b condition taken form cut_so).fact in
    let long : 0 < length s.registers = omega (arith, under.holds.state.registers) in
    let way = way_of_jump laws device framed first registers s.ram pc offset condition taken ahead b form cut_so
    (jumped_parts device b s first next fact parts) in
    record {
      left = jump_left s offset taken;
      accesses = [];
      outcome_is = is ∙ jump_is s condition offset taken refl;
      way = subst (λ to. HasWay device first (jump_ways pc offset condition ahead) to registers s.ram)
          (sym (get_or-set_same s.registers 0 next 0 long)) way;
      shown = λ single_so there. absurd (in_none single_so there);
      hit = λ at none. absurd (cc);
      back = λ frame standing leaves. absurd (false≢true leaves);
    }

-- RETURNS FROM INTERRUPTS

return_run : Laws → (here : Here) (outcome : Outcome ChipState)
    → StandsHere here → MayReturn here.device here.state outcome → IsRun here instr.ReturnFromInterrupt outcome
return_run laws here outcome under may =
    let left = left_of_return here.state may.status may.target in
    let comes = laws.returns.comes here outcome under may in
    by_next laws here instr.ReturnFromInterrupt left outcome refl comes comes.left_so.parts.fact
    (λ frame standing leaves. record {
      goes = λ t same. laws.returns.back here t frame outcome under standing leaves may same;
      parts = parts_followed here.device (gie_of here.known) None (made_here here instr.ReturnFromInterrupt).after here.first
          left.registers left.ram comes.left_so.parts tt;
    })

-- EVERY INSTRUCTION

pub instr_run : Laws → (here : Here) (instr_so : Instr) (outcome : Outcome ChipState)
    → StandsHere here → IsInstr instr_so → MayRun here.device here.state instr_so (length_of instr_so) outcome
    → IsRun here instr_so outcome
instr_run laws here (instr.Double operation width origin target) outcome under fits may =
    double_run laws here operation width origin target outcome under fits may
instr_run laws here (instr.Single Push width operand) outcome under fits may =
    let len = length_of (instr.Single Push width operand) in
    single_run laws here Push width operand may.left outcome
    (laws.pushes.comes here len Push width operand outcome under fits.0 may)
instr_run laws here (instr.Single Call width operand) outcome under fits may =
    let len = length_of (instr.Single Call width operand) in
    single_run laws here Call width operand may.left outcome
    (laws.pushes.comes here len Call width operand outcome under fits.0 may)
instr_run laws here (instr.Single Rrc width operand) outcome under fits may =
    single_run laws here Rrc width operand may.left outcome
    (plain_comes laws here Rrc width operand outcome under fits may)
instr_run laws here (instr.Single Swpb width operand) outcome under fits may =
    single_run laws here Swpb width operand may.left outcome
    (plain_comes laws here Swpb width operand outcome under fits may)
instr_run laws here (instr.Single Rra width operand) outcome under fits may =
    single_run laws here Rra width operand may.left outcome
    (plain_comes laws here Rra width operand outcome under fits may)
instr_run laws here (instr.Single Sxt width operand) outcome under fits may =
    single_run laws here Sxt width operand may.left outcome
    (plain_comes laws here Sxt width operand outcome under fits may)
instr_run laws here (instr.Jump condition offset) outcome under fits may =
    jump_run laws here condition offset outcome under may
instr_run laws here instr.ReturnFromInterrupt outcome under fits may = return_run laws here outcome under may
