-- The works of units.
use Rattle.std.specs.Prelude.{ℕ, ◌+◌, ◌-◌, ◌%◌, ◌<◌, ◌==◌, if◌then◌else◌, Bool, Option, None, Some, List, [], ◌∷◌, ◌++◌, length, map, slice_index}
use Rattle.std.specs.List.{flat_map}
use Rattle.call_context.specs.declared.node.Frame.{Frame}
use Rattle.call_context.specs.declared.node.Frame.TheVariants.{Base, Irq}
use Rattle.call_context.specs.declared.node.Node.{Node}
use Rattle.call_context.specs.declared.node.Node.TheVariants.{At, Exit}
use Rattle.call_context.specs.declared.node.Unit.{Unit as WorkUnit}
use Rattle.call_context.specs.declared.node.Unit.TheVariants.{One, Back}
use Rattle.call_context.specs.declared.shown.Item.{Item}
use Rattle.call_context.specs.declared.shown.Item.TheVariants.{Edge, Instr, Stack}
use Rattle.call_context.specs.declared.shown.Set.{Set}
use Rattle.call_context.specs.declared.shown.Set.TheVariants.{B, W}
use Rattle.chip_analysis.specs.declared.cause.Cause.{Cause}
use Rattle.chip_analysis.specs.declared.cause.Cause.TheVariants.{Fetch}
use Rattle.chip_analysis.specs.declared.chip.Work.{Work}
use Rattle.value_set.specs.Joining.{is_in}
use Rattle.unit_ways.specs.Ways.{Going}
use Rattle.chip_flow.specs.declared.going.Followed.{Followed}
use Rattle.chip_flow.specs.Calls.{Site}
use Rattle.chip_flow.specs.Flow.{Flow}
use Rattle.chip_flow.specs.Going.{going_by}

abbrev pub nothing : {A : Type 0} → Work A
nothing = record { items = []; posts = []; waits = []; opens = [] }

-- INTERRUPTS THAT COME

-- what a frame leaves at a known stack pointer is waited for
abbrev pub waits_for : Frame → List Frame
waits_for Base = []
waits_for (Irq vector None level) = []
waits_for (Irq vector (Some sp) level) = Irq vector (Some sp) level ∷ []

module _ {A I C : Type 0} (flow : Flow A I C) where
  -- the handler runs in a frame of its own, with no calls
  abbrev pub entry_post : (pc : ℕ) → A → C → Node × A
  entry_post pc a coming = (At (flow.handler coming) [] (flow.frame_of coming), flow.entered a pc coming)

  abbrev pub entry_waits : C → List Frame
  entry_waits coming = waits_for (flow.frame_of coming)

  -- Interrupts may come at a location, whatever stands there. Beside what they show there are the accesses of its instruction.
  abbrev pub entering : (pc : ℕ) → A → (accesses : List Item) → Work A
  entering pc a accesses = record {
    items = accesses ++ Stack pc (flow.stack a) ∷ flat_map (flow.entry_items pc) (flow.comings a);
    posts = map (entry_post pc a) (flow.comings a);
    waits = flat_map entry_waits (flow.comings a);
    opens = flat_map (flow.entry_opens pc) (flow.comings a);
  }

  -- where no instruction stands
  abbrev pub stopped : (pc : ℕ) → A → Work A
  stopped pc a = let work = entering pc a [] in record {
    items = work.items;
    posts = work.posts;
    waits = work.waits;
    opens = work.opens ++ (pc, Fetch) ∷ [];
  }

  -- the address behind the instruction at a site, and behind that of the last site, where one stands there
  abbrev pub end_of : (site : ℕ) → Option I → Option ℕ
  end_of site None = None
  end_of site (Some instr) = Some ((site + length (flow.bytes instr)) % 65536)

  abbrev pub last_end : List ℕ → Option ℕ
  last_end calls = let site = slice_index calls (length calls - 1) in if length calls == 0 then None else end_of site (flow.fetched site)

  -- where an instruction stands
  abbrev pub site_of : (pc : ℕ) → List ℕ → Frame → I → Site
  site_of pc calls frame instr = record { limit = flow.limit; pc = pc; calls = calls; end = last_end calls; frame = frame; effect = flow.effect instr }

-- a store that may write a byte of the program is left open; what follows takes the program as unchanged
abbrev pub store_opens : (pc : ℕ) → Option Cause → List (ℕ × Cause)
store_opens pc None = []
store_opens pc (Some cause) = (pc, cause) ∷ []

-- THE WORK OF A LOCATION

module _ {A I C : Type 0} (joined : A → A → A) (flow : Flow A I C) where
  -- by what its instruction makes of what is known
  abbrev pub work_by : (pc : ℕ) → List ℕ → Frame → A → I → Followed A → Work A
  work_by pc calls frame a instr made =
      let work = entering flow pc a made.accesses in
      let going = going_by joined (site_of flow pc calls frame instr) made.onward in
      record {
        items = work.items ++ Instr pc (flow.bytes instr) ∷ going.edges;
        posts = work.posts ++ going.posts;
        waits = work.waits;
        opens = work.opens ++ going.opens ++ store_opens pc made.store;
      }

  abbrev pub work_at : (pc : ℕ) → List ℕ → Frame → A → Option I → Work A
  work_at pc calls frame a None = stopped flow pc a
  work_at pc calls frame a (Some instr) = work_by pc calls frame a instr (flow.followed frame a pc instr)

-- THE WORK OF A RETURN

-- a set of bytes or of words has a number
abbrev pub may_be : Set → ℕ → Bool
may_be (B values) n = is_in 256 values n
may_be (W values) n = is_in 65536 values n

-- a number of the width of a set
abbrev pub FitsIn : Set → ℕ → Type 0
FitsIn (B values) n = n < 256
FitsIn (W values) n = n < 65536

module _ {A I C : Type 0} (flow : Flow A I C) where
  -- The handler goes on where it was entered at its frame's stack pointer.
  abbrev pub resumption : (pc : ℕ) → List ℕ → Frame → (from sp : ℕ) → (a exit : A) → Work A
  resumption pc calls frame from sp a exit =
      if may_be (flow.stack a) sp
      then record { items = Edge from pc ∷ []; posts = (At pc calls frame, flow.resumed frame a pc sp exit) ∷ []; waits = []; opens = [] }
      else nothing

  abbrev pub return_work : (pc : ℕ) → List ℕ → Frame → (exit_node : Node) → A → Option A → Work A
  return_work pc calls frame (Exit from (Irq vector (Some sp) level)) a (Some exit) = resumption pc calls frame from sp a exit
  return_work pc calls frame (Exit from (Irq vector (Some sp) level)) a None = nothing
  return_work pc calls frame (Exit from (Irq vector None level)) a exit = nothing
  return_work pc calls frame (Exit from Base) a exit = nothing
  return_work pc calls frame (At from others frame_so) a exit = nothing

-- THE WORK OF A UNIT

module _ {A I C : Type 0} (joined : A → A → A) (flow : Flow A I C) where
  abbrev pub work_of : WorkUnit → A → Option A → Work A
  work_of (One (At pc calls frame)) a exit = work_at joined flow pc calls frame a (flow.fetched pc)
  work_of (One (Exit pc frame)) a exit = nothing
  work_of (Back (At pc calls frame) other) a exit = return_work flow pc calls frame other a exit
  work_of (Back (Exit pc frame) other) a exit = nothing
