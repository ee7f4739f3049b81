-- What a chip makes of what is known of a state, of which the works of its units are made.
use Rattle.std.specs.Prelude.{ℕ, Option, List}
use Rattle.call_context.specs.declared.node.Frame.{Frame}
use Rattle.call_context.specs.declared.shown.Item.{Item}
use Rattle.call_context.specs.declared.shown.Set.{Set}
use Rattle.chip_analysis.specs.declared.cause.Cause.{Cause}
use Rattle.chip_flow.specs.declared.calls.CallEffect.{CallEffect}
use Rattle.chip_flow.specs.declared.going.Followed.{Followed}

-- A is what is known, I are the instructions, and C the interrupts that come
pub record Flow (A I C : Type 0) : Type 0 where
  -- how many call sites are kept, and what SP may be
  pub limit : ℕ
  pub stack : A → Set
  -- the instruction at an address, its bytes, and what it does to the call string
  pub fetched : (pc : ℕ) → Option I
  pub bytes : I → List ℕ
  pub effect : I → CallEffect
  -- what an instruction makes of what is known
  pub followed : Frame → A → (pc : ℕ) → I → Followed A
  -- the interrupts that may come: what the entry of each shows and leaves open, its handler, and what is known there
  pub comings : A → List C
  pub entry_items : (pc : ℕ) → C → List Item
  pub entry_opens : (pc : ℕ) → C → List (ℕ × Cause)
  pub handler : C → ℕ
  pub frame_of : C → Frame
  pub entered : A → (pc : ℕ) → C → A
  -- what is known where a handler that began at this stack pointer returns to
  pub resumed : Frame → A → (pc sp : ℕ) → (exit : A) → A
