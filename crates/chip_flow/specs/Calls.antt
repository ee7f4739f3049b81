-- The call strings behind instructions (M. Sharir and A. Pnueli, "Two Approaches to Interprocedural Data Flow Analysis", 1981).
use Rattle.std.specs.Prelude.{ℕ, ◌≤◌, Option, List, length, All}
use Rattle.call_context.specs.declared.node.Frame.{Frame}
use Rattle.call_context.specs.Calls.{popped, pushed}
use Rattle.chip_flow.specs.declared.calls.CallEffect.{CallEffect}
use Rattle.chip_flow.specs.declared.calls.CallEffect.TheVariants.{Pushes, Pops, Keeps}

-- The call string at a target of an instruction, of at most so many sites. A return to behind the last call, where its instruction
-- ends, drops it.
abbrev pub calls_by : (limit : ℕ) → CallEffect → (end : Option ℕ) → (pc : ℕ) → (calls : List ℕ) → (to : ℕ) → List ℕ
calls_by limit Pushes end pc calls to = pushed calls pc limit
calls_by limit Pops end pc calls to = popped calls end to
calls_by limit Keeps end pc calls to = calls

-- where an instruction stands, what it does to the call string, how many sites this keeps, and where the last call ends
pub record Site : Type 0 where
  pub limit : ℕ
  pub pc : ℕ
  pub calls : List ℕ
  pub end : Option ℕ
  pub frame : Frame
  pub effect : CallEffect

abbrev pub calls_at : Site → (to : ℕ) → List ℕ
calls_at site to = calls_by site.limit site.effect site.end site.pc site.calls to

-- at most eight sites, each of which is an address
pub record AreSites (IsAddress : ℕ → Type 0) (calls : List ℕ) : Type 0 where
  pub few : length calls ≤ 8
  pub each : All IsAddress calls
