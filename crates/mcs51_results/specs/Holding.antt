-- What holds of what instructions work on and of what they give: in the state they work on, and in the one behind them.
use Rattle.std.specs.Prelude.{◌≡◌, ℕ, ◌<◌, Bool, Option, length}
use Rattle.entry_value.specs.Words.{Suspended, HoldsOfByte}
use Rattle.value_set.specs.declared.form.Form.{Form}
use Rattle.value_set.specs.Form.{Has, IsNormal}
use Rattle.mcs51_chip.specs.declared.state.ChipState.{ChipState}
use Rattle.mcs51_chip.specs.State.{IsChipState}
use Rattle.mcs51_state.specs.declared.status.Status.{Status}
use Rattle.mcs51_state.specs.Forms.{IsByte, IsOwnRelation}
use Rattle.mcs51_state.specs.Holding.{HoldsOfStatus}
use Rattle.mcs51_state.specs.Places.{psw_place}
use Rattle.mcs51_results.specs.declared.made.Made.{Made}
use Rattle.mcs51_results.specs.declared.made.MadePair.{MadePair}
use Rattle.mcs51_results.specs.declared.made.Operand.{Operand}
use Rattle.mcs51_results.specs.declared.made.Operand.TheVariants.{Constant, Among}

-- a set in its one form that has the number
pub record IsResult (m : ℕ) (set : Form) (v : ℕ) : Type 0 where
  pub normal : IsNormal m set
  pub has : Has m set v

-- OPERANDS

abbrev pub AreOperands : Operand → Type 0
AreOperands (Constant m) = m < 256
AreOperands (Among set) = IsNormal 256 set

abbrev pub IsOperand : Operand → ℕ → Type 0
IsOperand (Constant m) x = (m < 256) × (x ≡ m)
IsOperand (Among set) x = IsResult 256 set x

-- PSW

pub record IsStatus (framed : Bool) (psw : Status) : Type 0 where
  pub bits : length psw.bits ≡ 6
  pub entry : IsOwnRelation framed psw_place 3 psw.entry

-- THE ACCUMULATOR AND PSW

pub record IsMade (framed : Bool) (made : Made) : Type 0 where
  pub a : IsByte framed made.a
  pub psw : IsStatus framed made.psw

pub record HoldsOfMade (first : Option Suspended) (made : Made) (s : ChipState) : Type 0 where
  pub a : HoldsOfByte first made.a s.a
  pub psw : HoldsOfStatus first made.psw s.psw

-- what an instruction works on
pub record StandsMade (framed : Bool) (first : Option Suspended) (made : Made) (s : ChipState) : Type 0 where
  pub state : IsChipState s
  pub form : IsMade framed made
  pub holds : HoldsOfMade first made s

-- WITH B

pub record IsPair (framed : Bool) (made : MadePair) : Type 0 where
  pub a : IsByte framed made.a
  pub b : IsByte framed made.b
  pub psw : IsStatus framed made.psw

pub record HoldsOfPair (first : Option Suspended) (made : MadePair) (s : ChipState) : Type 0 where
  pub a : HoldsOfByte first made.a s.a
  pub b : HoldsOfByte first made.b s.b
  pub psw : HoldsOfStatus first made.psw s.psw

pub record StandsPair (framed : Bool) (first : Option Suspended) (made : MadePair) (s : ChipState) : Type 0 where
  pub state : IsChipState s
  pub form : IsPair framed made
  pub holds : HoldsOfPair first made s
