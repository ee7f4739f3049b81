-- What each cause of an open says of its location, a row a cause: the stated limit that is broken there, by what is known. Which
-- causes tell why a step leaves the model is asked of the works of any chip, however they are made; so that stands below, in
-- `chip_law/specs/Laws.antt` (`Tells`), a row a cause too.
use Rattle.std.specs.Prelude.{ℕ, ◌<◌}
use Rattle.call_context.specs.declared.node.Frame.{Frame}
use Rattle.call_context.specs.declared.node.Node.{Node}
use Rattle.call_context.specs.declared.node.Node.TheVariants.{At, Exit}
use Rattle.chip_analysis.specs.declared.cause.Cause.{Cause}
use Rattle.chip_analysis.specs.declared.cause.Cause.TheVariants.{Fetch, Targets, Store}
use Rattle.value_set.specs.declared.form.Form.{Form}
use Rattle.value_set.specs.Summing.{count_of}

-- what a chip gives for them, where A is what is known, and I are the instructions
pub record Causes (A I : Type 0) : Type 1 where
  -- the instruction stands at an address, in so many bytes
  pub Stands : (pc : ℕ) → I → (len : ℕ) → Type 0
  -- its next addresses are these, by what is known there, and so many are followed
  pub GoesTo : Frame → A → (pc : ℕ) → I → Form → Type 0
  pub targets : ℕ
  -- at these addresses a store is done there, by what is known, and at one of them it would write a byte of the program
  pub Hits : Frame → A → (pc : ℕ) → Form → Type 0

module _ {A I : Type 0} (chip : Causes A I) where
  -- the instruction that stands at an address has these next addresses, by what is known there, and more than are followed
  pub record HasManyTargets (pc : ℕ) (frame : Frame) (a : A) (values : Form) : Type 0 where
    pub instr : I
    pub len : ℕ
    pub standing : chip.Stands pc instr len
    pub next : chip.GoesTo frame a pc instr values
    pub many : chip.targets < count_of 65536 values

  -- The limit that the cause of an open names is broken at a location, by what is known there: no instruction stands there; or
  -- the set is that of the instruction's next addresses, and has more than are followed; or the set is where a store is done
  -- there, and such a store would write a byte of the program.
  abbrev pub BreaksLimit : Node → A → Cause → Type 0
  BreaksLimit (At pc calls frame) a Fetch = (instr : I) (len : ℕ) → chip.Stands pc instr len → ⊥
  BreaksLimit (At pc calls frame) a (Targets values) = HasManyTargets pc frame a values
  BreaksLimit (At pc calls frame) a (Store values) = chip.Hits frame a pc values
  BreaksLimit (Exit pc frame) a cause = ⊥
