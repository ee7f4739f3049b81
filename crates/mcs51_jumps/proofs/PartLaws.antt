-- What holds of the parts of a conditional jump: of what it reads and writes, of the bit that it clears, and of the ways that are cut.
use Rattle.mcs51_results.specs.InstructionLaws.{InstructionLaws}
use Rattle.mcs51_branch.specs.Laws.{BranchLaws}
use Rattle.mcs51_jumps.specs.BitLaws.{BitsDo, BitsKeepForm}

pub record PartLaws : Type 0 where
  pub instructions : InstructionLaws
  pub bits : BitsDo
  pub bit_forms : BitsKeepForm
  pub branch : BranchLaws
