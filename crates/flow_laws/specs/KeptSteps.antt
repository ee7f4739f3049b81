-- Where the steps that a machine keeps land, and where its returns resume: as those of the machine with all steps do, since both
-- tell the same address of a state.
use Rattle.std.specs.Prelude.{Bool, Option, List}
use Rattle.call_context.specs.declared.node.Node.{Node}
use Rattle.chip_numbers.specs.Single.{Single}
use Rattle.chip_analysis.specs.Analysis.{Analysis}
use Rattle.chip_analysis.specs.declared.chip.Work.{Work}
use Rattle.chip_law.specs.Kept.{kept}
use Rattle.chip_law.specs.Laws.{Cover, Lands, Resumes}
use Rattle.chip_law.specs.Laws.Lands.{enters, leaves as at_exit, stays}
use Rattle.chip_law.specs.Machine.{Machine}
use Rattle.chip_law.specs.Outcome.{Leaving}

module _ {S A : Type 0} (keeps : List Single → Bool) (leaves : S → Leaving → Bool) (machine : Machine S) (analysis : Analysis A) (covers : Cover S A) where
  pub kept_lands : {node : Node} {work : Work A} {s : S} {first : Option S} {items : List Single} {t : S}
      → Lands machine analysis covers node work s first items t
      → Lands (kept keeps leaves machine) analysis covers node work s first items t
  kept_lands (stays to state posted is frame covered shows) = stays to state posted is frame covered shows
  kept_lands (enters to state posted is waits entry covered shows) = enters to state posted is waits entry covered shows
  kept_lands (at_exit state posted covered shows) = at_exit state posted covered shows

  pub kept_resumes : {node exit : Node} {work : Work A} {first : Option S} {t : S}
      → Resumes machine analysis covers node exit work first t
      → Resumes (kept keeps leaves machine) analysis covers node exit work first t
  kept_resumes resumed = record { state = resumed.state; posted = resumed.posted; covered = resumed.covered; shows = resumed.shows }
