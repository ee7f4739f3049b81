-- Where an instruction goes on, by what it makes of what is known.
use Rattle.std.specs.Prelude.{ℕ, if◌then◌else◌, List, [], ◌∷◌}
use Rattle.chip_analysis.specs.declared.cause.Cause.TheVariants.{Targets}
use Rattle.value_set.specs.declared.form.Form.{Form}
use Rattle.unit_ways.specs.Targets.{are_too_many}
use Rattle.unit_ways.specs.Ways.{Going, Way, back_at, edges_of, posts_of, ways_of, ways_to}
use Rattle.chip_flow.specs.Calls.{Site, calls_at}
use Rattle.chip_flow.specs.declared.going.Onward.{Onward}
use Rattle.chip_flow.specs.declared.going.Onward.TheVariants.{Leaves, Open, Lands, Jumps}

-- where there are more targets than are followed, the site is left open
abbrev pub limited : {A : Type 0} → (limit : ℕ) → (targets : Form) → Onward A → Onward A
limited limit targets onward = if are_too_many limit targets then Open targets else onward

module _ {A : Type 0} (joined : A → A → A) where
  -- its ways; a return from an interrupt has none, and where there are more targets than are followed none is
  abbrev pub ways_in : Onward A → List (Way A)
  ways_in (Leaves a) = []
  ways_in (Open targets) = []
  ways_in (Lands targets a) = ways_to targets a
  ways_in (Jumps behind target on jumped) = ways_of joined behind target on jumped

  abbrev pub along : Site → List (Way A) → Going A
  along site ways = record { edges = edges_of site.pc ways; posts = posts_of (calls_at site) site.frame ways; opens = [] }

  -- edges and posts along its ways; or what a return from an interrupt leaves at the exit; or the site is left open
  abbrev pub going_by : Site → Onward A → Going A
  going_by site (Leaves a) = back_at site.pc site.frame a
  going_by site (Open targets) = record { edges = []; posts = []; opens = (site.pc, Targets targets) ∷ [] }
  going_by site (Lands targets a) = along site (ways_to targets a)
  going_by site (Jumps behind target on jumped) = along site (ways_of joined behind target on jumped)
