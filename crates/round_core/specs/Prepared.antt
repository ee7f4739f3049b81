-- Parts that are ready for a post.
use Rattle.std.specs.Prelude.{◌≡◌, ◌≤◌, ◌<◌, List, length}
use Rattle.call_context.specs.declared.node.Frame.{Frame}
use Rattle.call_context.specs.declared.node.Unit.{Unit as WorkUnit}
use Rattle.round_core.specs.declared.agenda.Agenda.{Agenda}
use Rattle.round_core.specs.declared.parts.Parts.{Parts}
use Rattle.book_rules.specs.declared.versions.Versions.{Versions}
use Rattle.book_rules.specs.Machine.{Held}
use Rattle.round_core.specs.Expected.{Grows, ExpectsRows, ExpectsUnit}
use Rattle.round_core.specs.Raise.{with_all}
use Rattle.round_core.specs.Shown.{AreDistinct}

-- There is room for the raised nodes and for the work, and what these make claimable is expected, first for the
-- nodes and then for the unit.
pub record IsPrepared {A : Type 0} (old new : Parts A) (unit : WorkUnit) (versions : Versions) (frames : List Frame) (raised : List (Held A)) : Type 0 where
  pub nodes : new.nodes.rows ≡ old.nodes.rows
  pub works : new.works.rows ≡ old.works.rows
  pub turns : new.turns ≡ old.turns
  pub distinct : AreDistinct raised
  pub room : length raised ≤ new.nodes.room
  pub work_room : 0 < new.works.room
  pub agenda : (mid : Agenda) × ExpectsRows old.works.rows old.agenda mid (with_all old.nodes.rows raised) raised × Grows old.agenda mid
      × ExpectsUnit mid new.agenda old.nodes.rows unit versions frames × Grows mid new.agenda
