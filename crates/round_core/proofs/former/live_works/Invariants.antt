use Rattle.std.proofs.Common.{◌≡◌, List, map, length}
use Rattle.call_context.specs.declared.node.Unit.{Unit as WorkUnit}
use Rattle.chip_analysis.specs.declared.chip.Work.{Work}
use Rattle.book_rules.specs.declared.versions.Versions.{Versions}
use Rattle.round_core.specs.Former.{marked}
use Rattle.book_rules.specs.Kept.{is_live}
use Rattle.round_core.specs.Rows.{mark_part, value_part}
use Rattle.round_core.specs.Works.{done_of}
use Rattle.round_core.proofs.former.live_works.Given as goal

abbrev pub invariant-loop-place : goal.invariant-loop-place
invariant-loop-place g l = record {
  len : length l.works.items ≡ l.place-end;
  are_marked : (rows : List (WorkUnit × (Work _ × Versions))) → l.places.entries ≡ map mark_part rows
      → l.fn.works.items ≡ map value_part rows
      → l.works.items ≡ marked (is_live (map done_of rows)) l.place (map value_part rows);
}
