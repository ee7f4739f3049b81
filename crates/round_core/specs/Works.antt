-- The units of a book that were done as rows of a table: the work is the value, and the versions are the mark.
use Rattle.call_context.specs.declared.node.Unit.{Unit as WorkUnit}
use Rattle.chip_analysis.specs.declared.chip.Work.{Work}
use Rattle.book_rules.specs.declared.versions.Versions.{Versions}
use Rattle.book_rules.specs.Machine.{Done}

abbrev pub done_of : {A : Type 0} → WorkUnit × (Work A × Versions) → Done A
done_of row = record { unit = row.0; work = row.1.0; versions = row.1.1 }

abbrev pub work_of : {A : Type 0} → WorkUnit × (Work A × Versions) → Work A
work_of row = row.1.0
