use Rattle.book_rules.specs.Machine.{replay}
use Rattle.book_rules.proofs.ReplayLaws.{IsSteady-replay}
use Rattle.book_rules.proofs.TableLaws.{table-unit, book-unit}
use Rattle.book_rules.proofs.laws.finished_book_is_its_table.Goals as goal

pub returns-clause-units : goal.returns-clause-units
returns-clause-units g c = λ base journal unit l f u. let a = g.C.Chip.analysis base in book-unit a (replay a journal) f (IsSteady-replay a journal l) unit u

pub returns-clause-known : goal.returns-clause-known
returns-clause-known g c = λ base journal unit at exit l f o. let a = g.C.Chip.analysis base in (table-unit a (replay a journal) f (IsSteady-replay a journal l) unit at exit o).0

pub returns-clause-works : goal.returns-clause-works
returns-clause-works g c = λ base journal unit at exit l f o. let a = g.C.Chip.analysis base in (table-unit a (replay a journal) f (IsSteady-replay a journal l) unit at exit o).1
