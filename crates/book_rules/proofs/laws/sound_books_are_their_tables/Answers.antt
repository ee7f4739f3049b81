use Rattle.book_rules.proofs.PlacedLaws.{live_once, live_unit}
use Rattle.book_rules.proofs.TableLaws.{book-unit, closed-table, formed-table, table-unit}
use Rattle.book_rules.proofs.laws.sound_books_are_their_tables.Goals as goal

pub returns-clause-formed : goal.returns-clause-formed
returns-clause-formed g c = λ base b is. formed-table (g.C.Chip.analysis base) b is.formed

pub returns-clause-closed : goal.returns-clause-closed
returns-clause-closed g c = λ base b is closed. closed-table (g.C.Chip.analysis base) b closed is

pub returns-clause-units : goal.returns-clause-units
returns-clause-units g c = λ base b unit is f u. book-unit (g.C.Chip.analysis base) b f is.steady unit u

pub returns-clause-known : goal.returns-clause-known
returns-clause-known g c = λ base b unit at exit is f over. (table-unit (g.C.Chip.analysis base) b f is.steady unit at exit over).0

pub returns-clause-works : goal.returns-clause-works
returns-clause-works g c = λ base b unit at exit is f over. (table-unit (g.C.Chip.analysis base) b f is.steady unit at exit over).1

pub returns-clause-live : goal.returns-clause-live
returns-clause-live g c = λ base b unit work is there. live_unit b is.placed unit work there

pub returns-clause-once : goal.returns-clause-once
returns-clause-once g c = λ base b is. live_once b is.placed
