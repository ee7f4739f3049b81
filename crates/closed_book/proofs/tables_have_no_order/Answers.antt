use Rattle.closed_book.proofs.TableOrder.{closed_too, one_table, same_works}
use Rattle.closed_book.proofs.tables_have_no_order.Goals as goal

pub returns-clause-table : goal.returns-clause-table
returns-clause-table g c = λ nodes others node distinct same. one_table c.tests_tell_which_are_one.ensures.nodes nodes others distinct same node

pub returns-clause-closed : goal.returns-clause-closed
returns-clause-closed g c = λ base nodes others distinct same.
    closed_too c.tests_tell_which_are_one.ensures.nodes (g.C.Chip.analysis base) nodes others distinct same

pub returns-clause-works : goal.returns-clause-works
returns-clause-works g c = λ base nodes others works more same closed closed'.
    same_works c.tests_tell_which_are_one.ensures.nodes (g.C.Chip.analysis base) nodes others works more same closed closed'
