use Rattle.book_rules.specs.Kept.{live_pairs, nodes_of}
use Rattle.book_rules.specs.Machine.{replay}
use Rattle.cert_check.specs.Refusal.{works_in}
use Rattle.cert_check.proofs.AcceptedLemmas.{nodes_of_table, nodes_reordered}
use Rattle.cert_check.proofs.laws.own_certificates_give_the_report.Goals as goal
use Rattle.std.proofs.Common.{sym}

pub returns : goal.returns
returns g c = λ b program journal text legal is_closed cert.
    let a = g.C.Chip.analysis b in
    let texts = g.C.StateText.texts b in
    let book = replay a journal in
    let nodes = nodes_of book in
    let one = c.tests_tell_which_are_one.ensures.nodes in
    let own = c.closed_book_is_its_table.ensures b journal program legal is_closed in
    let are = nodes_of_table one a nodes own.distinct own.formed in
    let accepted = c.certificates_of_closed_tables_pass.ensures b program nodes text are own.closed cert in
    let forms = nodes_reordered one a nodes accepted.rows accepted.same are in
    let read = c.unrefused_tables_are_closed_books.ensures b program accepted.rows 0 forms (accepted.passes 0) in
    record {
      accepted = accepted;
      report = λ one_stack text_of. sym (c.closed_reports_are_of_tables.ensures b text_of one_stack nodes accepted.rows (live_pairs book)
          (works_in a accepted.rows) accepted.same own read);
    }
