use Rattle.std.proofs.Common.{inr}
use Rattle.cert_check.proofs.AcceptedLemmas.{nodes_reordered}
use Rattle.cert_check.proofs.laws.certificates_of_closed_tables_pass.Goals as goal

pub returns : goal.returns
returns g c = λ b program nodes text are closed cert.
    let rows = cert.rows in
    record {
      rows = rows;
      same = cert.same;
      reads = (c.certificates_are_tables.ensures b program text rows).1 (cert.are_rows, inr cert.text_is);
      passes = λ first. (c.refusals_are_exact.ensures b program rows first
          (nodes_reordered c.tests_tell_which_are_one.ensures.nodes (g.C.Chip.analysis b) nodes rows cert.same are)).1
          (c.tables_have_no_order.ensures.closed b nodes rows are.distinct cert.same closed);
    }
