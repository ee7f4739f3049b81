use Rattle.std.proofs.Common.{sym, subst}
use Rattle.item_lines.specs.Line.{item_line_of}
use Rattle.report_bytes.specs.ClosedWorks.{none_open}
use Rattle.report_bytes.specs.Report.{last_works}
use Rattle.report_text.specs.Promise.{CoversEveryRun}
use Rattle.vsa_top.proofs.LawsLemmas.{closes_by}
use Rattle.vsa_top.proofs.laws.chips_have_laws.Goals as goal

pub returns-clause-truths : goal.returns-clause-truths
returns-clause-truths g c = λ base text_of program stack.
    let machine = g.C.LawfulChip.machine base in
    let works = last_works (g.C.Chip.analysis base) in record {
      covers = λ journal. c.closed_reports_cover_runs.ensures base text_of journal program;
      bounds = λ journal. c.closed_reports_bound_stacks.ensures base text_of journal program stack;
      shows = λ journal. c.open_reports_show_sites.ensures base text_of journal program;
      holds = λ list journal legal finished closed. c.unbroken_lists_hold.ensures base (works journal) (item_line_of text_of) list
          (c.closed_books_cover_runs.ensures base journal program legal finished (none_open (works journal) closed));
      certifies = λ text told verdict.
          let is = c.closed_verdicts_tell_closed_books.ensures base text_of text told verdict in
          subst (CoversEveryRun machine text_of) (sym is.report) (c.closed_works_cover_runs.ensures base text_of is.nodes is.works program is.book);
      closes = λ text told. closes_by text_of (g.C.Chip.analysis base) (g.C.StateText.texts base) text told (c.certificates_are_tables.ensures base program text);
      accepts = λ text is.
          let table = (c.certificates_are_tables.ensures base program text is.rows).1 (is.formed, is.written) in (
            _,
            c.closed_tables_have_their_report.ensures base program text_of text is.rows table is.closed,
          );
      owns = λ journal text. c.own_certificates_are_closed.ensures base program text_of journal text stack;
    }

pub returns-clause-one : goal.returns-clause-one
returns-clause-one g c = λ base text_of. record {
  told = c.closed_books_are_told.ensures base;
  journal = c.turns_are_one.ensures base;
  certificate = c.certificates_are_one.ensures base;
  verdict = c.verdicts_are_one.ensures base text_of;
}
