use Rattle.std.proofs.Common.{◌<◌, ◌^◌, ap, ap₂, sym, subst, ◌∙◌}
use Rattle.report_bytes.specs.Counting.{AreSmall, counts_with}
use Rattle.report_bytes.specs.Report.{bytes_of}
use Rattle.report_bytes.proofs.CountLemmas.{are_small, counted_new}
use Rattle.report_bytes.proofs.ReportLemmas.{bytes_of-insert_key}
use Rattle.report_bytes.proofs.lines.Lines.add.Goals as goal

pub with-counts-requires : goal.with-counts-requires
with-counts-requires c =
    subst AreSmall (sym c.self.invariant) (are_small c.self.inside.set.keys (subst (λ n. n < 2 ^ 63) c.len-few.ensures.len c.len-few.ensures.small))

pub invariant_of-self-then-is_new : goal.invariant_of-self-then-is_new
invariant_of-self-then-is_new c =
    let longer = rw c.if-is_new.true at c.in_ok-is_new.ensures.len in
    c.with-counts.ensures ∙ ap₂ counts_with c.self.invariant c.as_slice.ensures.value
    ∙ sym (counted_new c.self.inside.set.keys c.insert.new.self.keys c.args.line c.in_ok-is_new.ensures.keys longer)

pub returns-then-is_new : goal.returns-then-is_new
returns-then-is_new c =
    rw (← c.self.view_is) (ap bytes_of c.in_ok-is_new.ensures.keys ∙ bytes_of-insert_key c.self.inside.set.keys c.args.line)

pub returns-else-is_new : goal.returns-else-is_new
returns-else-is_new c =
    rw (← c.self.view_is) (ap bytes_of c.in_ok-is_new.ensures.keys ∙ bytes_of-insert_key c.self.inside.set.keys c.args.line)
