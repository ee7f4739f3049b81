use Rattle.std.proofs.Common.{◌≡◌, refl, ◌+◌, ◌<◌, ◌^◌, length, map, sym, ap, ◌∙◌, subst, arith, Ok, Err}
use Rattle.cert_text.specs.declared.fault.LineFault.TheVariants.{Syntax}
use Rattle.text_fields.specs.Lines.{joined}
use Rattle.cert_text.specs.Reading.{IsTable}
use Rattle.cert_text.proofs.TextLemmas.{as_it_stands, count_lines, few, finish_bad, finish_complete, first_is, has_number}
use Rattle.cert_text.proofs.reader.Reader.end.Goals as goal

pub overflow_cast-number : goal.overflow_cast-number
overflow_cast-number g c =
    omega (arith, has_number (λ line. line.value.items) _ _ _ _ c.len.ensures c.self.inside.lines.ok.0 c.self.invariant.1.small)

pub overflow_add-number : goal.overflow_add-number
overflow_add-number g c =
    omega (arith, has_number (λ line. line.value.items) _ _ _ _ c.len.ensures c.self.inside.lines.ok.0 c.self.invariant.1.small)

pub returns-then-is_complete-clause-table : goal.returns-then-is_complete-clause-table
returns-then-is_complete-clause-table g c =
    let complete = sym c.is_complete.ensures ∙ c.if-is_complete.true in
    rw (← c.self.view_is) (as_it_stands _ _ _ _ _ c.self.invariant.1 ∙ finish_complete _ _ c.self.inside.progress
    (rw c.deref.ensures.value at complete) ∙ ap (λ rows. Ok rows) (sym c.into_rows.ensures))

pub returns-clause-bad : goal.returns-clause-bad
returns-clause-bad g c = λ none.
    let count = count_lines (λ line. line.value.items) c.self.inside.lines.items _ _ c.len.ensures c.self.inside.lines.ok.0 in
    let incomplete = sym c.is_complete.ensures ∙ c.if-is_complete.false in
    rw (← c.self.view_is) (as_it_stands _ _ _ _ _ c.self.invariant.1 ∙ finish_bad _ _ c.self.inside.progress (rw c.deref.ensures.value at incomplete)
    ∙ ap (λ n. Err (n + 1, Syntax)) (sym count))

pub overflow_cast-first : goal.overflow_cast-first
overflow_cast-first g c = omega (arith, few _ _ _ _ _ c.self.invariant.1, c.count_pages.ensures)

pub overflow_add-first : goal.overflow_add-first
overflow_add-first g c = omega (arith, few _ _ _ _ _ c.self.invariant.1, c.count_pages.ensures)

pub returns-then-is_complete-clause-first : goal.returns-then-is_complete-clause-first
returns-then-is_complete-clause-first g c =
    let first : c.count_pages.result + 2 ≡ 2 + length c.self.inside.progress.pages = omega (arith, c.count_pages.ensures) in
    rw (← c.self.view_is) (refl, first ∙ sym (first_is _ _ _ _ _ c.self.invariant.1))

pub invariant_of-result : goal.invariant_of-result
invariant_of-result g c =
    let b = g.C.Chip.base c.self.inside.chip.value in
    let a = g.C.Chip.analysis b in
    let texts = g.C.StateText.texts b in
    let text = joined (map (λ line. line.value.items) c.self.inside.lines.items) c.self.inside.line.items in
    let complete = sym c.is_complete.ensures ∙ c.if-is_complete.true in
    let table = as_it_stands a texts _ _ _ c.self.invariant.1 ∙ finish_complete _ _ c.self.inside.progress (rw c.deref.ensures.value at complete) in
    let is = (c.certificates_are_tables.ensures b c.self.invariant.0 text _).0 table in
    let fit : c.count_pages.result + 2 + length c.self.inside.progress.rows < 2 ^ 32 =
    omega (arith, few _ _ _ _ _ c.self.invariant.1, c.count_pages.ensures) in (
      c.self.invariant.0,
      subst (IsTable a texts (c.count_pages.result + 2)) (sym c.into_rows.ensures) (record { are_rows = is.0; lines = fit }),
    )
