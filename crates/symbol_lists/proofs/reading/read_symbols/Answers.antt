use Rattle.std.proofs.Common.{[], refl, sym, ◌∙◌, subst, ap, arith, map, Ok, ◌+◌, ◌≡◌}
use Rattle.std.proofs.lemmas.Result.{err_from_is_err_and}
use Rattle.symbol_lists.specs.Lines.{entry_of}
use Rattle.symbol_lists.specs.Texts.{TellsLine, with_line}
use Rattle.symbol_lists.proofs.Text.{ended, next_cut, next_last, one_more, tells_text}
use Rattle.symbol_lists.proofs.reading.read_symbols.Goals as goal
use Rattle.symbol_lists.proofs.reading.read_symbols.Goals.{then-not-is_empty+in_ok-read_line-2, else-not-is_empty}

pub returns-in_err-read_line-clause-refused : goal.returns-in_err-read_line-clause-refused
returns-in_err-read_line-clause-refused c =
    let at = c.loop-line in
    let form = c.form_of-form.ensures in
    let next = next_cut at.rest.now c.without_return.result.now c.in-Some.line.now c.in-Some.behind.now c.without_return.ensures
    (sym c.in-Some.ensures.parts) in
    let p = err_from_is_err_and c.from_residual.result c.from_residual.ensures.1 in
    let bad = subst (λ form. TellsLine form (at.count + 1) (map entry_of at.list.items) c.without_return.result.now c.in_err-read_line.field-0.0) form c.in_err-read_line.ensures.bad in
    rw (p.1, p.2) (tells_text c.args.text.now (map entry_of at.list.items) at.count at.rest.now at.invariant.read
    c.without_return.result.now c.in-Some.behind.now next c.in_err-read_line.field-0.0 bad)

pub loop-line-preserved : goal.loop-line-preserved
loop-line-preserved c =
    let at = c.loop-line in
    let form = c.form_of-form.ensures in
    let next = next_cut at.rest.now c.without_return.result.now c.in-Some.line.now c.in-Some.behind.now c.without_return.ensures
    (sym c.in-Some.ensures.parts) in
    let taken = subst (λ form. with_line form (at.count + 1) (map entry_of at.list.items) c.without_return.result.now ≡ Ok (map entry_of c.read_line.new.list.items)) form c.in_ok-read_line.ensures.list in
    record {
      form = form;
      read = one_more c.args.text.now (map entry_of at.list.items) at.count at.rest.now at.invariant.read
          c.without_return.result.now c.in-Some.behind.now next (map entry_of c.read_line.new.list.items) taken;
      count = omega (arith, c.in-Some.ensures.shorter, at.invariant.count);
    }

pub returns-in_err-read_line-2-clause-refused : goal.returns-in_err-read_line-2-clause-refused
returns-in_err-read_line-2-clause-refused c =
    let at = c.loop-line in
    let form = c.form_of-form.ensures in
    let last = c.without_return-then-not-is_empty in
    let next = next_last at.rest.now last.result.now last.ensures (sym c.in_default.ensures.parts) (sym c.is_empty.ensures ∙ c.if-not-is_empty.true) in
    let p = err_from_is_err_and c.from_residual-in_err-read_line-2.result c.from_residual-in_err-read_line-2.ensures.1 in
    let bad = subst (λ form. TellsLine form (at.count + 1) (map entry_of at.list.items) last.result.now c.in_err-read_line-2.field-0.0) form c.in_err-read_line-2.ensures.bad in
    rw (p.1, p.2) (tells_text c.args.text.now (map entry_of at.list.items) at.count at.rest.now at.invariant.read
    last.result.now [] next c.in_err-read_line-2.field-0.0 bad)

pub returns-clause-symbols : goal.returns-clause-symbols
returns-clause-symbols c =
    let at = c.loop-line in
    let form = c.form_of-form.ensures in
    elim c.if-not-is_empty.branch [
      | then-not-is_empty+in_ok-read_line-2 w ↦
          let last = w.without_return-then-not-is_empty in
          let next = next_last at.rest.now last.result.now last.ensures (sym c.in_default.ensures.parts) (sym c.is_empty.ensures ∙ w.if-not-is_empty.true) in
          let taken = subst (λ form. with_line form (at.count + 1) (map entry_of at.list.items) last.result.now ≡ Ok (map entry_of w.read_line-then-not-is_empty.new.list.items)) form w.in_ok-read_line-2.ensures.list in
          rw w.list-is (ended c.args.text.now (map entry_of w.read_line-then-not-is_empty.new.list.items) (at.count + 1) [] (one_more c.args.text.now (map entry_of at.list.items) at.count at.rest.now at.invariant.read last.result.now [] next (map entry_of w.read_line-then-not-is_empty.new.list.items) taken) refl)
      | else-not-is_empty w ↦ rw w.list-is (ended c.args.text.now (map entry_of at.list.items) at.count at.rest.now at.invariant.read (sym c.is_empty.ensures ∙ w.if-not-is_empty.false))
    ]
