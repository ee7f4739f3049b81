use Rattle.std.proofs.Common.{◌≡◌, Ok, refl, sym, subst}
use Rattle.std.proofs.lemmas.Result.{IfOk-weaker}
use Rattle.cert_text.specs.Certificate.{first_row, table_of}
use Rattle.cert_text.specs.Reading.{TellsWhole}
use Rattle.cert_verdict.specs.Verdict.{IsVerdict}
use Rattle.cert_verdict.specs.Verdict.IsVerdict.{faulty}
use Rattle.cert_verdict.specs.declared.verdict.Verdict.{Verdict}
use Rattle.cert_verdict.proofs.verdict.verdict_on.Goals as goal

pub returns-in-Ok : goal.returns-in-Ok
returns-in-Ok g c =
    let text = c.args.text.now in
    let cert = c.in-Ok.cert in
    let a = g.C.Chip.analysis in
    let texts = g.C.StateText.texts in
    let same = c.in-Ok.ensures.base in
    IfOk-weaker c.judged.result _ _ (λ (v : Verdict) all.
    subst (λ b. IsVerdict (g.C.InstrText.text_of c.args.chip.now) (a b) (texts b) text v.is_closed v.text.items) same
    (all text (subst (λ b. table_of (a b) (texts b) text ≡ Ok cert.rows) (sym same) c.in-Ok.ensures.table)
    (subst (λ b. cert.first ≡ first_row (a b) (texts b) text) (sym same) c.in-Ok.ensures.first))) c.judged.ensures

pub returns-in_ok-fault_line-in-Err-Bad : goal.returns-in_ok-fault_line-in-Err-Bad
returns-in_ok-fault_line-in-Err-Bad g c =
    let b = g.C.Chip.base c.args.chip.now in
    let told = subst (TellsWhole (g.C.Chip.analysis b) (g.C.StateText.texts b) c.args.text.now) c.in-Err-Bad.field-0-is c.in-Err-Bad.ensures.faulty in
    faulty c.in-Err-Bad.line c.in-Err-Bad.fault told refl c.in_ok-fault_line-in-Err-Bad.ensures
