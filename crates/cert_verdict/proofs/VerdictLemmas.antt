-- A text has one verdict, and that of a closed table tells a closed book's report.
use Rattle.std.proofs.Common.{◌≡◌, ℕ, Bool, true, Option, None, Some, Result, Ok, Err, List, sym, ap, ◌∙◌}
use Rattle.call_context.specs.declared.node.Node.{Node}
use Rattle.chip_analysis.specs.Analysis.{Analysis}
use Rattle.report_bytes.specs.Report.{closed_report}
use Rattle.state_text.specs.Texts.{StateTexts}
use Rattle.cert_text.specs.Certificate.{first_row, table_of}
use Rattle.cert_text.specs.declared.fault.LineFault.{LineFault}
use Rattle.cert_check.specs.Refusal.{refusal_of, works_in}
use Rattle.cert_check.specs.declared.refusal.Refusal.{Refusal}
use Rattle.cert_verdict.specs.Lines.{fault_line, refusal_line}
use Rattle.cert_verdict.specs.Verdict.{IsVerdict, TellsClosedBook}
use Rattle.cert_verdict.specs.Verdict.IsVerdict.{closed, refused, faulty}

pub closed_told : {A : Type 0} (text_of : ℕ → List ℕ → List ℕ) (a : Analysis A) (texts : StateTexts A) (text told : List ℕ)
    → IsVerdict text_of a texts text true told → TellsClosedBook text_of a told
closed_told text_of a texts text told (closed rows read none book is report) = record { nodes = rows; works = works_in a rows; book = book; report = report }
closed_told text_of a texts text told (refused rows why read first is line) = absurd (cc)
closed_told text_of a texts text told (faulty line fault bad is told_is) = absurd (cc)

-- ONE VERDICT

same_ok : {X E : Type 0} (r : Result X E) (x y : X) → r ≡ Ok x → r ≡ Ok y → x ≡ y
same_ok r x y one other = cc (one, other)

same_err : {X E : Type 0} (r : Result X E) (x y : E) → r ≡ Err x → r ≡ Err y → x ≡ y
same_err r x y one other = cc (one, other)

not_both : {X E : Type 0} (r : Result X E) (x : X) (e : E) → r ≡ Ok x → r ≡ Err e → ⊥
not_both r x e one other = cc (one, other)

same_some : {X : Type 0} (o : Option X) (x y : X) → o ≡ Some x → o ≡ Some y → x ≡ y
same_some o x y one other = cc (one, other)

none_or_some : {X : Type 0} (o : Option X) (x : X) → o ≡ None → o ≡ Some x → ⊥
none_or_some o x one other = cc (one, other)

module _ {A : Type 0} (text_of : ℕ → List ℕ → List ℕ) (a : Analysis A) (texts : StateTexts A) (text : List ℕ) where
  abbrev Verdicts : (one other : Bool) → (told also : List ℕ) → Type 0
  Verdicts one other told also = IsVerdict text_of a texts text one told → IsVerdict text_of a texts text other also → (one ≡ other) × (told ≡ also)

  abbrev refusal : List (Node × A) → Option Refusal
  refusal rows = refusal_of a texts.outside rows (first_row a texts text)

  -- the rows of a text are one list
  one_table : (rows more : List (Node × A)) → table_of a texts text ≡ Ok rows → table_of a texts text ≡ Ok more → rows ≡ more
  one_table rows more first second = same_ok (table_of a texts text) rows more first second

  pub one_verdict : (one other : Bool) (told also : List ℕ) → Verdicts one other told also
  one_verdict one other told also (closed rows read none book is report) (closed more again clean shut so line) =
      (is ∙ sym so, report ∙ ap (λ r. closed_report text_of (works_in a r)) (one_table rows more read again) ∙ sym line)
  one_verdict one other told also (closed rows read none book is report) (refused more why again first so line) =
      absurd (none_or_some (refusal more) why (ap refusal (sym (one_table rows more read again)) ∙ none) first)
  one_verdict one other told also (closed rows read none book is report) (faulty line fault bad so told_is) =
      absurd (not_both (table_of a texts text) rows (line, fault) read bad)
  one_verdict one other told also (refused rows why read first is line) (closed more again clean shut so report) =
      absurd (none_or_some (refusal rows) why (ap refusal (one_table rows more read again) ∙ clean) first)
  one_verdict one other told also (refused rows why read first is line) (refused more reason again second so text_is) =
      let same = same_some (refusal rows) why reason first (ap refusal (one_table rows more read again) ∙ second) in
      (is ∙ sym so, line ∙ ap (refusal_line texts.digits) same ∙ sym text_is)
  one_verdict one other told also (refused rows why read first is line) (faulty at fault bad so told_is) =
      absurd (not_both (table_of a texts text) rows (at, fault) read bad)
  one_verdict one other told also (faulty line fault bad is told_is) (closed more again clean shut so report) =
      absurd (not_both (table_of a texts text) more (line, fault) again bad)
  one_verdict one other told also (faulty line fault bad is told_is) (refused more why again first so text_is) =
      absurd (not_both (table_of a texts text) more (line, fault) again bad)
  one_verdict one other told also (faulty line fault bad is told_is) (faulty at other_fault worse so also_is) =
      let same = same_err (table_of a texts text) (line, fault) (at, other_fault) bad worse in
      (is ∙ sym so, told_is ∙ ap (λ (b : ℕ × LineFault). fault_line b.0 b.1) same ∙ sym also_is)
