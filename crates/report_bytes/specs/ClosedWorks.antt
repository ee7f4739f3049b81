-- Works that are closed, and that leave no site open, are the same: lemmas, also for the proofs of crates above.
use Rattle.std.proofs.Common.{◌≡◌, true, List, [], ◌∷◌, refl, ap, subst, ◌∙◌, inl, inr}
use Rattle.std.specs.Prelude.{ℕ, ◌&&◌}
use Rattle.chip_analysis.specs.declared.cause.Cause.{Cause}
use Rattle.chip_analysis.specs.declared.chip.Work.{Work}
use Rattle.closed_book.specs.ClosedBook.{NoneIsOpen}
use Rattle.plain_lemmas.specs.Cases.{both}
use Rattle.plain_lemmas.specs.Members.{in_cons, in_first, in_none, in_rest}
use Rattle.report_bytes.specs.Report.{are_closed, is_empty}

none_of : (opens : List (ℕ × Cause)) → is_empty opens ≡ true → opens ≡ []
none_of [] h = refl
none_of (o ∷ os) h = absurd (cc)

-- works that are closed leave none open
pub none_open : {A : Type 0} (works : List (Work A)) → are_closed works ≡ true → NoneIsOpen works
none_open [] h work k = absurd (in_none work k)
none_open (first ∷ works) h work k = let b = both (is_empty first.opens) (are_closed works) h in
    elim (in_cons first works work k) [
      | inl same ↦ subst (λ (w : Work _). w.opens ≡ []) same (none_of first.opens b.0)
      | inr rest ↦ none_open works b.1 work rest
    ]

pub all_closed : {A : Type 0} (works : List (Work A)) → NoneIsOpen works → are_closed works ≡ true
all_closed [] none = refl
all_closed (work ∷ works) none =
    let first : is_empty work.opens ≡ true = ap is_empty (none work (in_first work works)) in
    ap (λ b. b && are_closed works) first ∙ all_closed works (λ other there. none other (in_rest work works other there))
