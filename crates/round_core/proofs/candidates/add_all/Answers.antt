use Rattle.std.proofs.Common.{inl, inr, ◌<◌, subst, sym, arith, length, take_all}
use Rattle.std.proofs.lemmas.List.{take_more}
use Rattle.round_core.specs.Agenda.{IsIn}
use Rattle.round_core.proofs.ListLemmas.{IsIn-split}
use Rattle.round_core.proofs.candidates.add_all.Goals as goal

pub returns-in_err-add_candidate-clause-kept : goal.returns-in_err-add_candidate-clause-kept
returns-in_err-add_candidate-clause-kept c = λ p h. c.add_candidate.ensures.kept p (c.loop-place.invariant.kept p h)

pub loop-place-preserved : goal.loop-place-preserved
loop-place-preserved c =
    let a = c.in_ok-add_candidate.ensures.added in
    let inside : c.loop-place.place-index < length c.args.places.now = omega arith in
    record {
      added = λ p h. elim (IsIn-split p _ _ (subst (λ xs. IsIn p xs) (take_more c.args.places.now c.loop-place.place-index _ inside) h)) [
        | inl old ↦ c.add_candidate.ensures.kept p (c.loop-place.invariant.added p old)
        | inr last ↦ elim last [ inl e ↦ subst (λ q. IsIn q c.add_candidate.new.candidates.keys) (sym e) a | inr none ↦ absurd none ]
      ];
      kept = λ p h. c.add_candidate.ensures.kept p (c.loop-place.invariant.kept p h);
    }

pub returns-clause-added : goal.returns-clause-added
returns-clause-added c = λ p h.
    c.loop-place.invariant.added p (subst (λ xs. IsIn p xs) (sym (take_all c.loop-place.place-index c.args.places.now c.loop-place-test.false)) h)
