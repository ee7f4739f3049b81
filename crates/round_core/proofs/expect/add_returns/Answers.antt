use Rattle.std.proofs.Common.{inl, inr, ◌<◌, subst, sym, arith, length, take_all}
use Rattle.std.proofs.lemmas.List.{take_more}
use Rattle.round_core.specs.Agenda.{IsIn, places_in}
use Rattle.round_core.proofs.ListLemmas.{IsIn-split}
use Rattle.round_core.proofs.expect.add_returns.Goals as goal

pub returns-in_err-add_returns_to-clause-kept : goal.returns-in_err-add_returns_to-clause-kept
returns-in_err-add_returns_to-clause-kept c = λ p h. c.add_returns_to.ensures.kept p (c.loop-frame.invariant.kept p h)

pub loop-frame-preserved : goal.loop-frame-preserved
loop-frame-preserved c =
    let inside : c.loop-frame.frame-index < length c.args.frames.now = omega arith in
    record {
      added = λ f h. elim (IsIn-split f _ _ (subst (λ xs. IsIn f xs) (take_more c.args.frames.now c.loop-frame.frame-index _ inside) h)) [
        | inl old ↦ λ x i. c.add_returns_to.ensures.kept _ (c.loop-frame.invariant.added f old x i)
        | inr last ↦ elim last [
          | inl e ↦ λ x i. c.in_ok-add_returns_to.ensures.added x (subst (λ xs. IsIn x xs) (sym c.of.ensures) (subst (λ t. IsIn x (places_in c.args.exits.now t)) e i))
          | inr none ↦ absurd none
        ]
      ];
      kept = λ p h. c.add_returns_to.ensures.kept p (c.loop-frame.invariant.kept p h);
    }

pub returns-clause-added : goal.returns-clause-added
returns-clause-added c = λ f h.
    c.loop-frame.invariant.added f (subst (λ xs. IsIn f xs) (sym (take_all c.loop-frame.frame-index c.args.frames.now c.loop-frame-test.false)) h)
