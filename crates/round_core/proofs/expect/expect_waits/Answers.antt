use Rattle.std.proofs.Common.{inl, inr, ◌<◌, subst, sym, arith, length, take_all}
use Rattle.std.proofs.lemmas.List.{take_more}
use Rattle.round_core.specs.Agenda.{IsIn, places_in}
use Rattle.round_core.proofs.Cases.{on_ok_map, on_ok_always}
use Rattle.round_core.proofs.ListLemmas.{IsIn-split}
use Rattle.round_core.proofs.expect.expect_waits.Goals as goal

pub returns-in_err-add-clause-grows : goal.returns-in_err-add-clause-grows
returns-in_err-add-clause-grows c =
    let i = c.loop-frame.invariant in
    record {
      candidates = λ p h. subst (λ t. IsIn p t.keys) (sym i.candidates) h;
      waiting = λ f p h. c.add.ensures.kept f p (i.kept f p h);
      exits = λ f p h. subst (λ t. IsIn p (places_in t f)) (sym i.exits) h;
    }

pub loop-frame-preserved : goal.loop-frame-preserved
loop-frame-preserved c =
    let inside : c.loop-frame.frame-index < length c.args.frames.now = omega arith in
    record {
      added = λ f h. elim (IsIn-split f _ _ (subst (λ xs. IsIn f xs) (take_more c.args.frames.now c.loop-frame.frame-index _ inside) h)) [
        | inl old ↦ c.add.ensures.kept f _ (c.loop-frame.invariant.added f old)
        | inr last ↦ elim last [
          | inl e ↦ subst (λ t. IsIn c.args.place (places_in c.add.new.self t)) (sym e) c.in_ok-add.ensures.added
          | inr none ↦ absurd none
        ]
      ];
      kept = λ f p h. c.add.ensures.kept f p (c.loop-frame.invariant.kept f p h);
      candidates = c.loop-frame.invariant.candidates;
      exits = c.loop-frame.invariant.exits;
    }

pub returns-clause-waiting : goal.returns-clause-waiting
returns-clause-waiting c = on_ok_always _ c.add_returns.result (λ f h.
    c.loop-frame.invariant.added f (subst (λ xs. IsIn f xs) (sym (take_all c.loop-frame.frame-index c.args.frames.now c.loop-frame-test.false)) h))

pub returns-clause-returns : goal.returns-clause-returns
returns-clause-returns c = on_ok_map _ _ c.add_returns.result
    (λ added f h x k. added f h x (subst (λ t. IsIn x (places_in t f)) (sym c.loop-frame.invariant.exits) k)) c.add_returns.ensures.added

pub returns-clause-grows : goal.returns-clause-grows
returns-clause-grows c =
    let i = c.loop-frame.invariant in
    record {
      candidates = λ p h. c.add_returns.ensures.kept p (subst (λ t. IsIn p t.keys) (sym i.candidates) h);
      waiting = i.kept;
      exits = λ f p h. subst (λ t. IsIn p (places_in t f)) (sym i.exits) h;
    }
