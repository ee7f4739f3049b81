use Rattle.std.proofs.Common.{◌∙◌, ◌<◌, ap, inl, inr, sym, subst, arith, length, take, take_all, ◌++◌, ◌∷◌, []}
use Rattle.std.proofs.lemmas.List.{take_more}
use Rattle.round_core.specs.Agenda.{IsIn}
use Rattle.round_core.specs.Expected.{ExpectsNode}
use Rattle.round_core.specs.declared.raised.Risen.{Risen}
use Rattle.round_core.proofs.ExpectLemmas.{grows-then, node-later, node-earlier}
use Rattle.round_core.proofs.ListLemmas.{IsIn-split}
use Rattle.round_core.proofs.expect.expect_raised.Goals as goal

pub returns-in_err-expect_node-clause-grows : goal.returns-in_err-expect_node-clause-grows
returns-in_err-expect_node-clause-grows g c =
    grows-then c.args.agenda.now c.loop-risen.agenda c.expect_node.new.agenda c.loop-risen.invariant.grows c.expect_node.ensures.grows

pub loop-risen-preserved : goal.loop-risen-preserved
loop-risen-preserved g c =
    let done = c.args.works.now.rows in
    let rows = c.args.raised.now in
    let i = c.loop-risen.risen-index in
    let x = c.risen-item.result in
    let old = c.args.agenda.now in
    let mid = c.loop-risen.agenda in
    let new = c.expect_node.new.agenda in
    let k = c.loop-risen.invariant in
    let inside : i < length rows = omega arith in
    record {
      grows = grows-then old mid new k.grows c.expect_node.ensures.grows;
      expected = λ r h. elim (IsIn-split r (take i rows) (x ∷ []) (subst (λ t. IsIn r t) (take_more rows i x inside ∙ ap (λ y. take i rows ++ y ∷ []) (sym c.risen-item.is)) h)) [
        | inl before ↦ node-later done old mid new r.node r.place c.expect_node.ensures.grows (k.expected r before)
        | inr last ↦ elim last [
          | inl e ↦ subst (λ (y : Risen _). ExpectsNode done old new y.node y.place) (sym e) (node-earlier done old mid new x.node x.place k.grows c.in_ok-expect_node.ensures.expected)
          | inr none ↦ absurd none
        ]
      ];
    }

pub returns-clause-expected : goal.returns-clause-expected
returns-clause-expected g c = λ r h.
    c.loop-risen.invariant.expected r (subst (λ t. IsIn r t) (sym (take_all c.loop-risen.risen-index c.args.raised.now c.loop-risen-test.false)) h)
