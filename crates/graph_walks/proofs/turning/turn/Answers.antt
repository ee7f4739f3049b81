use Rattle.std.proofs.Common.{◌+◌, get_or, subst, sym, take}
use Rattle.std.proofs.lemmas.Option.{slice_get-get_or}
use Rattle.graph_walks.specs.Turned.{IsTurnedRow}
use Rattle.graph_walks.proofs.ListLemmas.{value_at}
use Rattle.graph_walks.proofs.TurnLemmas.{turns_more, turns_none, turns_past}
use Rattle.graph_walks.proofs.turning.turn.Goals as goal
use Rattle.graph_walks.proofs.turning.turn.Goals.{then-not-stop-to+in_ok-add, else-not-stop-to}

pub loop-to-init : goal.loop-to-init
loop-to-init c = turns_none c.args.stop.now c.args.from c.args.row.now c.args.turned.now

pub loop-to-preserved : goal.loop-to-preserved
loop-to-preserved c =
    let stop = c.args.stop.now in
    let from = c.args.from in
    let row = c.args.row.now in
    let n = c.loop-to.to-index in
    let to = get_or row n 0 in
    let is = slice_get-get_or row n 0 c.loop-to-test.true in
    let inside = c.requires.stop n 0 c.loop-to-test.true in
    let Turned = IsTurnedRow stop from (take (n + 1) row) c.args.turned.now in
    elim c.if-not-stop-to.branch [
      | then-not-stop-to+in_ok-add w ↦
          subst Turned (sym w.turned-is) (turns_more stop from row n to c.args.turned.now c.loop-to.turned _ is
          (value_at stop to _ _ inside w.if-not-stop-to.true) c.loop-to.invariant w.in_ok-add.ensures)
      | else-not-stop-to w ↦
          subst Turned (sym w.turned-is) (turns_past stop from row n to c.args.turned.now c.loop-to.turned is (value_at stop to _ _ inside w.if-not-stop-to.false) c.loop-to.invariant)
    ]
