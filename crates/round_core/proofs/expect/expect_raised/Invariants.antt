use Rattle.std.proofs.Common.{take}
use Rattle.round_core.specs.Agenda.{IsIn}
use Rattle.round_core.specs.Expected.{Grows, ExpectsNode}
use Rattle.round_core.specs.declared.raised.Risen.{Risen}
use Rattle.round_core.proofs.expect.expect_raised.Given as goal

abbrev pub invariant-loop-risen : goal.invariant-loop-risen
invariant-loop-risen g l = record {
  grows : Grows l.fn.agenda l.agenda;
  expected : (r : Risen _) → IsIn r (take l.risen-index l.raised) → ExpectsNode l.works.rows l.fn.agenda l.agenda r.node r.place;
}
