use denote.Param.{param}
use denote.Param.Send.{IsSend, IsSync, sendable}
use Rattle.std.proofs.Crossing.{crosses}
use Rattle.fact_table.proofs.Sent.{facts_send, shared_sync}
use Rattle.turn_table.proofs.seat.Seat.TheSendSync.{the_send as seat_send}
use Rattle.worker_crew.proofs.calls.Calls.TheSendSync.{the_sync as calls_sync}
use Rattle.worker_crew.proofs.crew.+crew.Lts-work_beside.{arg-2-1}
use Rattle.worker_crew.proofs.crew.+crew.Given.{Over}
use Rattle.std.proofs.Common.{refl, sym, subst}
use Rattle.turn_table.specs.Shown.{seats_known}
use Rattle.worker_crew.specs.Turns.{EachAnswered}
use Rattle.worker_crew.proofs.Turns.{joined_answered, works_answered}
use Rattle.worker_crew.proofs.crew.+crew.Goals as goal

-- what the helper's closure captures may go to another thread
help_send : (g : Over) (κs : _) → IsSync (param 0 g.row.R) → IsSync (param 1 g.row.C) → IsSync (param 2 g.row.G)
    → IsSend (param 4 g.row.C-Abs)
    → IsSend (param 1 (arg-2-1 g.row.R g.row.C g.row.G g.row.C-Base g.row.C-Abs g.R.laws g.C.laws g.G.laws g.C.Base.laws g.C.Abs.laws g.R.Threads g.R.Threads-dict g.R.Wait g.R.Wait-dict g.C.Chip g.C.Chip-dict g.G.Gate g.G.Gate-dict g.C.Base.Destruct-dict g.C.Abs.Destruct-dict κs))
help_send g κs r c gate a = search (sendable, crosses, calls_sync, shared_sync, facts_send, seat_send) depth 40

pub join-helper-requires-send-F : goal.join-helper-requires-send-F
join-helper-requires-send-F g t c κs within =
    let threads = c.requires.threads in help_send g κs threads.0 threads.2 threads.3 threads.5

pub join-helper-requires-send-A : goal.join-helper-requires-send-A
join-helper-requires-send-A g t c κs within = search (sendable, crosses, seat_send, facts_send) depth 40

-- the helper begins with no events of its own, and the seat keeps those that it has
pub returns-clause-answered : goal.returns-clause-answered
returns-clause-answered g t c = λ known.
    let own : EachAnswered (seats_known c.split-helper.new.seat) = subst (λ s. EachAnswered (seats_known s)) (sym c.split-helper.ensures.seat) known in
    let new : EachAnswered (seats_known c.split-helper.result) = subst (λ s. EachAnswered (seats_known s)) (sym c.split-helper.ensures.new) (refl, tt) in
    let helped = works_answered c.split-helper.result c.join-helper.result.0 c.join-helper.ensures.first new in
    subst (λ s. EachAnswered (seats_known s)) (sym c.join.ensures.seat)
    (joined_answered c.join-helper.result.1 c.join-helper.result.0 (c.join-helper.ensures.second.1 own) helped)
