use Rattle.std.proofs.Common.{◌≡◌, ◌-◌, ◌∙◌, ap, arith}
use Rattle.fact_table.specs.Named.{table_of}
use Rattle.worker_crew.proofs.Turns.{answered_more, ready_later, takes_in_more, works_answered, works_take_in}
use Rattle.worker_crew.proofs.crew.work_through.Goals as goal

pub loop-init : goal.loop-init
loop-init g c =
    let old = c.args.seat in
    let seat = c.work-seat.result in
    let takes_in = works_take_in (table_of c.args.table.now) (g.C.Chip.base c.args.chip.now) old seat c.requires.ready c.work-seat.ensures in
    let same : seat.room ≡ old.room = ap (λ s. s.room) c.work-seat.ensures.seat in
    let room = c.requires.room in
    record {
      ready = ready_later (table_of c.args.table.now) (g.C.Chip.base c.args.chip.now) old seat c.requires.ready takes_in;
      room = omega arith;
      takes_in = takes_in;
      answered = works_answered old seat c.work-seat.ensures;
    }

pub split-other-requires-clause-room : goal.split-other-requires-clause-room
split-other-requires-clause-room g c =
    let room = c.loop.invariant.room in
    let below = c.loop-test.true in
    omega arith

pub loop-preserved : goal.loop-preserved
loop-preserved g c =
    let was = c.loop.seat in
    let split = c.split-other.new.seat in
    let new = c.split-other.result in
    let other = c.work-other.result in
    let seat = c.join.new.seat in
    let takes_in = takes_in_more c.args.seat was split new other seat c.loop.invariant.takes_in c.split-other.ensures.seat c.split-other.ensures.new
    c.work-other.ensures c.join.ensures.seat c.join.ensures.begins.0 in
    let same : seat.room ≡ was.room - 1 = ap (λ s. s.room) c.join.ensures.seat ∙ ap (λ s. s.room) c.split-other.ensures.seat in
    let room = c.loop.invariant.room in
    let below = c.loop-test.true in
    record {
      ready = ready_later (table_of c.args.table.now) (g.C.Chip.base c.args.chip.now) c.args.seat seat c.requires.ready takes_in;
      room = omega arith;
      takes_in = takes_in;
      answered = λ known. answered_more was split new other seat c.split-other.ensures.seat c.split-other.ensures.new c.work-other.ensures
          c.join.ensures.seat (c.loop.invariant.answered known);
    }
