use Rattle.std.proofs.Common.{◌≡◌, [], ap, arith, length, subst, sym}
use Rattle.fact_table.specs.Seats.{AreOutTo}
use Rattle.fact_table.specs.Named.{table_of}
use Rattle.worker_crew.specs.Turns.{Serves, units_of}
use Rattle.worker_crew.proofs.Turns.{no_tickets, ready_served, serves_not, serves_then}
use Rattle.worker_crew.proofs.worker.work.Goals as goal

pub loop-init : goal.loop-init
loop-init g c =
    let none = c.new-tickets.ensures.items in
    let count : length c.new-tickets.result.items ≡ 0 = ap length none in
    record {
      ready = c.requires.ready;
      serves = subst (λ ts. Serves [] (units_of ts) c.args.seat c.args.seat) (sym none) (serves_not [] c.args.seat);
      out = subst (λ ts. AreOutTo g.C.Chip.analysis c.args.seat ts) (sym none)
          (no_tickets g.C.Chip.analysis (table_of c.args.table.now) (g.C.Chip.base c.args.chip.now) c.args.seat c.requires.ready);
      few = omega arith;
    }

pub loop-preserved : goal.loop-preserved
loop-preserved g c =
    let was = c.loop.invariant in
    let a = units_of c.loop.tickets.items in
    let b = units_of c.in-Ok-default-false.next.items in
    let goes = c.in-Ok-default-false.ensures.goes_on in
    record {
      ready = ready_served (table_of c.args.table.now) (g.C.Chip.base c.args.chip.now) a b c.loop.seat c.turn.new.seat goes.serves was.ready;
      serves = serves_then [] a b c.args.seat c.loop.seat c.turn.new.seat was.serves goes.serves;
      out = goes.out;
      few = goes.few;
    }

pub returns-in-Err : goal.returns-in-Err
returns-in-Err g c =
    serves_then [] (units_of c.loop.tickets.items) [] c.args.seat c.loop.seat c.turn.new.seat c.loop.invariant.serves c.in-Err.ensures.ended

pub returns-in-Ok-default-true : goal.returns-in-Ok-default-true
returns-in-Ok-default-true g c =
    let a = units_of c.loop.tickets.items in
    let goes = c.in-Ok-default-true.ensures.goes_on in
    let none = c.in-Ok-default-true.ensures.finished c.in-Ok-default-true.field-0-1-test in
    serves_then [] a [] c.args.seat c.loop.seat c.turn.new.seat c.loop.invariant.serves
    (subst (λ ts. Serves a (units_of ts) c.loop.seat c.turn.new.seat) none goes.serves)
