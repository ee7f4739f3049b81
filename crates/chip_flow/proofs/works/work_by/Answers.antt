use Rattle.std.proofs.Common.{ap}
use Rattle.chip_flow.specs.declared.calls.CallEffect.{CallEffect}
use Rattle.chip_flow.specs.Calls.{Site}
use Rattle.chip_flow.specs.Works.{last_end}
use Rattle.chip_flow.proofs.Made.{work_made}
use Rattle.chip_flow.proofs.works.work_by.Goals as goal

pub returns : goal.returns
returns g c =
    let flow = g.F.Flow.flow c.args.flow.now in
    let pc = c.args.at.now.pc in
    let calls = c.args.at.now.calls.now in
    let frame = c.args.at.now.frame in
    let ways = c.add_instr.new.ways in
    let site : CallEffect → Site = λ effect. record { limit = flow.limit; pc = pc; calls = calls; end = last_end flow calls; frame = frame; effect = effect } in
    work_made g.F.Flow.joined flow pc calls frame c.args.at.now.state.now c.args.instr.now c.args.made (site c.effect.result) c.in_ok-items.field-0
    c.bytes-bytes.result ways.items ways.posts ways.opens
    (ap site c.effect.ensures)
    c.in_ok-items.ensures
    c.bytes-bytes.ensures
    c.in_ok-add_instr.ensures.items
    c.in_ok-add_instr.ensures.posts
    c.in_ok-add_instr.ensures.opens
