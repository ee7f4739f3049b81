use Rattle.std.proofs.Common.{◌*◌, ◌-◌, ◌+◌, ◌/◌, subst, arith}
use Rattle.disassembly.proofs.ListingLemmas.{begins, ends, passes_over, tells, one_text}
use Rattle.disassembly.specs.Listing.{IsDisassembly, shown}
use Rattle.disassembly.proofs.listing.disassembly_of.Goals as goal

pub loop-index-init : goal.loop-index-init
loop-index-init g c =
    let unit = c.unit-unit.result in
    begins unit g.C.Code.reads c.args.image.now (65536 / unit - 0) (unit * 0) c.new-lines.result.items (omega arith) (omega arith) c.new-lines.ensures.items

pub loop-index-preserved-then-at-passed : goal.loop-index-preserved-then-at-passed
loop-index-preserved-then-at-passed g c =
    let unit = c.unit-unit.result in
    let index = c.loop-index.index in
    let units = 65536 / unit in
    passes_over unit g.C.Code.reads c.args.image.now (units - index) (units - (index + 1)) (unit * index) (unit * (index + 1)) c.loop-index.passed c.loop-index.lines.items
    (omega (arith, c.loop-index-test.true)) (omega arith) c.if-at-passed.true c.loop-index.invariant

pub loop-index-preserved : goal.loop-index-preserved
loop-index-preserved g c =
    let unit = c.unit-unit.result in
    let index = c.loop-index.index in
    let units = 65536 / unit in
    tells unit g.C.Code.reads c.args.image.now (units - index) (units - (index + 1)) (unit * index) (unit * (index + 1)) c.loop-index.passed c.in_ok-passed.passed (shown c.line_at-found.result)
    c.loop-index.lines.items c.push_found.new.lines.items (omega (arith, c.loop-index-test.true)) (omega arith) c.if-at-passed.false
    c.line_at-found.ensures c.in_ok-passed.ensures.lines c.in_ok-passed.ensures.passed c.loop-index.invariant

pub returns : goal.returns
returns g c =
    let unit = c.unit-unit.result in
    let reads = g.C.Code.reads in
    let is : IsDisassembly unit reads c.args.image.now c.loop-index.lines.items =
    ends unit reads c.args.image.now (65536 / unit - c.loop-index.index) (unit * c.loop-index.index) c.loop-index.passed c.loop-index.lines.items
    (omega (arith, c.loop-index-test.false)) c.loop-index.invariant in
    let text : IsDisassembly g.C.Code.unit reads c.args.image.now c.loop-index.lines.items =
    subst (λ u. IsDisassembly u reads c.args.image.now c.loop-index.lines.items) c.unit-unit.ensures.value is in
    record { text = text; only = λ other also. one_text g.C.Code.unit reads c.one_answer.ensures c.args.image.now c.loop-index.lines.items other text also }
