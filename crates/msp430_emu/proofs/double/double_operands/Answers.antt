use Rattle.std.proofs.Common.{arith}
use Rattle.msp430_chip.specs.Registers.{set_pc}
use Rattle.msp430_emu.proofs.DoubleLemmas.{double_asks}
use Rattle.msp430_emu.proofs.double.double_operands.Goals as goal

pub returns-clause-exact : goal.returns-clause-exact
returns-clause-exact c =
    let here = c.args.here.now in
    let two = c.args.two in
    double_asks here.layout.now here.s.now here.len two.operation two.width two.source two.destination
    _ _ _ _ _ _ _ _ _ _ _ _ _ _ _
    c.in_ok-before.ensures.exact c.source_place-origin.ensures c.grown-registers.ensures.value c.destination_place-place.ensures
    c.in_ok-x.ensures.exact c.in_ok-y.ensures.exact c.in_ok-bits.ensures.exact c.behind.ensures
    c.with_free_bits.ensures.value c.with_free_bits-2.ensures.value

pub returns-clause-form : goal.returns-clause-form
returns-clause-form c =
    let form = c.requires.here.registers in
    let counted = c.in_ok-before.field-0 in
    let before = set_pc c.args.here.now.s.now.registers counted form (omega arith) c.in_ok-before.ensures.even in
    set_pc c.grown-registers.result c.behind.result (c.grown-registers.ensures.form before) (omega arith)
    (omega (arith, c.behind.ensures, c.requires.here.even, form.even_pc))
