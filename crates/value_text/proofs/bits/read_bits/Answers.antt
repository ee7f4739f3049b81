use Rattle.std.proofs.Common.{◌∙◌, arith}
use Rattle.std.proofs.lemmas.List.{length-set}
use Rattle.value_text.proofs.BitLemmas.{bits_bad, bits_step}
use Rattle.value_text.proofs.bits.read_bits.Goals as goal

pub returns-in_default : goal.returns-in_default
returns-in_default g c = bits_bad g.row.N c.loop-i.i c.args.text.now (omega (arith, c.if-text.false)) c.loop-i-test.true c.in_default.ensures

pub loop-i-preserved : goal.loop-i-preserved
loop-i-preserved g c = (
  length-set c.loop-i.bits _ _ ∙ c.loop-i.invariant.0,
  bits_step g.row.N c.loop-i.i c.loop-i.bits c.args.text.now c.in-Some.bit c.loop-i.invariant.0
      (omega (arith, c.if-text.false)) c.loop-i-test.true c.loop-i.invariant.1 c.in-Some.ensures,
)
