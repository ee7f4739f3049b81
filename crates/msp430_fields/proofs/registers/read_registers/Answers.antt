use Rattle.std.proofs.Common.{◌∙◌, [], ap, arith, refl}
use Rattle.std.proofs.lemmas.List.{length-set}
use Rattle.text_fields.specs.Fields.{named}
use Rattle.text_fields.specs.Fronts.{in_front}
use Rattle.msp430_fields.specs.Parts.{register_value}
use Rattle.msp430_fields.specs.States.{register_names}
use Rattle.msp430_fields.proofs.RegisterLemmas.{fronts_bad, fronts_begin, fronts_go_on}
use Rattle.msp430_fields.proofs.registers.read_registers.Goals as goal

pub loop-i-init : goal.loop-i-init
loop-i-init c = (refl, fronts_begin 32 (register_value c.args.framed) register_names [] c.args.text.now)

pub returns-in_default : goal.returns-in_default
returns-in_default c =
    let value = register_value c.args.framed in
    fronts_bad 32 value register_names c.loop-i.registers c.args.text.now c.loop-i.rest.now c.loop-i.i c.loop-i-test.true c.loop-i.invariant.1
    (c.in_default.ensures ∙ ap (λ name. in_front 32 (named value name) c.loop-i.rest.now) c.name_at.ensures)

pub loop-i-preserved : goal.loop-i-preserved
loop-i-preserved c =
    let value = register_value c.args.framed in (
      length-set c.loop-i.registers c.loop-i.i c.in-Some.word ∙ c.loop-i.invariant.0,
      fronts_go_on 32 value register_names c.loop-i.registers c.args.text.now c.loop-i.rest.now c.in-Some.behind.now c.loop-i.i c.in-Some.word
          c.loop-i-test.true (omega (arith, c.loop-i.invariant.0, c.loop-i-test.true)) c.loop-i.invariant.1
          (c.in-Some.ensures ∙ ap (λ name. in_front 32 (named value name) c.loop-i.rest.now) c.name_at.ensures),
    )
