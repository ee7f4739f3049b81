use Rattle.std.proofs.Common.{ℕ, ◌<◌, None, sym, subst}
use Rattle.entry_value.specs.declared.word.Word.{Word}
use Rattle.value_set.specs.Form.{Has}
use Rattle.msp430_alu.proofs.WrittenWords.{single_byte}
use Rattle.msp430_alu.proofs.worked.single_result.Goals as goal

pub returns-clause-byte : goal.returns-clause-byte
returns-clause-byte c = λ e.
    subst (λ (word : Word). (v : ℕ) → Has 65536 word.set v → v < 256) (sym c.single_made.ensures.word)
    (single_byte c.instruction_laws.ensures c.args.operation c.args.width c.args.operand.now c.args.carry None c.requires c.keeps_form.ensures e)
