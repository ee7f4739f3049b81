use Rattle.std.proofs.Common.{ℕ, ◌<◌, sym, subst}
use Rattle.entry_value.specs.declared.word.Word.{Word}
use Rattle.value_set.specs.Form.{Has}
use Rattle.msp430_alu.proofs.WrittenWords.{double_byte, twice_byte}
use Rattle.msp430_alu.proofs.worked.double_result.Goals as goal

pub returns-then-is_doubled-clause-byte : goal.returns-then-is_doubled-clause-byte
returns-then-is_doubled-clause-byte c = λ e.
    subst (λ (word : Word). (v : ℕ) → Has 65536 word.set v → v < 256) (sym c.twice_made.ensures.word)
    (twice_byte c.instruction_laws.ensures c.args.width c.args.destination.now c.relation_of-entry.result c.keeps_form-2.ensures e)

pub returns-clause-byte : goal.returns-clause-byte
returns-clause-byte c = λ e.
    subst (λ (word : Word). (v : ℕ) → Has 65536 word.set v → v < 256) (sym c.double_made.ensures.word)
    (double_byte c.instruction_laws.ensures c.args.operation c.args.width c.args.source.now c.args.destination.now c.args.carry c.relation_of-entry.result c.keeps_form.ensures c.keeps_form-2.ensures e)
