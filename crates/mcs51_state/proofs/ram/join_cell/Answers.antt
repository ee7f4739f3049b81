use Rattle.std.proofs.Common.{subst}
use Rattle.entry_value.specs.declared.word.Word.{Word}
use Rattle.value_set.specs.Form.{Has}
use Rattle.mcs51_state.proofs.ram.join_cell.Goals as goal

pub write_one-requires-clause-byte : goal.write_one-requires-clause-byte
write_one-requires-clause-byte g c one v has =
    c.bytes_stay_bytes.ensures.join c.read-held.result.set c.args.word.now.set c.form.ensures.normal c.form-2.ensures.normal (c.read-held.ensures.byte one) c.requires v
    (subst (λ (word : Word). Has 65536 word.set v) c.join.ensures.value has)
