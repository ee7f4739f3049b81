use Rattle.std.proofs.Common.{sym, ◌∙◌, subst}
use Rattle.value_set.specs.Form.{Has}
use Rattle.plain_lemmas.specs.Cases.{same_Some}
use Rattle.entry_value.specs.declared.word.Word.{Word as AWord}
use Rattle.irq_frames.proofs.forgetting.ForgettingRewrites.word.Goals as goal

pub returns-clause-byte : goal.returns-clause-byte
returns-clause-byte c = λ word same one v has. c.requires.byte one v (subst (λ (w : AWord). Has 65536 w.set v) (sym (same_Some same) ∙ c.plain.ensures) has)
