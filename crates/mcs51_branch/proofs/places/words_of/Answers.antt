use Rattle.std.proofs.Common.{ap, ◌∙◌, subst}
use Rattle.value_bits.specs.Sets.{pair_set}
use Rattle.value_set.specs.Form.{Has}
use Rattle.mcs51_branch.proofs.places.words_of.Goals as goal

pub returns-clause-byte : goal.returns-clause-byte
returns-clause-byte c = λ v has. c.bytes_stay_bytes.ensures.pair c.args.set.now v c.form-form.ensures.normal (subst (λ words. Has 65536 words v) (c.pair.ensures.value ∙ ap (pair_set c.args.set.now) c.one.ensures.value) has)
