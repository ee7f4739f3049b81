use Rattle.std.proofs.Common.{arith, refl, rules}
use Rattle.std.proofs.lemmas.List.Elements.{All-more}
use Rattle.vsa_words.specs.declared.options.OptionName.TheVariants as name
use Rattle.vsa_words.specs.Command.{every_option}
use Rattle.vsa_words.specs.Options.{IsFitting}
use Rattle.vsa_words.proofs.OptionLemmas.{fit_at_end}
use Rattle.vsa_words.proofs.options.Options.fit.Goals as goal

pub loop-option-preserved : goal.loop-option-preserved
loop-option-preserved c =
    All-more (IsFitting c.args.mode c.args.chip c.args.self.now) every_option c.loop-option.option-index name.Ram c.loop-option-test.true c.loop-option.invariant
    (search rules)

pub returns : goal.returns
returns c =
    (λ _. fit_at_end c.args.mode c.args.chip c.args.self.now c.loop-option.option-index (omega (arith, c.loop-option-test.false, c.loop-option.auto.option-index-end)) c.loop-option.invariant, λ _. refl)
