use Rattle.std.proofs.Common.{◌∙◌, ap, ap₂}
use Rattle.clap.specs.Words.{app_of, with_rule}
use Rattle.vsa_words.specs.Command.{command, every_option, rule_by, with_options}
use Rattle.vsa_words.proofs.OptionLemmas.{with_options-next}
use Rattle.vsa_words.proofs.command.vsa_command.Goals as goal

pub loop-option-init : goal.loop-option-init
unfolding command
loop-option-init c = ap (with_options every_option) c.in_ok-command.ensures

pub loop-option-preserved : goal.loop-option-preserved
loop-option-preserved c =
    let old = app_of c.loop-option.command in
    let made = c.arg_of.ensures.rule ∙ ap₂ rule_by c.value.ensures c.word.ensures in
    with_options-next every_option c.loop-option.option-index old (app_of c.in_ok-command-2.command) command c.loop-option-test.true
    (c.in_ok-command-2.ensures.shape c.arg_of.ensures.local ∙ ap (with_rule old) made) c.loop-option.invariant
