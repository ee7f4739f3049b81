use Rattle.std.proofs.Common.{◌≡◌, drop}
use Rattle.clap.specs.Words.{app_of}
use Rattle.vsa_words.specs.Command.{command, with_options}
use Rattle.vsa_words.proofs.command.vsa_command.Given as goal

-- the options behind the index make it the whole command
abbrev pub invariant-loop-option : goal.invariant-loop-option
invariant-loop-option l = with_options (drop l.option-index l.option-items) (app_of l.command) ≡ command
