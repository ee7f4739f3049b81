use Rattle.std.specs.List.{All}
use Rattle.std.proofs.Common.{take}
use Rattle.vsa_words.specs.Options.{IsFitting}
use Rattle.vsa_words.proofs.options.Options.fit.Given as goal

-- those in front of the index fit
abbrev pub invariant-loop-option : goal.invariant-loop-option
invariant-loop-option l = All (IsFitting l.mode l.chip l.self) (take l.option-index l.option-items)
