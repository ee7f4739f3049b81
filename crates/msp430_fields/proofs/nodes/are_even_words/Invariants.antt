use Rattle.std.proofs.Common.{◌≡◌, drop}
use Rattle.std.specs.List.{list_all}
use Rattle.msp430_fields.specs.Nodes.{is_even_word}
use Rattle.msp430_fields.proofs.nodes.are_even_words.Given as goal

-- those that were passed are even
abbrev pub invariant-loop-word : goal.invariant-loop-word
invariant-loop-word l = list_all is_even_word l.words ≡ list_all is_even_word (drop l.word-index l.words)
