use Rattle.std.proofs.Common.{◌≡◌, drop}
use Rattle.std.specs.List.{list_all}
use Rattle.mcs51_fields.specs.Nodes.{is_word}
use Rattle.mcs51_fields.proofs.nodes.keep_words.Given as goal

-- those that were passed are words
abbrev pub invariant-loop-word : goal.invariant-loop-word
invariant-loop-word l = list_all is_word l.words ≡ list_all is_word (drop l.word-index l.words)
