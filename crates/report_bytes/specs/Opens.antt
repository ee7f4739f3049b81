-- The lines of opens, without their line feeds.
use Rattle.std.specs.Prelude.{ℕ, List, ◌++◌, codes}
use Rattle.chip_analysis.specs.declared.cause.Cause.{Cause}
use Rattle.chip_analysis.specs.declared.cause.Cause.TheVariants.{Fetch, Targets, Store}
use Rattle.hex_digits.specs.Digits.{hex}
use Rattle.item_lines.specs.Line.{word_set_text}

-- the line of an open at a place
abbrev pub open_line_of : ℕ → Cause → List ℕ
open_line_of pc Fetch = codes "O " ++ hex 4 pc ++ codes " Fetch"
open_line_of pc (Targets values) = codes "O " ++ hex 4 pc ++ codes " Targets " ++ word_set_text values
open_line_of pc (Store values) = codes "O " ++ hex 4 pc ++ codes " Store " ++ word_set_text values
