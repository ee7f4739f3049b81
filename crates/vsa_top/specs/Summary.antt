-- What is told of a made program in place of its report.
use Rattle.std.specs.Prelude.{ℕ, Bool, Option, List, ◌++◌, codes, ◌∷◌}
use Rattle.std.specs.Fmt.{decimal}
use Rattle.image.specs.declared.chip_name.ChipName.{ChipName}
use Rattle.report_bytes.specs.Report.{head_line, summary_line}
use Rattle.report_bytes.specs.declared.deepest.Deepest.{Deepest}
use Rattle.report_bytes.specs.declared.lines.Counts.{Counts}
use Rattle.vsa_words.specs.Words.{chip_word}

unfoldable pub count_line : (letter count : ℕ) → List ℕ
count_line letter count = letter ∷ codes " " ++ decimal count ++ codes "\n"

-- a line for each kind of lines: E, I, M, O and S
abbrev pub count_lines : Counts → List ℕ
count_lines counts = count_line 69 counts.edges ++ count_line 73 counts.instrs ++ count_line 77 counts.accesses
    ++ count_line 79 counts.opens ++ count_line 83 counts.stacks

-- what is made, the report's first line, the numbers of its E, I, M, O and S lines, and its T line, which is its last one
abbrev pub summary : ChipName → (number : ℕ) → (closed : Bool) → Option Deepest → Counts → List ℕ
summary chip number closed deepest counts = codes "GEN " ++ chip_word chip ++ codes " " ++ decimal number ++ codes "\n"
    ++ head_line closed ++ count_lines counts ++ summary_line deepest counts.whole
