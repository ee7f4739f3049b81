-- The text of assertions. Its lines are cut as those of an image text are. A line is blank, or it is of one of the forms
--     noexec LO-HI · noread SPACE LO-HI · nowrite SPACE LO-HI · stack FROM-TO LO-HI
-- with numbers of four hexadecimal digits in either case, where no range ends before it begins.
use Rattle.std.specs.Prelude.{ℕ, suc, nat_le, nat_eq, if◌then◌else◌, Option, None, Some, Result, Ok, Err, option_and_then, option_map, List, [], ◌∷◌, ◌++◌, codes, find, ◌≡◌}
use Rattle.std.specs.Option.{option_map_or}
use Rattle.std.specs.Cmp.Lexicographic.{pointwise}
use Rattle.item_lines.specs.Line.{space_text}
use Rattle.chip_numbers.specs.declared.space.Space.{Space}
use Rattle.text_lines.specs.Lines.{lines_of}
use Rattle.hex_digits.specs.EitherCase.{word_in_either_case}
use Rattle.text_fields.specs.Fields.{behind, cut_at}
use Rattle.assert_check.specs.declared.assertion.Assertion.{Assertion}
use Rattle.assert_check.specs.declared.assertion.Assertion.TheVariants.{NoExec, NoRead, NoWrite, Stack}
use Rattle.assert_check.specs.declared.lines.AssertError.{AssertError}
use Rattle.assert_check.specs.declared.lines.AssertError.TheVariants.{Syntax, Memory}

-- A LINE

-- the numbers of a range, where it doesn't end before it begins
abbrev pub range_from : (lo hi : Option ℕ) → Option (ℕ × ℕ)
range_from (Some lo) (Some hi) = if nat_le lo hi then Some (lo, hi) else None
range_from lo hi = None

-- two numbers with a hyphen between
abbrev pub range_of : List ℕ → Option (ℕ × ℕ)
range_of text = option_and_then (λ parts. range_from (word_in_either_case parts.0) (word_in_either_case parts.1)) (cut_at 45 text)

abbrev pub no_exec : List ℕ → Option Assertion
no_exec text = option_map (λ range. NoExec range.0 range.1) (range_of text)

-- the first of these spaces that has the name
abbrev pub space_of : List Space → List ℕ → Option Space
space_of spaces name = find (λ space. pointwise nat_eq (space_text space) name) spaces

-- a space, and a range in it
abbrev pub place_from : Option Space → Option (ℕ × ℕ) → Option (Space × (ℕ × ℕ))
place_from (Some space) (Some range) = Some (space, range)
place_from space range = None

abbrev pub place_of : List Space → List ℕ → Option (Space × (ℕ × ℕ))
place_of spaces text = option_and_then (λ parts. place_from (space_of spaces parts.0) (range_of parts.1)) (cut_at 32 text)

abbrev pub no_read : List Space → List ℕ → Option Assertion
no_read spaces text = option_map (λ place. NoRead place.0 place.1.0 place.1.1) (place_of spaces text)

abbrev pub no_write : List Space → List ℕ → Option Assertion
no_write spaces text = option_map (λ place. NoWrite place.0 place.1.0 place.1.1) (place_of spaces text)

abbrev pub stack_from : (pcs sps : Option (ℕ × ℕ)) → Option Assertion
stack_from (Some pcs) (Some sps) = Some (Stack pcs.0 pcs.1 sps.0 sps.1)
stack_from pcs sps = None

abbrev pub stack : List ℕ → Option Assertion
stack text = option_and_then (λ parts. stack_from (range_of parts.0) (range_of parts.1)) (cut_at 32 text)

-- what a line asserts of a chip with these spaces
abbrev pub assertion_of : List Space → List ℕ → Option Assertion
assertion_of spaces line =
    option_map_or no_exec (behind (codes "noexec ") line)
    (option_map_or (no_read spaces) (behind (codes "noread ") line)
    (option_map_or (no_write spaces) (behind (codes "nowrite ") line)
    (option_map_or stack (behind (codes "stack ") line) None)))

-- A TEXT

-- a line with this number, in front of what others gave
abbrev pub onto : (number : ℕ) → Option Assertion → Result (List (ℕ × Assertion)) ℕ → Result (List (ℕ × Assertion)) ℕ
onto number (Some assertion) (Ok list) = Ok ((number, assertion) ∷ list)
onto number (Some assertion) (Err line) = Err line
onto number None others = Err number

-- the assertions of lines behind so many others, each with the number of its line, or the first line that is of no form
abbrev pub assertions_behind : List Space → (count : ℕ) → List (List ℕ) → Result (List (ℕ × Assertion)) ℕ
assertions_behind spaces count [] = Ok []
assertions_behind spaces count ([] ∷ lines) = assertions_behind spaces (suc count) lines
assertions_behind spaces count ((b ∷ bytes) ∷ lines) =
    onto (suc count) (assertion_of spaces (b ∷ bytes)) (assertions_behind spaces (suc count) lines)

-- the assertions of a text, or its first line that is of no form, counted from 1
abbrev pub assertions_of : List Space → List ℕ → Result (List (ℕ × Assertion)) ℕ
assertions_of spaces text = assertions_behind spaces 0 (lines_of text)

-- more assertions in front
abbrev pub with_front : List (ℕ × Assertion) → Result (List (ℕ × Assertion)) ℕ → Result (List (ℕ × Assertion)) ℕ
with_front front (Ok list) = Ok (front ++ list)
with_front front (Err line) = Err line

-- what an error tells of the next line behind so many others
abbrev pub TellsLine : List Space → (count : ℕ) → List ℕ → AssertError → Type 0
TellsLine spaces count line (Syntax refused) = (lines : List (List ℕ)) → assertions_behind spaces count (line ∷ lines) ≡ Err refused
TellsLine spaces count line Memory = Unit {0}

-- what an error tells of a text: nothing where memory ran out
abbrev pub Tells : List Space → List ℕ → AssertError → Type 0
Tells spaces text (Syntax line) = assertions_of spaces text ≡ Err line
Tells spaces text Memory = Unit {0}
