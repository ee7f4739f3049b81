-- What is answered to assertions, which stand behind an image text.
use Rattle.std.specs.Prelude.{◌≡◌, ◌≤◌, ◌<◌, ℕ, Option, Ok, Err, List, [], ◌∷◌, ◌++◌, codes, flat_map, length}
use Rattle.std.specs.Fmt.{decimal}
use Rattle.assert_check.specs.Assertions.{broken_of}
use Rattle.assert_check.specs.Holding.{Holds}
use Rattle.assert_check.specs.Lines.{assertions_of}
use Rattle.assert_check.specs.declared.assertion.Assertion.{Assertion}
use Rattle.assert_check.specs.declared.deciding.Broken.{Broken}
use Rattle.assert_check.specs.declared.lines.AssertError.{AssertError}
use Rattle.assert_check.specs.declared.lines.AssertError.TheVariants as assert_error
use Rattle.call_context.specs.declared.shown.Item.{Item}
use Rattle.chip_analysis.specs.Analysis.{Analysis}
use Rattle.item_lines.specs.Line.{item_line_of}
use Rattle.chip_numbers.specs.declared.space.Space.{Space}
use Rattle.chip_numbers.specs.declared.space.Space.TheVariants.{Mem, Ram, Sfr, Xram, Code}
use Rattle.report_bytes.specs.Report.{last_works}
use Rattle.book_rules.specs.declared.event.Event.{Event}
use Rattle.vsa_top.specs.Family.{family_of}
use Rattle.vsa_top.specs.Scripts.{second_limit}
use Rattle.vsa_top.specs.declared.outcome.Status.{Status}
use Rattle.vsa_top.specs.declared.outcome.Status.TheVariants as status
use Rattle.vsa_top.specs.declared.script.ScriptRefusal.{ScriptRefusal}
use Rattle.vsa_top.specs.declared.script.ScriptRefusal.TheVariants as refusal
use Rattle.vsa_top.specs.declared.second.SecondError.{SecondError}
use Rattle.vsa_top.specs.declared.second.SecondError.TheVariants as second_error
use Rattle.vsa_words.specs.declared.reading.Target.{Target}
use Rattle.vsa_words.specs.declared.reading.Target.TheVariants.{Msp430, Mcs51}

-- the spaces of a chip's addresses
abbrev pub spaces_of : Target → List Space
spaces_of (Msp430 ram) = Mem ∷ []
spaces_of Mcs51 = Ram ∷ Sfr ∷ Xram ∷ Code ∷ []

-- THE SECOND TEXT

-- the text is within the limit, and has these assertions
pub record AreAsserted (spaces : List Space) (text : List ℕ) (list : List (ℕ × Assertion)) : Type 0 where
  pub fits : length text ≤ second_limit
  pub read : assertions_of spaces text ≡ Ok list

-- the text is within the limit, and this is its first line that is of no form
pub record IsUnread (spaces : List Space) (text : List ℕ) (line : ℕ) : Type 0 where
  pub fits : length text ≤ second_limit
  pub refused : assertions_of spaces text ≡ Err line

-- what is told of a text that gives no assertions; a source that fails and want of memory tell nothing
abbrev pub LacksAssertions : List Space → List ℕ → ScriptRefusal → Type 0
LacksAssertions spaces text (refusal.Syntax line) = IsUnread spaces text line
LacksAssertions spaces text refusal.TooLong = second_limit < length text
LacksAssertions spaces text refusal.Failed = Unit {0}
LacksAssertions spaces text refusal.Memory = Unit {0}

-- what a reader's error is called here
abbrev pub refusal_of : AssertError → ScriptRefusal
refusal_of (assert_error.Syntax line) = refusal.Syntax line
refusal_of assert_error.Memory = refusal.Memory

-- what a text that isn't read is called here
abbrev pub unread_of : SecondError → ScriptRefusal
unread_of second_error.Failed = refusal.Failed
unread_of second_error.Memory = refusal.Memory
unread_of second_error.TooLong = refusal.TooLong

-- THE ANSWER

abbrev pub status_of_broken : List Broken → Status
status_of_broken [] = status.Done
status_of_broken (b ∷ broken) = status.Broken

abbrev pub fails_line : (line_of : Item → List ℕ) → Broken → List ℕ
fails_line line_of b = codes "FAILS " ++ decimal b.line ++ codes " " ++ line_of b.item ++ codes "\n"

-- HOLDS, or each assertion that is broken: the number of its line, and the line of the report that breaks it
abbrev pub broken_text : (line_of : Item → List ℕ) → List Broken → List ℕ
broken_text line_of [] = codes "HOLDS\n"
broken_text line_of (b ∷ broken) = flat_map (fails_line line_of) (b ∷ broken)

-- what the last works of the book that a journal leads to break, where instructions have these texts
abbrev pub broken_in : {A : Type 0} → (text_of : ℕ → List ℕ → List ℕ) → Analysis A → List (ℕ × Assertion) → List Event → List Broken
broken_in text_of analysis list journal =
    broken_of (item_line_of text_of) list (flat_map (λ work. work.items) (last_works analysis journal))

-- WHAT IT SAYS OF EVERY RUN

-- the assertions hold of every run of the chip with this image
abbrev pub HoldOn : Target → List (Option ℕ) → List (ℕ × Assertion) → Type 0
HoldOn target image list = Holds (family_of target image).machine list
