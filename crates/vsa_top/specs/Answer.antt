-- What the program answers to an input.
use Rattle.std.specs.Prelude.{◌≡◌, ◌≢◌, ◌⊎◌, All, Bool, true, false, if◌then◌else◌, ℕ, ◌<◌, ◌≤◌, Option, None, Some, IfSome, List, [], ◌++◌, length, codes}
use Rattle.std.specs.Fmt.{decimal}
use Rattle.ihex_read.specs.declared.fault.HexFault.{HexFault}
use Rattle.ihex_read.specs.Names.{fault_name}
use Rattle.streams.specs.Stream.{appended, AppendsPrefix}
use Rattle.analysis_limits.specs.declared.limits.Limits.{Limits}
use Rattle.chip_analysis.specs.Analysis.{Analysis}
use Rattle.closed_book.specs.Bounded.{AreBounded}
use Rattle.book_rules.specs.declared.event.Event.{Event}
use Rattle.book_rules.specs.Counts.{seat_of}
use Rattle.book_rules.specs.Machine.{replay, IsLegalJournal, IsFinished}
use Rattle.worker_rounds.specs.Turns.{AreTurns}
use Rattle.run_trace.specs.declared.trace.End.{End}
use Rattle.run_trace.specs.declared.trace.End.TheVariants as ended
use Rattle.run_trace.specs.Trace.{Ended}
use Rattle.report_bytes.specs.Deepest.{deepest_of}
use Rattle.report_bytes.specs.Report.{are_closed, counts_of, items_of, last_works, report_of_journal, reported_lines}
use Rattle.disassembly.specs.Listing.{IsDisassembly}
use Rattle.cert_text.specs.Writing.{IsCert}
use Rattle.cert_verdict.specs.Verdict.{IsVerdict}
use Rattle.book_rules.specs.Kept.{nodes_of}
use Rattle.state_text.specs.Texts.{StateTexts}
use Rattle.assert_check.specs.declared.assertion.Assertion.{Assertion}
use Rattle.item_lines.specs.Line.{item_line_of}
use Rattle.vsa_top.specs.Asserted.{AreAsserted, IsUnread, broken_in, broken_text, spaces_of, status_of_broken}
use Rattle.vsa_top.specs.Family.{family_of}
use Rattle.vsa_top.specs.Input.{InputGives, IsBad, IsTooLong, input_of}
use Rattle.vsa_top.specs.Scripts.{IsRefused, IsScript, second_limit}
use Rattle.vsa_top.specs.Summary.{summary}
use Rattle.vsa_top.specs.Mcs51.{mcs51_reads, mcs51_run}
use Rattle.vsa_top.specs.Msp430.{msp430_reads, msp430_run}
use Rattle.vsa_top.specs.Settings.{device_of}
use Rattle.vsa_words.specs.Words.{rules_of, usual_limits, usual_target, tail_of}
use Rattle.image.specs.declared.chip_name.ChipName.{ChipName}
use Rattle.vsa_top.specs.declared.outcome.Status.{Status}
use Rattle.vsa_top.specs.declared.outcome.Status.TheVariants as status
use Rattle.vsa_words.specs.declared.reading.Reading.{Reading}
use Rattle.vsa_words.specs.declared.reading.Reading.TheVariants.{Analyse, Assert, Check, Disasm, Run, Gen}
use Rattle.vsa_words.specs.declared.reading.Target.{Target}
use Rattle.vsa_words.specs.declared.reading.Task.{Task}
use Rattle.vsa_words.specs.declared.reading.Target.TheVariants.{Msp430, Mcs51}

abbrev pub usage_line : List ℕ
usage_line = codes "USAGE\n"

unfoldable pub bad_line : ℕ → HexFault → List ℕ
bad_line line fault = codes "BAD " ++ decimal line ++ codes " " ++ fault_name fault ++ codes "\n"

unfoldable pub no_line : ℕ → List ℕ
no_line line = codes "NO " ++ decimal line ++ codes " Syntax\n"

abbrev pub long_line : List ℕ
long_line = codes "LONG\n"

-- a journal of so many workers, each event of which is legal, to a finished book
pub record IsAnalysis {A : Type 0} (analysis : Analysis A) (workers : ℕ) (journal : List Event) : Type 0 where
  pub legal : IsLegalJournal analysis journal
  pub finished : IsFinished (replay analysis journal)
  pub seats : All (λ event. seat_of event < workers) journal
  pub alone : workers ≡ 1 → AreTurns journal

-- Done of a closed report, and Open of another
abbrev pub status_of_analysis : Bool → Status
status_of_analysis closed = if closed then status.Done else status.Open

-- the reply to a program that is analysed: the report of the book that the journal leads to, and Open exactly where it
-- has an open; and nodes rose and units were claimed within bounds on the way there
pub record IsAnalysed {A : Type 0} (text_of : ℕ → List ℕ → List ℕ) (analysis : Analysis A) (workers : ℕ) (replied : Status) (text : List ℕ) (journal : List Event) : Type 0 where
  pub is_analysis : IsAnalysis analysis workers journal
  pub bounded : AreBounded analysis journal
  pub status_is : replied ≡ status_of_analysis (are_closed (last_works analysis journal))
  pub text_is : text ≡ report_of_journal text_of analysis journal

abbrev pub status_of_end : End → Status
status_of_end ended.Ran = status.Done
status_of_end ended.Wild = status.Wild
status_of_end ended.NeedChoice = status.NeedChoice

-- The reply to a chip that runs along the second text, by what comes of each script: that of the script which stands there,
-- or the first line that is refused, or that there is too much.
pub data IsRun (run : List ℕ → Ended) (second : Option (List ℕ)) (replied : Status) (text : List ℕ) : Type 0 where
  ran : (script : List ℕ) → IfSome second (λ t. IsScript t script) → replied ≡ status_of_end (run script).0 → text ≡ (run script).1
      → IsRun run second replied text
  refused : (line : ℕ) → IfSome second (λ t. IsRefused t line) → replied ≡ status.BadCert → text ≡ no_line line
      → IsRun run second replied text
  longer : IfSome second (λ t. second_limit < length t) → replied ≡ status.TooLong → text ≡ long_line
      → IsRun run second replied text

-- the text is the disassembly of an image of a chip: the MSP430's instructions stand at words, and the MCS-51's at bytes
abbrev pub IsListing : Target → List (Option ℕ) → List ℕ → Type 0
IsListing (Msp430 ram) image text = IsDisassembly 2 msp430_reads image text
IsListing Mcs51 image text = IsDisassembly 1 mcs51_reads image text

-- what comes of a script, where a chip runs so many steps under an image
abbrev pub run_under : Target → (steps : ℕ) → List (Option ℕ) → (script : List ℕ) → Ended
run_under (Msp430 ram) steps image script = msp430_run (device_of ram image) script steps
run_under Mcs51 steps image script = mcs51_run image script steps

-- the reply to an image that is analysed: the report of the chip with this image, by so many workers under these limits
abbrev pub IsAnalysedOn : Target → Limits → (workers : ℕ) → List (Option ℕ) → Status → List ℕ → List Event → Type 0
IsAnalysedOn target limits workers image replied text journal =
    let f = family_of target image in IsAnalysed f.text_of (f.analysis limits) workers replied text journal

-- the text is the report, or the report with the certificate of the book behind it that the journal leads to
abbrev pub IsFollowed : {A : Type 0} → Analysis A → StateTexts A → (cert : Bool) → List Event → (report text : List ℕ) → Type 0
IsFollowed analysis texts false journal report text = text ≡ report
IsFollowed analysis texts true journal report text = (certificate : List ℕ)
    × IsCert analysis texts (nodes_of (replay analysis journal)) certificate × (text ≡ report ++ certificate)

-- the reply to a program whose report is asked for, perhaps with a certificate
pub record IsReported {A : Type 0} (text_of : ℕ → List ℕ → List ℕ) (analysis : Analysis A) (texts : StateTexts A) (workers : ℕ) (cert : Bool)
    (replied : Status) (text : List ℕ) (journal : List Event) : Type 0 where
  pub report : List ℕ
  pub analysed : IsAnalysed text_of analysis workers replied report journal
  pub followed : IsFollowed analysis texts cert journal report text

-- that of the chip with this image, by so many workers under these limits
abbrev pub IsReportedOn : Target → Limits → (workers : ℕ) → (cert : Bool) → List (Option ℕ) → Status → List ℕ → List Event → Type 0
IsReportedOn target limits workers cert image replied text journal =
    let f = family_of target image in IsReported f.text_of (f.analysis limits) f.texts workers cert replied text journal

-- The reply to a program that is analysed under assertions: its report where it leaves a site open, else what it breaks.
pub data IsDecided {A : Type 0} (text_of : ℕ → List ℕ → List ℕ) (analysis : Analysis A) (workers : ℕ) (list : List (ℕ × Assertion))
    (replied : Status) (text : List ℕ) (journal : List Event) : Type 0 where
  reported : IsAnalysis analysis workers journal → AreBounded analysis journal → are_closed (last_works analysis journal) ≡ false
      → replied ≡ status.Open → text ≡ report_of_journal text_of analysis journal → IsDecided text_of analysis workers list replied text journal
  decided : IsAnalysis analysis workers journal → AreBounded analysis journal → are_closed (last_works analysis journal) ≡ true
      → replied ≡ status_of_broken (broken_in text_of analysis list journal)
      → text ≡ broken_text (item_line_of text_of) (broken_in text_of analysis list journal)
      → IsDecided text_of analysis workers list replied text journal

-- The reply to a program with a second text: that to the assertions which stand there, or the first line that is of no
-- form, or that there is too much.
pub data IsAsserted {A : Type 0} (text_of : ℕ → List ℕ → List ℕ) (analysis : Analysis A) (task : Task)
    (second : Option (List ℕ)) (replied : Status) (text : List ℕ) (journal : List Event) : Type 0 where
  asserted : (list : List (ℕ × Assertion)) → IfSome second (λ t. AreAsserted (spaces_of task.target) t list)
      → IsDecided text_of analysis task.workers list replied text journal
      → IsAsserted text_of analysis task second replied text journal
  unread : (line : ℕ) → IfSome second (λ t. IsUnread (spaces_of task.target) t line) → replied ≡ status.BadCert → text ≡ no_line line
      → journal ≡ [] → IsAsserted text_of analysis task second replied text journal
  overlong : IfSome second (λ t. second_limit < length t) → replied ≡ status.TooLong → text ≡ long_line → journal ≡ []
      → IsAsserted text_of analysis task second replied text journal

-- the text is within the limit, and this is its verdict as a certificate
pub record IsJudged {A : Type 0} (text_of : ℕ → List ℕ → List ℕ) (analysis : Analysis A) (texts : StateTexts A) (certificate : List ℕ)
    (closed : Bool) (told : List ℕ) : Type 0 where
  pub fits : length certificate ≤ second_limit
  pub verdict : IsVerdict text_of analysis texts certificate closed told

-- Done of a closed table, and BadCert of all else
abbrev pub status_of_verdict : Bool → Status
status_of_verdict closed = if closed then status.Done else status.BadCert

-- The reply to a program with a second text: the verdict on that as a certificate, or that there is too much.
pub data IsChecked {A : Type 0} (text_of : ℕ → List ℕ → List ℕ) (analysis : Analysis A) (texts : StateTexts A)
    (second : Option (List ℕ)) (replied : Status) (text : List ℕ) : Type 0 where
  judged : (closed : Bool) → IfSome second (λ t. IsJudged text_of analysis texts t closed text)
      → replied ≡ status_of_verdict closed → IsChecked text_of analysis texts second replied text
  lengthy : IfSome second (λ t. second_limit < length t) → replied ≡ status.TooLong → text ≡ long_line
      → IsChecked text_of analysis texts second replied text

-- that of the chip with this image, under these limits
abbrev pub IsCheckedOn : Target → Limits → List (Option ℕ) → (second : Option (List ℕ)) → Status → List ℕ → Type 0
IsCheckedOn target limits image second replied text =
    let f = family_of target image in IsChecked f.text_of (f.analysis limits) f.texts second replied text

-- the summary of the report of the book that a journal leads to
abbrev pub summary_of_journal : {A : Type 0} → (ℕ → List ℕ → List ℕ) → Analysis A → ChipName → (number : ℕ) → List Event → List ℕ
summary_of_journal text_of analysis chip number journal = let works = last_works analysis journal in
    summary chip number (are_closed works) (deepest_of None (items_of works)) (counts_of (reported_lines text_of works))

-- the reply to a program that one worker analyses as a made one: the summary of its report
abbrev pub IsSummary : {A : Type 0} → (ℕ → List ℕ → List ℕ) → Analysis A → ChipName → (number : ℕ) → Status → List ℕ → List Event → Type 0
IsSummary text_of analysis chip number replied text journal =
    (report : List ℕ) × IsAnalysed text_of analysis 1 replied report journal
    × (text ≡ summary_of_journal text_of analysis chip number journal)

-- what is asked of a program that is analysed, by as many workers as the words may ask for
abbrev pub IsOfProgram : Reading → Type 0
IsOfProgram (Analyse task) = (1 ≤ task.workers) × (task.workers ≤ 16)
IsOfProgram (Assert task) = (1 ≤ task.workers) × (task.workers ≤ 16)
IsOfProgram (Check task) = Unit {0}
IsOfProgram (Gen chip number) = Unit {0}
IsOfProgram (Disasm target) = ⊥
IsOfProgram (Run target steps) = ⊥

-- the reply to it
abbrev pub IsProgramReply : {A : Type 0} → (ℕ → List ℕ → List ℕ) → Analysis A → StateTexts A → Reading
    → (second : Option (List ℕ)) → Status → List ℕ → List Event → Type 0
IsProgramReply text_of analysis texts (Analyse task) second replied text journal =
    IsReported text_of analysis texts task.workers task.cert replied text journal
IsProgramReply text_of analysis texts (Assert task) second replied text journal =
    IsAsserted text_of analysis task second replied text journal
IsProgramReply text_of analysis texts (Check task) second replied text journal =
    IsChecked text_of analysis texts second replied text × (journal ≡ [])
IsProgramReply text_of analysis texts (Gen chip number) second replied text journal =
    IsSummary text_of analysis chip number replied text journal
IsProgramReply text_of analysis texts (Disasm target) second replied text journal = ⊥
IsProgramReply text_of analysis texts (Run target steps) second replied text journal = ⊥

-- that of a chip with an image, under limits
abbrev pub IsAskedOn : Target → Limits → List (Option ℕ) → Reading → (second : Option (List ℕ)) → Status → List ℕ → List Event → Type 0
IsAskedOn target limits image reading second replied text journal =
    let f = family_of target image in IsProgramReply f.text_of (f.analysis limits) f.texts reading second replied text journal

-- the reply to an image
abbrev pub IsImageReply : Reading → List (Option ℕ) → (second : Option (List ℕ)) → Status → List ℕ → List Event → Type 0
IsImageReply (Analyse task) image second replied text journal =
    IsAskedOn task.target task.limits image (Analyse task) second replied text journal
IsImageReply (Assert task) image second replied text journal =
    IsAskedOn task.target task.limits image (Assert task) second replied text journal
IsImageReply (Check task) image second replied text journal =
    IsAskedOn task.target task.limits image (Check task) second replied text journal
IsImageReply (Gen chip number) image second replied text journal =
    IsAskedOn (usual_target chip) usual_limits image (Gen chip number) second replied text journal
IsImageReply (Disasm target) image second replied text journal = (replied ≡ status.Done) × IsListing target image text × (journal ≡ [])
IsImageReply (Run target steps) image second replied text journal =
    IsRun (run_under target steps image) second replied text × (journal ≡ [])

-- The reply to words that are a reading, over the text that the input is, where it is told: that to the image which it
-- gives, or its first faulty line, or that it is too long.
pub data IsReply (reading : Reading) (input : Option (List ℕ)) (replied : Status) (text : List ℕ) (journal : List Event) : Type 0 where
  of_image : (image : List (Option ℕ)) (second : Option (List ℕ)) → InputGives (rules_of reading) (tail_of reading) input second image
      → IsImageReply reading image second replied text journal
      → IsReply reading input replied text journal
  of_bad : (line : ℕ) (fault : HexFault) → IfSome input (λ t. IsBad (rules_of reading) (tail_of reading) t line fault)
      → replied ≡ status.BadImage → text ≡ bad_line line fault → journal ≡ [] → IsReply reading input replied text journal
  of_long : IfSome input (IsTooLong (rules_of reading) (tail_of reading))
      → replied ≡ status.TooLong → text ≡ long_line → journal ≡ [] → IsReply reading input replied text journal

-- what is written of a text that has this status: all of it, or the fault of the sink with a front of it, perhaps nothing
pub data IsWritten (replied : Status) (text : List ℕ) (answered : Status) (before after : Option (List ℕ)) : Type 0 where
  whole : answered ≡ replied → after ≡ appended before text → IsWritten replied text answered before after
  cut : answered ≡ status.WriteFault → AppendsPrefix before text after → IsWritten replied text answered before after

-- words that aren't a reading are refused, or memory isn't there to tell, and nothing is written
abbrev pub AreRefused : (answered : Status) (before after : Option (List ℕ)) → Type 0
AreRefused answered before after =
    IsWritten status.Usage usage_line answered before after ⊎ ((answered ≡ status.Memory) × (after ≡ before))

-- the answer to words that are a reading: the reply to the input or to what is made, as it was written, or a fault of the source or want of
-- memory, with nothing written
pub data Answers (reading : Reading) (answered : Status) (input before after : Option (List ℕ)) (journal : List Event) : Type 0 where
  replied : (reply : Status) (text : List ℕ) → IsReply reading (input_of reading input) reply text journal
      → IsWritten reply text answered before after
      → Answers reading answered input before after journal
  unreplied : (answered ≡ status.ReadFault) ⊎ (answered ≡ status.Memory) → after ≡ before → journal ≡ []
      → Answers reading answered input before after journal

-- a status that tells a fault, or want of memory, in place of the answer
abbrev pub IsCutShort : Status → Type 0
IsCutShort answered = (answered ≡ status.ReadFault) ⊎ (answered ≡ status.WriteFault) ⊎ (answered ≡ status.Memory)

-- a status that tells no fault of a stream
abbrev pub TellsNoFault : Status → Type 0
TellsNoFault answered = (answered ≢ status.ReadFault) × (answered ≢ status.WriteFault)

-- the answer to an image with this certificate behind it, as a whole
pub record IsVerdictOn (task : Task) (image : List (Option ℕ)) (certificate : List ℕ) (answered : Status) (before after : Option (List ℕ)) : Type 0 where
  pub told : List ℕ
  pub checked : IsCheckedOn task.target task.limits image (Some certificate) answered told
  pub written : after ≡ appended before told

-- the statuses of the replies to an image
pub data Ends : Reading → Status → Type 0 where
  closed : (task : Task) → Ends (Analyse task) status.Done
  left_open : (task : Task) → Ends (Analyse task) status.Open
  disassembled : (target : Target) → Ends (Disasm target) status.Done
  ran_on : (target : Target) (steps : ℕ) → Ends (Run target steps) status.Done
  went_wild : (target : Target) (steps : ℕ) → Ends (Run target steps) status.Wild
  lacked_a_choice : (target : Target) (steps : ℕ) → Ends (Run target steps) status.NeedChoice
  refused_script : (target : Target) (steps : ℕ) → Ends (Run target steps) status.BadCert
  summed : (chip : ChipName) (number : ℕ) → Ends (Gen chip number) status.Done
  summed_open : (chip : ChipName) (number : ℕ) → Ends (Gen chip number) status.Open
  script_too_long : (target : Target) (steps : ℕ) → Ends (Run target steps) status.TooLong
  kept_all : (task : Task) → Ends (Assert task) status.Done
  open_under_assertions : (task : Task) → Ends (Assert task) status.Open
  broke : (task : Task) → Ends (Assert task) status.Broken
  refused_assertions : (task : Task) → Ends (Assert task) status.BadCert
  assertions_too_long : (task : Task) → Ends (Assert task) status.TooLong
  certified : (task : Task) → Ends (Check task) status.Done
  refused_certificate : (task : Task) → Ends (Check task) status.BadCert
  certificate_too_long : (task : Task) → Ends (Check task) status.TooLong

-- what is analysed: the image of the input, or a made program
pub data Analyses : Reading → Type 0 where
  of_input : (task : Task) → Analyses (Analyse task)
  of_asserted : (task : Task) → Analyses (Assert task)
  of_made : (chip : ChipName) (number : ℕ) → Analyses (Gen chip number)
