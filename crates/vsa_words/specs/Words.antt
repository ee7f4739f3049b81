-- What the words of the command line ask.
use Rattle.std.specs.Prelude.{◌≡◌, ℕ, ◌<◌, ◌≤◌, false, Option, None, Some, List, MatchOption, map, option_map, codes, string_bytes}
use Rattle.std.specs.Borrow.{Bor}
use Rattle.std.specs.declared.string.String.{String}
use Rattle.std.specs.declared.alloc.Global.{Global}
use Rattle.analysis_limits.specs.declared.limits.Limits.{Limits}
use Rattle.image.specs.declared.tail.Tail.{Tail}
use Rattle.image.specs.declared.tail.Tail.TheVariants.{Blank, Second}
use Rattle.image.specs.declared.chip_name.ChipName.{ChipName}
use Rattle.image.specs.declared.chip_name.ChipName.TheVariants as chip
use Rattle.image.specs.declared.ram_range.RamRange.{RamRange}
use Rattle.image.specs.declared.rule_set.Rules.{Rules}
use Rattle.image.specs.declared.rule_set.Rules.TheVariants as rules
use Rattle.image.specs.Kept.{IsRamRange}
use Rattle.vsa_words.specs.declared.numbers.Span.{Span}
use Rattle.vsa_words.specs.declared.options.Options.{Options}
use Rattle.vsa_words.specs.declared.reading.Mode.{Mode}
use Rattle.vsa_words.specs.declared.reading.Mode.TheVariants as mode
use Rattle.vsa_words.specs.declared.reading.Reading.{Reading}
use Rattle.vsa_words.specs.declared.reading.Reading.TheVariants.{Analyse, Assert, Check, Disasm, Run, Gen}
use Rattle.vsa_words.specs.declared.reading.Target.{Target}
use Rattle.vsa_words.specs.declared.reading.Target.TheVariants.{Msp430, Mcs51}
use Rattle.vsa_words.specs.declared.reading.Task.{Task}
use Rattle.vsa_words.specs.Command.{AreTaken, given}
use Rattle.vsa_words.specs.Options.{Fits, Say}

-- RAM from 0200h to 09FFh, without a mirror
abbrev pub usual : RamRange
usual = record { lo = 512; hi = 2559; mirror = None }

-- a chip with the usual RAM
abbrev pub usual_target : ChipName → Target
usual_target chip.Msp430 = Msp430 usual
usual_target chip.Mcs51 = Mcs51

-- the chip whose image is read, of a made program with the usual RAM
abbrev pub target_of : Reading → Target
target_of (Analyse task) = task.target
target_of (Assert task) = task.target
target_of (Check task) = task.target
target_of (Disasm target) = target
target_of (Run target steps) = target
target_of (Gen chip number) = usual_target chip

abbrev pub target_rules : Target → Rules
target_rules (Msp430 ram) = rules.Msp430 ram
target_rules Mcs51 = rules.Mcs51

-- the rules of an image under a reading
abbrev pub rules_of : Reading → Rules
rules_of reading = target_rules (target_of reading)

-- a run takes its script behind the image text, and assertions and a certificate stand there too
abbrev pub tail_of : Reading → Tail
tail_of (Analyse task) = Blank
tail_of (Assert task) = Second
tail_of (Check task) = Second
tail_of (Disasm target) = Blank
tail_of (Run target steps) = Second
tail_of (Gen chip number) = Blank

-- RAM ends in memory
abbrev pub EndsInMemory : Rules → Type 0
EndsInMemory (rules.Msp430 ram) = ram.hi < 65536
EndsInMemory rules.Mcs51 = Unit {0}

-- call strings of six sites, and 64 targets of an instruction
abbrev pub usual_limits : Limits
usual_limits = record { calls = 6; targets = 64 }

-- how a made program is analysed: with the usual RAM and limits, by one worker
abbrev pub usual_task : ChipName → Task
usual_task chip = record { target = usual_target chip; limits = usual_limits; workers = 1; cert = false }

-- how many steps a run has, if the words don't say
abbrev pub usual_steps : ℕ
usual_steps = 100

-- the word of a mode
abbrev pub mode_word : Mode → List ℕ
mode_word mode.Analyse = codes "analyse"
mode_word mode.Assert = codes "assert"
mode_word mode.Check = codes "check"
mode_word mode.Disasm = codes "disasm"
mode_word mode.Run = codes "run"
mode_word mode.Gen = codes "gen"

-- the word of a chip
abbrev pub chip_word : ChipName → List ℕ
chip_word chip.Msp430 = codes "msp430"
chip_word chip.Mcs51 = codes "mcs51"

abbrev pub or_else : {A : Type 0} → Option A → A → A
or_else None other = other
or_else (Some said) other = said

abbrev pub mirror_by : Option Span → Option (ℕ × ℕ)
mirror_by = option_map (λ said. (said.lo, said.hi))

-- the RAM that is said, and else the usual one, with the mirror that is said
abbrev pub ram_by : (ram mirror : Option Span) → RamRange
ram_by None mirror = record usual { mirror = mirror_by mirror }
ram_by (Some ram) mirror = record { lo = ram.lo; hi = ram.hi; mirror = mirror_by mirror }

-- the chip with what is said of its RAM
abbrev pub target_by : ChipName → Options → Target
target_by chip.Msp430 o = Msp430 (ram_by o.ram o.mirror)
target_by chip.Mcs51 o = Mcs51

-- the limits that are said, and else the usual ones
abbrev pub limits_by : (calls targets : Option ℕ) → Limits
limits_by calls targets = record { calls = or_else calls usual_limits.calls; targets = or_else targets usual_limits.targets }

-- how it is analysed: one worker does it where the options name no number, and a certificate comes where one is asked for
abbrev pub task_of : Target → Options → Task
task_of target o = record { target = target; limits = limits_by o.calls o.targets; workers = or_else o.workers 1; cert = o.cert }

-- what a mode, a chip and options ask, where they fit: a made program needs its number
abbrev pub asked : Mode → ChipName → Options → Option Reading
asked mode.Analyse chip o = Some (Analyse (task_of (target_by chip o) o))
asked mode.Assert chip o = Some (Assert (task_of (target_by chip o) o))
asked mode.Check chip o = Some (Check (task_of (target_by chip o) o))
asked mode.Disasm chip o = Some (Disasm (target_by chip o))
asked mode.Run chip o = Some (Run (target_by chip o) (or_else o.steps usual_steps))
asked mode.Gen chip o = option_map (Gen chip) o.number

-- an analysis keeps at most eight call sites and has 1 to 16 workers, and a made program has 1 to 2000 functions
abbrev pub IsBounded : Reading → Type 0
IsBounded (Analyse task) = (task.limits.calls ≤ 8) × (1 ≤ task.workers) × (task.workers ≤ 16)
IsBounded (Assert task) = (task.limits.calls ≤ 8) × (1 ≤ task.workers) × (task.workers ≤ 16)
IsBounded (Check task) = (task.limits.calls ≤ 8) × (1 ≤ task.workers) × (task.workers ≤ 16)
IsBounded (Gen chip number) = (1 ≤ number) × (number ≤ 2000)
IsBounded (Disasm target) = Unit {0}
IsBounded (Run target steps) = Unit {0}

-- what is asked, where RAM and its mirror stand where the chip lets them
abbrev pub IsAllowed : (asked found : Option Reading) → Type 0
IsAllowed asked found =
    MatchOption found ((reading : Reading) → asked ≡ Some reading → IsRamRange (rules_of reading) → ⊥)
    (λ reading. (asked ≡ Some reading) × IsRamRange (rules_of reading))

-- A mode, a chip and options ask this reading: both have the options, and RAM and its mirror stand where the chip lets them.
pub record Ask (mode : Mode) (chip : ChipName) (options : Options) (reading : Reading) : Type 0 where
  pub fit : Fits mode chip options
  pub is : asked mode chip options ≡ Some reading
  pub stands : IsRamRange (rules_of reading)

-- the words ask this reading: the command takes them, and the mode, the chip and the options that it gives ask it
pub record Reads (words : List (String Global)) (reading : Reading) : Type 0 where
  pub taken : AreTaken (map string_bytes words)
  pub mode : Mode
  pub chip : ChipName
  pub options : Options
  pub mode_is : given (map string_bytes words) (codes "mode") ≡ Some (mode_word mode)
  pub chip_is : given (map string_bytes words) (codes "chip") ≡ Some (chip_word chip)
  pub say : Say (given (map string_bytes words)) options
  pub ask : Ask mode chip options reading

-- the one reading of the words, or that they have none
abbrev pub IsOnlyReading : List (String Global) → Option Reading → Type 0
IsOnlyReading words found =
    MatchOption found ((reading : Reading) → Reads words reading → ⊥)
    (λ reading. Reads words reading × ((other : Reading) → Reads words other → other ≡ reading))

-- what is found of a mode, a chip and options, where all are there
abbrev pub IsAsked : Option Mode → Option ChipName → Option Options → Option Reading → Type 0
IsAsked (Some mode) (Some chip) (Some options) found =
    MatchOption found ((reading : Reading) → Ask mode chip options reading → ⊥) (Ask mode chip options)
IsAsked (Some mode) (Some chip) None found = found ≡ None
IsAsked (Some mode) None options found = found ≡ None
IsAsked None chip options found = found ≡ None

-- the text that a reference shows, where it is there
abbrev pub text_of : Option (Bor (List ℕ)) → Option (List ℕ)
text_of = option_map (λ text. text.now)
