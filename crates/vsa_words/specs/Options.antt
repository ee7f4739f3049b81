-- The options of the command line, one by one, and what they say.
use Rattle.std.specs.Prelude.{◌≡◌, ℕ, Bool, true, false, Option, None, Some, List, is_some, codes}
use Rattle.std.specs.Str.{bytes_eq}
use Rattle.image.specs.declared.chip_name.ChipName.{ChipName}
use Rattle.image.specs.declared.chip_name.ChipName.TheVariants as chip
use Rattle.vsa_words.specs.declared.numbers.Span.{Span}
use Rattle.vsa_words.specs.declared.options.OptionName.{OptionName}
use Rattle.vsa_words.specs.declared.options.OptionName.TheVariants as name
use Rattle.vsa_words.specs.declared.options.Options.{Options}
use Rattle.vsa_words.specs.declared.options.Value.{Value}
use Rattle.vsa_words.specs.declared.options.Value.TheVariants.{Range, Number, Nothing}
use Rattle.vsa_words.specs.declared.reading.Mode.{Mode}
use Rattle.vsa_words.specs.declared.reading.Mode.TheVariants as mode
use Rattle.vsa_words.specs.Numbers.{IsNumberIn, IsRange}

-- whether a mode has it, by what each of them does
abbrev pub by_mode : (analyse assert check disasm run gen : Bool) → Mode → Bool
by_mode analyse assert check disasm run gen mode.Analyse = analyse
by_mode analyse assert check disasm run gen mode.Assert = assert
by_mode analyse assert check disasm run gen mode.Check = check
by_mode analyse assert check disasm run gen mode.Disasm = disasm
by_mode analyse assert check disasm run gen mode.Run = run
by_mode analyse assert check disasm run gen mode.Gen = gen

-- what each option is: its word behind its hyphens, what stands behind that, and the modes that have it
pub record Row : Type 0 where
  pub word : List ℕ
  pub value : Value
  pub has : Mode → Bool

abbrev pub row_of : OptionName → Row
row_of name.Ram = record { word = codes "ram"; value = Range; has = by_mode true true true true true false }
row_of name.Mirror = record { word = codes "mirror"; value = Range; has = by_mode true true true true true false }
row_of name.Calls = record { word = codes "calls"; value = Number 0 8; has = by_mode true true true false false false }
row_of name.Targets = record { word = codes "targets"; value = Number 1 256; has = by_mode true true true false false false }
row_of name.Workers = record { word = codes "workers"; value = Number 1 16; has = by_mode true true false false false false }
row_of name.Steps = record { word = codes "steps"; value = Number 0 1000000; has = by_mode false false false false true false }
row_of name.Number = record { word = codes "number"; value = Number 1 2000; has = by_mode false false false false false true }
row_of name.Cert = record { word = codes "cert"; value = Nothing; has = by_mode true false false false false false }

abbrev pub option_word : OptionName → List ℕ
option_word option = (row_of option).word

abbrev pub value_of : OptionName → Value
value_of option = (row_of option).value

abbrev pub is_of_mode : OptionName → Mode → Bool
is_of_mode option = (row_of option).has

abbrev pub is_number : Value → Bool
is_number Range = false
is_number (Number least most) = true
is_number Nothing = false

abbrev pub takes_number : OptionName → Bool
takes_number option = is_number (value_of option)

-- the chips that have it: of the MCS-51 nothing is said of RAM
abbrev pub is_of_chip : OptionName → ChipName → Bool
is_of_chip name.Ram chip.Mcs51 = false
is_of_chip name.Mirror chip.Mcs51 = false
is_of_chip option other = true

-- what an option says: nothing where it isn't there
abbrev pub IsSaid : {A : Type 0} → (List ℕ → A → Type 0) → Option (List ℕ) → Option A → Type 0
IsSaid reads None None = Unit {0}
IsSaid reads (Some text) (Some said) = reads text said
IsSaid reads None (Some said) = ⊥
IsSaid reads (Some text) None = ⊥

-- whether a flag is given, by its text
abbrev pub is_given : Option (List ℕ) → Bool
is_given None = false
is_given (Some text) = bytes_eq text (codes "true")

-- what the text of an option says by a range
abbrev pub SaysRange : (given : List ℕ → Option (List ℕ)) → OptionName → Option Span → Type 0
SaysRange given option said = IsSaid IsRange (given (option_word option)) said

-- a text is a number that stands behind the option
abbrev pub IsNumberFor : Value → List ℕ → ℕ → Type 0
IsNumberFor (Number least most) text number = IsNumberIn least most text number
IsNumberFor Range text number = ⊥
IsNumberFor Nothing text number = ⊥

-- what the text of an option says by a number
abbrev pub SaysNumber : (given : List ℕ → Option (List ℕ)) → OptionName → Option ℕ → Type 0
SaysNumber given option said = IsSaid (IsNumberFor (value_of option)) (given (option_word option)) said

-- what the texts that are given for the options' names say
pub record Say (given : List ℕ → Option (List ℕ)) (options : Options) : Type 0 where
  pub ranged : SaysRange given name.Ram options.ram
  pub mirrored : SaysRange given name.Mirror options.mirror
  pub called : SaysNumber given name.Calls options.calls
  pub aimed : SaysNumber given name.Targets options.targets
  pub shared : SaysNumber given name.Workers options.workers
  pub stepped : SaysNumber given name.Steps options.steps
  pub counted : SaysNumber given name.Number options.number
  pub flagged : options.cert ≡ is_given (given (option_word name.Cert))

-- whether something is said of an option
abbrev pub is_said : Options → OptionName → Bool
is_said o name.Ram = is_some o.ram
is_said o name.Mirror = is_some o.mirror
is_said o name.Calls = is_some o.calls
is_said o name.Targets = is_some o.targets
is_said o name.Workers = is_some o.workers
is_said o name.Steps = is_some o.steps
is_said o name.Number = is_some o.number
is_said o name.Cert = o.cert

-- an option of which something is said is one of the mode and of the chip
abbrev pub IsFitting : Mode → ChipName → Options → OptionName → Type 0
IsFitting mode chip o option = is_said o option ≡ true → (is_of_mode option mode ≡ true) × (is_of_chip option chip ≡ true)

abbrev pub Fits : Mode → ChipName → Options → Type 0
Fits mode chip o = (option : OptionName) → IsFitting mode chip o option
