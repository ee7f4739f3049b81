-- What the words ask: numbers of steps, options, and readings, of which there is at most one.
use Rattle.std.proofs.lemmas.Bool.Decides.{nat_tests}
use Rattle.std.proofs.lemmas.Bool.{cond_both}
use Rattle.std.proofs.Common.{◌≡◌, ◌&&◌, Bool, cond, nat_eq, nat_le, drop, slice_index, ℕ, ◌+◌, ◌-◌, ◌*◌, ◌<◌, ◌≤◌, List, [], ◌∷◌, Option, None, Some, refl, sym, ◌∙◌, ap, ap₂, subst, arith, All}
use Rattle.std.proofs.lemmas.List.Elements.{All-cons, All-tail}
use Rattle.std.specs.Prelude.{IfNone, IfSome, MatchOption, map, option_map, codes, string_bytes}
use Rattle.std.specs.List.{IsFirstAndRest}
use Rattle.std.specs.declared.string.String.{String}
use Rattle.std.specs.declared.alloc.Global.{Global}
use Rattle.hex.specs.Hex.{hex_digit_value}
use Rattle.image.specs.Kept.{IsRamRange}
use Rattle.image.specs.declared.chip_name.ChipName.{ChipName}
use Rattle.image.specs.declared.chip_name.ChipName.TheVariants as chip
use Rattle.vsa_words.specs.declared.numbers.Span.{Span}
use Rattle.vsa_words.specs.declared.options.OptionName.{OptionName}
use Rattle.vsa_words.specs.declared.options.OptionName.TheVariants as name
use Rattle.vsa_words.specs.declared.options.Options.{Options}
use Rattle.vsa_words.specs.declared.options.Value.{Value}
use Rattle.vsa_words.specs.declared.options.Value.TheVariants.{Range, Number, Nothing}
use Rattle.vsa_words.specs.declared.reading.Mode.{Mode}
use Rattle.vsa_words.specs.declared.reading.Mode.TheVariants as mode
use Rattle.vsa_words.specs.declared.reading.Reading.{Reading}
use Rattle.vsa_words.specs.declared.reading.Reading.TheVariants.{Analyse, Gen}
use Rattle.vsa_words.specs.declared.reading.Target.{Target}
use Rattle.clap.specs.Words.{first_value, matches_of, rows_of}
use Rattle.clap.specs.declared.parser.matches.Found.{Found}
use Rattle.vsa_words.specs.Command.{AreTaken, command, given}
use Rattle.hex_digits.specs.EitherCase.{word_from, word_in_either_case}
use Rattle.vsa_words.specs.Numbers.{IsDigit, IsNumber, IsNumberBehind, IsNumberIn, IsRange, number_behind}
use Rattle.vsa_words.specs.Options.{IsNumberFor, IsSaid, Say, SaysNumber, SaysRange, is_given, option_word, value_of}
use Rattle.vsa_words.specs.Words.{Ask, EndsInMemory, IsAsked, IsBounded, IsOnlyReading, Reads, asked, chip_word, mode_word, or_else, ram_by, rules_of, target_by, target_rules, task_of, usual_target}
use Rattle.vsa_words.proofs.CommandLemmas.{given_is}

-- NUMBERS

grows : (digits : List ℕ) (n : ℕ) → n ≤ number_behind n digits
grows [] n = omega arith
grows (digit ∷ digits) n = let h = grows digits (10 * n + (digit - 48)) in omega (arith, h)

-- a number that is above a million already stays there
pub too_great : (n digit : ℕ) (rest digits : List ℕ) → IsFirstAndRest digits digit rest → 1000000 < 10 * n + (digit - 48)
    → (number : ℕ) → IsNumberBehind n digits number → ⊥
too_great n digit rest digits first great number is =
    let value : number ≡ number_behind (10 * n + (digit - 48)) rest = is.value ∙ ap (number_behind n) first.0 in
    absurd (omega (arith, great, value, is.allowed, grows rest (10 * n + (digit - 48))))

-- the first digit, and what is behind
pub digit_and_rest : (n digit : ℕ) (rest digits : List ℕ) (found : Option ℕ) → IsFirstAndRest digits digit rest → 48 ≤ digit → digit < 58
    → MatchOption found ((number : ℕ) → IsNumberBehind (10 * n + (digit - 48)) rest number → ⊥) (IsNumberBehind (10 * n + (digit - 48)) rest)
    → MatchOption found ((number : ℕ) → IsNumberBehind n digits number → ⊥) (IsNumberBehind n digits)
digit_and_rest n digit rest digits None first low high none = λ number is.
    none number (record {
      all_digits = All-tail IsDigit digit rest (subst (All IsDigit) first.0 is.all_digits);
      value = is.value ∙ ap (number_behind n) first.0;
      allowed = is.allowed;
    })
digit_and_rest n digit rest digits (Some number) first low high is = record {
  all_digits = subst (All IsDigit) (sym first.0) (All-cons IsDigit digit rest (low, high) is.all_digits);
  value = is.value ∙ ap (number_behind n) (sym first.0);
  allowed = is.allowed;
}

-- OPTIONS

one_some : {A : Type 0} (a b : A) → Some a ≡ Some b → a ≡ b
one_some a b h = cc h

same_span : (ram other : Span) → ram.lo ≡ other.lo → ram.hi ≡ other.hi → ram ≡ other
same_span ram other lo hi = ap₂ (λ (l h : ℕ). let back : Span = record { lo = l; hi = h } in back) lo hi

one_range : (text : List ℕ) (ram other : Span) → IsRange text ram → IsRange text other → ram ≡ other
one_range text ram other is also =
    same_span ram other (one_some ram.lo other.lo (sym is.first ∙ also.first)) (one_some ram.hi other.hi (sym is.last ∙ also.last))

one_number : (text : List ℕ) (number other : ℕ) → IsNumber text number → IsNumber text other → number ≡ other
one_number text number other is also = is.is.value ∙ sym also.is.value

-- a number that isn't between two others
pub outside : (least most : ℕ) (text : List ℕ) (number : ℕ) → IsNumber text number → (least ≤ number → number ≤ most → ⊥)
    → (other : ℕ) → IsNumberIn least most text other → ⊥
outside least most text number is refused other also =
    let same : other ≡ number = one_number text other number also.is is in
    refused (subst (λ n. least ≤ n) same also.no_less) (subst (λ n. n ≤ most) same also.no_more)

one_within : (least most : ℕ) (text : List ℕ) (number other : ℕ) → IsNumberIn least most text number
    → IsNumberIn least most text other → number ≡ other
one_within least most text number other is also = one_number text number other is.is also.is

one_for : (value : Value) (text : List ℕ) (number other : ℕ) → IsNumberFor value text number → IsNumberFor value text other → number ≡ other
one_for (Number least most) text number other is also = one_within least most text number other is also
one_for Range text number other is also = absurd is
one_for Nothing text number other is also = absurd is

-- an option says one thing, where its text does
one_said : {A : Type 0} (reads : List ℕ → A → Type 0) → ((text : List ℕ) (a b : A) → reads text a → reads text b → a ≡ b)
    → (text : Option (List ℕ)) (a b : Option A) → IsSaid reads text a → IsSaid reads text b → a ≡ b
one_said reads one None None None is also = refl
one_said reads one (Some text) (Some a) (Some b) is also = ap Some (one text a b is also)
one_said reads one None None (Some b) is also = absurd also
one_said reads one None (Some a) b is also = absurd is
one_said reads one (Some text) None b is also = absurd is
one_said reads one (Some text) (Some a) None is also = absurd also

one_number_said : (given : List ℕ → Option (List ℕ)) (option : OptionName) (m n : Option ℕ) → SaysNumber given option m
    → SaysNumber given option n → m ≡ n
one_number_said given option m n = one_said (IsNumberFor (value_of option)) (one_for (value_of option)) (given (option_word option)) m n

one_range_said : (given : List ℕ → Option (List ℕ)) (option : OptionName) (m n : Option Span) → SaysRange given option m
    → SaysRange given option n → m ≡ n
one_range_said given option m n = one_said IsRange one_range (given (option_word option)) m n

pub say_one : (given : List ℕ → Option (List ℕ)) (a b : Options) → Say given a → Say given b → a ≡ b
say_one given a b said also =
    let rams : a.ram ≡ b.ram = one_range_said given name.Ram a.ram b.ram said.ranged also.ranged in
    let mirrors : a.mirror ≡ b.mirror = one_range_said given name.Mirror a.mirror b.mirror said.mirrored also.mirrored in
    let calls : a.calls ≡ b.calls = one_number_said given name.Calls a.calls b.calls said.called also.called in
    let targets : a.targets ≡ b.targets = one_number_said given name.Targets a.targets b.targets said.aimed also.aimed in
    let workers : a.workers ≡ b.workers = one_number_said given name.Workers a.workers b.workers said.shared also.shared in
    let steps : a.steps ≡ b.steps = one_number_said given name.Steps a.steps b.steps said.stepped also.stepped in
    let numbers : a.number ≡ b.number = one_number_said given name.Number a.number b.number said.counted also.counted in
    let certs : a.cert ≡ b.cert = said.flagged ∙ sym also.flagged in
    let options : (r m : Option Span) (c t w s n : Option ℕ) (f : Bool) → Options
    = λ r m c t w s n f. record { ram = r; mirror = m; calls = c; targets = t; workers = w; steps = s; number = n; cert = f } in
    ap₂ (λ (r m : Option Span). options r m a.calls a.targets a.workers a.steps a.number a.cert) rams mirrors
    ∙ ap₂ (λ (c t : Option ℕ). options b.ram b.mirror c t a.workers a.steps a.number a.cert) calls targets
    ∙ ap₂ (λ (w s : Option ℕ). options b.ram b.mirror b.calls b.targets w s a.number a.cert) workers steps
    ∙ ap₂ (λ (n : Option ℕ) (f : Bool). options b.ram b.mirror b.calls b.targets b.workers b.steps n f) numbers certs

-- the same texts say the same
pub say_like : (f g : List ℕ → Option (List ℕ)) → ((id : List ℕ) → f id ≡ g id) → (o : Options) → Say f o → Say g o
say_like f g like o said =
    let number : (option : OptionName) (n : Option ℕ) → SaysNumber f option n → SaysNumber g option n
    = λ option n is. subst (λ t. IsSaid (IsNumberFor (value_of option)) t n) (like (option_word option)) is in record {
      ranged = subst (λ t. IsSaid IsRange t o.ram) (like (option_word name.Ram)) said.ranged;
      mirrored = subst (λ t. IsSaid IsRange t o.mirror) (like (option_word name.Mirror)) said.mirrored;
      called = number name.Calls o.calls said.called;
      aimed = number name.Targets o.targets said.aimed;
      shared = number name.Workers o.workers said.shared;
      stepped = number name.Steps o.steps said.stepped;
      counted = number name.Number o.number said.counted;
      flagged = said.flagged ∙ ap is_given (like (option_word name.Cert));
    }

-- what an option doesn't say, where its text doesn't
pub none_said : {A : Type 0} (reads : List ℕ → A → Type 0) (text : List ℕ) (given : Option (List ℕ)) → Some text ≡ given
    → ((a : A) → reads text a → ⊥) → (said : Option A) → IsSaid reads given said → ⊥
none_said {A} reads text given is none said says = of_some said (subst (λ t. IsSaid reads t said) (sym is) says)
  where
    of_some : (said : Option A) → IsSaid reads (Some text) said → ⊥
    of_some None says = says
    of_some (Some a) says = none a says

abbrev pub IsSaidBy : (text_of : List ℕ → Option (List ℕ)) → Option Options → Type 0
IsSaidBy text_of found = MatchOption found ((options : Options) → Say text_of options → ⊥) (Say text_of)

said_like : (f g : List ℕ → Option (List ℕ)) → ((id : List ℕ) → f id ≡ g id) → (found : Option Options)
    → IsSaidBy f found → IsSaidBy g found
said_like f g like None none = λ options said. none options (say_like g f (λ id. sym (like id)) options said)
said_like f g like (Some options) said = say_like f g like options said

-- READINGS

-- the mode of a word, by its second letter
mode_by : ℕ → Mode
mode_by letter =
    cond (nat_eq letter 110) mode.Analyse (cond (nat_eq letter 115) mode.Assert (cond (nat_eq letter 104) mode.Check
    (cond (nat_eq letter 105) mode.Disasm (cond (nat_eq letter 117) mode.Run mode.Gen))))

mode_is_by : (m : Mode) → mode_by (slice_index (mode_word m) 1) ≡ m
unfolding mode_by
mode_is_by mode.Analyse = refl
mode_is_by mode.Assert = refl
mode_is_by mode.Check = refl
mode_is_by mode.Disasm = refl
mode_is_by mode.Run = refl
mode_is_by mode.Gen = refl

one_mode : (a b : Mode) → mode_word a ≡ mode_word b → a ≡ b
one_mode a b h = sym (mode_is_by a) ∙ ap (λ (t : List ℕ). mode_by (slice_index t 1)) h ∙ mode_is_by b

one_chip : (a b : ChipName) → chip_word a ≡ chip_word b → a ≡ b
one_chip chip.Msp430 chip.Msp430 h = refl
one_chip chip.Mcs51 chip.Mcs51 h = refl
one_chip chip.Msp430 chip.Mcs51 h = absurd (cc h)
one_chip chip.Mcs51 chip.Msp430 h = absurd (cc h)

abbrev pub IsModeOf : Option (List ℕ) → Option Mode → Type 0
IsModeOf text found = MatchOption found ((mode : Mode) → text ≡ Some (mode_word mode) → ⊥) (λ mode. text ≡ Some (mode_word mode))

abbrev pub IsChipOf : Option (List ℕ) → Option ChipName → Type 0
IsChipOf text found = MatchOption found ((chip : ChipName) → text ≡ Some (chip_word chip) → ⊥) (λ chip. text ≡ Some (chip_word chip))

abbrev pub Texts : List (String Global) → List (List ℕ)
Texts words = map string_bytes words

-- what was found of the words that the command takes
pub record IsFound (words : List (String Global)) (mode : Option Mode) (chip : Option ChipName) (options : Option Options) : Type 0 where
  pub taken : AreTaken (Texts words)
  pub mode_is : IsModeOf (given (Texts words) (codes "mode")) mode
  pub chip_is : IsChipOf (given (Texts words) (codes "chip")) chip
  pub said : IsSaidBy (given (Texts words)) options

-- what the texts say that the command gives
pub found_by : (words : List (String Global)) (f : Found) (first second : Option (List ℕ)) (mode : Option Mode) (chip : Option ChipName)
    (options : Option Options) → AreTaken (Texts words) × (rows_of f ≡ matches_of command (Texts words))
    → first ≡ first_value f (codes "mode") → second ≡ first_value f (codes "chip")
    → IsModeOf first mode → IsChipOf second chip → IsSaidBy (first_value f) options → IsFound words mode chip options
found_by words f first second mode chip options matched is named mode_is chip_is said =
    let text : (id : List ℕ) (t : Option (List ℕ)) → t ≡ first_value f id → t ≡ given (Texts words) id = given_is (Texts words) f matched.1 in record {
      taken = matched.0;
      mode_is = subst (λ t. IsModeOf t mode) (text (codes "mode") first is) mode_is;
      chip_is = subst (λ t. IsChipOf t chip) (text (codes "chip") second named) chip_is;
      said = said_like (first_value f) (given (Texts words)) (λ id. text id (first_value f id) refl) options said;
    }

-- the mode, the chip and the options that were found ask what the words do
ask_alone : (words : List (String Global)) (mode : Mode) (chip : ChipName) (options : Options) (other : Reading)
    → IsFound words (Some mode) (Some chip) (Some options) → Reads words other → Ask mode chip options other
ask_alone words mode chip options other found reads =
    let modes : reads.mode ≡ mode = one_mode reads.mode mode (one_some (mode_word reads.mode) (mode_word mode) (sym reads.mode_is ∙ found.mode_is)) in
    let chips : reads.chip ≡ chip = one_chip reads.chip chip (one_some (chip_word reads.chip) (chip_word chip) (sym reads.chip_is ∙ found.chip_is)) in
    let same : reads.options ≡ options = say_one (given (Texts words)) reads.options options reads.say found.said in
    subst (λ m. Ask m chip options other) modes
    (subst (λ c. Ask reads.mode c options other) chips (subst (λ o. Ask reads.mode reads.chip o other) same reads.ask))

asked_only : (words : List (String Global)) (mode : Mode) (chip : ChipName) (options : Options) (reading : Option Reading)
    → IsFound words (Some mode) (Some chip) (Some options) → IsAsked (Some mode) (Some chip) (Some options) reading
    → IsOnlyReading words reading
asked_only words mode chip options None found none = λ other reads. none other (ask_alone words mode chip options other found reads)
asked_only words mode chip options (Some reading) found asked = (
  record {
    taken = found.taken;
    mode = mode;
    chip = chip;
    options = options;
    mode_is = found.mode_is;
    chip_is = found.chip_is;
    say = found.said;
    ask = asked;
  },
  λ other reads. one_some other reading (sym (ask_alone words mode chip options other found reads).is ∙ asked.is),
)

pub only_found : (words : List (String Global)) (mode : Option Mode) (chip : Option ChipName) (options : Option Options) (reading : Option Reading)
    → IsFound words mode chip options → IsAsked mode chip options reading → IsOnlyReading words reading
only_found words None chip options reading found none = rw none (λ other reads. found.mode_is reads.mode reads.mode_is)
only_found words (Some mode) None options reading found none = rw none (λ other reads. found.chip_is reads.chip reads.chip_is)
only_found words (Some mode) (Some chip) None reading found none = rw none (λ other reads. found.said reads.options reads.say)
only_found words (Some mode) (Some chip) (Some options) reading found asked = asked_only words mode chip options reading found asked

-- BOUNDS

digit_below : (c : ℕ) → IfSome (hex_digit_value c) (λ v. v < 16)
digit_below c =
    cond_both (nat_le 65 c && nat_le c 70) (Some (c - 55)) (cond (nat_le 97 c && nat_le c 102) (Some (c - 87)) (cond (nat_le 48 c && nat_le c 57) (Some (c - 48)) None)) (λ o. IfSome o (λ v. v < 16))
    (λ e. grind (arith, nat_tests))
    (λ _. cond_both (nat_le 97 c && nat_le c 102) (Some (c - 87)) (cond (nat_le 48 c && nat_le c 57) (Some (c - 48)) None) (λ o. IfSome o (λ v. v < 16))
    (λ e. grind (arith, nat_tests))
    (λ _. cond_both (nat_le 48 c && nat_le c 57) (Some (c - 48)) None (λ o. IfSome o (λ v. v < 16)) (λ e. grind (arith, nat_tests)) (λ _. tt)))

four_below : (a b c d : Option ℕ) → IfSome a (λ v. v < 16) → IfSome b (λ v. v < 16) → IfSome c (λ v. v < 16) → IfSome d (λ v. v < 16)
    → IfSome (word_from a b c d) (λ n. n < 65536)
four_below (Some a) (Some b) (Some c) (Some d) h i j k = omega arith
four_below (Some a) (Some b) (Some c) None h i j k = tt
four_below (Some a) (Some b) None d h i j k = tt
four_below (Some a) None c d h i j k = tt
four_below None b c d h i j k = tt

number_below : (digits : List ℕ) → IfSome (word_in_either_case digits) (λ n. n < 65536)
number_below [] = tt
number_below (a ∷ []) = tt
number_below (a ∷ b ∷ []) = tt
number_below (a ∷ b ∷ c ∷ []) = tt
number_below (a ∷ b ∷ c ∷ d ∷ []) = four_below (hex_digit_value a) (hex_digit_value b) (hex_digit_value c) (hex_digit_value d) (digit_below a) (digit_below b) (digit_below c) (digit_below d)
number_below (a ∷ b ∷ c ∷ d ∷ e ∷ digits) = tt

abbrev EndOf : Option Span → Type 0
EndOf said = IfSome said (λ span. span.hi < 65536)

range_end : (text : Option (List ℕ)) (span : Span) → IsSaid IsRange text (Some span) → span.hi < 65536
range_end None span is = absurd is
range_end (Some text) span is = subst (λ o. IfSome o (λ n. n < 65536)) is.last (number_below (drop 5 text))

end_said : (given : List ℕ → Option (List ℕ)) (said : Option Span) → SaysRange given name.Ram said → EndOf said
end_said given None is = tt
end_said given (Some span) is = range_end (given (codes "ram")) span is

abbrev BoundOf : (least most : ℕ) → Option ℕ → Type 0
BoundOf least most said = IfSome said (λ n. (least ≤ n) × (n ≤ most))

bound_said : (text : Option (List ℕ)) (least most : ℕ) (said : Option ℕ) → IsSaid (IsNumberIn least most) text said
    → BoundOf least most said
bound_said text least most None is = tt
bound_said None least most (Some n) is = absurd is
bound_said (Some text) least most (Some n) is = (is.no_less, is.no_more)

bound_or : (least most : ℕ) (said : Option ℕ) (usual : ℕ) → BoundOf least most said → least ≤ usual → usual ≤ most
    → (least ≤ or_else said usual) × (or_else said usual ≤ most)
bound_or least most None usual is low high = (low, high)
bound_or least most (Some n) usual is low high = is

ram_end : (ram mirror : Option Span) → EndOf ram → (ram_by ram mirror).hi < 65536
ram_end None mirror end = omega arith
ram_end (Some ram) mirror end = end

target_end : (chip : ChipName) (o : Options) → EndOf o.ram → EndsInMemory (target_rules (target_by chip o))
target_end chip.Msp430 o end = ram_end o.ram o.mirror end
target_end chip.Mcs51 o end = tt

usual_end : (chip : ChipName) → EndsInMemory (target_rules (usual_target chip))
usual_end chip.Msp430 = omega arith
usual_end chip.Mcs51 = tt

abbrev IsWithin : Reading → Type 0
IsWithin reading = EndsInMemory (rules_of reading) × IsBounded reading

-- the options are within their bounds
record AreWithin (o : Options) : Type 0 where
  end : EndOf o.ram
  calls : BoundOf 0 8 o.calls
  workers : BoundOf 1 16 o.workers
  number : BoundOf 1 2000 o.number

making_within : (chip : ChipName) (number : Option ℕ) → BoundOf 1 2000 number → IfSome (option_map (Gen chip) number) IsWithin
making_within chip None is = tt
making_within chip (Some number) is = (usual_end chip, is)

task_within : (target : Target) (o : Options) → AreWithin o → IsBounded (Analyse (task_of target o))
task_within target o is =
    let workers = bound_or 1 16 o.workers 1 is.workers (omega arith) (omega arith) in
    ((bound_or 0 8 o.calls 6 is.calls (omega arith) (omega arith)).1, workers.0, workers.1)

asked_within : (mode : Mode) (chip : ChipName) (o : Options) → AreWithin o → IfSome (asked mode chip o) IsWithin
asked_within mode.Analyse chip o is = (target_end chip o is.end, task_within (target_by chip o) o is)
asked_within mode.Assert chip o is = (target_end chip o is.end, task_within (target_by chip o) o is)
asked_within mode.Check chip o is = (target_end chip o is.end, task_within (target_by chip o) o is)
asked_within mode.Disasm chip o is = (target_end chip o is.end, tt)
asked_within mode.Run chip o is = (target_end chip o is.end, tt)
asked_within mode.Gen chip o is = making_within chip o.number is.number

reads_within : (words : List (String Global)) (reading : Reading) → Reads words reading → IsWithin reading
reads_within words reading reads =
    let given_of = given (Texts words) in
    let o = reads.options in
    subst (λ found. IfSome found IsWithin) reads.ask.is (asked_within reads.mode reads.chip o (record {
      end = end_said given_of o.ram reads.say.ranged;
      calls = bound_said (given_of (codes "calls")) 0 8 o.calls reads.say.called;
      workers = bound_said (given_of (codes "workers")) 1 16 o.workers reads.say.shared;
      number = bound_said (given_of (codes "number")) 1 2000 o.number reads.say.counted;
    }))

-- WHAT IS FOUND

pub only_reads : (words : List (String Global)) (found : Option Reading) → IsOnlyReading words found → IfSome found (Reads words)
only_reads words None only = tt
only_reads words (Some reading) only = only.0

pub only_range : (words : List (String Global)) (found : Option Reading) → IsOnlyReading words found
    → IfSome found (λ reading. IsRamRange (rules_of reading))
only_range words None only = tt
only_range words (Some reading) only = only.0.ask.stands

pub only_end : (words : List (String Global)) (found : Option Reading) → IsOnlyReading words found
    → IfSome found (λ reading. EndsInMemory (rules_of reading))
only_end words None only = tt
only_end words (Some reading) only = (reads_within words reading only.0).0

pub only_bounds : (words : List (String Global)) (found : Option Reading) → IsOnlyReading words found → IfSome found IsBounded
only_bounds words None only = tt
only_bounds words (Some reading) only = (reads_within words reading only.0).1

pub only_alone : (words : List (String Global)) (found : Option Reading) → IsOnlyReading words found
    → IfSome found (λ reading. (other : Reading) → Reads words other → other ≡ reading)
only_alone words None only = tt
only_alone words (Some reading) only = only.1

pub only_none : (words : List (String Global)) (found : Option Reading) → IsOnlyReading words found
    → IfNone found ((reading : Reading) → Reads words reading → ⊥)
only_none words None only = only
only_none words (Some reading) only = tt
