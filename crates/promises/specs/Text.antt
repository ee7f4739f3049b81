-- The text of promises. Its lines are cut as those of an image text are. They end with the line END; what stands behind that
-- is another text.
use Rattle.std.specs.Prelude.{◌≡◌, ℕ, zero, suc, ◌+◌, ◌%◌, ◌==◌, nat_lt, not, ◌&&◌, ◌||◌, if◌then◌else◌, Bool, true, false, Option, None, Some, Result, Ok, Err, List, [], ◌∷◌, ◌++◌, length, map, codes}
use Rattle.std.specs.List.{list_any, list_all}
use Rattle.std.specs.Str.{bytes_eq}
use Rattle.text_lines.specs.Lines.{lines_of}
use Rattle.promises.specs.declared.fault.PromiseError.{PromiseError}
use Rattle.promises.specs.declared.fault.PromiseError.TheVariants.{Bad, Memory}
use Rattle.promises.specs.declared.fault.PromiseFault.{PromiseFault}
use Rattle.promises.specs.declared.fault.PromiseFault.TheVariants.{Syntax, Site as WrongSite, Twice}
use Rattle.promises.specs.declared.promise.Promise.{Promise}
use Rattle.promises.specs.declared.promise.Promise.TheVariants.{Write, All, Goes}
use Rattle.promises.specs.declared.promise.Window.{Window}
use Rattle.promises.specs.declared.promise.Window.TheVariants.{Between, BelowStack, AboveStack}
use Rattle.promises.specs.declared.spoken.Growth.{Growth}
use Rattle.promises.specs.declared.spoken.Growth.TheVariants.{Down, Up}
use Rattle.promises.specs.declared.spoken.Site.{Site}
use Rattle.promises.specs.declared.spoken.Site.TheVariants.{Nothing, Store, Way}
use Rattle.promises.specs.Sentences.{promises_in}
use Rattle.promises.specs.Spoken.{Spoken}

-- WHAT MAY BE PROMISED OF AN IMAGE

abbrev pub is_even : ℕ → Bool
is_even n = n % 2 == 0

-- the window begins and ends between words
abbrev pub has_words : Window → Bool
has_words (Between lo hi) = is_even lo && not (is_even hi)
has_words (BelowStack lo) = is_even lo
has_words (AboveStack hi) = true

-- a window for stores of so many bytes
abbrev pub suits : (size : ℕ) → Window → Bool
suits size window = (size == 1) || has_words window

-- how many bytes the widest store has
abbrev pub widest : Growth → ℕ
widest Down = 2
widest Up = 1

-- where an instruction may stand
abbrev pub can_run : Growth → ℕ → Bool
can_run Down at = is_even at
can_run Up at = true

abbrev pub is_store_in : Site → List Window → Bool
is_store_in Nothing windows = false
is_store_in (Store size) windows = list_all (suits size) windows
is_store_in Way windows = false

abbrev pub is_way : Site → Bool
is_way Nothing = false
is_way (Store size) = false
is_way Way = true

abbrev pub fits : Spoken → Promise → Bool
fits spoken (Write pc windows) = is_store_in (spoken.at pc) windows
fits spoken (All windows) = list_all (suits (widest spoken.growth)) windows
fits spoken (Goes pc targets) = is_way (spoken.at pc) && list_all (can_run spoken.growth) targets

-- WHAT IS SAID TWICE

-- of one kind, and of one site
abbrev pub is_of_same : Promise → Promise → Bool
is_of_same (Write pc windows) (Write at others) = at == pc
is_of_same (All windows) (All others) = true
is_of_same (Goes pc targets) (Goes at others) = at == pc
is_of_same promise other = false

-- one of a list is the same as one in front of it, or as an earlier one
abbrev pub comes_again : {A : Type 0} → (A → A → Bool) → (earlier xs : List A) → Bool
comes_again same earlier [] = false
comes_again same earlier (x ∷ xs) = list_any (same x) earlier || comes_again same (earlier ++ x ∷ []) xs

abbrev pub is_same : ℕ → ℕ → Bool
is_same n m = m == n

abbrev pub has_target_twice : Promise → Bool
has_target_twice (Write pc windows) = false
has_target_twice (All windows) = false
has_target_twice (Goes pc targets) = comes_again is_same [] targets

abbrev pub is_twice : (earlier promises : List Promise) → Bool
is_twice earlier promises = comes_again is_of_same earlier promises || list_any has_target_twice promises

-- LINES

-- promises, each with the number of its line
abbrev pub Numbered : Type 0
Numbered = List (ℕ × Promise)

-- the number of a line, and what is wrong with it
abbrev pub Refused : Type 0
Refused = ℕ × PromiseFault

abbrev pub promises_alone : Numbered → List Promise
promises_alone list = map (λ numbered. numbered.1) list

-- the first fault of promises of one line behind earlier ones
abbrev pub fault_of : Spoken → (earlier : Numbered) → List Promise → Option PromiseFault
fault_of spoken earlier promises =
    if nat_lt 256 (length earlier + length promises) then Some Syntax
    else if not (list_all (fits spoken) promises) then Some WrongSite
    else if is_twice (promises_alone earlier) promises then Some Twice
    else None

-- earlier promises and those of one line
abbrev pub unless_bad : (number : ℕ) → Option PromiseFault → Numbered → Result Numbered Refused
unless_bad number (Some fault) list = Err (number, fault)
unless_bad number None list = Ok list

abbrev pub with_promises : Spoken → (number : ℕ) → (earlier : Numbered) → Option (List Promise) → Result Numbered Refused
with_promises spoken number earlier None = Err (number, Syntax)
with_promises spoken number earlier (Some promises) =
    unless_bad number (fault_of spoken earlier promises) (earlier ++ map (λ promise. (number, promise)) promises)

abbrev pub with_line : Spoken → (number : ℕ) → (earlier : Numbered) → List ℕ → Result Numbered Refused
with_line spoken number earlier line = with_promises spoken number earlier (promises_in spoken.growth line)

-- A TEXT

abbrev pub go_on : {A B E : Type 0} → (A → Result B E) → Result A E → Result B E
go_on next (Ok a) = next a
go_on next (Err e) = Err e

abbrev pub is_end : List ℕ → Bool
is_end line = bytes_eq line (codes "END")

-- the promises of so many lines and of those behind them up to END, and how many lines that are
abbrev pub promises_behind : Spoken → (earlier : Numbered) → (count : ℕ) → List (List ℕ) → Result (Numbered × ℕ) Refused
promises_behind spoken earlier count [] = Err (suc count, Syntax)
promises_behind spoken earlier count (line ∷ lines) =
    if is_end line then Ok (earlier, suc count)
    else go_on (λ list. promises_behind spoken list (suc count) lines) (with_line spoken (suc count) earlier line)

-- what stands behind so many line feeds
abbrev pub behind_lines : (count : ℕ) → List ℕ → List ℕ
behind_lines zero text = text
behind_lines (suc count) [] = []
behind_lines (suc count) (b ∷ text) = if b == 10 then behind_lines count text else behind_lines (suc count) text

-- the promises of a text and what is behind END, or the first faulty line, counted from 1, and its first fault
abbrev pub promises_of : Spoken → List ℕ → Result (Numbered × List ℕ) Refused
promises_of spoken text =
    go_on (λ read. Ok (read.0, behind_lines read.1 text)) (promises_behind spoken [] 0 (lines_of text))

-- what an error tells of a line, and of a text: nothing where memory ran out
abbrev pub TellsLine : Spoken → (number : ℕ) → (earlier : Numbered) → List ℕ → PromiseError → Type 0
TellsLine spoken number earlier line (Bad refused fault) = with_line spoken number earlier line ≡ Err (refused, fault)
TellsLine spoken number earlier line Memory = Unit {0}

abbrev pub Tells : Spoken → List ℕ → PromiseError → Type 0
Tells spoken text (Bad line fault) = promises_of spoken text ≡ Err (line, fault)
Tells spoken text Memory = Unit {0}
