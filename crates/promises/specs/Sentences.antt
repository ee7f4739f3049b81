-- The sentences of a line. It is blank, it begins with #, or it is of one of the forms
--     write SITES WINDOWS · targets ADDRESS ADDRESSES
-- SITES is * or addresses, an address four hexadecimal digits in either case. What are several have a comma between each two.
-- A window is LO-HI, of a chip whose stack grows down LO-SP, and of one whose stack grows up SP-HI, with HI at most 00FFh.
use Rattle.std.specs.Prelude.{ℕ, ◌<◌, ◌≤◌, ◌==◌, nat_le, if◌then◌else◌, Bool, Option, None, Some, option_and_then, option_map, List, [], ◌∷◌, ◌++◌, length, map, codes}
use Rattle.std.specs.List.{join_with_byte}
use Rattle.std.specs.Option.{option_map_or}
use Rattle.std.specs.Str.{bytes_eq}
use Rattle.hex_digits.specs.Digits.{hex}
use Rattle.hex_digits.specs.EitherCase.{word_in_either_case}
use Rattle.text_fields.specs.Spelling.{Spelling}
use Rattle.text_fields.specs.Fields.{behind, cut_at}
use Rattle.text_fields.specs.Lists.{listed}
use Rattle.promises.specs.declared.promise.Promise.{Promise}
use Rattle.promises.specs.declared.promise.Promise.TheVariants.{Write, All, Goes}
use Rattle.promises.specs.declared.promise.Window.{Window}
use Rattle.promises.specs.declared.promise.Window.TheVariants.{Between, BelowStack, AboveStack}
use Rattle.promises.specs.declared.spoken.Growth.{Growth}
use Rattle.promises.specs.declared.spoken.Growth.TheVariants.{Down, Up}

-- WINDOWS

-- from a first to a last address, where it doesn't end before it begins
abbrev pub between : (lo hi : Option ℕ) → Option Window
between (Some lo) (Some hi) = if nat_le lo hi then Some (Between lo hi) else None
between lo hi = None

-- from an address up to the stack
abbrev pub below_stack : Growth → (lo : Option ℕ) → Option Window
below_stack Down lo = option_map BelowStack lo
below_stack Up lo = None

-- from behind the stack up to an address of RAM
abbrev pub above_stack : Growth → (hi : Option ℕ) → Option Window
above_stack Down hi = None
above_stack Up hi = option_and_then (λ at. if nat_le at 255 then Some (AboveStack at) else None) hi

abbrev pub is_stack : List ℕ → Bool
is_stack text = bytes_eq text (codes "SP")

abbrev pub window_from : Growth → (first last : List ℕ) → Option Window
window_from growth first last =
    if is_stack last then below_stack growth (word_in_either_case first)
    else if is_stack first then above_stack growth (word_in_either_case last)
    else between (word_in_either_case first) (word_in_either_case last)

abbrev pub window_of : Growth → List ℕ → Option Window
window_of growth text = option_and_then (λ ends. window_from growth ends.0 ends.1) (cut_at 45 text)

-- LISTS

-- how a report writes a window
abbrev pub window_text : Window → List ℕ
window_text (Between lo hi) = hex 4 lo ++ codes "-" ++ hex 4 hi
window_text (BelowStack lo) = hex 4 lo ++ codes "-SP"
window_text (AboveStack hi) = codes "SP-" ++ hex 4 hi

-- the windows that some line has
abbrev pub IsWindow : Growth → Window → Type 0
IsWindow growth (Between lo hi) = (lo ≤ hi) × (hi < 65536)
IsWindow Down (BelowStack lo) = lo < 65536
IsWindow Up (BelowStack lo) = ⊥
IsWindow Down (AboveStack hi) = ⊥
IsWindow Up (AboveStack hi) = hi < 256

abbrev pub address : Spelling ℕ
address = record { text = hex 4; value = word_in_either_case; Form = λ n. n < 65536 }

abbrev pub window : Growth → Spelling Window
window growth = record { text = window_text; value = window_of growth; Form = IsWindow growth }

-- a list that is no longer
abbrev pub at_most : {A : Type 0} → ℕ → List A → Option (List A)
at_most most list = if nat_le (length list) most then Some list else None

abbrev pub windows_of : Growth → List ℕ → Option (List Window)
windows_of growth text = option_and_then (at_most 4) ((listed (window growth) 44).value text)

abbrev pub addresses_of : List ℕ → Option (List ℕ)
addresses_of text = option_and_then (at_most 256) ((listed address 44).value text)

-- SENTENCES

-- a promise of each site
abbrev pub write_each : (sites : List ℕ) → List Window → Option (List Promise)
write_each sites windows =
    if bytes_eq sites (codes "*") then Some (All windows ∷ [])
    else option_map (map (λ pc. Write pc windows)) (addresses_of sites)

abbrev pub write_of : Growth → List ℕ → Option (List Promise)
write_of growth text =
    option_and_then (λ parts. option_and_then (write_each parts.0) (windows_of growth parts.1)) (cut_at 32 text)

abbrev pub goes_from : (pc : Option ℕ) → (targets : Option (List ℕ)) → Option (List Promise)
goes_from (Some pc) (Some targets) = Some (Goes pc targets ∷ [])
goes_from pc targets = None

abbrev pub targets_of : List ℕ → Option (List Promise)
targets_of text = option_and_then (λ parts. goes_from (word_in_either_case parts.0) (addresses_of parts.1)) (cut_at 32 text)

abbrev pub sentence_of : Growth → List ℕ → Option (List Promise)
sentence_of growth line =
    option_map_or (write_of growth) (behind (codes "write ") line)
    (option_map_or targets_of (behind (codes "targets ") line) None)

-- the promises of a line
abbrev pub promises_in : Growth → List ℕ → Option (List Promise)
promises_in growth [] = Some []
promises_in growth (b ∷ bytes) = if b == 35 then Some [] else sentence_of growth (b ∷ bytes)

-- PRINTING

abbrev pub windows_text : List Window → List ℕ
windows_text windows = join_with_byte 44 (map window_text windows)

abbrev pub addresses_text : List ℕ → List ℕ
addresses_text addresses = join_with_byte 44 (map (hex 4) addresses)

abbrev pub sentence : Promise → List ℕ
sentence (Write pc windows) = codes "write " ++ hex 4 pc ++ codes " " ++ windows_text windows
sentence (All windows) = codes "write * " ++ windows_text windows
sentence (Goes pc targets) = codes "targets " ++ hex 4 pc ++ codes " " ++ addresses_text targets

-- the line of a report that says a promise
abbrev pub promise_line : Promise → List ℕ
promise_line promise = codes "P " ++ sentence promise
