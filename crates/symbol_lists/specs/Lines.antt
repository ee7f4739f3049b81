-- Which symbol a line of a list has.
--   nm:    0000f000 T main           a value, a letter and a name
--          0000f000 0000001c T main  with a size, by nm -S
--                   U printf         without a value: it names nothing here
--   .noi:  DEF _main 0x62
--   .map:  C:   00000062  _main      module      a letter, a value and a name; further words aren't read
use Rattle.std.specs.Prelude.{ℕ, ◌+◌, ◌*◌, ◌==◌, min, nat_le, nat_lt, not, ◌&&◌, ◌||◌, if◌then◌else◌, Bool, true, false, Option, None, Some, option_map, option_and_then, List, [], ◌∷◌, length, codes}
use Rattle.std.specs.List.{list_all}
use Rattle.std.specs.Option.{option_map_or}
use Rattle.hex.specs.Hex.{hex_digit_value}
use Rattle.text_fields.specs.Fields.{behind, cut_at}
use Rattle.symbol_lists.specs.declared.symbol.Place.{Place}
use Rattle.symbol_lists.specs.declared.symbol.Place.TheVariants.{Any, Code, Internal, External}
use Rattle.symbol_lists.specs.declared.symbol.Symbol.{Symbol}

-- a symbol without where its name lies in memory
pub record Entry : Type 0 where
  pub name : List ℕ
  pub at : ℕ
  pub size : ℕ
  pub place : Place

abbrev pub entry_of : Symbol → Entry
entry_of symbol = record { name = symbol.name.now; at = symbol.at; size = symbol.size; place = symbol.place }

-- no control character
abbrev pub is_shown : ℕ → Bool
is_shown byte = nat_le 32 byte && not (byte == 127)

-- the symbol of a value, if that is an address, and the name can be shown
abbrev pub symbol_of : (name : List ℕ) → (value size : ℕ) → Place → Option Entry
symbol_of name value size place =
    if nat_lt value 65536 && list_all is_shown name then Some (record { name = name; at = value; size = size; place = place }) else None

-- WORDS

-- the number of digits behind those that gave a number; what is above 65,536 counts as that
abbrev pub number_behind : ℕ → List ℕ → Option ℕ
number_behind number [] = Some number
number_behind number (b ∷ digits) =
    option_and_then (λ digit. number_behind (min (number * 16 + digit) 65536) digits) (hex_digit_value b)

abbrev pub number : List ℕ → Option ℕ
number [] = None
number (b ∷ digits) = number_behind 0 (b ∷ digits)

abbrev pub behind_spaces : List ℕ → List ℕ
behind_spaces [] = []
behind_spaces (b ∷ text) = if b == 32 then behind_spaces text else b ∷ text

abbrev pub first_word : List ℕ → List ℕ
first_word text = option_map_or (λ parts. parts.0) (cut_at 32 text) text

-- NM

-- N, n and -: what only debuggers read
abbrev pub is_debugging : ℕ → Bool
is_debugging letter = letter == 78 || letter == 110 || letter == 45

-- an absolute symbol, of the letter A or a, without a size names its own address alone
abbrev pub size_of : (letter size : ℕ) → ℕ
size_of letter size = if size == 0 && (letter == 65 || letter == 97) then 1 else size

abbrev pub lettered : (value size : ℕ) → (letter name : List ℕ) → Option (Option Entry)
lettered value size (letter ∷ []) (b ∷ name) =
    if is_debugging letter then Some None else Some (symbol_of (b ∷ name) value (size_of letter size) Any)
lettered value size letter name = None

abbrev pub sized : (value : ℕ) → (size rest : List ℕ) → Option (Option Entry)
sized value size rest =
    option_and_then (λ n. option_and_then (λ parts. lettered value n parts.0 parts.1) (cut_at 32 rest)) (number size)

abbrev pub valued : (value : ℕ) → (rest : List ℕ) → Option (Option Entry)
valued value rest =
    option_and_then (λ parts. if length parts.0 == 1 then lettered value 0 parts.0 parts.1 else sized value parts.0 parts.1) (cut_at 32 rest)

-- a letter, a space and a name
abbrev pub is_undefined : List ℕ → Bool
is_undefined (letter ∷ b ∷ c ∷ name) = b == 32
is_undefined text = false

abbrev pub behind_value : (value rest : List ℕ) → Option (Option Entry)
behind_value [] rest = if is_undefined (behind_spaces rest) then Some None else None
behind_value (b ∷ value) rest = option_and_then (λ n. valued n rest) (number (b ∷ value))

abbrev pub nm_line : List ℕ → Option (Option Entry)
nm_line line = option_and_then (λ parts. behind_value parts.0 parts.1) (cut_at 32 line)

-- SDCC

-- no name, .__.ABS., or a name of the linker's own: s_AREA is where an area begins, and l_AREA how long it is
abbrev pub is_own : List ℕ → Bool
is_own [] = true
is_own (a ∷ []) = a == 46
is_own (a ∷ b ∷ name) = a == 46 || ((a == 108 || a == 115) && b == 95)

abbrev pub foreign : (name : List ℕ) → (value : ℕ) → Place → Option Entry
foreign name value place = if is_own name then None else symbol_of name value 0 place

abbrev pub defined : List ℕ → Option (Option Entry)
defined rest =
    option_and_then (λ parts. option_and_then (λ digits. option_map (λ value. foreign parts.0 value Any) (number digits)) (behind (codes "0x") parts.1)) (cut_at 32 rest)

abbrev pub noi_line : List ℕ → Option (Option Entry)
noi_line line = option_map_or defined (behind (codes "DEF ") line) (option_map_or (λ _. Some None) (behind (codes "LOAD ") line) None)

-- internal memory has 256 addresses
abbrev pub unlettered : ℕ → Place
unlettered value = if nat_lt value 256 then Internal else External

-- a value, and the word behind it
abbrev pub worded : List ℕ → Option (ℕ × List ℕ)
worded rest =
    option_and_then (λ parts. option_map (λ value. (value, first_word (behind_spaces parts.1))) (number parts.0)) (cut_at 32 (behind_spaces rest))

-- C, D and X, I
abbrev pub memory_of : ℕ → Option Place
memory_of letter =
    if letter == 67 then Some Code
    else if letter == 68 || letter == 88 then Some External
    else if letter == 73 then Some Internal
    else None

abbrev pub behind_letter : (letter : ℕ) → List ℕ → Option Entry
behind_letter letter text =
    option_and_then (λ rest. option_and_then (λ place. option_and_then (λ words. foreign words.1 words.0 place) (worded rest)) (memory_of letter)) (behind (codes ":") text)

abbrev pub behind_space : List ℕ → Option Entry
behind_space rest = option_and_then (λ words. foreign words.1 words.0 (unlettered words.0)) (worded rest)

-- each line of a map that is of another form has no symbol
abbrev pub map_line : List ℕ → Option Entry
map_line [] = None
map_line (b ∷ rest) = if b == 32 then behind_space rest else behind_letter b rest
