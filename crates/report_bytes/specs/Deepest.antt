-- How deep stacks go: down to a least stack pointer where it is a word, and up to a greatest one where it is a byte.
use Rattle.std.specs.Prelude.{ℕ, ◌≤◌, ◌==◌, ◌&&◌, ◌||◌, min, max, if◌then◌else◌, Bool, false, Option, None, Some, List, [], ◌∷◌, codes, fold, option_map}
use Rattle.value_set.specs.declared.form.Form.{Form}
use Rattle.value_set.specs.declared.form.Form.TheVariants.{Values, Run}
use Rattle.value_set.specs.Form.{Has, members}
use Rattle.call_context.specs.declared.shown.Set.{Set}
use Rattle.call_context.specs.declared.shown.Set.TheVariants.{B, W}
use Rattle.call_context.specs.declared.shown.Item.{Item}
use Rattle.call_context.specs.declared.shown.Item.TheVariants.{Instr, Edge, Access, Stack}
use Rattle.hex_digits.specs.Digits.{hex}
use Rattle.report_bytes.specs.declared.deepest.Deepest.{Deepest}
use Rattle.report_bytes.specs.declared.deepest.Deepest.TheVariants.{Least, Greatest}

-- SETS

-- all words, or all even words
abbrev pub has_all_words : Form → Bool
has_all_words (Values values) = false
has_all_words (Run run) = (run.count == 65536) || ((run.count == 32768) && (run.stride == 2) && (run.base == 0))

-- all bytes
abbrev pub has_all_bytes : Form → Bool
has_all_bytes (Values values) = false
has_all_bytes (Run run) = run.count == 256

-- a set of stack pointers that has all numbers, or all even words
abbrev pub is_whole : Set → Bool
is_whole (W values) = has_all_words values
is_whole (B values) = has_all_bytes values

-- the least number of a list, or the greatest: of each two of them one stays
abbrev pub extreme_of : (ℕ → ℕ → ℕ) → List ℕ → Option ℕ
extreme_of stays [] = None
extreme_of stays (x ∷ xs) = Some (fold stays x xs)

-- the least number of a set of words that isn't whole
abbrev pub least_word : Form → Option ℕ
least_word values = if has_all_words values then None else extreme_of min (members 65536 values)

-- the greatest number of a set of bytes that isn't whole
abbrev pub greatest_byte : Form → Option ℕ
greatest_byte values = if has_all_bytes values then None else extreme_of max (members 256 values)

-- a number of a set of words, and no other is less
abbrev pub IsLeast : Form → ℕ → Type 0
IsLeast set least = Has 65536 set least × ((value : ℕ) → Has 65536 set value → least ≤ value)

-- a number of a set of bytes, and no other is greater
abbrev pub IsGreatest : Form → ℕ → Type 0
IsGreatest set greatest = Has 256 set greatest × ((value : ℕ) → Has 256 set value → value ≤ greatest)

-- STACKS

-- The stack of a chip grows downward by words or upward by bytes. Of one that did both the first kind is told.
abbrev pub deeper : Deepest → Deepest → Deepest
deeper (Least a) (Least b) = Least (min a b)
deeper (Greatest a) (Greatest b) = Greatest (max a b)
deeper (Least a) (Greatest b) = Least a
deeper (Greatest a) (Least b) = Greatest a

-- the deeper of two, where either is there
abbrev pub deeper_of : Option Deepest → Option Deepest → Option Deepest
deeper_of None b = b
deeper_of (Some a) None = Some a
deeper_of (Some a) (Some b) = Some (deeper a b)

-- the deepest stack pointer that an item shows by a set that isn't whole
abbrev pub deepest_in : Item → Option Deepest
deepest_in (Stack pc (W values)) = option_map Least (least_word values)
deepest_in (Stack pc (B values)) = option_map Greatest (greatest_byte values)
deepest_in (Instr pc bytes) = None
deepest_in (Edge origin target) = None
deepest_in (Access pc space write size at) = None

abbrev pub deepest_of : Option Deepest → List Item → Option Deepest
deepest_of deepest [] = deepest
deepest_of deepest (item ∷ items) = deepest_of (deeper_of deepest (deepest_in item)) items

-- a word has four digits, and a byte two
abbrev pub deepest_text : Option Deepest → List ℕ
deepest_text None = codes "none"
deepest_text (Some (Least value)) = hex 4 value
deepest_text (Some (Greatest value)) = hex 2 value
