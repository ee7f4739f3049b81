-- Values that may remember a place of the state that an interrupt suspended: a set of numbers, and perhaps how each number
-- came from what the place held when the interrupt came (value sets after G. Balakrishnan and T. Reps, "WYSINWYX: What
-- You See Is Not What You eXecute", 2010).
use Rattle.std.specs.Prelude.{◌≡◌, ◌<◌, ℕ, ◌==◌, ◌&&◌, if◌then◌else◌, Bool, true, false, Option, None, Some, List, bit_and, bit_or}
use Rattle.std.specs.Option.{option_map}
use Rattle.value_set.specs.Form.{Has}
use Rattle.value_set.specs.Joining.{join, is_within}
use Rattle.value_set.specs.Summing.{single}
use Rattle.value_set.specs.Widening.{widen}
use Rattle.value_bits.specs.Sets.{logic_set}
use Rattle.value_bits.specs.declared.tri.Logic.TheVariants.{And, Or}
use Rattle.entry_value.specs.declared.word.Entry.{Entry}
use Rattle.entry_value.specs.declared.word.Word.{Word}
use Rattle.entry_value.specs.declared.byte.Byte.{Byte}

-- WHAT A VALUE SAYS

-- The state that an interrupt suspended: the number of each place, and a mask of the bits that the place holds.
pub record Suspended : Type 0 where
  pub number : ℕ → ℕ
  pub held : ℕ → ℕ

-- the place may be read as a word that agrees with it in the bits that it holds
abbrev pub Reads : Suspended → (place word : ℕ) → Type 0
Reads f place word = (word < 65536) × (bit_and word (f.held place) ≡ bit_and (f.number place) (f.held place))

-- The number came from its place: what that may be read as, AND a mask, OR a mask. Where no state is suspended none did.
abbrev pub IsFromEntry : Option Suspended → Option Entry → ℕ → Type 0
IsFromEntry first None v = Unit {0}
IsFromEntry None (Some entry) v = ⊥
IsFromEntry (Some f) (Some entry) v = (word : ℕ) × Reads f entry.place word × (v ≡ bit_or (bit_and word entry.and) entry.or)

-- the word, or the byte, holds of the number under the suspended state
abbrev pub HoldsOfWord : Option Suspended → Word → ℕ → Type 0
HoldsOfWord first word v = Has 65536 word.set v × IsFromEntry first word.entry v

abbrev pub HoldsOfByte : Option Suspended → Byte → ℕ → Type 0
HoldsOfByte first byte v = Has 256 byte.set v × IsFromEntry first byte.entry v

-- RELATIONS

abbrev pub is_same_entry : Entry → Entry → Bool
is_same_entry a b = (a.place == b.place) && (a.and == b.and) && (a.or == b.or)

-- a relation that both have
abbrev pub common_entry : Option Entry → Option Entry → Option Entry
common_entry None b = None
common_entry (Some a) None = None
common_entry (Some a) (Some b) = if is_same_entry a b then Some a else None

-- the second has no relation that the first one lacks
abbrev pub is_entry_within : Option Entry → Option Entry → Bool
is_entry_within a None = true
is_entry_within None (Some b) = false
is_entry_within (Some a) (Some b) = is_same_entry a b

-- behind an AND, and behind an OR, with a mask
abbrev pub entry_and : ℕ → Entry → Entry
entry_and m entry = record { place = entry.place; and = bit_and entry.and m; or = bit_and entry.or m }

abbrev pub entry_or : ℕ → Entry → Entry
entry_or m entry = record { place = entry.place; and = entry.and; or = bit_or entry.or m }

-- WORDS

abbrev pub word_join : Word → Word → Word
word_join a b = record { set = join 65536 a.set b.set; entry = common_entry a.entry b.entry }

abbrev pub word_widen : Word → Word → List ℕ → Word
word_widen held new marks = record { set = widen 65536 held.set new.set marks; entry = common_entry held.entry new.entry }

abbrev pub word_within : Word → Word → Bool
word_within a b = is_within 65536 a.set b.set && is_entry_within a.entry b.entry

abbrev pub word_and : ℕ → Word → Word
word_and m word = record { set = logic_set 16 And word.set (single m); entry = option_map (entry_and m) word.entry }

abbrev pub word_or : ℕ → Word → Word
word_or m word = record { set = logic_set 16 Or word.set (single m); entry = option_map (entry_or m) word.entry }

-- BYTES

abbrev pub byte_join : Byte → Byte → Byte
byte_join a b = record { set = join 256 a.set b.set; entry = common_entry a.entry b.entry }

abbrev pub byte_widen : Byte → Byte → List ℕ → Byte
byte_widen held new marks = record { set = widen 256 held.set new.set marks; entry = common_entry held.entry new.entry }

abbrev pub byte_within : Byte → Byte → Bool
byte_within a b = is_within 256 a.set b.set && is_entry_within a.entry b.entry

abbrev pub byte_and : ℕ → Byte → Byte
byte_and m byte = record { set = logic_set 8 And byte.set (single m); entry = option_map (entry_and m) byte.entry }

abbrev pub byte_or : ℕ → Byte → Byte
byte_or m byte = record { set = logic_set 8 Or byte.set (single m); entry = option_map (entry_or m) byte.entry }
