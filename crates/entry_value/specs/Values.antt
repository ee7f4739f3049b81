-- What words and bytes have alike: a set of numbers of a width, perhaps with a relation.
use Rattle.std.specs.Prelude.{ℕ, ◌^◌, ◌&&◌, Bool, Option, None, List}
use Rattle.std.specs.Option.{option_map}
use Rattle.value_set.specs.declared.form.Form.{Form}
use Rattle.value_set.specs.Form.{Has, IsNormal, make}
use Rattle.value_set.specs.Joining.{is_within, join}
use Rattle.value_set.specs.Summing.{single}
use Rattle.value_set.specs.Widening.{widen}
use Rattle.value_bits.specs.Sets.{logic_set}
use Rattle.value_bits.specs.declared.tri.Logic.TheVariants.{And, Or}
use Rattle.entry_value.specs.declared.word.Entry.{Entry}
use Rattle.entry_value.specs.declared.word.Word.{Word}
use Rattle.entry_value.specs.declared.byte.Byte.{Byte}
use Rattle.entry_value.specs.Words.{Suspended, IsFromEntry, common_entry, is_entry_within, entry_and, entry_or}

pub record Value : Type 0 where
  pub set : Form
  pub entry : Option Entry

abbrev pub of_word : Word → Value
of_word word = record { set = word.set; entry = word.entry }

abbrev pub of_byte : Byte → Value
of_byte byte = record { set = byte.set; entry = byte.entry }

-- the set is in its one form
abbrev pub IsFormed : (width : ℕ) → Value → Type 0
IsFormed width value = IsNormal (2 ^ width) value.set

abbrev pub HoldsOf : (width : ℕ) → Option Suspended → Value → ℕ → Type 0
HoldsOf width first value v = Has (2 ^ width) value.set v × IsFromEntry first value.entry v

abbrev pub is_value_within : (width : ℕ) → Value → Value → Bool
is_value_within width a b = is_within (2 ^ width) a.set b.set && is_entry_within a.entry b.entry

abbrev pub value_joined : (width : ℕ) → Value → Value → Value
value_joined width a b = record { set = join (2 ^ width) a.set b.set; entry = common_entry a.entry b.entry }

abbrev pub value_widened : (width : ℕ) → Value → Value → List ℕ → Value
value_widened width held new marks = record { set = widen (2 ^ width) held.set new.set marks; entry = common_entry held.entry new.entry }

-- behind an AND, and behind an OR, with a mask
abbrev pub value_and : (width m : ℕ) → Value → Value
value_and width m value = record { set = logic_set width And value.set (single m); entry = option_map (entry_and m) value.entry }

abbrev pub value_or : (width m : ℕ) → Value → Value
value_or width m value = record { set = logic_set width Or value.set (single m); entry = option_map (entry_or m) value.entry }

abbrev pub all_of_width : (width : ℕ) → Value
all_of_width width = record { set = make (2 ^ width) 0 1 (2 ^ width); entry = None }
