-- Rows of the definitions of cells.
use Rattle.std.proofs.Common.{◌≡◌, ℕ, true, false, None, List, [], ◌∷◌, refl}
use Rattle.value_set.specs.declared.form.Form.TheVariants.{Values}
use Rattle.value_set.specs.Form.{set_of, put, make, steps, hull, hull_base, behind_widest, class}
use Rattle.value_set.specs.Gcd.{gcd, gcd_in}
use Rattle.value_set.specs.Widening.{widen, widen_span, first_widened, last_widened}
use Rattle.value_set.specs.Joining.{is_within, join, join_apart}
use Rattle.value_bits.specs.Sets.{low_set, high_set, pair_set}
use Rattle.entry_value.specs.declared.cells.Cell.{Cell}
use Rattle.entry_value.specs.Cells.{CellMap, unknown, read, write_one, write_several, write_any, join_cells, widen_cells, are_within}

-- a cell of some numbers, without a relation
abbrev at : (place size : ℕ) → List ℕ → Cell
at place size numbers = record { place = place; size = size; word = record { set = Values numbers; entry = None } }

-- the cell itself, its high byte, and its low one
whole : (read (at 0x0200 2 (0x1234 ∷ []) ∷ []) 0x0200 2).set ≡ Values (0x1234 ∷ [])
unfolding read
whole = refl

high_byte_read : (read (at 0x0200 2 (0x1234 ∷ 0x1278 ∷ []) ∷ []) 0x0201 1).set ≡ Values (0x12 ∷ [])
unfolding read high_set pair_set set_of put
high_byte_read = refl

low_byte_read : (read (at 0x0200 2 (0x1234 ∷ 0x5634 ∷ []) ∷ []) 0x0200 1).set ≡ Values (0x34 ∷ [])
unfolding read low_set pair_set set_of put
low_byte_read = refl

-- a word of the bytes of two cells, and one of which a byte is missing
two_cells : (read (at 0x0200 1 (0x34 ∷ []) ∷ at 0x0201 2 (0x7812 ∷ []) ∷ []) 0x0200 2).set ≡ Values (0x1234 ∷ [])
unfolding read low_set pair_set set_of put
two_cells = refl

byte_missing : read (at 0x0200 1 (0x34 ∷ []) ∷ []) 0x0200 2 ≡ unknown 2
unfolding read low_set pair_set set_of put
byte_missing = refl

-- a RAM of bytes in ascending order
abbrev ram : List Cell → CellMap
ram cells = record { lo = 0x0200; hi = 0x03FF; cells = cells }

-- a byte written into a word's cell, whose place it takes
word_met : (write_one (ram (at 0x0200 2 (0x1234 ∷ []) ∷ [])) 0x0201 1 (at 0x0201 1 (0x05 ∷ [])).word).cells ≡ at 0x0201 1 (0x05 ∷ []) ∷ []
unfolding write_one is_within make steps
word_met = refl

-- a word at the last address doesn't lie whole in RAM
beyond_the_end : (write_one (ram (at 0x03FF 1 (0x12 ∷ []) ∷ [])) 0x03FF 2 (at 0x03FF 2 (0x1234 ∷ [])).word).cells ≡ []
unfolding write_one
beyond_the_end = refl

-- one of two bytes, beside a word whose high byte is the second one
some_met : (write_any (ram (at 0x0200 1 (0x01 ∷ []) ∷ at 0x0201 2 (0x1234 ∷ []) ∷ at 0x0203 1 (0x07 ∷ []) ∷ [])) (Values (0x0200 ∷ 0x0202 ∷ [])) 1 (at 0 1 (0x05 ∷ [])).word).cells
    ≡ at 0x0200 1 (0x01 ∷ 0x05 ∷ []) ∷ at 0x0203 1 (0x07 ∷ []) ∷ []
unfolding write_any write_several is_within make steps join join_apart put
some_met = refl

-- both bytes of a word's cell may be the first one written: the cell goes
two_places : (write_any (ram (at 0x0200 2 (0x1234 ∷ []) ∷ [])) (Values (0x0200 ∷ 0x0201 ∷ [])) 2 (at 0 2 (0x1234 ∷ [])).word).cells ≡ []
unfolding write_any write_several
two_places = refl

-- a word at the last address has the byte at 0
around : (write_any (record { lo = 0; hi = 0xFFFF; cells = at 0 1 (0x01 ∷ []) ∷ at 1 1 (0x02 ∷ []) ∷ [] }) (Values (0x8000 ∷ 0xFFFF ∷ [])) 2 (at 0 2 (0x1234 ∷ [])).word).cells
    ≡ at 1 1 (0x02 ∷ []) ∷ []
unfolding write_any write_several
around = refl

-- one address alone: the value takes the place of what stood there, and has a cell where there was none
only_place : (write_any (ram (at 0x0200 1 (0x01 ∷ []) ∷ [])) (Values (0x0200 ∷ [])) 1 (at 0 1 (0x05 ∷ [])).word).cells ≡ at 0x0200 1 (0x05 ∷ []) ∷ []
unfolding write_any write_one is_within make steps
only_place = refl

only_new_place : (write_any (ram (at 0x0200 1 (0x01 ∷ []) ∷ [])) (Values (0x0202 ∷ [])) 2 (at 0 2 (0x1234 ∷ [])).word).cells
    ≡ at 0x0200 1 (0x01 ∷ []) ∷ at 0x0202 2 (0x1234 ∷ []) ∷ []
unfolding write_any write_one is_within make steps
only_new_place = refl

-- cells that both have, with both values
joined : join_cells (at 0x0200 1 (0x01 ∷ []) ∷ at 0x0201 1 (0x02 ∷ []) ∷ []) (at 0x0201 1 (0x03 ∷ []) ∷ at 0x0202 2 (0x1234 ∷ []) ∷ []) ≡ at 0x0201 1 (0x02 ∷ 0x03 ∷ []) ∷ []
unfolding join_cells is_within make steps join join_apart put
joined = refl

-- a byte goes on to the next mark, and of marks above a byte to none
widened : widen_cells (at 0x0200 1 (0x01 ∷ []) ∷ []) (at 0x0200 1 (0x02 ∷ []) ∷ []) (0 ∷ 4 ∷ 0x0200 ∷ []) ≡ at 0x0200 1 (0x01 ∷ 0x02 ∷ 0x03 ∷ []) ∷ []
unfolding widen_cells is_within make steps join join_apart put low_set pair_set set_of widen widen_span first_widened last_widened hull hull_base behind_widest gcd gcd_in
widened = refl

widened_to_any : widen_cells (at 0x0200 1 (0x01 ∷ []) ∷ []) (at 0x0200 1 (0x02 ∷ []) ∷ []) (0 ∷ 0x0200 ∷ []) ≡ []
unfolding widen_cells is_within make steps join join_apart put low_set pair_set set_of widen widen_span first_widened last_widened hull hull_base behind_widest gcd gcd_in class
widened_to_any = refl

-- each cell of the second list has to be one of the first
within : are_within (at 0x0200 1 (0x01 ∷ []) ∷ at 0x0201 1 (0x02 ∷ []) ∷ []) (at 0x0201 1 (0x02 ∷ 0x03 ∷ []) ∷ []) ≡ true
unfolding is_within
within = refl

not_within : are_within (at 0x0201 1 (0x02 ∷ 0x03 ∷ []) ∷ []) (at 0x0200 1 (0x01 ∷ []) ∷ at 0x0201 1 (0x02 ∷ 0x03 ∷ []) ∷ []) ≡ false
unfolding is_within
not_within = refl
