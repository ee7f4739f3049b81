-- Bytes that a jump looks at, cut to the numbers with which it goes one way (Intel, MCS-51 Programmer's Guide and Instruction
-- Set: JC, JNC, JZ, JNZ, CJNE and DJNZ).
use Rattle.std.specs.Prelude.{ℕ, ◌+◌, ◌-◌, ◌%◌, ◌<◌, if◌then◌else◌, Bool, Option, option_map}
use Rattle.entry_value.specs.Cells.{read, write_one}
use Rattle.value_set.specs.declared.form.Form.{Form}
use Rattle.value_set.specs.Cutting.{cut}
use Rattle.value_set.specs.Form.{above}
use Rattle.value_set.specs.Summing.{single}
use Rattle.value_bits.specs.Sets.{low_set, pair_set}
use Rattle.mcs51_state.specs.declared.fact.Compared.{Compared}
use Rattle.mcs51_state.specs.declared.fact.Compared.TheVariants.{Accumulator, Ram}
use Rattle.mcs51_state.specs.Known.{Known}
use Rattle.mcs51_branch.specs.declared.window.Window.{Window}

-- WINDOWS

-- the byte is one of the window's
pub record IsInside (v : ℕ) (window : Window) : Type 0 where
  pub low : window.low < 256
  pub inside : above 256 window.low v < window.len

-- the number alone, or all the others
abbrev pub equality_window : (equal : Bool) → (number : ℕ) → Window
equality_window equal number = if equal then record { low = number; len = 1 } else record { low = (number + 1) % 256; len = 255 }

-- the numbers below a bound, or the others
abbrev pub order_window : (less : Bool) → (bound : ℕ) → Window
order_window less bound = if less then record { low = 0; len = bound } else record { low = bound; len = 256 - bound }

unfoldable pub cut_to : Window → Form → Option Form
cut_to window set = cut 256 set window.low window.len

-- WHERE THE BYTE STANDS

-- the numbers that it may be: A, or a byte of RAM as its cell says
abbrev pub set_at : Compared → Known → Form
set_at Accumulator known = known.a.set
set_at (Ram at) known = low_set (read known.cells.cells at 1).set

-- a byte as a cell has it
abbrev pub words_of : Form → Form
words_of bytes = pair_set bytes (single 0)

-- it has other numbers; its relation stays
unfoldable pub with_set : Compared → Known → Form → Known
with_set Accumulator known set = record known { a = record { set = set; entry = known.a.entry } }
with_set (Ram at) known set =
    record known { cells = write_one known.cells at 1 (record { set = words_of set; entry = (read known.cells.cells at 1).entry }) }

abbrev pub place_cut : Compared → Window → Known → Option Known
place_cut place window known = option_map (with_set place known) (cut_to window (set_at place known))
