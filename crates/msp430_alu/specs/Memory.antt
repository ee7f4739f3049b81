-- Memory in what is known of a state: what may be read, and what is known behind a store.
use Rattle.std.specs.Prelude.{◌≡◌, ℕ, ◌+◌, ◌-◌, ◌*◌, ◌%◌, ◌<◌, ◌≤◌, ◌||◌, nat_lt, nat_le, if◌then◌else◌, Bool, Option, None, Some, List, [], ◌∷◌, length, All}
use Prim.Native.Nat.{min, max}
use Rattle.image.specs.Image.{byte_at, IsByte}
use Rattle.entry_value.specs.declared.word.Word.{Word}
use Rattle.entry_value.specs.Cells.{unknown, read, write_any}
use Rattle.value_set.specs.declared.form.Form.{Form}
use Rattle.value_set.specs.declared.form.Form.TheVariants.{Values, Run}
use Rattle.value_set.specs.Form.{members}
use Rattle.value_set.specs.Cutting.{cut, join_parts}
use Rattle.value_set.specs.Joining.{join, reach}
use Rattle.value_set.specs.Summing.{add, single}
use Rattle.msp430_decode.specs.declared.instr.Width.{Width}
use Rattle.msp430_decode.specs.declared.instr.Width.TheVariants.{Word as Words, Byte}
use Rattle.msp430_chip.specs.declared.device.Device.{Device}
use Rattle.msp430_chip.specs.Memory.{is_ram, size_of, HasRam}
use Rattle.msp430_chip.specs.State.{ram_size}
use Rattle.msp430_state.specs.Known.{Known}
use Rattle.irq_frames.specs.Ranges.{with_range}
use Rattle.msp430_alu.specs.Registers.{even_parts}

-- a program in the chip's memory, beside RAM of whole words
pub record IsDevice (device : Device) : Type 0 where
  pub size : length device.image ≡ 65536
  pub bytes : All IsByte device.image
  pub apart : (at : ℕ) → device.ram.lo ≤ at → at ≤ device.ram.hi → byte_at device.image at ≡ None
  pub ram : HasRam device

-- the bytes of a device's RAM
pub record IsRam (device : Device) (ram : List ℕ) : Type 0 where
  pub count : length ram ≡ ram_size device
  pub bytes : All (λ b. b < 256) ram

-- addresses that are moved by a number, if there are some
abbrev pub moved : (by : ℕ) → Option Form → Option Form
moved by None = None
moved by (Some set) = Some (add 65536 set (single by))

-- what there is of both, which is something
abbrev pub of_both : (set : Form) → Option Form → Form
of_both set None = set
of_both set (Some all) = all

-- the addresses outside the mirror, and those in it as addresses of RAM
abbrev pub canonical_by : (lo : ℕ) → (mirror : Option (ℕ × ℕ)) → Form → Form
canonical_by lo None set = set
canonical_by lo (Some (first, last)) set =
    let len = last + 1 - first in
    of_both set (join_parts 65536 (cut 65536 set ((last + 1) % 65536) (65536 - len))
    (moved ((lo + 65536 - first) % 65536) (cut 65536 set first len)))

abbrev pub canonical : Device → Form → Form
canonical device set = canonical_by device.ram.lo device.ram.mirror set

-- where accesses at these addresses are made: bit 0 of a word's doesn't count
abbrev pub located : Device → Width → Form → Form
located device Words set = canonical device (even_parts set)
located device Byte set = canonical device set

-- READS

abbrev pub word_by : Option ℕ → Option ℕ → Word
word_by (Some low) (Some high) = record { set = single (low + 256 * high); entry = None }
word_by (Some low) None = unknown 2
word_by None high = unknown 2

abbrev pub byte_by : Option ℕ → Word
byte_by (Some byte) = record { set = single byte; entry = None }
byte_by None = unknown 1

-- what stands in the program, else any
abbrev pub program_word : Device → Width → ℕ → Word
program_word device Words at = word_by (byte_at device.image at) (byte_at device.image (at + 1))
program_word device Byte at = byte_by (byte_at device.image at)

-- what is read at one address, which is even for a word; no word lies half in RAM
abbrev pub read_one : Device → Known → Width → ℕ → Word
read_one device a width at = if is_ram device at then read a.cells.cells at (size_of width) else program_word device width at

-- what is read at several: the sets joined in this order
abbrev pub read_each : Device → Known → Width → Form → List ℕ → Form
read_each device a width set [] = set
read_each device a width set (at ∷ rest) = read_each device a width (join 65536 set (read_one device a width at).set) rest

-- A relation is read from one address alone. Of more than 256 addresses nothing is known.
abbrev pub read_list : Device → Known → Width → List ℕ → Word
read_list device a width [] = unknown (size_of width)
read_list device a width (at ∷ []) = read_one device a width at
read_list device a width (at ∷ next ∷ rest) =
    if nat_le (length rest) 254
    then record { set = read_each device a width (read_one device a width at).set (next ∷ rest); entry = None }
    else unknown (size_of width)

abbrev pub read_known : Device → Known → Width → Form → Word
read_known device a width at = read_list device a width (members 65536 at)

-- STORES

-- the part of a range that lies in RAM is touched
abbrev pub touch : (lo hi first last : ℕ) → List (ℕ × ℕ) → List (ℕ × ℕ)
touch lo hi first last touched = if nat_lt last lo || nat_lt hi first then touched else with_range (max lo first) (min hi last) touched

abbrev pub touch_each : (lo hi size : ℕ) → List ℕ → List (ℕ × ℕ) → List (ℕ × ℕ)
touch_each lo hi size [] touched = touched
touch_each lo hi size (at ∷ rest) touched = touch_each lo hi size rest (touch lo hi at (at + size - 1) touched)

-- each written byte, of a run all from the first one to the last, and all RAM where the run goes round
abbrev pub touched_behind : (lo hi size : ℕ) → Form → List (ℕ × ℕ) → List (ℕ × ℕ)
touched_behind lo hi size (Values xs) touched = touch_each lo hi size xs touched
touched_behind lo hi size (Run p) touched =
    if nat_le 65536 (p.base + reach p) then with_range lo hi touched
    else touch lo hi p.base (p.base + reach p + size - 1) touched

-- a value stored at one of the addresses of a set; touched bytes are kept in an interrupt's frame alone
abbrev pub with_store : Device → (framed : Bool) → Known → Width → Form → Word → Known
with_store device framed a width at word = record a {
  cells = write_any a.cells at (size_of width) word;
  touched = if framed then touched_behind device.ram.lo device.ram.hi (size_of width) at a.touched else a.touched;
}
