-- What is known in front of an instruction whose step keeps promises: the register through which it stores points into its
-- window.
use Rattle.std.specs.Prelude.{ℕ, ◌+◌, ◌-◌, ◌%◌, is_some, if◌then◌else◌, Option, None, Some, option_map, List, [], ◌∷◌}
use Rattle.msp430_decode.specs.declared.instr.Instr.{Instr}
use Rattle.msp430_chip.specs.declared.device.Device.{Device}
use Rattle.msp430_state.specs.Known.{Known, word_of}
use Rattle.msp430_branch.specs.Cuts.{with_set}
use Rattle.msp430_kept.specs.Sites.{pointer_of, spoken}
use Rattle.msp430_kept.specs.declared.pointer.Pointer.{Pointer}
use Rattle.promises.specs.Keeping.{windows_at}
use Rattle.promises.specs.declared.promise.Promise.{Promise}
use Rattle.promises.specs.declared.promise.Window.{Window}
use Rattle.promises.specs.declared.promise.Window.TheVariants.{AboveStack, BelowStack, Between}
use Rattle.value_set.specs.Cutting.{cut}
use Rattle.value_set.specs.Ends.{greatest, least}
use Rattle.value_set.specs.declared.form.Form.{Form}

-- A WINDOW, BY THE SET OF SP

-- the first address that may be in it
abbrev pub first_in : (sp : Form) → Window → ℕ
first_in sp (Between lo hi) = lo
first_in sp (BelowStack lo) = lo
first_in sp (AboveStack hi) = least 65536 sp + 1

-- the address behind the last one that may be in it
abbrev pub behind_in : (sp : Form) → Window → ℕ
behind_in sp (Between lo hi) = hi + 1
behind_in sp (BelowStack lo) = greatest 65536 sp
behind_in sp (AboveStack hi) = hi + 1

-- CUTS

-- The values with which a register plus a number points into a window, round the circle modulo 65536. None are left where the
-- window is empty, or where it has no address to which they point.
abbrev pub cut_to : (sp set : Form) → (added : ℕ) → Window → Option Form
cut_to sp set added window =
    cut 65536 set ((first_in sp window + 65536 - added) % 65536) (behind_in sp window - first_in sp window)

-- To several windows nothing is cut: a set for all of them would fill the gaps between them.
abbrev pub cut_by : (sp set : Form) → (added : ℕ) → List Window → Option Form
cut_by sp set added (window ∷ []) = cut_to sp set added window
cut_by sp set added windows = None

-- the windows of an address, on a device whose RAM answers at one address alone
abbrev pub windows_in : Device → List Promise → (pc : ℕ) → Option (List Window)
windows_in device promises pc = if is_some device.ram.mirror then None else windows_at (spoken device.image) promises pc

-- the register that is cut, with what is left of its set
abbrev pub cut_through : Known → Option Pointer → Option (List Window) → Option (ℕ × Form)
cut_through a (Some pointer) (Some windows) =
    option_map (λ set. (pointer.register, set)) (cut_by a.sp (word_of a pointer.register).set pointer.added windows)
cut_through a pointer windows = None

-- IN FRONT OF AN INSTRUCTION

-- where nothing is left, all stays: no step from there keeps the promise
abbrev pub with_cut : Known → Option (ℕ × Form) → Known
with_cut a None = a
with_cut a (Some found) = with_set a found.0 found.1

unfoldable pub front : Device → List Promise → Known → (pc : ℕ) → Instr → Known
front device promises a pc instr = with_cut a (cut_through a (pointer_of instr) (windows_in device promises pc))
