-- What is known in front of an instruction whose step keeps promises: the register through which it stores, R0 or R1, points
-- into its window.
use Rattle.std.specs.Prelude.{ℕ, ◌+◌, ◌-◌, ◌%◌, min, Option, None, Some, option_and_then, unwrap_or, List, [], ◌∷◌}
use Rattle.mcs51_decode.specs.declared.instr.Instr.{Instr}
use Rattle.mcs51_decode.specs.declared.instr.Pointer.{Pointer}
use Rattle.mcs51_state.specs.declared.fact.Compared.TheVariants.{Ram}
use Rattle.mcs51_state.specs.Known.{Known}
use Rattle.mcs51_state.specs.Operands.{pointer_addresses}
use Rattle.mcs51_branch.specs.declared.window.Window.{Window as ByteWindow}
use Rattle.mcs51_branch.specs.Cuts.{place_cut}
use Rattle.mcs51_kept.specs.Sites.{pointer_of, spoken}
use Rattle.promises.specs.Keeping.{windows_at}
use Rattle.promises.specs.declared.promise.Promise.{Promise}
use Rattle.promises.specs.declared.promise.Window.{Window}
use Rattle.promises.specs.declared.promise.Window.TheVariants.{AboveStack, BelowStack, Between}
use Rattle.value_set.specs.Ends.{greatest, least}
use Rattle.value_set.specs.Form.{members}

-- A WINDOW, BY WHAT IS KNOWN OF SP

-- the first address that may be in it
abbrev pub first_in : Known → Window → ℕ
first_in a (Between lo hi) = lo
first_in a (BelowStack lo) = lo
first_in a (AboveStack hi) = least 256 a.sp + 1

-- the address behind the last one that may be in it
abbrev pub behind_in : Known → Window → ℕ
behind_in a (Between lo hi) = hi + 1
behind_in a (BelowStack lo) = greatest 256 a.sp
behind_in a (AboveStack hi) = hi + 1

-- CUTS

-- the addresses of RAM from one on up to another, which isn't among them; there are 256
abbrev pub in_ram : (first behind : ℕ) → ByteWindow
in_ram first behind = record { low = first % 256; len = min behind 256 - first }

-- What is known where the register at this address of RAM points into a window. Nothing is left where the window has no address
-- to which it may point.
abbrev pub cut_to : Known → (register : ℕ) → Window → Option Known
cut_to a register window = place_cut (Ram register) (in_ram (first_in a window) (behind_in a window)) a

-- of several windows none is cut to: between two of them the register's set would fill the gap
abbrev pub cut_by : Known → (register : ℕ) → List Window → Option Known
cut_by a register (window ∷ []) = cut_to a register window
cut_by a register windows = None

-- IN FRONT OF AN INSTRUCTION

abbrev pub only_one : List ℕ → Option ℕ
only_one (register ∷ []) = Some register
only_one registers = None

-- where R0 or R1 stands, if the bank is known
abbrev pub register_at : Known → Pointer → Option ℕ
register_at a pointer = only_one (members 256 (pointer_addresses a pointer))

abbrev pub part_by : Known → (register : Option ℕ) → Option (List Window) → Option Known
part_by a (Some register) (Some windows) = cut_by a register windows
part_by a register windows = None

-- what is left of what is known, where something is cut
unfoldable pub part_of : (image : List (Option ℕ)) → List Promise → Known → (pc : ℕ) → Instr → Option Known
part_of image promises a pc instr =
    part_by a (option_and_then (register_at a) (pointer_of instr)) (windows_at (spoken image) promises pc)

-- where nothing is left, all stays: no step from there keeps the promise
abbrev pub front : (image : List (Option ℕ)) → List Promise → Known → (pc : ℕ) → Instr → Known
front image promises a pc instr = unwrap_or (part_of image promises a pc instr) a
