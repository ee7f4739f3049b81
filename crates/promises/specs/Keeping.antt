-- Which steps of a chip keep promises. A step without an instruction is the entry of an interrupt: no promise speaks of it.
use Rattle.std.specs.Prelude.{ℕ, ◌+◌, ◌-◌, ◌==◌, nat_lt, nat_le, not, ◌&&◌, ◌||◌, if◌then◌else◌, Bool, true, false, Option, None, Some, List, [], ◌∷◌}
use Rattle.std.specs.List.{list_any, list_all}
use Rattle.std.specs.Option.{option_or}
use Rattle.chip_numbers.specs.Single.{Single}
use Rattle.chip_numbers.specs.Single.Single.{Instr, Edge, Access, Stack}
use Rattle.chip_numbers.specs.declared.space.Space.{Space}
use Rattle.chip_numbers.specs.declared.space.Space.TheVariants.{Mem, Ram}
use Rattle.promises.specs.declared.promise.Promise.{Promise}
use Rattle.promises.specs.declared.promise.Promise.TheVariants.{Write, All, Goes}
use Rattle.promises.specs.declared.promise.Window.{Window}
use Rattle.promises.specs.declared.promise.Window.TheVariants.{Between, BelowStack, AboveStack}
use Rattle.promises.specs.declared.spoken.Growth.{Growth}
use Rattle.promises.specs.declared.spoken.Growth.TheVariants.{Down, Up}
use Rattle.promises.specs.declared.spoken.Site.{Site}
use Rattle.promises.specs.declared.spoken.Site.TheVariants.{Nothing, Store, Way}
use Rattle.promises.specs.Spoken.{Spoken}

-- WHAT IS PROMISED OF AN ADDRESS

-- what the first of a list gives that gives something
abbrev pub first_of_all : {A B : Type 0} → (A → Option B) → List A → Option B
first_of_all given [] = None
first_of_all given (x ∷ xs) = option_or (given x) (first_of_all given xs)

abbrev pub windows_for : ℕ → Promise → Option (List Window)
windows_for pc (Write at windows) = if at == pc then Some windows else None
windows_for pc promise = None

abbrev pub windows_for_all : Promise → Option (List Window)
windows_for_all (All windows) = Some windows
windows_for_all promise = None

abbrev pub targets_for : ℕ → Promise → Option (List ℕ)
targets_for pc (Goes at targets) = if at == pc then Some targets else None
targets_for pc promise = None

abbrev pub is_store : Site → Bool
is_store Nothing = false
is_store (Store size) = true
is_store Way = false

-- the windows of the instruction at an address: its own, else those of each store
abbrev pub windows_at : Spoken → List Promise → (pc : ℕ) → Option (List Window)
windows_at spoken promises pc =
    option_or (first_of_all (windows_for pc) promises)
    (if is_store (spoken.at pc) then first_of_all windows_for_all promises else None)

-- the addresses to which the instruction at an address may go
abbrev pub targets_at : List Promise → (pc : ℕ) → Option (List ℕ)
targets_at promises pc = first_of_all (targets_for pc) promises

-- A STEP

-- so many bytes from an address on stand in a window, by the stack pointer before the step
abbrev pub is_in : Window → (sp at size : ℕ) → Bool
is_in (Between lo hi) sp at size = nat_le lo at && nat_le (at + size - 1) hi
is_in (BelowStack lo) sp at size = nat_le lo at && nat_le (at + size) sp
is_in (AboveStack hi) sp at size = nat_lt sp at && nat_le (at + size - 1) hi

abbrev pub is_in_one : List Window → (sp at size : ℕ) → Bool
is_in_one windows sp at size = list_any (λ window. is_in window sp at size) windows

-- the memory in which a promise has its windows
abbrev pub is_memory : Growth → Space → Bool
is_memory Down Mem = true
is_memory Up Ram = true
is_memory growth space = false

-- the address of the instruction that runs in a step
abbrev pub instr_of : Single → Option ℕ
instr_of (Instr pc bytes) = Some pc
instr_of single = None

abbrev pub pc_of : List Single → Option ℕ
pc_of step = first_of_all instr_of step

-- the stack pointer before a step
abbrev pub stack_of : Single → Option ℕ
stack_of (Stack pc sp) = Some sp
stack_of single = None

abbrev pub sp_of : List Single → Option ℕ
sp_of step = first_of_all stack_of step

-- what is written stands in a window, and without a stack pointer in none
abbrev pub stands_in : List Window → (sp : Option ℕ) → (at size : ℕ) → Bool
stands_in windows None at size = false
stands_in windows (Some sp) at size = is_in_one windows sp at size

abbrev pub writes_in : Growth → List Window → (sp : Option ℕ) → Single → Bool
writes_in growth windows sp (Access pc space true size at) = not (is_memory growth space) || stands_in windows sp at size
writes_in growth windows sp single = true

abbrev pub goes_to : List ℕ → Single → Bool
goes_to targets (Edge origin target) = list_any (λ at. at == target) targets
goes_to targets single = true

-- each write of a step stands in the windows, where some are promised
abbrev pub keeps_windows : Growth → Option (List Window) → List Single → Bool
keeps_windows growth None step = true
keeps_windows growth (Some windows) step = list_all (writes_in growth windows (sp_of step)) step

abbrev pub keeps_targets : Option (List ℕ) → List Single → Bool
keeps_targets None step = true
keeps_targets (Some targets) step = list_all (goes_to targets) step

abbrev pub keeps_at : Spoken → List Promise → (pc : Option ℕ) → List Single → Bool
keeps_at spoken promises None step = true
keeps_at spoken promises (Some pc) step =
    keeps_windows spoken.growth (windows_at spoken promises pc) step && keeps_targets (targets_at promises pc) step

-- what a step shows keeps the promises
abbrev pub keeps : Spoken → List Promise → List Single → Bool
keeps spoken promises step = keeps_at spoken promises (pc_of step) step
