-- What a step of the emulator computes before it writes anything, and what that stands for.
use Rattle.std.specs.Prelude.{ℕ, ◌%◌, Option, None, Some, List, [], ◌∷◌, ◌++◌}
use Rattle.chip_numbers.specs.declared.space.Space.TheVariants.{Mem}
use Rattle.chip_numbers.specs.Single.{Single}
use Rattle.chip_numbers.specs.Single.Single.{Access as Accessed}
use Rattle.msp430_decode.specs.declared.instr.Destination.{Destination}
use Rattle.msp430_decode.specs.declared.instr.Instr.{Instr}
use Rattle.msp430_decode.specs.declared.instr.Instr.TheVariants.{Double}
use Rattle.msp430_decode.specs.declared.instr.Operation.{Operation}
use Rattle.msp430_decode.specs.declared.instr.Source.{Source}
use Rattle.msp430_decode.specs.declared.instr.Width.{Width}
use Rattle.msp430_chip.specs.declared.device.Device.{Device}
use Rattle.msp430_chip.specs.declared.state.ChipState.{ChipState}
use Rattle.msp430_chip.specs.Memory.{aligned, with_stored, program_hit, size_of}
use Rattle.msp430_chip.specs.Outcome.{Outcome}
use Rattle.msp430_chip.specs.State.{register_of}
use Rattle.choosing.specs.Asking.{Asking, answer, and_then}
use Rattle.msp430_chip.specs.Step.{Left, done, double_accesses, double_left}
use Rattle.msp430_emu.specs.declared.double.Operands.{Operands}
use Rattle.msp430_emu.specs.declared.effect.Store.{Store}
use Rattle.msp430_emu.specs.declared.effect.Access.{Access}
use Rattle.msp430_emu.specs.declared.effect.Accesses.{Accesses}
use Rattle.msp430_emu.specs.declared.effect.Effect.{Effect}
use Rattle.msp430_emu.specs.declared.effect.Draft.{Draft}

-- RAM behind a store, and the lowest byte of the program that it would write
abbrev pub stored : Device → List ℕ → Option Store → List ℕ
stored device ram None = ram
stored device ram (Some store) = with_stored device ram store.width store.at store.value

abbrev pub hit_of : Device → Option Store → Option ℕ
hit_of device None = None
hit_of device (Some store) = program_hit device store.width store.at

abbrev pub left_by : Device → List ℕ → Effect → Left
left_by device ram effect = record {
  registers = effect.registers;
  ram = stored device ram effect.store;
  hit = hit_of device effect.store;
}

-- accesses in their order
abbrev pub shown : Device → ℕ → Option Access → List Single
shown device pc None = []
shown device pc (Some access) =
    Accessed pc Mem access.write (size_of access.width) (aligned device access.width access.at) ∷ []

abbrev pub all_shown : Device → ℕ → Accesses → List Single
all_shown device pc accesses =
    shown device pc accesses.first ++ shown device pc accesses.second ++ shown device pc accesses.third

-- what an instruction comes to
abbrev pub drafted : Device → ChipState → Instr → Draft → Outcome ChipState
drafted device s instr draft =
    done s instr (all_shown device (register_of s 0) draft.accesses) (left_by device s.ram draft.effect)

-- an instruction on two operands, behind them
abbrev pub double_behind : Device → ChipState → Operation → Width → Source → Destination → Operands → Asking (Outcome ChipState)
double_behind device s operation width source destination operands =
    and_then (double_left device s.ram operands.registers operation width operands.place operands.x operands.y (register_of s 2 % 2)) (λ left.
    answer (done s (Double operation width source destination) (double_accesses device (register_of s 0) operation width operands.origin operands.place) left))
