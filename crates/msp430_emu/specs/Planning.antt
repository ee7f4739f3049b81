-- What a whole step of the emulator computes before it writes anything, and what that stands for.
use Rattle.std.specs.Prelude.{ℕ, Option, None, Some, Result, Ok, Err, List, [], ◌∷◌, ◌++◌, slice_index}
use Rattle.arrayvec.specs.ArrayVec.{ArrayVec}
use Rattle.call_context.specs.declared.shown.Item.{Item}
use Rattle.call_context.specs.declared.shown.Item.TheVariants as items
use Rattle.call_context.specs.declared.shown.Set.TheVariants.{W}
use Rattle.chip_numbers.specs.Single.{Single}
use Rattle.chip_numbers.specs.Single.Single.{Instr, Edge, Access, Stack}
use Rattle.msp430_decode.specs.declared.refusal.NoInstr.{NoInstr as ANoInstr}
use Rattle.msp430_chip.specs.declared.device.Device.{Device}
use Rattle.msp430_chip.specs.declared.state.ChipState.{ChipState}
use Rattle.msp430_chip.specs.declared.state.Wild.{Wild as Cause}
use Rattle.msp430_chip.specs.declared.state.Wild.TheVariants.{NoInstr, Push, Store}
use Rattle.msp430_chip.specs.Interrupts.{first_hit}
use Rattle.msp430_chip.specs.Outcome.{Outcome, unless_hit}
use Rattle.choosing.specs.Outcome.Outcome.{Wild}
use Rattle.msp430_chip.specs.State.{register_of}
use Rattle.value_set.specs.Summing.{single}
use Rattle.msp430_emu.specs.declared.effect.Plan.{Plan}
use Rattle.msp430_emu.specs.Drafting.{stored, hit_of, all_shown}

abbrev pub ran : ℕ → Option (ArrayVec ℕ) → List Single
ran pc None = []
ran pc (Some bytes) = Instr pc bytes.items ∷ []

abbrev pub singles_of : Device → ChipState → Plan → List Single
singles_of device s plan = let pc = register_of s 0 in
    Stack pc (register_of s 1) ∷ [] ++ ran pc plan.bytes ++ all_shown device pc plan.accesses ++ Edge pc (slice_index plan.registers 0) ∷ []

-- the lowest byte of the program that the first store with such a byte would write
abbrev pub plan_hit : Device → Plan → Option ℕ
plan_hit device plan = first_hit (hit_of device plan.first) (hit_of device plan.second)

-- why the model is left by a store: no instruction runs where an interrupt is entered
abbrev pub hitting : Option (ArrayVec ℕ) → (at : ℕ) → Cause
hitting None at = Push at
hitting (Some bytes) at = Store at

abbrev pub state_after : Device → ChipState → Plan → ChipState
state_after device s plan = record {
  registers = plan.registers;
  ram = stored device (stored device s.ram plan.first) plan.second;
  late = plan.late;
}

abbrev pub planned : Device → ChipState → Plan → Outcome ChipState
planned device s plan = unless_hit (hitting plan.bytes) (plan_hit device plan) (singles_of device s plan) (state_after device s plan)

-- what a step comes to, where an instruction stands and where none does
abbrev pub outcome_of : Device → ChipState → Result Plan ANoInstr → Outcome ChipState
outcome_of device s (Ok plan) = planned device s plan
outcome_of device s (Err none) = Wild (NoInstr none)

-- the item that shows one single item, with sets of one value
abbrev pub item_of : Single → Item
item_of (Instr pc bytes) = items.Instr pc bytes
item_of (Edge origin target) = items.Edge origin target
item_of (Access pc space write size address) = items.Access pc space write size (W (single address))
item_of (Stack pc sp) = items.Stack pc (W (single sp))
