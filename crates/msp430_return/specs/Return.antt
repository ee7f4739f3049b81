-- What RETI makes of what is known of a state, and where it goes back to the state that an interrupt suspended (SLAU049,
-- chapter 2, "Return From Interrupt").
use Rattle.std.specs.Prelude.{ℕ, ◌+◌, ◌%◌, ◌==◌, ◌&&◌, Bool, false, Option, None, Some, List, [], ◌∷◌, take, slice_set}
use Rattle.chip_numbers.specs.Single.{Single}
use Rattle.chip_numbers.specs.Single.Single.{Access as Touched}
use Rattle.call_context.specs.declared.node.Frame.{Frame}
use Rattle.call_context.specs.declared.node.Frame.TheVariants.{Base, Irq}
use Rattle.call_context.specs.declared.shown.Item.{Item}
use Rattle.call_context.specs.declared.shown.Item.TheVariants.{Access}
use Rattle.call_context.specs.declared.shown.Set.TheVariants.{W}
use Rattle.chip_numbers.specs.declared.space.Space.TheVariants.{Mem}
use Rattle.entry_value.specs.declared.word.Entry.{Entry}
use Rattle.entry_value.specs.declared.word.Word.{Word}
use Rattle.value_set.specs.declared.form.Form.{Form}
use Rattle.value_set.specs.Joining.{is_within}
use Rattle.value_set.specs.Summing.{add, single}
use Rattle.value_bits.specs.Bits.{known_bits}
use Rattle.msp430_decode.specs.declared.instr.Width.TheVariants.{Word as Words}
use Rattle.msp430_chip.specs.declared.device.Device.{Device}
use Rattle.msp430_chip.specs.declared.state.ChipState.{ChipState}
use Rattle.msp430_chip.specs.Memory.{aligned}
use Rattle.msp430_chip.specs.State.{even, register_of}
use Rattle.msp430_chip.specs.Step.{Left}
use Rattle.msp430_state.specs.declared.status.Status.{Status}
use Rattle.msp430_state.specs.Known.{Known}
use Rattle.msp430_alu.specs.Formats.{Worked}
use Rattle.msp430_alu.specs.Memory.{located, read_known}
use Rattle.msp430_alu.specs.Registers.{even_parts, status_relation}

-- SR FROM A WORD

-- SR holds the lowest nine bits, and a relation to SR
abbrev pub status_from : Word → Status
status_from word = record { bits = take 9 (known_bits 16 word.set); entry = status_relation word.entry }

-- RETI

-- SR is taken from SP, and PC from SP + 2
abbrev pub status_place : Device → (sp : Form) → Form
status_place device sp = located device Words sp

abbrev pub counter_place : Device → (sp : Form) → Form
counter_place device sp = located device Words (add 65536 sp (single 2))

abbrev pub return_items : Device → (pc : ℕ) → (sp : Form) → List Item
return_items device pc sp =
    Access pc Mem false 2 (W (status_place device sp)) ∷ Access pc Mem false 2 (W (counter_place device sp)) ∷ []

-- behind it SP is SP + 4
unfoldable pub return_worked : Device → Known → (pc : ℕ) → Worked
return_worked device a pc = record {
  after = record a { sp = add 65536 a.sp (single 4); status = status_from (read_known device a Words (status_place device a.sp)); fact = None };
  next = even_parts (read_known device a Words (counter_place device a.sp)).set;
  accesses = return_items device pc a.sp;
  store = None;
}

-- what it leaves in a single state, and the accesses that it makes
abbrev pub left_of_return : ChipState → (status target : ℕ) → Left
left_of_return s status target = record {
  registers = slice_set (slice_set (slice_set s.registers 0 (even target)) 1 ((register_of s 1 + 4) % 65536)) 2 (status % 512);
  ram = s.ram;
  hit = None;
}

abbrev pub return_accesses : Device → ChipState → List Single
return_accesses device s =
    Touched (register_of s 0) Mem false 2 (aligned device Words (register_of s 1))
    ∷ Touched (register_of s 0) Mem false 2 (aligned device Words ((register_of s 1 + 2) % 65536)) ∷ []

-- BACK TO THE SUSPENDED STATE

-- the relation of PC to itself, without a mask
abbrev pub is_counter : Option Entry → Bool
is_counter None = false
is_counter (Some entry) = (entry.place == 0) && (entry.and == 65535) && (entry.or == 0)

-- RETI goes back where SP is what it was behind the entry, and PC's slot holds what PC was then
unfoldable pub goes_back : Device → Frame → Known → Bool
goes_back device Base a = false
goes_back device (Irq vector None level) a = false
goes_back device (Irq vector (Some sp) level) a =
    is_within 65536 a.sp (single ((sp + 65532) % 65536)) && is_counter (read_known device a Words (counter_place device a.sp)).entry
