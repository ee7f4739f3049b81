-- Instructions on two operands, question by question.
use Rattle.std.proofs.Common.{◌≡◌, ℕ, List, Some, refl, slice_set}
use Rattle.msp430_decode.specs.declared.instr.Width.{Width}
use Rattle.msp430_decode.specs.declared.instr.Source.{Source}
use Rattle.msp430_decode.specs.declared.instr.Destination.{Destination}
use Rattle.msp430_decode.specs.declared.instr.Operation.{Operation}
use Rattle.msp430_chip.specs.declared.device.Device.{Device}
use Rattle.msp430_chip.specs.declared.place.Place.{Place}
use Rattle.msp430_chip.specs.declared.state.ChipState.{ChipState}
use Rattle.msp430_chip.specs.Operands.{grown, source_place, destination_place, value_at, with_free_bits}
use Rattle.msp430_chip.specs.State.{register_of}
use Rattle.msp430_chip.specs.Step as steps
use Rattle.msp430_chip.specs.Step.{behind, counter, destination_value, status_bits}
use Rattle.msp430_emu.specs.Drafting.{double_behind}

pub double_asks : (device : Device) (s : ChipState) (len : ℕ) (operation : Operation) (width : Width) (source : Source) (destination : Destination)
    (origin place : Place) (counted x y bits w v b : ℕ) (registers : List ℕ) (l l1 l2 l3 l4 : List ℕ)
    → Some (counted, l1) ≡ counter s len source destination l
    → origin ≡ source_place (register_of s 0) (slice_set s.registers 0 counted) source
    → registers ≡ grown (slice_set s.registers 0 counted) width source
    → place ≡ destination_place (register_of s 0) len registers destination
    → Some (x, l2) ≡ value_at device s.ram (slice_set s.registers 0 counted) width origin l1
    → Some (y, l3) ≡ destination_value device s.ram registers operation width place l2
    → Some (bits, l4) ≡ status_bits operation width origin place l3
    → b ≡ behind s len
    → w ≡ with_free_bits width origin bits x
    → v ≡ with_free_bits width place bits y
    → double_behind device s operation width source destination (record { registers = slice_set registers 0 b; origin = origin; place = place; x = w; y = v }) l4
    ≡ steps.double device s len operation width source destination l
unfolding steps.double
double_asks device s len operation width source destination origin place counted x y bits w v b registers l l1 l2 l3 l4 e1 e2 e3 e4 e5 e6 e7 e8 e9 e10 =
    rw (← e1, ← e2, ← e3, ← e4, ← e5, ← e6, ← e7, ← e8, ← e9, ← e10) refl
