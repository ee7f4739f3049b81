-- The interrupts of the MSP430 (SLAU049, chapter 2, "Interrupts"): vector i, from 0 to 13, stands at FFE0h + 2 * i.
use Rattle.std.specs.Prelude.{ℕ, ◌+◌, ◌*◌, ◌/◌, ◌%◌, ◌==◌, ◌&&◌, ◌||◌, not, if◌then◌else◌, Bool, true, false, Option, None, Some, List, [], ◌∷◌, slice_set}
use Rattle.std.specs.List.{filter, range_with_len}
use Rattle.image.specs.Image.{byte_at}
use Rattle.chip_numbers.specs.declared.space.Space.TheVariants.{Mem}
use Rattle.chip_numbers.specs.Single.Single.{Access, Edge, Stack}
use Rattle.msp430_decode.specs.declared.instr.Width.TheVariants.{Word}
use Rattle.msp430_chip.specs.declared.device.Device.{Device}
use Rattle.msp430_chip.specs.declared.state.ChipState.{ChipState}
use Rattle.msp430_chip.specs.declared.state.Wild.TheVariants.{Push}
use Rattle.choosing.specs.Asking.{Asking, answer, ask, ◌>>=◌}
use Rattle.msp430_chip.specs.Memory.{aligned, with_stored, program_hit}
use Rattle.msp430_chip.specs.Outcome.{Outcome, unless_hit}
use Rattle.msp430_chip.specs.State.{even, register_of, allows_interrupts, image_word}

abbrev pub vector_address : ℕ → ℕ
vector_address vector = 0xFFE0 + 2 * vector

-- both bytes are in the image, and they aren't those of an erased word
abbrev pub is_raised : Option ℕ → Option ℕ → Bool
is_raised (Some low) (Some high) = not ((low == 255) && (high == 255))
is_raised (Some low) None = false
is_raised None high = false

abbrev pub may_come : Device → ℕ → Bool
may_come device vector = is_raised (byte_at device.image (vector_address vector)) (byte_at device.image (vector_address vector + 1))

-- the interrupts that may come at a boundary, ascending: where GIE is set, or was set before the last instruction
unfoldable pub coming : Device → ChipState → List ℕ
coming device s =
    if allows_interrupts s || s.late then filter (λ vector. may_come device vector) (range_with_len 0 14) else []

abbrev pub handler_of : Device → ℕ → ℕ
handler_of device vector = even (image_word device (vector_address vector))

-- SR but SCG0, bit 6, is cleared
abbrev pub entered : Device → ChipState → ℕ → List ℕ
entered device s vector = let sp = register_of s 1 in
    slice_set (slice_set (slice_set s.registers 0 (handler_of device vector)) 1 ((sp + 65532) % 65536)) 2 (register_of s 2 / 64 % 2 * 64)

abbrev pub first_hit : Option ℕ → Option ℕ → Option ℕ
first_hit None other = other
first_hit (Some at) other = Some at

-- PC is pushed, then SR with these bits 9 to 15. As with 0280h in SP: PC is written at 027Eh, SR at 027Ch, and SP is 027Ch.
abbrev pub entry : Device → ChipState → (vector bits : ℕ) → Outcome ChipState
entry device s vector bits =
    let pc = register_of s 0 in
    let sp = register_of s 1 in
    let first = (sp + 65534) % 65536 in
    let second = (sp + 65532) % 65536 in
    unless_hit Push (first_hit (program_hit device Word first) (program_hit device Word second))
    (Stack pc sp ∷ Access pc Mem true 2 (aligned device Word first) ∷ Access pc Mem true 2 (aligned device Word second)
    ∷ Edge pc (handler_of device vector) ∷ [])
    (record {
      registers = entered device s vector;
      ram = with_stored device (with_stored device s.ram Word first pc) Word second (register_of s 2 + 512 * bits);
      late = false;
    })

unfoldable pub enter : Device → ChipState → ℕ → Asking (Outcome ChipState)
enter device s vector = do
  bits ← ask 128
  answer (entry device s vector bits)
