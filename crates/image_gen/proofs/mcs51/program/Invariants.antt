use Rattle.std.proofs.Common.{◌≡◌, [], ◌∷◌, ◌++◌}
use Rattle.image_gen.specs.Made.{mcs51_call, mcs51_function}
use Rattle.image_gen.specs.Records.{each}
use Rattle.image_gen.proofs.mcs51.program.Given as goal

abbrev pub invariant-loop-i : goal.invariant-loop-i
invariant-loop-i l = l.bytes.items ≡ 0x75 ∷ 0x81 ∷ 0x60 ∷ [] ++ each (mcs51_call l.number) l.i

abbrev pub invariant-loop-i-2 : goal.invariant-loop-i-2
invariant-loop-i-2 l =
    l.bytes.items ≡ 0x75 ∷ 0x81 ∷ 0x60 ∷ [] ++ each (mcs51_call l.number) l.number ++ 0x80 ∷ 0xFE ∷ [] ++ each mcs51_function l.i
