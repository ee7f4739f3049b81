use Rattle.std.proofs.Common.{◌≡◌, [], ◌∷◌, ◌++◌}
use Rattle.image_gen.specs.Made.{msp430_call, msp430_function}
use Rattle.image_gen.specs.Records.{each}
use Rattle.image_gen.proofs.msp430.words.Given as goal

abbrev pub invariant-loop-i : goal.invariant-loop-i
invariant-loop-i l = l.words.items ≡ 0x4031 ∷ 0x0A00 ∷ [] ++ each (msp430_call l.number) l.i

abbrev pub invariant-loop-i-2 : goal.invariant-loop-i-2
invariant-loop-i-2 l =
    l.words.items ≡ 0x4031 ∷ 0x0A00 ∷ [] ++ each (msp430_call l.number) l.number ++ 0x3FFF ∷ [] ++ each msp430_function l.i
