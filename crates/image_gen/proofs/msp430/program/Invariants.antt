use Rattle.std.proofs.Common.{◌≡◌, take}
use Rattle.std.specs.Prelude.{flat_map}
use Rattle.image_gen.specs.Made.{low_first}
use Rattle.image_gen.proofs.msp430.program.Given as goal

abbrev pub invariant-loop-word : goal.invariant-loop-word
invariant-loop-word l = l.bytes.items ≡ flat_map low_first (take l.word-index l.word-items)
