use Rattle.std.proofs.Common.{◌≡◌, ◌*◌, take}
use Rattle.hex_digits.specs.Digits.{hex_bytes}
use Rattle.hex_digits.proofs.reading.bytes.Given as goal

abbrev pub invariant-loop-i : goal.invariant-loop-i
invariant-loop-i l = hex_bytes l.bytes.items ≡ take (2 * l.i) l.text
