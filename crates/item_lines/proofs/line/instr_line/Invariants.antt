use Rattle.std.proofs.Common.{◌≡◌, ◌++◌, take}
use Rattle.hex_digits.specs.Digits.{hex_bytes}
use Rattle.item_lines.proofs.line.instr_line.Given as goal

abbrev pub invariant-loop-byte : goal.invariant-loop-byte
invariant-loop-byte g l = l.line.items ≡ l.initial.line.items ++ hex_bytes (take l.byte-index l.bytes)
