use Rattle.std.proofs.Common.{◌≡◌, ◌++◌, take}
use Rattle.hex_digits.specs.Digits.{hex_bytes}
use Rattle.disassembly.proofs.listing.push_bytes.Given as goal

abbrev pub invariant-loop-byte : goal.invariant-loop-byte
invariant-loop-byte l = l.lines.items ≡ l.fn.lines.items ++ hex_bytes (take l.byte-index l.bytes)
