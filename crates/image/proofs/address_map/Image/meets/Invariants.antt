use Rattle.std.proofs.Common.{◌≡◌, ◌+◌, ◌%◌, ◌<◌, ℕ, false}
use Rattle.std.specs.Prelude.{is_some}
use Rattle.image.specs.Image.{byte_at}
use Rattle.image.proofs.address_map.Image.meets.Given as goal

abbrev pub invariant-loop-i : goal.invariant-loop-i
invariant-loop-i l = (k : ℕ) → k < l.i → is_some (byte_at l.self-inside.bytes.items ((l.lo + k) % 65536)) ≡ false
