use Rattle.std.proofs.Common.{◌≤◌, length}
use Rattle.text_rows.proofs.images.feed_bytes.Given as goal

abbrev pub invariant-loop-byte : goal.invariant-loop-byte
invariant-loop-byte l = length l.reader.text ≤ l.byte-index
