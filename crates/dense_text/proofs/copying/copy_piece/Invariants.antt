use Rattle.std.proofs.Common.{◌≡◌, ◌++◌}
use Rattle.std.specs.List.{repeat}
use Rattle.dense_text.specs.Ranges.{bytes_at}
use Rattle.dense_text.proofs.copying.copy_piece.Given as goal

abbrev pub invariant-loop : goal.invariant-loop
invariant-loop l = l.copy.items ≡ l.fn.copy.items ++ repeat l.counter (bytes_at l.bytes l.fn.piece.start l.fn.piece.len)
