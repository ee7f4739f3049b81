use Rattle.std.proofs.Common.{◌≡◌, ◌+◌, drop}
use Rattle.std.specs.List.{enumerate_from}
use Rattle.ihex_read.specs.Loading.{written}
use Rattle.ihex_read.proofs.placing.write.Given as goal

-- the rest is still to be written
abbrev pub invariant-loop-i : goal.invariant-loop-i
invariant-loop-i l =
    written l.image (enumerate_from (l.start + l.i) (drop l.i l.bytes)) ≡ written l.fn.image (enumerate_from l.start l.bytes)
