use Rattle.std.proofs.Common.{◌≡◌, ◌+◌, drop}
use Rattle.std.specs.List.{list_any, enumerate_from}
use Rattle.ihex_read.specs.Loading.{is_taken}
use Rattle.ihex_read.proofs.placing.clashes.Given as goal

-- the rest decides
abbrev pub invariant-loop-i : goal.invariant-loop-i
invariant-loop-i l =
    list_any (is_taken l.image) (enumerate_from (l.start + l.i) (drop l.i l.bytes)) ≡ list_any (is_taken l.image) (enumerate_from l.start l.bytes)
