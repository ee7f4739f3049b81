use Rattle.std.proofs.Common.{◌≡◌, ◌+◌, ◌++◌, take, drop, length}
use Rattle.msp430_entry.specs.Entry.{all_related}
use Rattle.msp430_entry.proofs.handing.all_related.Given as goal

abbrev pub invariant-loop-i : goal.invariant-loop-i
invariant-loop-i l = record {
  made : take l.i l.all ++ all_related (l.i + 4) (drop l.i l.words) ≡ all_related 4 l.words;
  count : length l.all ≡ 12;
}
