use Rattle.std.proofs.Common.{◌≡◌, ◌++◌}
use Rattle.image_gen.specs.Records.{each, record_of}
use Rattle.image_gen.proofs.records.put_stretch.Given as goal

abbrev pub invariant-loop-k : goal.invariant-loop-k
invariant-loop-k l = l.text.items ≡ l.fn.text.items ++ each (record_of l.start l.bytes) l.k
