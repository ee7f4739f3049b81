use Rattle.std.proofs.Common.{length}
use Rattle.text_fields.proofs.reading.+behind.Given as goal

abbrev pub decreases-behind : goal.decreases-behind
decreases-behind l = length l.name.now
