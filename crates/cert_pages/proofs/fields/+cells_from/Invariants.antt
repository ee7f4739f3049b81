use Rattle.std.proofs.Common.{length, ◌-◌}
use Rattle.cert_pages.proofs.fields.+cells_from.Given as goal

abbrev pub decreases-cells_from : goal.decreases-cells_from
decreases-cells_from l = length l.text.now - l.place
