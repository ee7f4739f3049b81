use Rattle.std.proofs.Common.{◌+◌, ◌*◌}
use Rattle.worker_crew.proofs.crew.+crew.Given as goal

abbrev pub decreases-work_beside : goal.decreases-work_beside
decreases-work_beside g l = 2 * l.helpers + 1

abbrev pub decreases-go_on : goal.decreases-go_on
decreases-go_on g l = 2 * l.helpers
