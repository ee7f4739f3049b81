use Rattle.std.proofs.Common.{◌∙◌}
use Rattle.assert_check.specs.Idle.{is_access_in}
use Rattle.assert_check.proofs.AnyBehind.{any_values}
use Rattle.assert_check.proofs.idle.is_accessed.Goals as goal

pub returns : goal.returns
returns g c = c.show_access_in.ensures ∙ any_values (is_access_in c.args.space) (λ work. work.items) c.args.works.now
