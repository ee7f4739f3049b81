use Rattle.book_rules.proofs.ReplayLaws.{first-one}
use Rattle.book_rules.proofs.laws.first_is_one.Goals as goal

pub returns : goal.returns
returns g c = first-one
