use Rattle.book_rules.specs.Machine.{replay}
use Rattle.book_rules.proofs.PlacedLaws.{of_locations, IsPlaced-replay}
use Rattle.book_rules.proofs.laws.works_are_of_locations.Goals as goal

pub returns : goal.returns
returns g c = λ base journal legal. let a = g.C.Chip.analysis base in of_locations (replay a journal) (IsPlaced-replay a journal legal)
