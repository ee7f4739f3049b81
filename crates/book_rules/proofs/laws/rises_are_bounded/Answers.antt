use Rattle.std.specs.Prelude.{◌≤◌}
use Rattle.book_rules.specs.Sound.{IsInBounds}
use Rattle.book_rules.proofs.EntryLaws.{all-map}
use Rattle.book_rules.proofs.FormLaws.{IsInForm-replay}
use Rattle.book_rules.specs.Machine.{replay}
use Rattle.book_rules.proofs.ReplayLaws.{AreRisen-replay}
use Rattle.book_rules.proofs.laws.rises_are_bounded.Goals as goal

pub returns-clause-least : goal.returns-clause-least
returns-clause-least g c = λ base journal l. let a = g.C.Chip.analysis base in AreRisen-replay a journal l

pub returns-clause-most : goal.returns-clause-most
returns-clause-most g c = λ base journal keeps top l. let a = g.C.Chip.analysis base in
    all-map (IsInBounds a) (λ h. h.rises ≤ 64) (λ h i. i.most) (replay a journal).nodes (IsInForm-replay a keeps top journal l).nodes
