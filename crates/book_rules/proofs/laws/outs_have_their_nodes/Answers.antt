use Rattle.book_rules.specs.Sound.{IsWellOut}
use Rattle.book_rules.proofs.EntryLaws.{out_at-all}
use Rattle.book_rules.proofs.ReplayLaws.{IsSteady-replay}
use Rattle.book_rules.specs.Machine.{replay}
use Rattle.book_rules.proofs.laws.outs_have_their_nodes.Goals as goal

pub returns : goal.returns
returns g c = λ base journal unit o legal e. let b = replay (g.C.Chip.analysis base) journal in
    (out_at-all (IsWellOut b.nodes) b.out unit o (IsSteady-replay (g.C.Chip.analysis base) journal legal).out e).0.stay
