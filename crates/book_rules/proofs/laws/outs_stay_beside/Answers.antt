use Rattle.std.proofs.Common.{◌∙◌, ap}
use Rattle.book_rules.specs.Replays.{replay-push}
use Rattle.book_rules.proofs.OutsLaws.{out-beside}
use Rattle.book_rules.specs.Machine.{out_at, replay}
use Rattle.book_rules.proofs.laws.outs_stay_beside.Goals as goal

pub returns : goal.returns
returns g c = λ base journal event unit o e other. let a = g.C.Chip.analysis base in
    ap (λ b. out_at b.out unit) (replay-push a journal event) ∙ out-beside a (replay a journal) event unit o e other
