use Rattle.std.proofs.Common.{◌∙◌, ap}
use Rattle.book_rules.proofs.OutsLaws.{outs-stay}
use Rattle.book_rules.proofs.ReplayLaws.{AllLegal-rest, replay-append}
use Rattle.book_rules.specs.Machine.{opening, replay, out_at}
use Rattle.book_rules.proofs.laws.outs_stay.Goals as goal

pub returns : goal.returns
returns g c = λ base journal more unit o legal e none. let a = g.C.Chip.analysis base in
    ap (λ b. out_at b.out unit) (replay-append a journal more)
    ∙ outs-stay a (replay a journal) more unit o (AllLegal-rest a (opening a) journal more legal) e none
