use Rattle.std.proofs.Common.{sym, ◌∙◌}
use Rattle.msp430_results.proofs.Twice.{twice_list, twice_run}
use Rattle.msp430_results.proofs.results.twice.Goals as goal

pub returns-in-Values : goal.returns-in-Values
returns-in-Values g c =
    twice_list g.S.Sets.width (g.S.Sets.form c.args.set.now) (g.S.Sets.form c.doubled-sums.result) (g.S.Sets.form c.chosen-none.result) c.in-Values.field-0 c.all_agree.result
    (sym c.list_or_run.ensures ∙ c.in-Values.is) c.doubled-sums.ensures c.chosen-none.ensures c.all_agree.ensures

pub returns-in-Run : goal.returns-in-Run
returns-in-Run g c =
    twice_run g.S.Sets.width (g.S.Sets.form c.args.set.now) (g.S.Sets.form c.doubled-sums.result) c.in-Run.field-0 c.shown_flags.result
    (sym c.list_or_run.ensures ∙ c.in-Run.is) c.doubled-sums.ensures c.shown_flags.ensures
