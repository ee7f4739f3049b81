use Rattle.std.proofs.Common.{◌≤◌, ◌∙◌, sym, ap, None}
use Rattle.std.specs.Prelude.{min, if◌then◌else◌}
use Rattle.value_set.specs.Form.{members}
use Rattle.report_bytes.specs.Deepest.{extreme_of}
use Rattle.report_bytes.proofs.DeepestLemmas.{extreme_one}
use Rattle.report_bytes.proofs.StackLemmas.{less}
use Rattle.report_bytes.proofs.deepest.least_number.Goals as goal

pub returns-then-has_all_words-clause-value : goal.returns-then-has_all_words-clause-value
returns-then-has_all_words-clause-value c =
    sym (ap (λ b. if b then None else extreme_of min (members 65536 c.args.values.now)) (sym c.has_all_words.ensures ∙ c.if-has_all_words.true))

pub returns-clause-value : goal.returns-clause-value
returns-clause-value c =
    let values = c.args.values.now in
    sym (ap (λ b. if b then None else extreme_of min (members 65536 values)) (sym c.has_all_words.ensures ∙ c.if-has_all_words.false)
    ∙ extreme_one min (λ a b. a ≤ b) less (members 65536 values) c.least.result (c.least.ensures.member, c.least.ensures.first))
