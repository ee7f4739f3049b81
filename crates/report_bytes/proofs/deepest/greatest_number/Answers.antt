use Rattle.std.proofs.Common.{◌≤◌, ◌∙◌, sym, ap, None}
use Rattle.std.specs.Prelude.{max, if◌then◌else◌}
use Rattle.value_set.specs.Form.{members}
use Rattle.report_bytes.specs.Deepest.{extreme_of}
use Rattle.report_bytes.proofs.DeepestLemmas.{extreme_one}
use Rattle.report_bytes.proofs.StackLemmas.{more}
use Rattle.report_bytes.proofs.deepest.greatest_number.Goals as goal

pub returns-then-has_all_bytes-clause-value : goal.returns-then-has_all_bytes-clause-value
returns-then-has_all_bytes-clause-value c =
    sym (ap (λ b. if b then None else extreme_of max (members 256 c.args.values.now)) (sym c.has_all_bytes.ensures ∙ c.if-has_all_bytes.true))

pub returns-clause-value : goal.returns-clause-value
returns-clause-value c =
    let values = c.args.values.now in
    sym (ap (λ b. if b then None else extreme_of max (members 256 values)) (sym c.has_all_bytes.ensures ∙ c.if-has_all_bytes.false)
    ∙ extreme_one max (λ a b. b ≤ a) more (members 256 values) c.greatest.result (c.greatest.ensures.member, c.greatest.ensures.last))
