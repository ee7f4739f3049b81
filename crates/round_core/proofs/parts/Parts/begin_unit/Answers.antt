use Rattle.std.proofs.Common.{◌∙◌, ap, refl, subst}
use Rattle.book_rules.specs.Machine.{with_done}
use Rattle.round_core.specs.Expected.{ExpectsUnit}
use Rattle.round_core.proofs.BeginningLemmas.{unit-begins}
use Rattle.round_core.proofs.parts.Parts.begin_unit.Goals as goal

pub returns-clause-begins : goal.returns-clause-begins
returns-clause-begins g c =
    unit-begins c.args.self.now _ c.args.unit c.args.work c.first_versions-versions.result c.requires.begins c.requires.there
    (subst (λ fs. ExpectsUnit c.args.self.now.agenda c.expect_unit.new.agenda c.args.self.now.nodes.rows c.args.unit c.first_versions-versions.result fs) c.as_slice-frames.ensures
    c.in_ok-expect_unit.ensures.expected)
    c.expect_unit.ensures.grows refl
    (c.set.ensures.rows ∙ ap (λ ds. with_done ds (record { unit = c.args.unit; work = c.args.work; versions = c.first_versions-versions.result })) c.reserve.ensures.rows) refl
