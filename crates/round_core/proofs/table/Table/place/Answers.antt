use Rattle.std.proofs.Common.{◌∙◌, ap}
use Rattle.std.specs.Prelude.{position}
use Rattle.std.specs.Map.{keys_of}
use Rattle.round_core.proofs.table.Table.place.Goals as goal
use Rattle.round_core.proofs.TableLemmas.{keys-marks}

pub returns : goal.returns
returns g c =
    let test = g.K.PartialEq.eq c.args.key.now in
    c.get_index_of.ensures.index
    ∙ ap (λ es. position test (keys_of es)) c.self.invariant.marks_are
    ∙ ap (position test) (keys-marks _)
    ∙ ap (λ v. position test (keys_of v.rows)) c.self.view_is
