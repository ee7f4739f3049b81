use Rattle.std.proofs.Common.{◌∙◌, ap, sym}
use Rattle.std.specs.Prelude.{position}
use Rattle.std.specs.Map.{keys_of}
use Rattle.indexmap.specs.IndexMap.{insert_entry}
use Rattle.round_core.specs.Rows.{rows_of}
use Rattle.round_core.proofs.table.Table.set_at.Goals as goal
use Rattle.round_core.proofs.TableLemmas.{keys-marks, set_rows}

pub invariant_of-self : goal.invariant_of-self
invariant_of-self g c =
    (set_rows g.K.PartialEq.eq c.args.key c.args.value c.args.mark c.args.place _ _ _ _ c.self.invariant c.put_mark.ensures.entries c.put_value-replaced.ensures.items
    (c.requires.place ∙ ap (λ v. position (g.K.PartialEq.eq c.args.key) (keys_of v.rows)) (sym c.self.view_is))).1

pub returns-clause-rows : goal.returns-clause-rows
returns-clause-rows g c =
    (set_rows g.K.PartialEq.eq c.args.key c.args.value c.args.mark c.args.place _ _ _ _ c.self.invariant c.put_mark.ensures.entries c.put_value-replaced.ensures.items
    (c.requires.place ∙ ap (λ v. position (g.K.PartialEq.eq c.args.key) (keys_of v.rows)) (sym c.self.view_is))).0
    ∙ ap (λ v. insert_entry g.K.PartialEq.eq v.rows c.args.key (c.args.value, c.args.mark)) c.self.view_is

pub put_mark-requires-clause-place : goal.put_mark-requires-clause-place
put_mark-requires-clause-place g c =
    let test = g.K.PartialEq.eq c.args.key in
    let rows = rows_of c.self.inside.marks.entries c.self.inside.values.items in
    c.requires.place ∙ ap (λ v. position test (keys_of v.rows)) (sym c.self.view_is)
    ∙ ap (position test) (sym (keys-marks rows)) ∙ ap (λ es. position test (keys_of es)) (sym c.self.invariant.marks_are)
