use Rattle.std.proofs.Common.{◌+◌, List, refl, sym, ap, ◌∙◌, arith}
use Rattle.entry_value.specs.declared.cells.Cell.{Cell as ACell}
use Rattle.entry_value.specs.declared.word.Word.{Word as AWord}
use Rattle.entry_value.specs.Cells.{CellMap, write_one}
use Rattle.entry_value.specs.CellLists.{some_size}
use Rattle.entry_value.specs.CellWalks.{behind, behind_all, behind_none, behind_next}
use Rattle.irq_frames.proofs.Walking.{writes_behind, step_written, step_left}
use Rattle.irq_frames.proofs.resume.write_touched.Goals as goal
use Rattle.irq_frames.proofs.resume.write_touched.Goals.{then-is_all_touched+in_ok-write_one, else-is_all_touched}

pub loop-cell-init : goal.loop-cell-init
loop-cell-init g c =
    record {
      written = ap (λ (cells : List ACell). writes_behind (g.R.Resumes.words c.args.resumes.now) c.args.touched.now cells (g.M.Cells.map c.args.cells.now))
          (behind_all (g.M.Cells.map c.args.exit.now).cells);
    }

pub is_all_touched-requires : goal.is_all_touched-requires
is_all_touched-requires g c = c.in-Some.ensures.form c.in-Some.cell refl

pub write_one-requires-clause-size : goal.write_one-requires-clause-size
write_one-requires-clause-size g c = (c.in-Some.ensures.form c.in-Some.cell refl).size

pub write_one-requires-clause-byte : goal.write_one-requires-clause-byte
write_one-requires-clause-byte g c = c.word.ensures.byte (c.in-Some.ensures.form c.in-Some.cell refl).byte

pub loop-cell-smaller : goal.loop-cell-smaller
loop-cell-smaller g c =
    let cell = c.in-Some.cell in
    let form = c.in-Some.ensures.form cell refl in
    omega (arith, c.in-Some.ensures.from cell refl, some_size cell.size form.size, form.high)

pub loop-cell-preserved : goal.loop-cell-preserved
loop-cell-preserved g c =
    let held = g.M.Cells.map c.args.exit.now in
    let cell = c.in-Some.cell in
    let from = c.loop-cell.from in
    let touched = c.args.touched.now in
    let words = g.R.Resumes.words c.args.resumes.now in
    let now = g.M.Cells.map c.loop-cell.cells in
    let next = behind_next held.lo held.hi held.lo from held.cells cell c.in-Some.ensures.are (sym c.in-Some.ensures.value) in
    let rest = behind (cell.place + cell.size) held.cells in
    record {
      written = elim c.if-is_all_touched.branch [
        | then-is_all_touched+in_ok-write_one w ↦
            let all = sym c.is_all_touched.ensures ∙ w.if-is_all_touched.true in
            ap (λ (m : CellMap). writes_behind words touched rest m) (ap g.M.Cells.map w.cells-is ∙ w.in_ok-write_one.ensures.value
            ∙ ap (λ (word : AWord). write_one now cell.place cell.size word) w.word.ensures.value)
            ∙ step_written words touched (behind from held.cells) rest cell now next all ∙ c.loop-cell.invariant.written
        | else-is_all_touched w ↦
            let some = sym c.is_all_touched.ensures ∙ w.if-is_all_touched.false in
            ap (λ (m : CellMap). writes_behind words touched rest m) (ap g.M.Cells.map w.cells-is)
            ∙ step_left words touched (behind from held.cells) rest cell now next some ∙ c.loop-cell.invariant.written
      ];
    }

pub returns : goal.returns
returns g c =
    let held = g.M.Cells.map c.args.exit.now in
    let none = behind_none c.loop-cell.from held.cells (sym c.in_default.ensures.value) in
    sym (ap (λ (cells : List ACell). writes_behind (g.R.Resumes.words c.args.resumes.now) c.args.touched.now cells (g.M.Cells.map c.loop-cell.cells)) none)
    ∙ c.loop-cell.invariant.written
