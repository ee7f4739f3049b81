use Rattle.std.proofs.Common.{◌≡◌, IfOk, subst}
use Rattle.std.proofs.Math.Path.{ap₂}
use Rattle.entry_value.specs.Cells.{CellMap}
use Rattle.mcs51_state.specs.Known.{Known}
use Rattle.mcs51_resume.specs.Resume.{place_byte, resumed_cells}
use Rattle.mcs51_resume.proofs.cells.resume_cells.Goals as goal

pub returns : goal.returns
returns g c =
    let places = place_byte c.args.framed c.args.at.now c.args.pc in
    subst (λ (all : CellMap). IfOk c.cells_behind.result (λ cells. g.M.Cells.map cells ≡ all))
    (ap₂ (λ (x y : Known). resumed_cells places x.cells y.cells y.touched) c.at.view_is c.exit.view_is) c.cells_behind.ensures
