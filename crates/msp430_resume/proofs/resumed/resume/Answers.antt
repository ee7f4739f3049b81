use Rattle.std.proofs.Common.{ℕ, map, ap, ◌∙◌}
use Rattle.std.proofs.Math.Path.{ap₂}
use Rattle.entry_value.specs.declared.word.Word.{Word as AWord}
use Rattle.irq_frames.specs.Ranges.{touched_behind}
use Rattle.irq_frames.specs.Resuming.{resumed_cells, resumed_word}
use Rattle.msp430_state.specs.Known.{Known}
use Rattle.msp430_resume.specs.Resume.{fact_resumed, place_word, status_resumed}
use Rattle.msp430_resume.proofs.Made.{made}
use Rattle.msp430_resume.proofs.resumed.resume.Goals as goal

pub returns : goal.returns
returns g c =
    let a = c.args.at.now in
    let exit = c.args.exit.now in
    let pc = c.args.pc in
    let places = place_word a pc in
    let named = c.places_of-places.ensures in
    let at_is = c.at.view_is in
    let exit_is = c.exit.view_is in
    made c.args.framed a pc c.args.sp exit _ _ _ _ _ _ _
    c.one.ensures.value
    (c.resume_status.ensures ∙ ap₂ (λ (x y : Known). status_resumed x.status y.status) at_is exit_is)
    (ap (λ (x : Known). x.late) exit_is)
    (c.resume_all.ensures ∙ ap₂ (λ (p : ℕ → AWord) (x : Known). map (resumed_word p) x.registers) named exit_is)
    (c.resume_fact.ensures ∙ ap (λ (x : Known). fact_resumed exit x.fact) at_is)
    (c.in_ok-resume_cells.ensures ∙ ap (λ (p : ℕ → AWord). resumed_cells p (g.M.Cells.map c.at.inside.cells) (g.M.Cells.map c.exit.inside.cells) c.exit.inside.touched) named
    ∙ ap₂ (λ (x y : Known). resumed_cells places x.cells y.cells y.touched) at_is exit_is)
    (c.in_ok-touched_behind.ensures ∙ ap₂ (λ (x y : Known). touched_behind c.args.framed x.touched y.touched) at_is exit_is)
