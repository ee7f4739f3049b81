use Rattle.mcs51_state.proofs.DoingSo.{implied_does, moving_does, reading_does, updating_does, write_keeps, writing_does}
use Rattle.mcs51_state.proofs.formats.formats_do.Goals as goal

pub returns : goal.returns
returns c =
    let shows = c.accesses_are_shown.ensures.operand in
    let chip = c.formats_lead.ensures in
    record {
      implied = implied_does;
      reading = reading_does shows chip;
      writing = writing_does shows;
      updating = updating_does shows chip;
      moving = moving_does shows chip;
      write_keeps = write_keeps;
    }
