use Rattle.mcs51_state.specs.ShowingFacts.{none_shown}
use Rattle.mcs51_state.proofs.Together.{both_shown, read_shown, update_shown, write_shown}
use Rattle.mcs51_state.proofs.formats.accesses_add_up.Goals as goal

pub returns : goal.returns
returns c =
    let shows = c.accesses_are_shown.ensures.operand in
    record {
      none = none_shown;
      both = both_shown;
      read = read_shown shows;
      write = write_shown shows;
      update = update_shown shows;
    }
