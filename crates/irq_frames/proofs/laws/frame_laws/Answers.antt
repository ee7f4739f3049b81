use Rattle.irq_frames.proofs.Kept.{are_kept, each_plain, stands_without}
use Rattle.irq_frames.proofs.Resumption.{cells_formed, cells_from, cells_stand, ends_stay, sized_fit, sized_hold, word_entry, word_holds, word_none, word_normal}
use Rattle.irq_frames.proofs.laws.frame_laws.Goals as goal

pub returns : goal.returns
returns c =
    let words = c.value_laws.ensures.words in
    let cells = c.cell_laws.ensures in
    record {
      plain_stands = stands_without cells;
      plain_form = are_kept;
      plain_each = each_plain cells;
      word = word_holds words;
      word_normal = word_normal words;
      word_none = word_none;
      word_entry = word_entry;
      untouched = cells_stand cells;
      untouched_form = cells_formed cells;
      untouched_lo = λ words at exit touched. (ends_stay words at exit touched).0;
      untouched_hi = λ words at exit touched. (ends_stay words at exit touched).1;
      origin = cells_from;
      sized_fit = sized_fit words;
      sized_hold = sized_hold words;
    }
