use Rattle.std.proofs.Common.{arith}
use Rattle.irq_frames.proofs.RangeLemmas.{with_range_form, added_has, united_form, within_united_first, within_united_second, within_one, within_itself, within_along, within_whole}
use Rattle.irq_frames.proofs.laws.range_laws.Goals as goal

pub returns : goal.returns
returns c = record {
  add_form = with_range_form;
  add = added_has;
  unite_form = λ lo hi ranges others are these. united_form lo hi ranges others are lo (omega arith) these;
  unite_first = within_united_first;
  unite_second = within_united_second;
  has = λ at. within_one (at, at);
  itself = within_itself;
  along = within_along;
  whole = λ lo hi ranges are. within_whole lo lo hi ranges (omega arith) are;
}
