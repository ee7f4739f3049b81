use Rattle.mcs51_moves.proofs.Exchanged.{exchange_digit_form, exchange_form}
use Rattle.mcs51_moves.proofs.Masked.{mask_direct_form}
use Rattle.mcs51_moves.proofs.Moved.{decrement_form, from_direct_form, immediate_form, increment_form, store_form, to_direct_form}
use Rattle.mcs51_moves.proofs.laws.moves_keep_form.Goals as goal

pub returns : goal.returns
returns c =
    let laws = c.instruction_laws.ensures in
    record {
      increment = increment_form laws;
      decrement = decrement_form laws;
      mask_direct = mask_direct_form laws;
      immediate = immediate_form laws;
      to_direct = to_direct_form laws;
      from_direct = from_direct_form laws;
      store = store_form laws;
      exchange = exchange_form laws;
      exchange_digit = exchange_digit_form laws;
    }
