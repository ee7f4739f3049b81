use Rattle.mcs51_moves.proofs.Exchanged.{exchange_digit_so, exchange_so}
use Rattle.mcs51_moves.proofs.Masked.{mask_direct_so}
use Rattle.mcs51_moves.proofs.Moved.{decrement_so, from_direct_so, immediate_so, increment_so, store_so, to_direct_so}
use Rattle.mcs51_moves.proofs.laws.moves_do.Goals as goal

pub returns : goal.returns
returns c =
    let laws = c.instruction_laws.ensures in
    record {
      increment = increment_so laws;
      decrement = decrement_so laws;
      mask_direct = mask_direct_so laws;
      immediate = immediate_so laws;
      to_direct = to_direct_so laws;
      from_direct = from_direct_so laws;
      store = store_so laws;
      exchange = exchange_so laws;
      exchange_digit = exchange_digit_so laws;
    }
