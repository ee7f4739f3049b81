use Rattle.std.proofs.Common.{refl, subst, sym}
use Rattle.value_bits.specs.declared.tri.Tri.{Tri}
use Rattle.value_bits.specs.BitFacts.{and_bit, bit_below, bit_known, bit_may, bit_not, bit_some, bits_any, bits_append, bits_at, bits_drop, bits_put, bits_take, bits_zero, flag_bit, flag_known, flag_may, flag_not, or_bit, xor_bit}
use Rattle.value_bits.proofs.Agreeing.{agreeing_below}
use Rattle.value_bits.proofs.Choosing.{chosen_has}
use Rattle.value_bits.proofs.Combinations.{agreed_clear, agreed_is, agreed_set}
use Rattle.value_bits.proofs.Evens.{IsKnown, and_even_set, bits_remainder, lowest_known}
use Rattle.value_bits.proofs.FormulaLaws.{adjust_has, adjust_normal, bits_have, bits_normal, decimal_add_free, decimal_add_has, decimal_add_normal, exchange_has, exchange_normal, high_has, high_normal, left_has, left_normal, logic_has, logic_normal, low_has, low_normal, pair_has, pair_normal, shift_has, shift_normal, sign_has, sign_normal}
use Rattle.value_bits.proofs.Known.{agrees_by_places, known_agrees}
use Rattle.value_bits.proofs.LowPairs.{pair_byte}
use Rattle.value_bits.proofs.Singly.{chosen_normal, known_long}
use Rattle.value_bits.proofs.laws.bit_laws.Goals as goal

pub returns : goal.returns
returns c = let sets = c.set_laws.ensures in record {
  logic_normal = logic_normal sets;
  logic = logic_has sets;
  low_normal = low_normal sets;
  low = low_has sets;
  high_normal = high_normal sets;
  high = high_has sets;
  pair_normal = pair_normal sets;
  pair = pair_has sets;
  pair_byte = pair_byte sets;
  exchange_normal = exchange_normal sets;
  exchange = exchange_has sets;
  sign_normal = sign_normal sets;
  sign = sign_has sets;
  shift_normal = shift_normal sets;
  shift = shift_has sets;
  left_normal = left_normal sets;
  left = left_has sets;
  decimal_normal = decimal_add_normal sets;
  decimal = decimal_add_has sets;
  decimal_free = decimal_add_free sets;
  adjust_normal = adjust_normal sets;
  adjust = adjust_has sets;
  known = known_agrees;
  from_normal = bits_normal sets;
  from = bits_have sets;
  known_long = known_long;
  chosen_normal = chosen_normal;
  chosen_has = chosen_has;
  even_known = lowest_known;
  even_from = λ width bits long zero. bits_remainder sets width bits 0 long (subst (λ (t : Tri). IsKnown t 0) (sym zero) refl);
  odd_from = λ width bits long one. bits_remainder sets width bits 1 long (subst (λ (t : Tri). IsKnown t 1) (sym one) refl);
  even_and = and_even_set sets;
  flags = λ m x y z flag a b carry. agreed_is m flag a b carry x y z;
  flags_set = agreed_set;
  flags_clear = agreed_clear;
  flag_bit = flag_bit;
  flag_may = flag_may;
  flag_not = flag_not;
  flag_known = flag_known;
  bit_below = bit_below;
  bit_some = bit_some;
  bit_may = bit_may;
  bit_known = bit_known;
  bit_not = bit_not;
  bit_and = and_bit;
  bit_or = or_bit;
  bit_xor = xor_bit;
  bits_at = bits_at;
  bits_put = bits_put;
  bits_from = agrees_by_places;
  bits_any = bits_any;
  bits_zero = bits_zero;
  bits_append = bits_append;
  bits_take = bits_take;
  bits_drop = bits_drop;
  bits_below = agreeing_below;
}
