use Rattle.std.proofs.Common.{ℕ, ◌^◌}
use Rattle.value_bits.specs.Laws.{BitLaws}
use Rattle.value_bits.specs.declared.tri.Logic.TheVariants.{And, Or}
use Rattle.value_set.specs.Laws.{SetLaws}
use Rattle.entry_value.specs.Laws.{EntryLaws, SizedLaws}
use Rattle.entry_value.specs.Values.{Value, of_byte, of_word}
use Rattle.entry_value.proofs.Masks.{and_holds, from_entry_and, from_entry_or, masked_normal, or_holds}
use Rattle.entry_value.proofs.Ordering.{common_is, common_of_first, common_of_second, entry_along, entry_itself, join_first, join_second, value_along, value_itself, value_whole, widen_held, widen_new, within_none}
use Rattle.entry_value.proofs.Values.{common_first, common_second, entry_within, join_holds_first, join_holds_second, low_has, put_back, widen_holds_held, widen_holds_new, within_holds}
use Rattle.entry_value.proofs.laws.value_laws.Goals as goal

entry_laws : EntryLaws
entry_laws = record {
  holds = λ first v a b. entry_within first a b v;
  and = from_entry_and;
  or = from_entry_or;
  common_first = common_first;
  common_second = common_second;
  common_is = common_is;
  itself = entry_itself;
  along = entry_along;
  join_first = common_of_first;
  join_second = common_of_second;
  whole = within_none;
}

sized_laws : SetLaws → BitLaws → (width : ℕ) {A : Type 0} (of : A → Value) → SizedLaws width of
sized_laws sets bits width of = record {
  holds = λ first v a b. within_holds sets width first v (of a) (of b);
  join_normal = λ a b. sets.join_normal (2 ^ width) (of a).set (of b).set;
  join_holds_first = λ first v a b. join_holds_first sets width first v (of a) (of b);
  join_holds_second = λ first v a b. join_holds_second sets width first v (of a) (of b);
  widen_normal = λ a b. sets.widen_normal (2 ^ width) (of a).set (of b).set;
  widen_holds_held = λ first v a b. widen_holds_held sets width first v (of a) (of b);
  widen_holds_new = λ first v a b. widen_holds_new sets width first v (of a) (of b);
  and_normal = λ m a. masked_normal sets bits width m And (of a).set;
  and = λ first m v a. and_holds sets bits width first m v (of a);
  or_normal = λ m a. masked_normal sets bits width m Or (of a).set;
  or = λ first m v a. or_holds sets bits width first m v (of a);
  itself = λ a. value_itself sets width (of a);
  along = λ a b c. value_along sets width (of a) (of b) (of c);
  join_first = λ a b. join_first sets width (of a) (of b);
  join_second = λ a b. join_second sets width (of a) (of b);
  widen_held = λ a b. widen_held sets width (of a) (of b);
  widen_new = λ a b. widen_new sets width (of a) (of b);
  whole = λ a. value_whole sets width (of a);
}

pub returns : goal.returns
returns c =
    let sets = c.set_laws.ensures in
    let bits = c.bit_laws.ensures in
    record {
      entries = entry_laws;
      words = sized_laws sets bits 16 of_word;
      bytes = record {
        sized = sized_laws sets bits 8 of_byte;
        to_word = λ first v byte n h. (put_back sets bits byte.set v n h.0, h.1);
        to_byte = λ first v word n below h. (low_has bits word.set v n below h.0, h.1);
      };
    }
