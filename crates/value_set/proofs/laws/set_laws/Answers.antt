use Rattle.std.proofs.Common.{Option, arith, refl, subst, sym}
use Rattle.std.proofs.Math.Nat.{dvd_of_mod-eq-zero}
use Rattle.value_set.specs.declared.form.Form.{Form}
use Rattle.value_set.specs.Cutting.{IfThere}
use Rattle.value_set.specs.Form.{make}
use Rattle.value_set.specs.ListFacts.{Contains_from_in}
use Rattle.value_set.specs.Remainders.{HasRemainder}
use Rattle.value_set.specs.StepFacts.{length-steps, steps_from, steps_have}
use Rattle.value_set.proofs.Answering.{member_below}
use Rattle.value_set.proofs.Bounds.{gather_below, join_below, make_below, put_below}
use Rattle.value_set.proofs.EndsOfSets.{greatest_has, greatest_last, least_first, least_has}
use Rattle.value_set.proofs.Equal.{same_members}
use Rattle.value_set.proofs.Formulas.{combines_have, combines_normal, gathers_have, gathers_normal, make_exact}
use Rattle.value_set.proofs.Joins.{includes_from_test, join_includes_first, join_includes_second, join_normal, test_from_includes}
use Rattle.value_set.proofs.Making.{fits_to, make_normal}
use Rattle.value_set.proofs.MemberTests.{asked, gather_same, gather_two, listed, member_found, only_number, single_rest}
use Rattle.value_set.proofs.Promises.{any_has, cut_is_empty, cut_is_none, cut_some_holds, cut_some_normal, whole_fits}
use Rattle.value_set.proofs.Remainders.{add_remainder, combine_remainder, cut_remainder, gather_remainder, join_remainder, make_remainder, sub_remainder, twice_even, twice_remainder, widen_remainder}
use Rattle.value_set.proofs.Sums.{add_has, add_normal, single_normal, some_members, sub_has, sub_normal, twice_has, twice_normal}
use Rattle.value_set.proofs.Widens.{AllBelow_all, widen_includes_held, widen_includes_new, widen_normal}
use Rattle.value_set.proofs.laws.set_laws.Goals as goal

pub returns : goal.returns
returns c = record {
  below = member_below;
  some = some_members;
  same = same_members;
  tested = λ m smaller larger. (includes_from_test m smaller larger, test_from_includes m smaller larger);
  member = member_found;
  asked = asked;
  listed = listed;
  least_has = least_has;
  least = least_first;
  greatest_has = greatest_has;
  greatest = greatest_last;
  single = λ m v below. (single_normal m v below, (0, omega arith, refl));
  only = only_number;
  single_rest = single_rest;
  whole = λ m v below. any_has m v (make m 0 1 m) refl (omega arith) below;
  whole_normal = λ m positive. make_normal m 0 1 m (whole_fits m positive);
  run_normal = make_normal;
  run_exact = make_exact;
  run_up_to = fits_to;
  run_remainder = λ m n base stride count whole part.
      make_remainder m n base stride count (dvd_of_mod-eq-zero n whole) (dvd_of_mod-eq-zero n part);
  run_below = make_below;
  steps_long = length-steps;
  steps_have = steps_have;
  steps_from = steps_from;
  gather_normal = gathers_normal;
  gather_holds = gathers_have;
  gather_remainder = λ m n r xs whole some below each. gather_remainder m n r xs (dvd_of_mod-eq-zero n whole) some
      (λ v i. below v (Contains_from_in xs v i)) (λ v i. each v (Contains_from_in xs v i));
  gather_below = gather_below;
  gather_same = gather_same;
  gather_two = gather_two;
  put_below = put_below;
  results_normal = combines_normal;
  results_hold = combines_have;
  results_remainder = λ m n r answer a b c whole. combine_remainder m n r answer a b c (dvd_of_mod-eq-zero n whole);
  join_normal = join_normal;
  join_first = join_includes_first;
  join_second = join_includes_second;
  join_below = join_below;
  join_rest = λ m n r a b whole. join_remainder m n r a b (dvd_of_mod-eq-zero n whole);
  widen_normal = λ m held new marks n k below. widen_normal m held new marks n (AllBelow_all m marks below);
  widen_held = λ m held new marks n k below. widen_includes_held m held new marks n k (AllBelow_all m marks below);
  widen_new = λ m held new marks n k below. widen_includes_new m held new marks n k (AllBelow_all m marks below);
  widen_rest = λ m n r held new marks whole. widen_remainder m n r held new marks (dvd_of_mod-eq-zero n whole);
  add_normal = add_normal;
  add = λ m x y a b. add_has m a b x y;
  add_rest = λ m n r s a b whole. add_remainder m n r s a b (dvd_of_mod-eq-zero n whole);
  sub_normal = sub_normal;
  sub = λ m x y a b. sub_has m a b x y;
  sub_rest = λ m n r s a b whole. sub_remainder m n r s a b (dvd_of_mod-eq-zero n whole);
  twice_normal = twice_normal;
  twice = λ m x a. twice_has m a x;
  twice_rest = λ m n r a whole. twice_remainder m n r a (dvd_of_mod-eq-zero n whole);
  twice_even = λ m a whole. twice_even m a (dvd_of_mod-eq-zero 2 whole);
  cut_normal = λ m low len a part n below is. cut_some_normal m a part low len n below (sym is);
  cut_holds = λ m low len v a part n below is has inside. cut_some_holds m a part low len v n below (sym is) has inside;
  cut_none = λ m low len v a n below is has. cut_is_none m a low len v n below (sym is) has;
  cut_empty = λ m low len a n below nobody. cut_is_empty m a low len n below nobody;
  cut_rest = λ m n r low len a part whole normal below is each.
      subst (λ (found : Option Form). IfThere (λ set. HasRemainder m n r set) found) is (cut_remainder m n r a low len (dvd_of_mod-eq-zero n whole) normal below each);
}
