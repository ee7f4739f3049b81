use Rattle.std.proofs.Common.{◌≡◌, true, take}
use Rattle.std.specs.List.{list_all}
use Rattle.value_set.specs.Form.{members}
use Rattle.chip_numbers.specs.Numbers.{is_decimal}
use Rattle.value_bits.proofs.decimal.are_decimal.Given as goal

abbrev pub invariant-loop-place : goal.invariant-loop-place
invariant-loop-place l = list_all (is_decimal l.digits) (take l.place (members l.modulus l.set)) ≡ true
