use Rattle.std.proofs.Common.{◌≡◌, length}
use Rattle.value_set.specs.Form.{steps}
use Rattle.value_bits.proofs.listing.stepped.Given as goal

abbrev pub invariant-loop-place : goal.invariant-loop-place
invariant-loop-place l = record {
  items : l.all.items ≡ steps l.modulus l.run.base l.run.stride l.place;
  room : length l.all.items ≡ l.place;
}
