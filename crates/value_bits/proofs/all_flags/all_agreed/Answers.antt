use Rattle.std.proofs.Common.{◌≡◌, ◌*◌, ◌<◌, ◌∙◌, subst, sym}
use Rattle.value_set.specs.Summing.{count_of}
use Rattle.value_bits.specs.declared.tri.Tri.{Tri}
use Rattle.value_bits.specs.AllFlags.{Place, known_at}
use Rattle.value_bits.specs.Sets.{chosen}
use Rattle.value_bits.specs.Flags.{IsFlag, agreed}
use Rattle.value_bits.proofs.Choosing.{chosen_has, not_few}
use Rattle.value_bits.proofs.Combinations.{agreed-many, agreed_is, agreed_listed, few_of_each}
use Rattle.value_bits.proofs.OneWalk.{listed_all}
use Rattle.value_bits.proofs.all_flags.all_agreed.Goals as goal

pub returns-then-not-is_few-clause-value : goal.returns-then-not-is_few-clause-value
returns-then-not-is_few-clause-value g c = λ place.
    let m = c.args.modulus in let first = c.args.first.now in let second = c.args.second.now in let carries = c.chosen-carries.result in
    let all = count_of m first * (count_of m second * count_of m carries) in
    let many : 256 < all = not_few c.is_few.result all c.is_few.ensures c.if-not-is_few.true in
    c.none_known.ensures place ∙ sym (agreed-many m (g.F.AllFlags.value c.args.operation.now place) first second (chosen c.args.carry)
    (rw c.chosen-carries.ensures.value at many))

pub listed-xs-requires-clause-few : goal.listed-xs-requires-clause-few
listed-xs-requires-clause-few g c = (few_of_each c.args.modulus c.chosen-carries.result c.args.first.now c.args.second.now
    c.requires.first_normal c.requires.second_normal (c.chosen-carries.ensures.normal c.args.modulus c.requires.wide) (c.is_few.ensures.0 c.if-not-is_few.false)).0

pub listed-ys-requires-clause-few : goal.listed-ys-requires-clause-few
listed-ys-requires-clause-few g c = (few_of_each c.args.modulus c.chosen-carries.result c.args.first.now c.args.second.now
    c.requires.first_normal c.requires.second_normal (c.chosen-carries.ensures.normal c.args.modulus c.requires.wide) (c.is_few.ensures.0 c.if-not-is_few.false)).1

pub all_agreed_of-requires-clause-xs_below : goal.all_agreed_of-requires-clause-xs_below
all_agreed_of-requires-clause-xs_below g c =
    (listed_all c.args.modulus c.args.first.now c.as_slice.result.now c.requires.first_normal (c.as_slice.ensures.value ∙ c.listed-xs.ensures)).1

pub all_agreed_of-requires-clause-xs_some : goal.all_agreed_of-requires-clause-xs_some
all_agreed_of-requires-clause-xs_some g c =
    (listed_all c.args.modulus c.args.first.now c.as_slice.result.now c.requires.first_normal (c.as_slice.ensures.value ∙ c.listed-xs.ensures)).0

pub all_agreed_of-requires-clause-ys_below : goal.all_agreed_of-requires-clause-ys_below
all_agreed_of-requires-clause-ys_below g c =
    (listed_all c.args.modulus c.args.second.now c.as_slice-2.result.now c.requires.second_normal (c.as_slice-2.ensures.value ∙ c.listed-ys.ensures)).1

pub all_agreed_of-requires-clause-ys_some : goal.all_agreed_of-requires-clause-ys_some
all_agreed_of-requires-clause-ys_some g c =
    (listed_all c.args.modulus c.args.second.now c.as_slice-2.result.now c.requires.second_normal (c.as_slice-2.ensures.value ∙ c.listed-ys.ensures)).0

pub returns : goal.returns
returns g c =
    let m = c.args.modulus in let first = c.args.first.now in let second = c.args.second.now in
    let value : (place : Place) → known_at place c.all_agreed_of.result ≡ agreed m (g.F.AllFlags.value c.args.operation.now place) first second (chosen c.args.carry) =
    λ place. agreed_listed m (g.F.AllFlags.value c.args.operation.now place) first second c.chosen-carries.result (chosen c.args.carry)
    c.as_slice.result.now c.as_slice-2.result.now c.as_slice-3.result.now (known_at place c.all_agreed_of.result) (c.is_few.ensures.0 c.if-not-is_few.false)
    (c.as_slice.ensures.value ∙ c.listed-xs.ensures) (c.as_slice-2.ensures.value ∙ c.listed-ys.ensures) (c.as_slice-3.ensures.value ∙ c.listed-zs.ensures)
    c.chosen-carries.ensures.value (c.all_agreed_of.ensures place) in
    record {
      value = value;
      holds = λ place x y bit h k is.
          let flag = g.F.AllFlags.value c.args.operation.now place in
          subst (λ (t : Tri). IsFlag t (flag x y bit)) (sym (value place))
          (agreed_is m flag first second (chosen c.args.carry) x y bit h k (chosen_has m bit c.args.carry is));
    }
