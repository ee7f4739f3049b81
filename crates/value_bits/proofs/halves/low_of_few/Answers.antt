use Rattle.std.proofs.Common.{ℕ, List, sym, ◌∙◌, ap, refl}
use Rattle.value_set.specs.Form.{gather}
use Rattle.value_bits.proofs.HalfSets.{bytes_same}
use Rattle.value_bits.proofs.halves.low_of_few.Goals as goal

pub returns-in-Some : goal.returns-in-Some
returns-in-Some c =
    let some = c.in-Some.ensures in
    some.gathered ∙ ap (λ (xs : List ℕ). gather 256 xs) (sym (bytes_same c.args.a.now (some.listed.0 refl)))
