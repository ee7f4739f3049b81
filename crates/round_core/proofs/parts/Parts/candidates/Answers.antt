use Rattle.std.specs.Prelude.{is_some, length}
use Rattle.std.proofs.Common.{arith, ap}
use Rattle.std.proofs.lemmas.List.Sums.{count_by-le-length}
use Rattle.round_core.specs.Shown.{found_at, is_new_return}
use Rattle.round_core.proofs.CountedLemmas.{counted_enough}
use Rattle.round_core.proofs.parts.Parts.candidates.Goals as goal

pub returns : goal.returns
returns g c = λ b least fits s h.
    let p = c.args.self.now in
    let enough = counted_enough b p s least h in
    let some = count_by-le-length (λ q. is_some (found_at p q)) p.agenda.candidates.keys in
    let more = count_by-le-length (is_new_return p) p.turns.returned in
    let size = c.len.ensures in
    let returned = ap (λ l. length l) c.returned.ensures in
    let sum = c.saturating_add.ensures in
    omega arith
