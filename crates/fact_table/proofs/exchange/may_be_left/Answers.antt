use Rattle.std.proofs.Common.{◌≡◌, ◌≤◌, false, true, not, refl, ap, sym, ◌∙◌, arith}
use Rattle.fact_table.proofs.ExchangeLemmas.{some_behind}
use Rattle.fact_table.proofs.exchange.may_be_left.Goals as goal

pub returns : goal.returns
returns g c = λ no some.
    let one : 1 ≤ c.candidates.result = c.candidates.ensures 1 (omega arith) some in
    let above = some_behind c.candidates.result c.candidates.result refl one in
    let bad : false ≡ true = sym (ap not above) ∙ no in absurd (cc)
