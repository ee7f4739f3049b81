use Rattle.std.proofs.Common.{rules, length}
use Rattle.std.proofs.lemmas.List.Sorted.{IsNonDecreasingBy-from_sort_by_key}
use Rattle.symbol_lists.proofs.finding.Names.of.Goals as goal

pub returns-clause-shortest_first : goal.returns-clause-shortest_first
returns-clause-shortest_first c =
    IsNonDecreasingBy-from_sort_by_key (λ symbol. length symbol.name.now) _ c.in_ok-sort_by_key.ensures.sorted (λ a r q k. search rules)
