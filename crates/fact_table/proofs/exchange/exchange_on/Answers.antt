use Rattle.std.proofs.Common.{◌≡◌, [], ap, length, rules, subst, sym, ◌∙◌}
use Rattle.std.specs.Prelude.{vec_len}
use Rattle.fact_table.specs.Exchange.{ClaimsSome}
use Rattle.fact_table.proofs.ExchangeLemmas.{exchanged, none_from_test}
use Rattle.fact_table.proofs.exchange.exchange_on.Goals as goal

pub returns-clause-exchanges : goal.returns-clause-exchanges
returns-clause-exchanges g c =
    let old = c.args.book.now in
    let m = g.C.Chip.analysis old.base in
    let mid = c.post_all-unposted.new.book in
    let k = c.claim_some-tickets.new.book in
    let unposted = c.post_all-unposted.result.items in
    let ts = c.claim_some-tickets.result.0.items in
    let last = c.claim_some-tickets.result.1 in
    let len : vec_len c.post_all-unposted.result ≡ length unposted = search rules in
    let none : unposted ≡ [] = none_from_test (vec_len c.post_all-unposted.result) unposted len (sym c.is_empty.ensures ∙ c.if-not-is_empty.false) in
    let base = ap (λ b. b.base) c.post_all-unposted.ensures.book in
    exchanged m c.args.seat old mid k c.args.done.items c.args.want c.args.share unposted ts last none c.post_all-unposted.ensures
    (subst (λ b. ClaimsSome (g.C.Chip.analysis b) c.args.seat mid c.args.want c.args.share ts last k) base c.claim_some-tickets.ensures)
