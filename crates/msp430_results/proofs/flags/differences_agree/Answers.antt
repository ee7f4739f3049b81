use Rattle.std.proofs.Common.{sym, ◌∙◌}
use Rattle.msp430_results.proofs.Differences.{few_sets, one_sign_tells}
use Rattle.msp430_results.proofs.flags.differences_agree.Goals as goal

pub returns-then-is_one_sign : goal.returns-then-is_one_sign
returns-then-is_one_sign g c =
    let laws = c.known_laws.ensures in
    let width = g.S.Sets.width in
    let first = g.S.Sets.form c.args.first.now in
    let second = g.S.Sets.form c.args.second.now in
    c.ends_tell.ensures
    ∙ one_sign_tells laws width first second c.sign.result c.sign-2.result (sym c.is_one_sign.ensures ∙ c.if-is_one_sign.true)
    (few_sets laws width first second c.is_normal.ensures c.is_normal-2.ensures c.requires) c.sign.ensures c.sign-2.ensures
