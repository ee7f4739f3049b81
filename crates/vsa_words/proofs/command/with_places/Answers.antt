use Rattle.std.proofs.Common.{rules, ap, ap₂, codes, ◌≡◌, ◌∙◌}
use Rattle.std.proofs.lemmas.Result.{IfOk-weaker}
use Rattle.clap.specs.Words.{app_of, new_app, rule_of, with_rule}
use Rattle.clap.specs.Simple.{app_of_fields}
use Rattle.vsa_words.specs.Command.{nameless, needed}
use Rattle.vsa_words.proofs.command.with_places.Goals as goal

pub returns : goal.returns
returns c =
    let mode_is : rule_of c.required.result ≡ needed (codes "mode") = search rules in
    let chip_is : rule_of c.required-2.result ≡ needed (codes "chip") = search rules in
    let start : app_of c.no_binary_name.result ≡ nameless (new_app (codes "vsa")) =
    ap app_of_fields c.no_binary_name.ensures ∙ ap nameless c.new.ensures.app in
    let first = c.in_ok-arg.ensures.shape (search rules) ∙ ap₂ with_rule start mode_is in
    IfOk-weaker c.arg-2.result _ _ (λ made adds. adds.shape (search rules) ∙ ap₂ with_rule first chip_is) c.arg-2.ensures
