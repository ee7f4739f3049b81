use Rattle.std.proofs.Common.{◌≡◌, Some, ◌++◌, take, subst}
use Rattle.script_text.specs.declared.fault.ScriptError.{ScriptError}
use Rattle.script_text.specs.Reading.{Reading, TellsFront}
use Rattle.vsa_top.proofs.ScriptLemmas.{taken_refused}
use Rattle.vsa_top.proofs.script.feed_script.Goals as goal

pub returns-in-Err-Syntax-clause-fed : goal.returns-in-Err-Syntax-clause-fed
returns-in-Err-Syntax-clause-fed c = λ text at.
    let reader = c.args.reader.now in
    let piece = c.args.piece.now in
    let failed = c.in-Err-Syntax.ensures.failed in
    let is = c.in-Err-Syntax.field-0-is in
    taken_refused c.refusals_stay.ensures reader c.feed.new.self piece text c.in-Err-Syntax.field-0-0 failed.0
    (subst (λ (e : ScriptError). let made : Reading = record { text = reader.text ++ take failed.0 piece; error = Some e } in c.feed.new.self ≡ made) is failed.1)
    (λ none. subst (TellsFront (reader.text ++ piece)) is (c.in-Err-Syntax.ensures.bad none))
    (λ error held. cc (c.in-Err-Syntax.ensures.again error held, is)) at
