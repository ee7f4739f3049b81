use Rattle.std.proofs.Common.{sym, subst}
use Rattle.round_core.specs.Agenda.{IsIn}
use Rattle.round_core.proofs.ShownLemmas.{kept-shown, returned-shown}
use Rattle.round_core.proofs.parts.Parts.take_returned.Goals as goal

pub returns-in_err-add_all-clause-shown : goal.returns-in_err-add_all-clause-shown
returns-in_err-add_all-clause-shown g c = λ b s. kept-shown b c.args.self.now c.add_all.new.candidates c.add_all.ensures.kept s

pub returns-clause-shown : goal.returns-clause-shown
returns-clause-shown g c = λ b s.
    returned-shown b c.args.self.now c.add_all.new.candidates c.clear_returned.new.self c.clear_returned.ensures c.add_all.ensures.kept
    (λ q h. c.in_ok-add_all.ensures.added q (subst (λ ps. IsIn q ps) (sym c.returned.ensures) h)) s
