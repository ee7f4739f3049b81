use Rattle.round_core.proofs.OutLemmas.{give_back-shown}
use Rattle.round_core.proofs.parts.Parts.give_back.Goals as goal

pub returns-clause-home : goal.returns-clause-home
returns-clause-home g c = λ b o s is.
    let r = c.give_back.ensures.returned in
    give_back-shown b c.args.self.now c.give_back.new.self c.args.unit.now o r.0 s is c.give_back.ensures.out r.1 r.2
