use Rattle.std.proofs.Common.{◌∙◌, ap, sym, subst}
use Rattle.round_core.specs.Agenda.{IsIn}
use Rattle.round_core.proofs.OutLemmas.{claim-shown}
use Rattle.round_core.proofs.PlaceLemmas.{remove_key-kept}
use Rattle.round_core.proofs.parts.Parts.take_out.Goals as goal

pub returns-clause-out : goal.returns-clause-out
returns-clause-out g c = λ b o s k at own.
    let claimed = c.in_ok-claim.ensures.claimed in
    claim-shown b c.args.self.now c.claim.new.self c.remove.new.self o c.args.unit.now c.args.place s k at own
    (ap (λ t. t.out) claimed) (ap (λ t. t.returned) claimed ∙ c.requires.returned) c.requires.returned
    (λ q i other. subst (λ ks. IsIn q ks) (sym c.remove.ensures.keys) (remove_key-kept c.args.self.now.agenda.candidates.keys c.args.place q i other))
