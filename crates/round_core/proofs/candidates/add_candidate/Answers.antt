use Rattle.std.proofs.Common.{sym, subst}
use Rattle.round_core.specs.Agenda.{IsIn}
use Rattle.round_core.proofs.PlaceLemmas.{insert_key-added, insert_key-kept}
use Rattle.round_core.proofs.candidates.add_candidate.Goals as goal

pub returns-in_err-insert-clause-kept : goal.returns-in_err-insert-clause-kept
returns-in_err-insert-clause-kept c = λ p h. subst (λ ks. IsIn p ks) (sym c.in_err-insert.ensures.err) h

pub returns-clause-added : goal.returns-clause-added
returns-clause-added c =
    subst (λ ks. IsIn c.args.place ks) (sym c.in_ok-insert.ensures.keys) (insert_key-added c.args.candidates.now.keys c.args.place)

pub returns-clause-kept : goal.returns-clause-kept
returns-clause-kept c = λ p h.
    subst (λ ks. IsIn p ks) (sym c.in_ok-insert.ensures.keys) (insert_key-kept c.args.candidates.now.keys c.args.place p h)
