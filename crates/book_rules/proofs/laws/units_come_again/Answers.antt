use Rattle.std.proofs.Common.{sym, subst}
use Rattle.book_rules.specs.declared.event.Event.TheVariants.{Post, GiveBack}
use Rattle.book_rules.proofs.CountLaws.{climbs-replay, given_back-claimable, posted-claimable}
use Rattle.book_rules.specs.Machine.{replay, IsUnit, IsClaimable, HasRisen, versions_of}
use Rattle.book_rules.proofs.ReplayLaws.{IsSteady-replay}
use Rattle.book_rules.specs.Replays.{replay-push}
use Rattle.book_rules.proofs.laws.units_come_again.Goals as goal

pub returns-clause-posted : goal.returns-clause-posted
returns-clause-posted g c = λ base journal seat unit o l e. let a = g.C.Chip.analysis base in
    subst (λ later. IsUnit later unit → HasRisen o.versions (versions_of later.nodes unit) → IsClaimable later unit) (sym (replay-push a journal (Post seat unit)))
    (posted-claimable a (replay a journal) seat unit o (IsSteady-replay a journal l) e)

pub returns-clause-given_back : goal.returns-clause-given_back
returns-clause-given_back g c = λ base journal seat unit o l e. let a = g.C.Chip.analysis base in
    subst (λ later. IsUnit later unit → IsClaimable later unit) (sym (replay-push a journal (GiveBack seat unit)))
    (given_back-claimable a (replay a journal) seat unit o (IsSteady-replay a journal l) (climbs-replay a unit journal l).0 e)
