use Rattle.std.specs.Prelude.{[], ◌∷◌, ◌++◌}
use Rattle.std.proofs.Common.{sym, ◌∙◌, ap, subst}
use Rattle.book_rules.proofs.OutsLaws.{turned}
use Rattle.book_rules.specs.Replays.{replay-none, replay-push}
use Rattle.book_rules.specs.Machine.{after, replay, IsLegal}
use Rattle.book_rules.specs.declared.event.Event.TheVariants.{Claim, Post}
use Rattle.book_rules.proofs.laws.turns_bring_home.Goals as goal

pub returns-clause-opening : goal.returns-clause-opening
returns-clause-opening g c = λ base. let a = g.C.Chip.analysis base in ap (λ b. b.out) (replay-none a)

pub returns-clause-post : goal.returns-clause-post
returns-clause-post g c = λ base journal seat unit first none. let a = g.C.Chip.analysis base in
    subst (λ b. IsLegal b (Post seat unit)) (sym (replay-push a journal (Claim seat unit))) (turned a (replay a journal) seat unit first none).legal

pub returns-clause-home : goal.returns-clause-home
returns-clause-home g c = λ base journal seat unit first none. let a = g.C.Chip.analysis base in
    let claimed = journal ++ Claim seat unit ∷ [] in
    ap (λ b. b.out) (replay-push a claimed (Post seat unit))
    ∙ ap (λ b. (after a b (Post seat unit)).out) (replay-push a journal (Claim seat unit))
    ∙ (turned a (replay a journal) seat unit first none).none_out
