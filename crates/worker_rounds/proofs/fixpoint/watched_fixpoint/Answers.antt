use Rattle.std.proofs.Common.{◌≡◌, refl, sym, subst}
use Rattle.book_rules.specs.Kept.{Kept}
use Rattle.worker_rounds.proofs.TurnLemmas.{IsBetweenTurns, behind_turn}
use Rattle.worker_rounds.proofs.fixpoint.watched_fixpoint.Goals as goal

pub loop-init : goal.loop-init
loop-init g c =
    let base = g.C.Chip.base c.args.chip.now in
    subst (λ (book : Kept _). (book.base ≡ base) × IsBetweenTurns (g.C.Chip.analysis book.base) book.journal) (sym c.in_ok-book.ensures)
    (refl, record { none_out = c.turns_bring_home.ensures.opening base; turns = tt })

pub loop-preserved : goal.loop-preserved
loop-preserved g c =
    let turn = c.in_ok-turn.ensures.turned c.if-branch.false in
    let base = c.loop.book.base in
    let journal = c.loop.book.journal in
    subst (λ (book : Kept _). (book.base ≡ g.C.Chip.base c.args.chip.now) × IsBetweenTurns (g.C.Chip.analysis book.base) book.journal) (sym turn.2)
    (c.loop.invariant.0, behind_turn (g.C.Chip.analysis base) journal turn.0 (c.turns_bring_home.ensures.home base journal 0 turn.0) c.loop.invariant.1 turn.1)
