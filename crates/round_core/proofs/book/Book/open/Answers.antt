use Rattle.std.proofs.Common.{◌∙◌, ap, sym, subst}
use Rattle.std.proofs.Math.Path.{ap₂}
use Rattle.book_rules.specs.Machine.{replay, IsLegalJournal}
use Rattle.round_core.specs.Opening.{one_node}
use Rattle.round_core.specs.Shown.{Shows, IsBook}
use Rattle.book_rules.specs.Replays.{replay-none, IsLegalJournal-none}
use Rattle.round_core.proofs.book.Book.open.Goals as goal

pub invariant_of-result : goal.invariant_of-result
invariant_of-result g c =
    let m = g.C.Chip.analysis (g.C.Chip.base c.args.chip.now) in
    let opens : IsBook m c.in_ok-parts.parts.turns.journal c.in_ok-parts.parts = record {
      shows = subst (λ b. Shows b c.in_ok-parts.parts)
          (ap₂ (λ n s. one_node n s) c.in_ok-node.ensures.node c.in_ok-node.ensures.state
          ∙ sym (ap (λ j. replay m j) c.in_ok-parts.ensures.journal ∙ replay-none m))
          c.in_ok-parts.ensures.shown;
      legal = subst (IsLegalJournal m) (sym c.in_ok-parts.ensures.journal) (IsLegalJournal-none m);
    } in
    subst (λ chip. IsBook (g.C.Chip.analysis (g.C.Chip.base chip)) c.in_ok-parts.parts.turns.journal c.in_ok-parts.parts) (sym c.of.ensures) opens
