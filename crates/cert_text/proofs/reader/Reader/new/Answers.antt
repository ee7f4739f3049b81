use Rattle.std.proofs.Common.{sym, subst}
use Rattle.cert_text.proofs.TextLemmas.{fresh_read}
use Rattle.cert_text.proofs.reader.Reader.new.Goals as goal

pub invariant_of-result : goal.invariant_of-result
invariant_of-result g c =
    let b = g.C.Chip.base c.of.result.value in (
      subst (λ x. g.C.OrderlyChip.program (g.C.Chip.base x)) (sym c.of.ensures) c.is_program.ensures,
      rw (c.new.ensures.items, c.new-2.ensures.items, c.new-3.ensures) (fresh_read (g.C.Chip.analysis b) (g.C.StateText.texts b)),
    )
