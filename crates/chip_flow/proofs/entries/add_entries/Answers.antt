use Rattle.std.proofs.Common.{sym, subst, Contains}
use Rattle.chip_flow.proofs.entries.add_entries.Goals as goal

pub enter-requires : goal.enter-requires
enter-requires g c =
    subst (λ all. Contains all c.coming-item.result) c.requires (c.loop-coming.coming-index, c.loop-coming-test.true, sym c.coming-item.is)
