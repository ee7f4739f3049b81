use Rattle.std.proofs.Common.{sym, ◌∙◌}
use Rattle.msp430_alu.proofs.stores.store.Goals as goal

pub write_any-requires-clause-byte : goal.write_any-requires-clause-byte
write_any-requires-clause-byte g c = λ e. c.requires.byte (sym c.size_of-size.ensures ∙ e)
