use Rattle.irq_frames.proofs.rewriting.rewrite.Goals as goal

pub write_one-requires-clause-byte : goal.write_one-requires-clause-byte
write_one-requires-clause-byte g c = c.word.ensures.byte c.in-Some.word c.in-Some.is
