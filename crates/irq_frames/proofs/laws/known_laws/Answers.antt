use Rattle.irq_frames.proofs.laws.known_laws.Goals as goal

pub returns : goal.returns
returns c = assumption c
