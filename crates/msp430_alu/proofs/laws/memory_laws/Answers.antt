use Rattle.msp430_alu.proofs.laws.memory_laws.Goals as goal

pub returns : goal.returns
returns c = record { known = c.known_laws.ensures; words = c.words_in_memory.ensures }
