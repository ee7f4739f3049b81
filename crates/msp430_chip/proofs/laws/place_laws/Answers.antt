use Rattle.msp430_chip.proofs.Accesses.{aligned_even, aligned_fits}
use Rattle.msp430_chip.proofs.KindsOfRegisters.{kind_of}
use Rattle.msp430_chip.proofs.laws.place_laws.Goals as goal

pub returns : goal.returns
returns c = record { kinds = kind_of; even = aligned_even; fits = aligned_fits }
