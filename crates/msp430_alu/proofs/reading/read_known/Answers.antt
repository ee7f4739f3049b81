use Rattle.std.proofs.Common.{arith}
use Rattle.msp430_chip.specs.Memory.{size_of}
use Rattle.msp430_alu.proofs.ReadLists.{member_fits}
use Rattle.msp430_alu.proofs.reading.read_known.Goals as goal

pub read_one-first-requires : goal.read_one-first-requires
read_one-first-requires g c = member_fits c.args.at.now 0 (size_of c.args.width) c.nth.result (omega (arith, c.count-count.ensures)) c.nth.ensures c.requires
