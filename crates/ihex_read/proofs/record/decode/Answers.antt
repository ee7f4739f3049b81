use Rattle.std.proofs.Common.{inl, inr, arith}
use Rattle.ihex_read.proofs.AloneLemmas.{misshaped}
use Rattle.ihex_read.proofs.record.decode.Goals as goal
use Rattle.ihex_read.proofs.record.decode.Goals.{then-digits-eq1-via-then-digits-eq1, then-digits-eq1-via-else-digits-eq1+then-count-lt5, then-digits-eq1-via-else-digits-eq1+else-count-lt5+then-count-gt-LONGEST}

pub returns-then-digits-eq1-clause-fault : goal.returns-then-digits-eq1-clause-fault
returns-then-digits-eq1-clause-fault c = rw c.fault_of_digits.ensures (misshaped c.args.digits.now (elim c.then-digits-eq1.branch [
  | then-digits-eq1-via-then-digits-eq1 w ↦ inl (omega arith)
  | then-digits-eq1-via-else-digits-eq1+then-count-lt5 w ↦ inr (inl (omega arith))
  | then-digits-eq1-via-else-digits-eq1+else-count-lt5+then-count-gt-LONGEST w ↦ inr (inr (omega arith))
]))
