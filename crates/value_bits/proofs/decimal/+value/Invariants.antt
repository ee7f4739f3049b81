use Rattle.value_bits.proofs.decimal.+value.Given as goal

abbrev pub decreases-value : goal.decreases-value
decreases-value l = l.digits
