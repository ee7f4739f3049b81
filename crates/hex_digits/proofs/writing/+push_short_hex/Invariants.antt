use Rattle.hex_digits.proofs.writing.+push_short_hex.Given as goal

abbrev pub decreases-push_short_hex : goal.decreases-push_short_hex
decreases-push_short_hex l = l.value
