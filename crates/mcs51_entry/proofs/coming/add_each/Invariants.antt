use Rattle.std.proofs.Common.{◌≡◌, ◌++◌, drop}
use Rattle.value_set.specs.declared.form.Form.TheVariants.{Values}
use Rattle.mcs51_entry.specs.Coming.{comings_at}
use Rattle.mcs51_entry.proofs.coming.add_each.Given as goal

abbrev pub invariant-loop-sp : goal.invariant-loop-sp
invariant-loop-sp l = l.all ++ comings_at (Values (drop l.sp-index l.sps)) l.source l.level ≡ l.fn.all ++ comings_at (Values l.sps) l.source l.level
