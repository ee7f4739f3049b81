use Rattle.std.proofs.Common.{◌∙◌, arith}
use Rattle.mcs51_results.proofs.combining.zero_or_one.Goals as goal

pub returns : goal.returns
returns c = c.in-Some.ensures.value ∙ c.set_laws.ensures.gather_two 256 0 1 (omega arith)
