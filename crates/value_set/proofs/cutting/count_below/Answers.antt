use Rattle.std.proofs.Common.{sym, refl}
use Rattle.value_set.proofs.Cuts.{count_below-none, count_is-most, count_is-all}
use Rattle.value_set.proofs.cutting.count_below.Goals as goal

pub returns-then-base-end-clause-value : goal.returns-then-base-end-clause-value
returns-then-base-end-clause-value c = sym (count_below-none c.args.end c.args.base c.args.stride c.args.count c.if-base-end.true)

pub returns-then-most-count-clause-value : goal.returns-then-most-count-clause-value
returns-then-most-count-clause-value c = count_is-most c.args.end c.args.base c.args.stride c.args.count _ c.if-base-end.false refl c.if-most-count.true

pub returns-else-most-count-clause-value : goal.returns-else-most-count-clause-value
returns-else-most-count-clause-value c = count_is-all c.args.end c.args.base c.args.stride c.args.count _ c.if-base-end.false refl c.if-most-count.false
