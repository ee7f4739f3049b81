use Rattle.std.proofs.Common.{◌+◌, ◌-◌, ◌%◌, ◌∙◌, sym, refl, arith}
use Rattle.assert_check.specs.Assertions.{numbers_in, reaches}
use Rattle.plain_lemmas.specs.AnyOf.{any_alike, any_never}
use Rattle.assert_check.proofs.Windows.{reach_window, reaches_none}
use Rattle.assert_check.proofs.reaching.reaches.Goals.{then-size-eq0-via-then-size-eq0, then-size-eq0-via-else-size-eq0+then-hi-lo}
use Rattle.assert_check.proofs.reaching.reaches.Goals as goal

pub returns-then-size-eq0 : goal.returns-then-size-eq0
returns-then-size-eq0 c = elim c.then-size-eq0.branch [
  | then-size-eq0-via-then-size-eq0 w ↦ rw w.if-size-eq0.true (sym (any_never (numbers_in c.args.set.now)))
  | then-size-eq0-via-else-size-eq0+then-hi-lo w ↦ sym (any_alike (reaches c.args.lo c.args.hi c.args.size) _ (numbers_in c.args.set.now)
      (λ v h. reaches_none c.args.lo c.args.hi c.args.size v w.if-hi-lo.true) ∙ any_never (numbers_in c.args.set.now))
]

pub returns : goal.returns
returns c =
    let lo = c.args.lo in
    let hi = c.args.hi in
    let size = c.args.size in
    c.meets.ensures.value ∙ any_alike _ (reaches lo hi size) (numbers_in c.args.set.now) (λ v h.
    reach_window lo hi size ((lo + 65536 - (size - 1)) % 65536) c.min.result v c.if-size-eq0.false (omega arith) c.if-hi-lo.false (omega arith)
    (c.meets.ensures.below v h) refl c.min.ensures)
