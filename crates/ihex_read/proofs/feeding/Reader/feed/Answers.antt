use Rattle.std.proofs.Common.{◌+◌, Some, length, length-drop, refl, ap, subst, ◌∙◌, arith}
use Rattle.std.proofs.lemmas.List.{take_rest}
use Rattle.std.specs.Prelude.{Option}
use Rattle.ihex_read.specs.declared.fault.HexError.{HexError}
use Rattle.ihex_read.specs.Reading.{Reading, TellsFront}
use Rattle.ihex_read.proofs.ReaderLemmas.{more_text, all_text, none_in_all, none_behind}
use Rattle.ihex_read.proofs.feeding.Reader.feed.Goals as goal

-- that answers this error from now on
abbrev failing : Option HexError → Reading → Reading
failing error reader = record reader { error = error }

pub loop-self-preserved : goal.loop-self-preserved
loop-self-preserved c = (
  rw (c.in-Ok.ensures.text, c.loop-self.invariant.0, more_text c.args.self.now.text c.args.piece.now c.loop-self.used c.in-Ok.count) refl,
  omega (arith, c.in-Ok.ensures.within, ap length (take_rest c.args.piece.now c.loop-self.used), length-drop c.loop-self.used c.args.piece.now, c.loop-self.invariant.1),
)

pub returns-in-Err-clause-bad : goal.returns-in-Err-clause-bad
returns-in-Err-clause-bad c = λ none.
    let tells = rw c.loop-self.invariant.0 at c.in-Err.ensures.bad in
    subst (λ t. TellsFront c.args.self.now.rules c.args.self.now.tail t c.in-Err.error) (all_text c.args.self.now.text c.args.piece.now c.loop-self.used) tells

pub returns-in-Err-clause-failed : goal.returns-in-Err-clause-failed
returns-in-Err-clause-failed c =
    let failed = rw c.loop-self.invariant.0 at c.in-Err.ensures.err in (
      c.loop-self.used + failed.0,
      ap (failing (Some c.in-Err.error)) (c.self-in-loop-self.view_is ∙ failed.1)
          ∙ ap (λ t. failing (Some c.in-Err.error) (record c.args.self.now { text = t })) (more_text c.args.self.now.text c.args.piece.now c.loop-self.used failed.0),
    )

pub returns-else-used-piece-clause-good : goal.returns-else-used-piece-clause-good
returns-else-used-piece-clause-good c =
    let good = rw c.loop-self.invariant.0 at c.is_done.ensures.good in
    none_in_all c.args.self.now.rules c.args.self.now.tail c.args.self.now.text c.args.piece.now c.loop-self.used c.if-used-piece.false good

pub returns-else-used-piece-clause-first : goal.returns-else-used-piece-clause-first
returns-else-used-piece-clause-first c =
    let first = rw c.loop-self.invariant.0 at c.is_done.ensures.first in
    rw c.loop-self.invariant.0 first

pub returns-after-loop-self-clause-good : goal.returns-after-loop-self-clause-good
returns-after-loop-self-clause-good c =
    let done = rw c.loop-self.invariant.0 at (c.is_done.ensures.done.0 c.loop-self-test.false) in
    none_behind c.args.self.now.rules c.args.self.now.tail c.args.self.now.text c.args.piece.now c.loop-self.used done

pub returns-after-loop-self-clause-first : goal.returns-after-loop-self-clause-first
returns-after-loop-self-clause-first c =
    let first = rw c.loop-self.invariant.0 at c.is_done.ensures.first in
    rw c.loop-self.invariant.0 first
