use Rattle.entry_value.specs.Words.{word_widen}
use Rattle.known_parts.specs.Pointwise.{all_made}
use Rattle.msp430_state.proofs.words.widen_all.Goals as goal

pub returns : goal.returns
returns c = all_made (λ h n. word_widen h n c.args.marks.now) 12 c.loop-i.i c.loop-i.words c.args.held.now c.args.new.now _ c.loop-i-test.false c.loop-i.invariant.count c.loop-i.invariant.held c.loop-i.invariant.made
