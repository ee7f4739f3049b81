use Rattle.irq_frames.specs.Resuming.{resumed_word}
use Rattle.msp430_resume.specs.Resume.{held_word}
use Rattle.msp430_resume.proofs.Lists.{all_resumed}
use Rattle.msp430_resume.proofs.places.resume_all.Goals as goal

pub returns : goal.returns
returns c = all_resumed (resumed_word (held_word c.args.held.now.pc c.args.held.now.status c.args.held.now.registers)) 12 c.loop-i.i c.loop-i.words c.args.exit.now _
    c.loop-i-test.false c.loop-i.invariant.count c.loop-i.invariant.exit c.loop-i.invariant.made
