use Rattle.std.proofs.Common.{◌≡◌, ◌++◌, map, take, drop, length}
use Rattle.irq_frames.specs.Resuming.{resumed_word}
use Rattle.msp430_resume.specs.Resume.{held_word}
use Rattle.msp430_resume.proofs.places.resume_all.Given as goal

abbrev pub invariant-loop-i : goal.invariant-loop-i
invariant-loop-i l = record {
  made : take l.i l.words ++ map (resumed_word (held_word l.held.pc l.held.status l.held.registers)) (drop l.i l.exit)
      ≡ map (resumed_word (held_word l.held.pc l.held.status l.held.registers)) l.exit;
  count : length l.words ≡ 12;
  exit : length l.exit ≡ 12;
}
