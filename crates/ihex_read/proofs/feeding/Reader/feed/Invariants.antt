use Rattle.std.proofs.Common.{◌≡◌, ◌≤◌, ◌-◌, ◌++◌, length, take}
use Rattle.ihex_read.proofs.feeding.Reader.feed.Given as goal

abbrev pub invariant-loop-self : goal.invariant-loop-self
invariant-loop-self l = (l.self ≡ record l.fn.self { text = l.fn.self.text ++ take l.used l.piece }) × (l.used ≤ length l.piece)

abbrev pub decreases-loop-self : goal.decreases-loop-self
decreases-loop-self l = length l.piece - l.used
