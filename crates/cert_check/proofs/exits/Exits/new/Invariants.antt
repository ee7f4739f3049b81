use Rattle.std.proofs.Common.{◌≡◌, drop, length}
use Rattle.call_context.specs.contracts.node.FramePartialEq.TheImpl as frame_impl
use Rattle.cert_check.specs.Exits.{AreFirsts, nexts_of}
use Rattle.cert_check.proofs.exits.Exits.new.Given as goal

-- of the rows from the place on the first places are held and the next ones written
abbrev pub invariant-loop-place : goal.invariant-loop-place
invariant-loop-place g l =
    AreFirsts (frame_impl.ghosts).eq l.firsts.entries (length l.rows) l.place (drop l.place l.rows)
    × (length l.nexts.items ≡ length l.rows)
    × (drop l.place l.nexts.items ≡ nexts_of l.place (drop l.place l.rows))
