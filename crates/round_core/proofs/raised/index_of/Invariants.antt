use Rattle.std.proofs.Common.{◌≡◌, take, None}
use Rattle.book_rules.specs.Machine.{place_of}
use Rattle.round_core.specs.Raise.{held_rows}
use Rattle.round_core.proofs.raised.index_of.Given as goal

abbrev pub invariant-loop-index : goal.invariant-loop-index
invariant-loop-index g l = place_of (held_rows (take l.index l.rows)) l.node ≡ None
