use Rattle.std.proofs.Common.{◌≡◌, ◌++◌, take}
use Rattle.marked_text.specs.Escape.{escape}
use Rattle.marked_text.proofs.markup.Markup.escaped.Given as goal

-- the bytes so far are escaped behind what stood there
abbrev pub invariant-loop-byte : goal.invariant-loop-byte
invariant-loop-byte l = l.self.text.items ≡ l.initial.self.text.items ++ escape (take l.byte-index l.text)
