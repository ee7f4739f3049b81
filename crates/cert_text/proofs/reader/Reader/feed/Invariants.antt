use Rattle.std.proofs.Common.{◌≡◌, ◌++◌, ℕ, take}
use Rattle.cert_text.specs.declared.fault.LineFault.{LineFault}
use Rattle.cert_text.specs.Reading.{IsFaultyFront}
use Rattle.cert_text.proofs.reader.Reader.feed.Given as goal

-- the front of the piece was taken, and none of its lines is at fault
abbrev pub invariant-loop-i : goal.invariant-loop-i
invariant-loop-i g l = (l.self ≡ record l.fn.self { text = l.fn.self.text ++ take l.i l.piece })
    × ((number : ℕ) (fault : LineFault) → IsFaultyFront (g.C.Chip.analysis l.fn.self.base) (g.C.StateText.texts l.fn.self.base) l.self.text number fault → ⊥)
