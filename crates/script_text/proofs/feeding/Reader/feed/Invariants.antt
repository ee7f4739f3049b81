use Rattle.std.proofs.Common.{◌≡◌, ◌++◌, ℕ, take}
use Rattle.script_text.specs.Reading.{IsRefusedWithin}
use Rattle.script_text.proofs.feeding.Reader.feed.Given as goal

-- the front of the piece was taken, and none of its lines is refused
abbrev pub invariant-loop-i : goal.invariant-loop-i
invariant-loop-i l = (l.self ≡ record l.fn.self { text = l.fn.self.text ++ take l.i l.piece }) × ((line : ℕ) → IsRefusedWithin l.self.text line → ⊥)
