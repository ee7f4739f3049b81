use Rattle.std.proofs.Common.{◌≡◌, ◌++◌, ◌∷◌, []}
use Rattle.std.specs.List.{flat_map}
use Rattle.report_bytes.specs.Report.{bytes_of}
use Rattle.report_bytes.proofs.lines.Lines.push_to.Given as goal

-- the text so far and what is left make the whole text
abbrev pub invariant-loop-line : goal.invariant-loop-line
invariant-loop-line l = l.text.items ++ flat_map (λ line. line ++ 10 ∷ []) (bytes_of l.line-iterator) ≡ l.fn.text.items ++ flat_map (λ line. line ++ 10 ∷ []) l.self
