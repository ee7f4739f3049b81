use Rattle.std.proofs.Common.{◌≡◌, ◌++◌, drop, map}
use Rattle.std.specs.List.{flat_map}
use Rattle.cert_text.specs.Writing.{bytes_of, line_of}
use Rattle.cert_text.proofs.writer.push_lines.Given as goal

-- the text so far and what is left make the whole text
abbrev pub invariant-loop-node : goal.invariant-loop-node
invariant-loop-node l = l.text.items ++ flat_map line_of (map bytes_of (drop l.node-index l.pairs)) ≡ l.fn.text.items ++ flat_map line_of
    (map bytes_of l.pairs)
