use Rattle.std.proofs.Common.{rules}
use Rattle.std.specs.List.{flat_map}
use Rattle.dense_text.specs.Ranges.{piece_of}
use Rattle.dense_text.proofs.RangeLemmas.{counted}
use Rattle.dense_text.proofs.parts.Parts.close.Goals as goal

pub returns-then-last-lt4294967295-clause-text : goal.returns-then-last-lt4294967295-clause-text
returns-then-last-lt4294967295-clause-text c =
    let parts = c.args.self.now in
    counted (flat_map (piece_of parts.bytes.items) parts.pieces.items) parts.bytes.items parts.last parts.tail.start parts.tail.len (search rules) (search rules)
