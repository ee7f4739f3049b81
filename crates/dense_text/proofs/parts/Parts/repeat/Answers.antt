use Rattle.std.proofs.Common.{rules}
use Rattle.dense_text.specs.Ranges.{closed_text, text_of}
use Rattle.dense_text.proofs.RangeLemmas.{repeated_part}
use Rattle.dense_text.proofs.parts.Parts.repeat.Goals as goal

pub returns-clause-text : goal.returns-clause-text
returns-clause-text c =
    let opened = c.go_to.new.self in
    repeated_part (closed_text opened) opened.bytes.items c.args.part.now (text_of c.args.self.now) opened.tail.start opened.tail.len
    (search rules) c.in_ok-go_to.ensures.text
