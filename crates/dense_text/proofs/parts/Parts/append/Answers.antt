use Rattle.std.proofs.Common.{rules}
use Rattle.dense_text.specs.Ranges.{text_of}
use Rattle.dense_text.proofs.RangeLemmas.{appended_part}
use Rattle.dense_text.proofs.parts.Parts.append.Goals as goal

pub returns-clause-text : goal.returns-clause-text
returns-clause-text c =
    let opened = c.in_ok-go_to.ensures in
    appended_part c.go_to.new.self c.extend_from_slice.new.self.items c.args.part.now (text_of c.args.self.now) opened.sound
    (search rules) (search rules) opened.text
