use Rattle.value_set.proofs.Wholes.{bytes_same}
use Rattle.value_set.proofs.widths.run_as_words.Goals as goal

pub returns-then-is_whole : goal.returns-then-is_whole
returns-then-is_whole c = bytes_same c.args.bytes.now c.requires (c.is_whole.ensures c.if-is_whole.true)
