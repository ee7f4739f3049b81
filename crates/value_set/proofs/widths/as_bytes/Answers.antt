use Rattle.value_set.proofs.BytesAsWords.{bytes_normal, bytes_gathered}
use Rattle.value_set.proofs.widths.as_bytes.Goals as goal

pub returns-then-is_byte_list-clause-normal : goal.returns-then-is_byte_list-clause-normal
returns-then-is_byte_list-clause-normal c = bytes_normal c.args.words.now c.requires (c.is_byte_list.ensures.0 c.if-is_byte_list.true)

pub returns-then-is_byte_list-clause-gathered : goal.returns-then-is_byte_list-clause-gathered
returns-then-is_byte_list-clause-gathered c = bytes_gathered c.args.words.now c.requires (c.is_byte_list.ensures.0 c.if-is_byte_list.true)
