use Rattle.call_context.proofs.SameItems.{bytes_same, set_same, item_same}
use Rattle.call_context.proofs.laws.equal_items_are_one.Goals as goal

pub returns : goal.returns
returns c = record { bytes = bytes_same; sets = set_same; items = item_same }
