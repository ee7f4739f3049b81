use Rattle.hex_digits.proofs.ByteDigits.{byte_more}
use Rattle.hex_digits.proofs.reading.bytes.Goals as goal

pub loop-i-preserved : goal.loop-i-preserved
loop-i-preserved c = byte_more c.loop-i.i c.in-Some.value c.loop-i.bytes.items c.push.new.self.items c.args.text.now c.in_ok-push.ensures.items c.loop-i.invariant c.in-Some.ensures.digits
