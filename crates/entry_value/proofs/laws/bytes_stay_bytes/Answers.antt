use Rattle.std.proofs.Common.{arith}
use Rattle.entry_value.proofs.ReadForms.{single_low, any_low}
use Rattle.entry_value.proofs.Values.{byte_widened_normal, byte_widened_low}
use Rattle.entry_value.proofs.laws.bytes_stay_bytes.Goals as goal

pub returns-clause-single : goal.returns-clause-single
returns-clause-single c = single_low c.set_laws.ensures

pub returns-clause-whole : goal.returns-clause-whole
returns-clause-whole c = any_low c.set_laws.ensures

pub returns-clause-pair : goal.returns-clause-pair
returns-clause-pair c = c.bit_laws.ensures.pair_byte

pub returns-clause-join : goal.returns-clause-join
returns-clause-join c = λ a b normal other. c.set_laws.ensures.join_below 256 65536 a b (omega arith) normal other

pub returns-clause-widen_normal : goal.returns-clause-widen_normal
returns-clause-widen_normal c = byte_widened_normal c.set_laws.ensures c.bit_laws.ensures

pub returns-clause-widen : goal.returns-clause-widen
returns-clause-widen c = byte_widened_low c.set_laws.ensures c.bit_laws.ensures
