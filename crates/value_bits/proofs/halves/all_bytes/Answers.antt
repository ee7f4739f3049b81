use Rattle.std.proofs.Common.{map, sym, ◌∙◌, ap}
use Rattle.value_set.specs.declared.form.Form.{Form}
use Rattle.value_set.specs.Form.{gather, members}
use Rattle.chip_numbers.specs.Numbers.{low_byte}
use Rattle.value_bits.proofs.WholeBytes.{all_lows}
use Rattle.value_bits.proofs.halves.all_bytes.Goals as goal

pub returns : goal.returns
returns c =
    all_lows c.any.result c.set_laws.ensures c.any.ensures.value ∙ ap (λ (set : Form). gather 256 (map low_byte (members 65536 set))) (sym c.requires)
