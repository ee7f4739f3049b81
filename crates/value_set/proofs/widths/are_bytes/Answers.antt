use Rattle.std.proofs.Common.{get_or, length, ◌-◌, refl}
use Rattle.std.proofs.lemmas.Bool.{lt-ltb, ltb-true}
use Rattle.value_set.proofs.BytesAsWords.{last_greatest, last_there}
use Rattle.value_set.proofs.widths.are_bytes.Goals as goal

pub returns : goal.returns
returns c =
    let xs = c.args.values.now in
    let last = get_or xs (length xs - 1) 0 in (
      λ low. last_greatest 65536 256 last xs c.requires.ascending refl (ltb-true last 256 low),
      λ each. lt-ltb last 256 (each last (last_there xs c.requires.some)),
    )
