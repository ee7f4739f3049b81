use Rattle.value_bits.specs.AllFlags.Place.{First}
use Rattle.value_bits.proofs.flags.agreed.Goals as goal

pub returns : goal.returns
returns g c = record { value = c.all_agreed.ensures.value First; holds = c.all_agreed.ensures.holds First }
