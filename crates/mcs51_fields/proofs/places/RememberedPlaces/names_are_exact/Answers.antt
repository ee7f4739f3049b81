use Rattle.mcs51_fields.specs.Places.{places}
use Rattle.mcs51_fields.proofs.places.RememberedPlaces.names_are_exact.Goals as goal

pub returns : goal.returns
returns c = record { exact = places.exact; apart = places.apart; parted = places.parted }
