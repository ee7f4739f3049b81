use Rattle.msp430_fields.specs.Places.{places}
use Rattle.msp430_fields.proofs.places.RegistersPlaces.names_are_exact.Goals as goal

pub returns : goal.returns
returns c = record { exact = places.exact; apart = places.apart; parted = places.parted }
