use Rattle.std.proofs.Common.{◌≡◌, ◌++◌, OnOk, map, subst}
use Rattle.text_fields.specs.Fields.{name_in}
use Rattle.msp430_fields.proofs.places.RegistersPlaces.push_place.Goals as goal

pub returns : goal.returns
returns c = subst (λ rows. OnOk c.push_name.result (c.push_name.new.out.items ≡ c.args.out.now.items ++ name_in (map (λ row.
    (row.0, row.1.now)) rows) c.args.place))
    c.as_slice.ensures c.push_name.ensures
