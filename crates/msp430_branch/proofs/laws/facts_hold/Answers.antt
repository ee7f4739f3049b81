use Rattle.msp430_branch.proofs.FactLemmas.{fact_holds, fact_form}
use Rattle.msp430_branch.proofs.laws.facts_hold.Goals as goal

pub returns : goal.returns
returns c =
    let places = c.place_laws.ensures in
    record {
      holds = fact_holds c.known_laws.ensures places;
      form = fact_form places;
    }
