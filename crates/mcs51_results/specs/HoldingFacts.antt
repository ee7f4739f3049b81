-- PSW in what is known of a state: a lemma, also for the proofs of crates above.
use Rattle.std.specs.Prelude.{Bool}
use Rattle.mcs51_state.specs.Forms.{IsKnown}
use Rattle.mcs51_state.specs.Known.{Known}
use Rattle.mcs51_results.specs.Holding.{IsStatus}

pub status_of_known : (framed : Bool) (known : Known) → IsKnown framed known → IsStatus framed known.psw
status_of_known framed known form = record { bits = form.bits; entry = form.psw }
