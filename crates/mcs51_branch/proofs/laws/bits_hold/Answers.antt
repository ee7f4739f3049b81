use Rattle.mcs51_branch.proofs.TestedBits.{bit_way, bit_way_form}
use Rattle.mcs51_branch.proofs.laws.bits_hold.Goals as goal

pub returns : goal.returns
returns c =
    let laws = c.known_laws.ensures in
    record { way = bit_way laws; form = bit_way_form laws }
