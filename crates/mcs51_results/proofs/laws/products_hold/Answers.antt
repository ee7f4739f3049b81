use Rattle.mcs51_results.proofs.Products.{multiplied_holds, multiplied_form, divided_holds, divided_form}
use Rattle.mcs51_results.proofs.laws.products_hold.Goals as goal

pub returns : goal.returns
returns c =
    let laws = c.known_laws.ensures in
    record {
      multiplied = multiplied_holds laws;
      multiplied_form = multiplied_form laws;
      divided = divided_holds laws;
      divided_form = divided_form laws;
    }
