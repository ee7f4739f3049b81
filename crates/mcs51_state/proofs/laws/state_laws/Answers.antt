use Rattle.std.proofs.Common.{false}
use Rattle.mcs51_state.proofs.Covering.{parts_more, covers_more, reset_covered, top_holds}
use Rattle.mcs51_state.proofs.Orders.{joined_ordered, widened_ordered}
use Rattle.mcs51_state.proofs.StateForms.{first_form, top_form}
use Rattle.mcs51_state.proofs.laws.state_laws.Goals as goal

pub returns : goal.returns
returns c =
    let laws = c.known_laws.ensures in
    record {
      itself = λ framed. (joined_ordered laws framed).itself;
      along = (joined_ordered laws false).along;
      join_held = λ framed. (joined_ordered laws framed).held;
      join_new = λ framed. (joined_ordered laws framed).new;
      widen_held = λ framed marks below. (widened_ordered laws framed marks below).held;
      widen_new = λ framed marks below. (widened_ordered laws framed marks below).new;
      greatest = λ framed. (joined_ordered laws framed).whole;
      first_form = first_form laws;
      top_form = top_form laws;
      join_form = λ framed. (joined_ordered laws framed).form;
      widen_form = λ framed marks below. (widened_ordered laws framed marks below).form;
      parts = parts_more laws;
      more = covers_more laws;
      reset = reset_covered laws;
      top = top_holds laws;
    }
