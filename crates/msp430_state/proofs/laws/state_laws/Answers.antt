use Rattle.std.proofs.Common.{false}
use Rattle.msp430_state.proofs.Covering.{parts_more, covers_more, reset_covered}
use Rattle.msp430_state.proofs.Orders.{joined_ordered, widened_ordered}
use Rattle.msp430_state.proofs.StateForms.{first_form, top_form}
use Rattle.msp430_state.proofs.laws.state_laws.Goals as goal

pub returns : goal.returns
returns c =
    let laws = c.known_laws.ensures in
    record {
      itself = λ lo hi framed. (joined_ordered laws lo hi framed).itself;
      along = (joined_ordered laws 0 0 false).along;
      join_held = λ lo hi framed. (joined_ordered laws lo hi framed).held;
      join_new = λ lo hi framed. (joined_ordered laws lo hi framed).new;
      widen_held = λ lo hi framed marks below. (widened_ordered laws lo hi framed marks below).held;
      widen_new = λ lo hi framed marks below. (widened_ordered laws lo hi framed marks below).new;
      greatest = λ lo hi framed. (joined_ordered laws lo hi framed).whole;
      first_form = first_form laws;
      top_form = top_form laws;
      join_form = λ lo hi framed. (joined_ordered laws lo hi framed).form;
      widen_form = λ lo hi framed marks below. (widened_ordered laws lo hi framed marks below).form;
      parts = parts_more laws;
      more = covers_more laws;
      reset = reset_covered laws;
    }
