use Rattle.mcs51_state.proofs.WrittenParts.{address_follows, pair_follows, pop_follows, push_follows}
use Rattle.mcs51_state.proofs.laws.stack_follows.Goals as goal

pub returns : goal.returns
returns c =
    let laws = c.known_laws.ensures in
    record {
      push = push_follows laws;
      push_pair = pair_follows laws;
      push_address = address_follows laws;
      pop = pop_follows laws;
      top_form = λ framed first known s under. under.form.sp;
      top = λ framed first known s under. under.holds.parts.sp;
    }
