use Rattle.std.proofs.Common.{◌≡◌, ◌++◌, OnOk, subst}
use Rattle.mcs51_state.specs.Known.{Known}
use Rattle.mcs51_fields.specs.States.{known_text}
use Rattle.mcs51_fields.proofs.StateLemmas.{all_written}
use Rattle.mcs51_fields.proofs.state.push_state.Goals as goal

pub returns : goal.returns
returns g c =
    let s = c.state.inside in
    let k : Known = record {
      sp = s.sp;
      a = s.a;
      b = s.b;
      dpl = s.dpl;
      dph = s.dph;
      ie = s.ie;
      ip = s.ip;
      psw = s.psw;
      levels = s.levels;
      linear_fact = s.linear_fact;
      carry_fact = s.carry_fact;
      cells = g.M.Cells.map s.cells;
      touched = s.touched;
    } in
    let is : k ≡ c.args.state.now = c.state.view_is in
    subst (λ known. OnOk c.push_memory.result (c.push_memory.new.out.items ≡ c.args.out.now.items ++ known_text known)) is
    (subst (λ text. OnOk c.push_memory.result (c.push_memory.new.out.items ≡ text))
    (all_written k c.args.out.now.items c.push_first.new.out.items c.push_second.new.out.items c.push_third.new.out.items c.in_ok-push_first.ensures
    c.in_ok-push_second.ensures c.in_ok-push_third.ensures)
    c.push_memory.ensures)
