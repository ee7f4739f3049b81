use Rattle.std.proofs.lemmas.Result.{on_ok_weaker}
use Rattle.promises.proofs.Printed.{goes_said}
use Rattle.promises.proofs.printing.push_sentence.Goals as goal

pub returns-in_ok-push_site-in-Goes : goal.returns-in_ok-push_site-in-Goes
returns-in_ok-push_site-in-Goes c = on_ok_weaker c.push_addresses.result (λ all.
    goes_said c.args.out.now.items c.push_site-in-Goes.new.out.items c.args.promise.now c.in-Goes.pc c.in-Goes.targets
    c.as_slice-in-Goes.result.now c.push_addresses.new.out.items c.in-Goes.is c.as_slice-in-Goes.ensures c.in_ok-push_site-in-Goes.ensures all)
    c.push_addresses.ensures
