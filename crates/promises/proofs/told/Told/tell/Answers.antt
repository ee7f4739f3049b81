use Rattle.std.proofs.lemmas.Result.{on_ok_weaker}
use Rattle.promises.proofs.Sites.{told_all, told_store, told_way}
use Rattle.promises.proofs.told.Told.tell.Goals as goal

pub returns-in-Write-clause-added : goal.returns-in-Write-clause-added
returns-in-Write-clause-added c = on_ok_weaker c.add.result (λ added promises told.
    rw c.in-Write.is (told_store c.args.self.now promises told c.add.new.set c.in-Write.pc c.in-Write.windows added)) c.add.ensures.added

pub returns-in-Goes-clause-added : goal.returns-in-Goes-clause-added
returns-in-Goes-clause-added c = on_ok_weaker c.add-in-Goes.result (λ added promises told.
    rw c.in-Goes.is (told_way c.args.self.now promises told c.add-in-Goes.new.set c.in-Goes.pc c.in-Goes.targets added)) c.add-in-Goes.ensures.added

pub returns-in-All-clause-added : goal.returns-in-All-clause-added
returns-in-All-clause-added c = λ promises told. rw c.in-All.is (told_all c.args.self.now promises told c.in-All.windows)
