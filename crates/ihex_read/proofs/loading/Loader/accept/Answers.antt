use Rattle.std.proofs.Common.{length, ◌<◌, arith}
use Rattle.std.proofs.lemmas.Bool.Decides.{nat_tests}
use Rattle.std.proofs.lemmas.Result.{err_from_is_err_and}
use Rattle.ihex_read.proofs.MadeLemmas.{made_blank, fault_alone, fault_placing, made_accepted}
use Rattle.ihex_read.proofs.loading.Loader.accept.Goals as goal

pub returns-then-is_empty-clause-made : goal.returns-then-is_empty-clause-made
returns-then-is_empty-clause-made c = λ lines made. made_blank lines c.args.line.now _ _ made (grind (arith, nat_tests))

pub returns-in_err-count-clause-fault : goal.returns-in_err-count-clause-fault
returns-in_err-count-clause-fault c = λ lines made.
    let p = err_from_is_err_and c.from_residual.result c.from_residual.ensures.1 in
    let some : 0 < length c.args.line.now = grind (arith, nat_tests) in
    rw (p.1, p.2) (fault_alone c.args.self.now.rules lines c.args.line.now _ _ _ made some c.in_err-count.ensures.fault)

pub returns-clause-fault : goal.returns-clause-fault
returns-clause-fault c = λ lines made.
    let some : 0 < length c.args.line.now = grind (arith, nat_tests) in
    fault_placing c.args.self.now.rules lines c.args.line.now _ _ _ _ made some c.in_ok-count.ensures.fault c.in_ok-count.ensures.bytes c.apply.ensures.fault

pub returns-clause-made : goal.returns-clause-made
returns-clause-made c = λ lines made.
    made_accepted c.apply.result c.args.self.now.rules lines c.args.line.now _ _ _ _ _ made c.in_ok-count.ensures.bytes
    c.apply.ensures.fault c.apply.ensures.image c.apply.ensures.base
