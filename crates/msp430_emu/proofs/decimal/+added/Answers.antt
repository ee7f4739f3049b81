use Rattle.std.proofs.Common.{◌≤◌, arith}
use Rattle.msp430_emu.proofs.DecimalLemmas.{decimal_digit, decimal_rest, sixteen_step, sum_none, sum_step, carry_none, carry_step}
use Rattle.msp430_emu.proofs.decimal.+added.Goals as goal

pub digit_sum-digit-requires-clause-x : goal.digit_sum-digit-requires-clause-x
digit_sum-digit-requires-clause-x t c = decimal_digit c.args.digits c.args.x (omega arith) c.requires.x

pub digit_sum-digit-requires-clause-y : goal.digit_sum-digit-requires-clause-y
digit_sum-digit-requires-clause-y t c = decimal_digit c.args.digits c.args.y (omega arith) c.requires.y

pub added-rest-requires : goal.added-rest-requires
added-rest-requires t c =
    let some : 1 ≤ c.args.digits = omega arith in
    let step = sixteen_step c.args.digits some in
    (omega arith, (omega (arith, step), (decimal_rest c.args.digits c.args.x some c.requires.x, (decimal_rest c.args.digits c.args.y some c.requires.y, c.digit_sum-digit.ensures.carry))))

pub overflow_mul-result : goal.overflow_mul-result
overflow_mul-result t c = let step = sixteen_step c.args.digits (omega arith) in omega (arith, step)

pub overflow_add-result : goal.overflow_add-result
overflow_add-result t c = let step = sixteen_step c.args.digits (omega arith) in omega (arith, step)

pub returns-in-0-clause-sum : goal.returns-in-0-clause-sum
returns-in-0-clause-sum t c = let none = sum_none c.args.x c.args.y c.args.carry in cc

pub returns-in-0-clause-out : goal.returns-in-0-clause-out
returns-in-0-clause-out t c = let none = carry_none c.args.x c.args.y c.args.carry c.requires.carry in cc

pub returns-in_default-clause-sum : goal.returns-in_default-clause-sum
returns-in_default-clause-sum t c =
    let step = sum_step c.args.digits c.args.x c.args.y c.args.carry c.digit_sum-digit.result.0 c.digit_sum-digit.result.1 (omega arith) c.digit_sum-digit.ensures.digit c.digit_sum-digit.ensures.sum in cc

pub returns-in_default-clause-out : goal.returns-in_default-clause-out
returns-in_default-clause-out t c =
    let step = carry_step c.args.digits c.args.x c.args.y c.args.carry c.digit_sum-digit.result.0 c.digit_sum-digit.result.1 (omega arith) c.digit_sum-digit.ensures.digit c.digit_sum-digit.ensures.sum in cc

pub returns-in_default-clause-below : goal.returns-in_default-clause-below
returns-in_default-clause-below t c = let step = sixteen_step c.args.digits (omega arith) in omega (arith, step)
