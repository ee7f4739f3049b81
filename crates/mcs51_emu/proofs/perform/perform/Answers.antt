use Rattle.mcs51_emu.proofs.perform.perform.Goals as goal

pub returns-in-JumpOnBit-clause-exact : goal.returns-in-JumpOnBit-clause-exact
returns-in-JumpOnBit-clause-exact c = rw c.in-JumpOnBit.is (c.jump_on_bit.ensures.exact c.args.image.now)

pub returns-in-CompareJump-clause-exact : goal.returns-in-CompareJump-clause-exact
returns-in-CompareJump-clause-exact c = rw c.in-CompareJump.is (c.compare_jump.ensures.exact c.args.image.now)

pub returns-in-DecrementJump-clause-exact : goal.returns-in-DecrementJump-clause-exact
returns-in-DecrementJump-clause-exact c = rw c.in-DecrementJump.is (c.decrement_jump.ensures.exact c.args.image.now)

pub returns-in-Increment-clause-exact : goal.returns-in-Increment-clause-exact
returns-in-Increment-clause-exact c = rw c.in-Increment.is (c.increment.ensures.exact c.args.image.now)

pub returns-in-Decrement-clause-exact : goal.returns-in-Decrement-clause-exact
returns-in-Decrement-clause-exact c = rw c.in-Decrement.is (c.decrement.ensures.exact c.args.image.now)

pub returns-in-Accumulate-clause-exact : goal.returns-in-Accumulate-clause-exact
returns-in-Accumulate-clause-exact c = rw c.in-Accumulate.is (c.accumulate.ensures.exact c.args.image.now)

pub returns-in-DirectLogic-clause-exact : goal.returns-in-DirectLogic-clause-exact
returns-in-DirectLogic-clause-exact c = rw c.in-DirectLogic.is (c.direct_logic.ensures.exact c.args.image.now)

pub returns-in-Divide-clause-exact : goal.returns-in-Divide-clause-exact
returns-in-Divide-clause-exact c = rw c.in-Divide.is (c.divide.ensures.exact c.args.image.now)

pub returns-in-CarryBit-clause-exact : goal.returns-in-CarryBit-clause-exact
returns-in-CarryBit-clause-exact c = rw c.in-CarryBit.is (c.carry_bit.ensures.exact c.args.image.now)

pub returns-in-ChangeBit-clause-exact : goal.returns-in-ChangeBit-clause-exact
returns-in-ChangeBit-clause-exact c = rw c.in-ChangeBit.is (c.change_bit.ensures.exact c.args.image.now)

pub returns-in-MoveImmediate-clause-exact : goal.returns-in-MoveImmediate-clause-exact
returns-in-MoveImmediate-clause-exact c = rw c.in-MoveImmediate.is (c.move_immediate.ensures.exact c.args.choices.now c.args.image.now)

pub returns-in-MoveToDirect-clause-exact : goal.returns-in-MoveToDirect-clause-exact
returns-in-MoveToDirect-clause-exact c = rw c.in-MoveToDirect.is (c.move_to_direct.ensures.exact c.args.image.now)

pub returns-in-MoveFromDirect-clause-exact : goal.returns-in-MoveFromDirect-clause-exact
returns-in-MoveFromDirect-clause-exact c = rw c.in-MoveFromDirect.is (c.move_from_direct.ensures.exact c.args.image.now)

pub returns-in-Load-clause-exact : goal.returns-in-Load-clause-exact
returns-in-Load-clause-exact c = rw c.in-Load.is (c.load.ensures.exact c.args.image.now)

pub returns-in-Store-clause-exact : goal.returns-in-Store-clause-exact
returns-in-Store-clause-exact c = rw c.in-Store.is (c.store.ensures.exact c.args.choices.now c.args.image.now)

pub returns-in-ReadExternal-clause-exact : goal.returns-in-ReadExternal-clause-exact
returns-in-ReadExternal-clause-exact c = rw c.in-ReadExternal.is (c.read_external.ensures.exact c.args.image.now)

pub returns-in-WriteExternal-clause-exact : goal.returns-in-WriteExternal-clause-exact
returns-in-WriteExternal-clause-exact c = rw c.in-WriteExternal.is (c.write_external.ensures.exact c.args.image.now)

pub returns-in-Push-clause-exact : goal.returns-in-Push-clause-exact
returns-in-Push-clause-exact c = rw c.in-Push.is (c.push.ensures.exact c.args.image.now)

pub returns-in-Pop-clause-exact : goal.returns-in-Pop-clause-exact
returns-in-Pop-clause-exact c = rw c.in-Pop.is (c.pop.ensures.exact c.args.image.now)

pub returns-in-Exchange-clause-exact : goal.returns-in-Exchange-clause-exact
returns-in-Exchange-clause-exact c = rw c.in-Exchange.is (c.exchange.ensures.exact c.args.image.now)

pub returns-in-ExchangeDigit-clause-exact : goal.returns-in-ExchangeDigit-clause-exact
returns-in-ExchangeDigit-clause-exact c = rw c.in-ExchangeDigit.is (c.exchange_digit.ensures.exact c.args.image.now)
