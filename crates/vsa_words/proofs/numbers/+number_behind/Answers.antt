use Rattle.std.proofs.Common.{arith}
use Rattle.vsa_words.proofs.WordsLemmas.{too_great, digit_and_rest}
use Rattle.vsa_words.proofs.numbers.+number_behind.Goals as goal

pub returns-then-longer-gt-MOST_NUMBER : goal.returns-then-longer-gt-MOST_NUMBER
returns-then-longer-gt-MOST_NUMBER t c =
    too_great c.args.number c.in-Some.digit.now c.in-Some.rest.now c.args.digits.now c.in-Some.ensures.cases c.if-longer-gt-MOST_NUMBER.true

pub returns : goal.returns
returns t c =
    digit_and_rest c.args.number c.in-Some.digit.now c.in-Some.rest.now c.args.digits.now c.number_behind.result c.in-Some.ensures.cases
    (omega (arith, c.if-not-is_ascii_digit.ensures.cases)) (omega (arith, c.if-not-is_ascii_digit.ensures.cases)) c.number_behind.ensures
