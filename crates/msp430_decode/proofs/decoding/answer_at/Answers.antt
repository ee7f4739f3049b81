use Rattle.std.proofs.Common.{◌≡◌, ℕ, nat_lt, IsTrue, ◌<◌, sym, ◌∙◌, ap, arith}
use Rattle.std.proofs.lemmas.Result.{err_from_is_err_and}
use Rattle.std.proofs.lemmas.Bool.Decides.{nat_tests}
use Rattle.msp430_decode.specs.Table.{length_of}
use Rattle.msp430_decode.specs.Fields.{instr_of}
use Rattle.msp430_decode.proofs.StandLemmas.{lacks_word, lacks_first, lacks_second, excluded_word, stands_instr}
use Rattle.msp430_decode.proofs.DecodedLemmas.{decoded_missing, decoded_excluded, decoded_first, decoded_second, decoded_whole}
use Rattle.msp430_decode.proofs.decoding.answer_at.Goals as goal

is_longer : (n len : ℕ) → n < len → IsTrue (nat_lt n len)
is_longer n len h = grind (arith, nat_tests)

pub returns-in_err-word : goal.returns-in_err-word
returns-in_err-word c =
    let p = err_from_is_err_and c.from_residual.result c.from_residual.ensures.1 in
    let refusal = c.in_err-word.field-0.0 in
    rw (p.1, p.2) (
      lacks_word c.args.image.now c.args.pc refusal c.in_err-word.ensures.gap,
      decoded_missing c.args.image.now c.args.pc refusal (sym c.in_err-word.ensures.exact),
    )

pub returns-then-is_no_instruction : goal.returns-then-is_no_instruction
returns-then-is_no_instruction c =
    let excluded = sym c.is_no_instruction.ensures ∙ c.if-is_no_instruction.true in (
      excluded_word c.args.image.now c.args.pc c.in_ok-word.word c.in_ok-word.ensures.word excluded,
      decoded_excluded c.args.image.now c.args.pc c.in_ok-word.word (sym c.in_ok-word.ensures.exact) excluded,
    )

pub returns-in_err-first : goal.returns-in_err-first
returns-in_err-first c =
    let p = err_from_is_err_and c.from_residual-in_err-first.result c.from_residual-in_err-first.ensures.1 in
    let word = c.in_ok-word.word in
    let allowed = sym c.is_no_instruction.ensures ∙ c.if-is_no_instruction.false in
    let long : 2 < c.length-length.result = grind (arith, nat_tests, c.in_err-first.ensures.needed) in
    let e : c.length-length.result ≡ length_of (instr_of word 0 0) = c.length-length.ensures ∙ ap length_of c.instr_from.ensures in
    rw (p.1, p.2) (
      lacks_first c.args.image.now c.args.pc word c.in_err-first.field-0.0 c.in_ok-word.ensures.word (omega arith) allowed (rw e at long) c.in_err-first.ensures.gap,
      decoded_first c.args.image.now c.args.pc word c.in_err-first.field-0.0 (sym c.in_ok-word.ensures.exact) allowed (rw e at (sym c.in_err-first.ensures.exact)),
    )

pub returns-in_err-second : goal.returns-in_err-second
returns-in_err-second c =
    let p = err_from_is_err_and c.from_residual-in_err-second.result c.from_residual-in_err-second.ensures.1 in
    let word = c.in_ok-word.word in
    let first = c.in_ok-first.first in
    let allowed = sym c.is_no_instruction.ensures ∙ c.if-is_no_instruction.false in
    let long : 4 < c.length-length.result = grind (arith, nat_tests, c.in_err-second.ensures.needed) in
    let e : c.length-length.result ≡ length_of (instr_of word 0 0) = c.length-length.ensures ∙ ap length_of c.instr_from.ensures in
    rw (p.1, p.2) (
      lacks_second c.args.image.now c.args.pc word first c.in_err-second.field-0.0 c.in_ok-word.ensures.word
          (c.in_ok-first.ensures.word (is_longer 2 c.length-length.result (omega arith))) (omega arith) (omega arith) allowed (rw e at long) c.in_err-second.ensures.gap,
      decoded_second c.args.image.now c.args.pc word first c.in_err-second.field-0.0 (sym c.in_ok-word.ensures.exact) allowed
          (rw e at (sym c.in_ok-first.ensures.exact)) (rw e at (sym c.in_err-second.ensures.exact)),
    )

pub returns : goal.returns
returns c =
    let word = c.in_ok-word.word in
    let allowed = sym c.is_no_instruction.ensures ∙ c.if-is_no_instruction.false in
    let e : c.length-length.result ≡ length_of (instr_of word 0 0) = c.length-length.ensures ∙ ap length_of c.instr_from.ensures in
    let stands = stands_instr c.args.image.now c.args.pc word c.in_ok-first.first c.in_ok-second.second
    c.in_ok-word.ensures.word (omega arith) (omega arith) (omega arith) allowed
    (λ h. c.in_ok-first.ensures.word (is_longer 2 c.length-length.result (rw e h)))
    (λ h. c.in_ok-second.ensures.word (is_longer 4 c.length-length.result (rw e h))) in
    let whole = decoded_whole c.args.image.now c.args.pc word c.in_ok-first.first c.in_ok-second.second (sym c.in_ok-word.ensures.exact) allowed
    (rw e at (sym c.in_ok-first.ensures.exact)) (rw e at (sym c.in_ok-second.ensures.exact)) in
    rw (c.instr_from-2.ensures, e) (stands, whole)
