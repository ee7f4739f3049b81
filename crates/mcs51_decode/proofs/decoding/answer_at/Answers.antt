use Rattle.std.proofs.Common.{sym, ◌∙◌, arith}
use Rattle.std.proofs.lemmas.Result.{err_from_is_err_and}
use Rattle.mcs51_decode.proofs.AnswerLemmas.{no_opcode, excluded, no_first, no_second, whole}
use Rattle.mcs51_decode.proofs.decoding.answer_at.Goals as goal

pub returns-in_err-opcode : goal.returns-in_err-opcode
returns-in_err-opcode c =
    let p = err_from_is_err_and c.from_residual.result c.from_residual.ensures.1 in
    rw (p.1, p.2) (no_opcode c.args.image.now c.args.pc c.in_err-opcode.field-0.0 (sym c.in_err-opcode.ensures))

pub returns-then-is_no_instruction : goal.returns-then-is_no_instruction
returns-then-is_no_instruction c =
    excluded c.args.image.now c.args.pc c.in_ok-opcode.opcode (sym c.in_ok-opcode.ensures)
    (sym c.is_no_instruction.ensures ∙ c.if-is_no_instruction.true)

pub returns-in_err-first : goal.returns-in_err-first
returns-in_err-first c =
    let p = err_from_is_err_and c.from_residual-in_err-first.result c.from_residual-in_err-first.ensures.1 in
    let e = c.length_of_opcode-length.ensures in
    rw (p.1, p.2) (no_first c.args.image.now c.args.pc c.in_ok-opcode.opcode c.in_err-first.field-0.0
    (sym c.in_ok-opcode.ensures) (sym c.is_no_instruction.ensures ∙ c.if-is_no_instruction.false) (rw e at (sym c.in_err-first.ensures)))

pub returns-in_err-second : goal.returns-in_err-second
returns-in_err-second c =
    let p = err_from_is_err_and c.from_residual-in_err-second.result c.from_residual-in_err-second.ensures.1 in
    let e = c.length_of_opcode-length.ensures in
    rw (p.1, p.2) (no_second c.args.image.now c.args.pc c.in_ok-opcode.opcode c.in_ok-first.first c.in_err-second.field-0.0
    (sym c.in_ok-opcode.ensures) (sym c.is_no_instruction.ensures ∙ c.if-is_no_instruction.false)
    (rw e at (sym c.in_ok-first.ensures)) (rw e at (sym c.in_err-second.ensures)))

pub returns : goal.returns
returns c =
    let e = c.length_of_opcode-length.ensures in
    rw (c.instr_from.ensures, e) (whole c.args.image.now c.args.pc c.in_ok-opcode.opcode c.in_ok-first.first c.in_ok-second.second
    (omega arith) (omega arith) (omega arith) (sym c.in_ok-opcode.ensures) (sym c.is_no_instruction.ensures ∙ c.if-is_no_instruction.false)
    (rw e at (sym c.in_ok-first.ensures)) (rw e at (sym c.in_ok-second.ensures)))
