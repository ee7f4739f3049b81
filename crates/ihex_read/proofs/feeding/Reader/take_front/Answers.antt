use Rattle.std.proofs.Common.{sym, refl}
use Rattle.std.proofs.lemmas.Result.{err_from_is_err_and}
use Rattle.ihex_read.proofs.PieceLemmas.{unbroken_text, first_feed}
use Rattle.ihex_read.proofs.ReaderLemmas.{front_text, tells_piece, tells_line}
use Rattle.ihex_read.proofs.feeding.Reader.take_front.Goals as goal

pub begin-requires-clause-unbroken : goal.begin-requires-clause-unbroken
begin-requires-clause-unbroken c = (first_feed c.args.piece.now c.in-Some.at (sym c.in-Some.ensures)).front

pub returns-in_err-end_line-in-Some-clause-bad : goal.returns-in_err-end_line-in-Some-clause-bad
returns-in_err-end_line-in-Some-clause-bad c =
    let p = err_from_is_err_and c.from_residual-in_err-end_line-in-Some.result c.from_residual-in_err-end_line-in-Some.ensures.1 in
    let feed = first_feed c.args.piece.now c.in-Some.at (sym c.in-Some.ensures) in
    let tells = rw c.in_ok-begin-in-Some.ensures.text at c.in_err-end_line-in-Some.ensures.bad in
    rw (p.1, p.2) (tells_piece c.args.self.now.rules c.args.self.now.tail c.args.self.now.text c.args.piece.now c.in-Some.at _ feed tells)

pub begin-requires-in-None-clause-unbroken : goal.begin-requires-in-None-clause-unbroken
begin-requires-in-None-clause-unbroken c = unbroken_text c.args.piece.now (sym c.in-None.ensures)

pub returns-in_ok-end_line-in-Some-clause-text : goal.returns-in_ok-end_line-in-Some-clause-text
returns-in_ok-end_line-in-Some-clause-text c =
    let feed = first_feed c.args.piece.now c.in-Some.at (sym c.in-Some.ensures) in
    rw (c.in_ok-end_line-in-Some.ensures.text, c.in_ok-begin-in-Some.ensures.text, front_text c.args.self.now.text c.args.piece.now c.in-Some.at feed) refl

pub returns-in_err-end_line-clause-bad : goal.returns-in_err-end_line-clause-bad
returns-in_err-end_line-clause-bad c =
    let p = err_from_is_err_and c.from_residual.result c.from_residual.ensures.1 in
    rw (p.1, p.2) (tells_line c.args.self.now.rules c.args.self.now.tail c.args.self.now.text c.args.piece.now _ c.requires.some c.if-piece-eq10.true c.in_err-end_line.ensures.bad)
