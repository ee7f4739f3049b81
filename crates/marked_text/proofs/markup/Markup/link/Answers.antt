use Rattle.std.proofs.Common.{◌++◌, List, ℕ, codes}
use Rattle.hex_digits.specs.Digits.{hex}
use Rattle.marked_text.proofs.Joined.{joined}
use Rattle.marked_text.proofs.markup.Markup.link.Goals as goal

pub returns : goal.returns
returns c =
    let old : List ℕ = c.args.self.now.text.items in
    let front : List ℕ = codes "<a href=#" in
    let digits : List ℕ = hex 4 c.args.address in
    let middle : List ℕ = codes ">" in
    let last : List ℕ = codes "</a>" in
    joined old (front ++ digits ++ middle ++ digits) last
    (joined old (front ++ digits ++ middle) digits
    (joined old (front ++ digits) middle
    (joined old front digits c.in_ok-marks.ensures c.in_ok-address.ensures)
    c.in_ok-marks-2.ensures)
    c.in_ok-address-2.ensures)
    c.in_ok-marks-3.ensures
