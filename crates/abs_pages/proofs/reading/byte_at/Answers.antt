use Rattle.std.proofs.Common.{◌≡◌, ◌∙◌, ◌-◌, Some, ap, sym, refl, rules}
use Rattle.abs_pages.specs.Paging.{begun_at, flat, high_of}
use Rattle.abs_pages.proofs.Begun.{byte_is, byte_of}
use Rattle.abs_pages.proofs.reading.byte_at.Goals as goal

pub returns-in-Some : goal.returns-in-Some
returns-in-Some c =
    let cells = flat c.args.pages.now in
    let byte : byte_of c.begun_at.result (begun_at cells (c.args.at - 1)) ≡ Some c.low.result = rw (c.in-Some.is, c.low.ensures.value) refl in
    byte_is c.requires.lo c.requires.hi c.requires.lo cells c.args.at c.begun_at.result _ c.requires.are c.begun_at.ensures byte

pub returns-in-None : goal.returns-in-None
returns-in-None c =
    let cells = flat c.args.pages.now in
    let front : c.saturating_sub.result ≡ c.args.at - 1 = search rules in
    let high : c.high_byte.result ≡ high_of (begun_at cells (c.args.at - 1)) = c.high_byte.ensures ∙ ap (λ at. high_of (begun_at cells at)) front in
    let byte : byte_of c.begun_at.result (begun_at cells (c.args.at - 1)) ≡ c.high_byte.result = rw c.in-None.is (sym high) in
    byte_is c.requires.lo c.requires.hi c.requires.lo cells c.args.at c.begun_at.result _ c.requires.are c.begun_at.ensures byte
