use Rattle.std.proofs.Common.{◌≡◌, ◌∙◌, sym, false, arith}
use Rattle.std.proofs.lemmas.Result.{on_ok_weaker}
use Rattle.entry_value.specs.declared.cells.Cell.{Cell}
use Rattle.abs_pages.specs.Paging.{flat, is_met_beside}
use Rattle.abs_pages.proofs.Edges.{inner_written}
use Rattle.abs_pages.proofs.writing.write_one.Goals as goal

pub returns-then-not-is_met_beside-clause-value : goal.returns-then-not-is_met_beside-clause-value
returns-then-not-is_met_beside-clause-value c =
    let cell : Cell = record { place = c.args.at; size = c.args.size; word = c.args.word } in
    let inner : is_met_beside (flat c.args.pages.now.items) c.args.at c.args.size ≡ false =
    sym (rw c.deref.ensures.value at c.is_met_beside.ensures) ∙ c.if-not-is_met_beside.true in
    on_ok_weaker c.write_in.result
    (λ value. inner_written c.args.bounds.0 c.args.bounds.1 c.args.bounds.0 cell (flat c.args.pages.now.items) (flat c.write_in.new.pages.items) (omega arith) inner c.requires.are value)
    c.write_in.ensures.value
