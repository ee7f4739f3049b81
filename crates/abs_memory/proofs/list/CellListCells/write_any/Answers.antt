use Rattle.std.proofs.Common.{◌≡◌, ◌∙◌, sym, subst, ap}
use Rattle.std.proofs.lemmas.Result.{on_ok_weaker}
use Rattle.entry_value.specs.Cells.{StandsUnder, write_one, write_several, written}
use Rattle.entry_value.specs.Representing.{IsScattered, is_scattered}
use Rattle.abs_memory.proofs.Lists.{list_ends}
use Rattle.abs_memory.proofs.Seen.{map_of, seen}
use Rattle.abs_memory.proofs.list.CellListCells.write_any.Goals as goal
use Rattle.abs_memory.proofs.list.CellListCells.write_any.Goals.{After-write_several}

pub write_several-requires : goal.write_several-requires
write_several-requires c = list_ends c.self.inside.lo c.self.inside.hi c.self.inside.lo c.self.inside.cells.items c.self.invariant.high c.self.invariant.are

-- the cells that are left, as callers see them
scattered : (c : After-write_several) → let held = c.self.inside in
    IsScattered (map_of held.lo held.hi held.cells.items) c.args.self.now c.args.at.now c.args.size c.args.value c.write_several.new.cells.items
unfolding write_several
scattered c = is_scattered c.cell_laws.ensures _ _ _ _ _ _ (seen c.self.invariant c.self.view_is) c.form.ensures.normal
    (record { sized = c.requires.size; normal = c.form-2.ensures.normal; byte = c.requires.byte }) (λ one. c.if-count-eq1.false (c.count.ensures.value ∙ one))
    c.write_several.ensures

pub invariant_of-self : goal.invariant_of-self
invariant_of-self c = record { some = c.self.invariant.some; high = c.self.invariant.high; are = (scattered c).are }

pub returns : goal.returns
returns c = let all = scattered c in record { value = all.value; kept = tt; covers = all.covers }

pub returns-then-count-eq1-clause-value : goal.returns-then-count-eq1-clause-value
returns-then-count-eq1-clause-value c = on_ok_weaker c.write_one.result (λ value.
    value ∙ ap (λ place. write_one c.args.self.now place c.args.size c.args.value) c.nth.ensures
    ∙ sym (c.cell_laws.ensures.store_one c.args.self.now c.args.at.now c.args.size c.args.value (sym c.count.ensures.value ∙ c.if-count-eq1.true))) c.write_one.ensures.value

pub returns-then-count-eq1-clause-covers : goal.returns-then-count-eq1-clause-covers
returns-then-count-eq1-clause-covers c = on_ok_weaker c.write_one.result (λ covers first ram address v under is_one holds.
    let place : c.nth.result ≡ address = c.nth.ensures ∙ c.cell_laws.ensures.store_only c.args.at.now address (sym c.count.ensures.value ∙ c.if-count-eq1.true) is_one in
    subst (λ at. StandsUnder first c.write_one.new.self.cells (written ram at c.args.size v)) place (covers first ram v under holds)) c.write_one.ensures.covers
