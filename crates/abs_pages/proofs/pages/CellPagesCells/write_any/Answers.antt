use Rattle.std.proofs.Common.{◌≡◌, ◌∙◌, sym, subst}
use Rattle.std.proofs.lemmas.Result.{on_ok_weaker}
use Rattle.entry_value.specs.Cells.{StandsUnder, write_several, written}
use Rattle.entry_value.specs.Representing.{IsScattered, is_scattered}
use Rattle.abs_pages.specs.Paging.{flat}
use Rattle.abs_pages.proofs.Seen.{map_of, seen}
use Rattle.abs_pages.proofs.pages.CellPagesCells.write_any.Goals as goal
use Rattle.abs_pages.proofs.pages.CellPagesCells.write_any.Goals.{After-drop-self-inside}

-- the cells that are left, as callers see them
scattered : (c : After-drop-self-inside) → let held = c.self.inside in IsScattered (map_of held.lo held.hi held.pages.items) c.args.self.now
    c.args.at.now c.args.size c.args.value (flat c.in_ok-self-inside.field-0.items)
unfolding write_several
scattered c = is_scattered c.cell_laws.ensures _ _ _ _ _ _ (seen c.self.invariant c.self.view_is) c.form.ensures.normal
    (record { sized = c.requires.size; normal = c.form-2.ensures.normal; byte = c.requires.byte }) (λ one. c.if-count-eq1.false (c.count.ensures.value ∙ one))
    (rw c.deref.ensures.value at c.in_ok-self-inside.ensures.value)

pub invariant_of-self : goal.invariant_of-self
invariant_of-self c =
    record { some = c.self.invariant.some; high = c.self.invariant.high; form = c.in_ok-self-inside.ensures.pages; are = (scattered c).are }

pub returns : goal.returns
returns c = let all = scattered c in record { value = all.value; kept = tt; covers = all.covers }

pub returns-then-count-eq1-clause-covers : goal.returns-then-count-eq1-clause-covers
returns-then-count-eq1-clause-covers c = on_ok_weaker c.write_one.result (λ covers first ram address v under is_one holds.
    let place : c.nth.result ≡ address = c.nth.ensures ∙ c.cell_laws.ensures.store_only c.args.at.now address (sym c.count.ensures.value ∙ c.if-count-eq1.true) is_one in
    subst (λ at. StandsUnder first c.write_one.new.self.cells (written ram at c.args.size v)) place (covers first ram v under holds)) c.write_one.ensures.covers
