use Rattle.std.proofs.Common.{◌≡◌, ◌∙◌, ◌+◌, ap, sym, true, false}
use Rattle.std.proofs.Math.Path.{ap₂}
use Rattle.book_rules.specs.Machine.{with_held, risen_state}
use Rattle.round_core.specs.Raise.{held_rows, with_all}
use Rattle.round_core.proofs.AheadLemmas.{still-row}
use Rattle.round_core.proofs.Cases.{on_ok_map, match_some, match_none, if_false}
use Rattle.round_core.proofs.RaiseLemmas.{with_all-with_held, raised-new, raised-there, raised-within}
use Rattle.round_core.proofs.raise.raise_one.Goals as goal

pub returns-in-Some-2-clause-raised : goal.returns-in-Some-2-clause-raised
returns-in-Some-2-clause-raised g c =
    let m = g.C.Chip.analysis (g.C.Chip.base c.args.chip.now) in
    let ns = c.args.nodes.now.rows in
    let es = held_rows c.args.all.now.rows.items in
    let n = c.args.node.now in
    let s = c.args.posted.now in
    let held = c.in-Some.held.now in
    let f = match_some (m.within s held ≡ true) (λ r. (m.within s held ≡ false) × (r.1 ≡ c.in-Some.rises + 1) × (r.0 ≡ risen_state m n held s (c.in-Some.rises + 1)))
    c.in_ok-state-in-Some.field-0 (c.in-Some-2.state, c.in-Some-2.rises) c.in-Some-2.is c.in_ok-state-in-Some.ensures in
    on_ok_map _ _ c.put.result
    (λ e. ap (λ t. with_all ns t) e
    ∙ with_all-with_held es ns (record { node = n; state = c.in-Some-2.state; rises = c.in-Some-2.rises }) c.requires.over.distinct
    ∙ sym (raised-there m (with_all ns es) n s (record { node = n; state = held; rises = c.in-Some.rises }) c.in-Some.ensures.held
    ∙ ap (λ r. with_held (with_all ns es) r) (if_false _ _ _ f.0)
    ∙ ap₂ (λ t r. with_held (with_all ns es) (record { node = n; state = t; rises = r })) (sym f.2) (sym f.1)))
    c.put.ensures.rows

pub returns-in-None-2-clause-raised : goal.returns-in-None-2-clause-raised
returns-in-None-2-clause-raised g c =
    let m = g.C.Chip.analysis (g.C.Chip.base c.args.chip.now) in
    let n = c.args.node.now in
    let s = c.args.posted.now in
    let held = c.in-Some.held.now in
    let w = match_none (m.within s held ≡ true) (λ r. (m.within s held ≡ false) × (r.1 ≡ c.in-Some.rises + 1) × (r.0 ≡ risen_state m n held s (c.in-Some.rises + 1)))
    c.in_ok-state-in-Some.field-0 c.in-None-2.is c.in_ok-state-in-Some.ensures in
    sym (raised-within m (with_all c.args.nodes.now.rows (held_rows c.args.all.now.rows.items)) n s (record { node = n; state = held; rises = c.in-Some.rises }) c.in-Some.ensures.held w)

pub returns-in_ok-state-in-None-clause-raised : goal.returns-in_ok-state-in-None-clause-raised
returns-in_ok-state-in-None-clause-raised g c =
    let m = g.C.Chip.analysis (g.C.Chip.base c.args.chip.now) in
    let ns = c.args.nodes.now.rows in
    let es = held_rows c.args.all.now.rows.items in
    let n = c.args.node.now in
    on_ok_map _ _ c.put-in-None.result
    (λ e. ap (λ t. with_all ns t) e
    ∙ with_all-with_held es ns (record { node = n; state = c.in_ok-state-in-None.state; rises = 1 }) c.requires.over.distinct
    ∙ ap (λ t. with_held (with_all ns es) (record { node = n; state = t; rises = 1 })) c.in_ok-state-in-None.ensures
    ∙ sym (raised-new m (with_all ns es) n c.args.posted.now c.in-None.ensures.held))
    c.put-in-None.ensures.rows

pub row_of-requires-clause-looked : goal.row_of-requires-clause-looked
row_of-requires-clause-looked g c κs within =
    let m = g.C.Chip.analysis (g.C.Chip.base c.args.chip.now) in
    still-row m (with_all c.args.nodes.now.rows (held_rows c.args.all.now.rows.items)) c.args.node.now c.in-Some.held.now c.in-Some.rises c.args.posted.now c.args.looked
    c.in-Some.ensures.held c.requires.looked
