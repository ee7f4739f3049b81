-- The table of a closed book is closed.
use Rattle.std.specs.Prelude.{◌≡◌, true, false, Option, None, Some, List, Contains, unwrap_or}
use Rattle.std.specs.List.{list_any}
use Rattle.std.specs.Option.{option_map}
use Rattle.std.proofs.Common.{sym, ◌∙◌, ap, subst}
use Rattle.std.proofs.lemmas.Option.{same_Some}
use Rattle.call_context.specs.declared.node.Node.{Node}
use Rattle.call_context.specs.declared.node.Node.TheVariants.{At, Exit}
use Rattle.call_context.specs.declared.node.Unit.{Unit as WorkUnit}
use Rattle.call_context.specs.declared.node.Unit.TheVariants.{One, Back}
use Rattle.book_rules.specs.Sound.{IsInForm, IsSound, IsSteady}
use Rattle.book_rules.specs.Same.{same_frame}
use Rattle.book_rules.proofs.HeldLaws.{option_map-some}
use Rattle.book_rules.proofs.EntryLaws.{each_of, inputs_of-found}
use Rattle.book_rules.proofs.WorkLaws.{finished-done, finished-under}
use Rattle.chip_analysis.specs.Analysis.{Analysis}
use Rattle.chip_analysis.specs.Table.{IsUnitOver, IsHeldIn, IsClosedTable, IsFormedTable}
use Rattle.book_rules.specs.Table.{table_of, IsUnder}
use Rattle.book_rules.proofs.FormLaws.{held_at-form}
use Rattle.book_rules.proofs.WaitLaws.{waits_found, any_waits}
use Rattle.book_rules.specs.Machine.{BookState, Held, Done, held_at, done_at, inputs_of, waits_for, IsUnit, IsFinished, IsClosed}

-- the states that a table has are those of the nodes
pub at-held : {A : Type 0} (nodes : List (Held A)) (node : Node) (at : A) → table_of nodes node ≡ Some at
    → (h : Held A) × (held_at nodes node ≡ Some h) × (h.state ≡ at)
at-held nodes node at e = option_map-some (λ h. h.state) (held_at nodes node) at e

-- what is under its node is in the table
held-in : {A : Type 0} (m : Analysis A) (nodes : List (Held A)) (post : Node × A) → IsUnder m nodes post
    → IsHeldIn m (table_of nodes) post.0 post.1
held-in m nodes post u = ((u.0).state, ap (λ o. option_map (λ h. h.state) o) u.1, u.2)

-- the last work of a location waits as its work over the table's state does
waits-present : {A : Type 0} (m : Analysis A) (b : BookState A) → IsFinished b → IsSteady m b → (node : Node) (h : Held A)
    → IsUnit b (One node) → held_at b.nodes node ≡ Some h
    → (d : Done A) × (done_at b.done (One node) ≡ Some d) × (d.work ≡ m.work (One node) h.state None)
waits-present m b f s node h u e =
    let r = finished-done m b (One node) f s u in
    let w = r.2 in
    let i : (h.state, None) ≡ w.0 = same_Some _ _ (sym (ap (λ o. option_map (λ k. (k.state, None)) o) e) ∙ w.1) in
    (r.0, r.1, w.2 ∙ ap (λ x. m.work (One node) x.0 x.1) (sym i))

-- a unit of the table is one of the book, with these inputs
unit-of_table : {A : Type 0} (m : Analysis A) (b : BookState A) → IsFinished b → IsSteady m b → (unit : WorkUnit) (at : A) (exit : Option A)
    → IsUnitOver m (table_of b.nodes) unit at exit → IsUnit b unit × (inputs_of b.nodes unit ≡ Some (at, exit))
unit-of_table m b f s (One (At pc calls frame)) at None o =
    let h = at-held b.nodes (At pc calls frame) at o in
    ((h.0, h.1), ap (λ x. option_map (λ k. (k.state, None)) x) h.1 ∙ ap (λ x. Some (x, None)) h.2)
unit-of_table m b f s (One (At pc calls frame)) at (Some exit) o = absurd o
unit-of_table m b f s (One (Exit pc frame)) at exit o = absurd o
unit-of_table m b f s (Back (At pc calls frame) (Exit from left)) at (Some exit) o =
    let h = at-held b.nodes (At pc calls frame) at o.0 in
    let x = at-held b.nodes (Exit from left) exit o.1 in
    let d = waits-present m b f s (At pc calls frame) h.0 (h.0, h.1) h.1 in
    let waits : waits_for b.done (At pc calls frame) left ≡ true =
    ap (λ w. unwrap_or (option_map (λ k. list_any (same_frame left) k.work.waits) w) false) d.1
    ∙ ap (λ w. list_any (same_frame left) w.waits) d.2
    ∙ ap (λ a. list_any (same_frame left) (m.work (One (At pc calls frame)) a None).waits) h.2
    ∙ waits_found (m.work (One (At pc calls frame)) at None).waits left o.2 in (
      (h.0, x.0, h.1, x.1, waits),
      inputs_of-found b.nodes (At pc calls frame) (Exit from left) h.0 x.0 h.1 x.1 ∙ ap (λ a. Some (a, Some (x.0).state)) h.2 ∙ ap (λ e. Some (at, Some e)) x.2,
    )
unit-of_table m b f s (Back (At pc calls frame) (Exit from left)) at None o = absurd o
unit-of_table m b f s (Back (At pc calls frame) (At from calls' frame')) at exit o = absurd o
unit-of_table m b f s (Back (Exit pc frame) node) at exit o = absurd o

-- the work over the table's states is the unit's last one
work-present : {A : Type 0} (m : Analysis A) (b : BookState A) → IsFinished b → IsSteady m b → (unit : WorkUnit) (at : A) (exit : Option A)
    → IsUnit b unit → inputs_of b.nodes unit ≡ Some (at, exit)
    → (d : Done A) × (done_at b.done unit ≡ Some d) × (d.work ≡ m.work unit at exit)
work-present m b f s unit at exit u e =
    let r = finished-done m b unit f s u in
    let w = r.2 in
    let i = same_Some _ _ (sym w.1 ∙ e) in
    (r.0, r.1, w.2 ∙ ap (λ x. m.work unit x.0 x.1) i)

pub closed-table : {A : Type 0} (m : Analysis A) (b : BookState A) → IsClosed b → IsSound m b → IsClosedTable m (table_of b.nodes)
closed-table m b c is = let s = is.steady in let v = is.served in record {
  started = held-in m b.nodes (m.first_node, m.first_state) v.start;
  no_open = λ unit at exit o. let u = unit-of_table m b c.finished s unit at exit o in
      let d = work-present m b c.finished s unit at exit u.0 u.1 in
      ap (λ w. w.opens) (sym d.2) ∙ c.no_open unit d.0 u.0 d.1;
  posts_held = λ unit at exit node state o h. let u = unit-of_table m b c.finished s unit at exit o in
      let d = work-present m b c.finished s unit at exit u.0 u.1 in
      held-in m b.nodes (node, state) (each_of (IsUnder m b.nodes) (d.0).work.posts (node, state)
      (finished-under m b unit d.0 v d.1) (subst (λ w. Contains w.posts (node, state)) (sym d.2) h));
}

pub formed-table : {A : Type 0} (m : Analysis A) (b : BookState A) → IsInForm m b → IsFormedTable m (table_of b.nodes)
formed-table m b formed = λ node state e. let h = at-held b.nodes node state e in
    subst (m.HasForm node) h.2 (held_at-form m b.nodes node h.0 formed.nodes h.1)

-- A unit of the table is one of the finished book, whose last work is the work over the table's states,
pub table-unit : {A : Type 0} (m : Analysis A) (b : BookState A) → IsFinished b → IsSteady m b
    → (unit : WorkUnit) (at : A) (exit : Option A)
    → IsUnitOver m (table_of b.nodes) unit at exit
    → IsUnit b unit × ((d : Done A) × (done_at b.done unit ≡ Some d) × (d.work ≡ m.work unit at exit))
table-unit m b f s unit at exit o =
    let u = unit-of_table m b f s unit at exit o in (u.0, work-present m b f s unit at exit u.0 u.1)

-- and a unit of the finished book is one of the table.
pub book-unit : {A : Type 0} (m : Analysis A) (b : BookState A) → IsFinished b → IsSteady m b → (unit : WorkUnit) → IsUnit b unit
    → (at : A) × (exit : Option A) × IsUnitOver m (table_of b.nodes) unit at exit
book-unit m b f s (One (At pc calls frame)) u = ((u.0).state, None, ap (λ o. option_map (λ h. h.state) o) u.1)
book-unit m b f s (One (Exit pc frame)) u = absurd u
book-unit m b f s (Back (At pc calls frame) (Exit from left)) u =
    let d = waits-present m b f s (At pc calls frame) u.0 (u.0, u.2) u.2 in (
      (u.0).state,
      Some (u.1).state,
      (
        ap (λ o. option_map (λ h. h.state) o) u.2,
        ap (λ o. option_map (λ h. h.state) o) u.3,
        any_waits (m.work (One (At pc calls frame)) (u.0).state None).waits left
            (ap (λ w. list_any (same_frame left) w.waits) (sym d.2)
            ∙ sym (ap (λ w. unwrap_or (option_map (λ k. list_any (same_frame left) k.work.waits) w) false) d.1) ∙ u.4),
      ),
    )
book-unit m b f s (Back (At pc calls frame) (At from calls' frame')) u = absurd u
book-unit m b f s (Back (Exit pc frame) exit) u = absurd u
