use Rattle.std.proofs.Common.{◌<◌, ◌≤◌, ap, get_or, inl, length, refl, subst, sym, ◌∙◌, arith}
use Rattle.std.specs.Prelude.{slice_get}
use Rattle.std.proofs.lemmas.Option.{slice_get-get_or}
use Rattle.graph_walks.specs.Graphs.{IsUnmarked}
use Rattle.graph_walks.specs.Searches.{IsPassed}
use Rattle.graph_walks.specs.declared.components.Mark.TheVariants.{Unseen}
use Rattle.graph_walks.specs.declared.components.Search.{Search}
use Rattle.graph_walks.proofs.SearchLemmas.{IsLookedTo, looked_all, looked_unseen, looks_first, looks_merged, looks_past, mark_read, the_step, visit_within}
use Rattle.graph_walks.proofs.ListLemmas.{read_at, value_at}
use Rattle.graph_walks.proofs.WalkLemmas.{edge_within}
use Rattle.graph_walks.proofs.components.Search.look.Goals as goal
use Rattle.graph_walks.proofs.components.Search.look.Goals.{then-not-stop-vertex+in-Held, then-not-stop-vertex+in-Done, else-not-stop-vertex}

pub offset_bounds-graph-visit : goal.offset_bounds-graph-visit
offset_bounds-graph-visit c =
    let inside : c.index-visit.result.now.vertex < length c.args.graph.now =
    visit_within c.args.graph.now c.args.stop.now c.args.place c.args.self.now c.index-visit.result.now c.requires.search
    (read_at c.args.self.now.held.items c.args.place c.index-visit.result.now c.requires.search.within c.index-visit.ensures) in
    omega (arith, inside)

pub bounds-graph-visit : goal.bounds-graph-visit
bounds-graph-visit c =
    visit_within c.args.graph.now c.args.stop.now c.args.place c.args.self.now c.index-visit.result.now c.requires.search
    (read_at c.args.self.now.held.items c.args.place c.index-visit.result.now c.requires.search.within c.index-visit.ensures)

pub loop-next-init : goal.loop-next-init
loop-next-init c =
    looks_first c.args.graph.now c.args.stop.now c.args.place c.index-visit.result.now c.args.self.now c.requires.search
    (read_at c.args.self.now.held.items c.args.place c.index-visit.result.now c.requires.search.within c.index-visit.ensures)

pub bounds-stop-vertex : goal.bounds-stop-vertex
bounds-stop-vertex c =
    let graph = c.args.graph.now in
    let visit = c.index-visit.result.now in
    let inside = visit_within graph c.args.stop.now c.args.place c.args.self.now visit c.requires.search
    (read_at c.args.self.now.held.items c.args.place visit c.requires.search.within c.index-visit.ensures) in
    let row = c.index-graph-visit.result in
    subst (λ n. get_or c.as_slice-row.result.now c.loop-next.next 0 < n) (sym c.requires.stop)
    (edge_within graph visit.vertex row c.requires.graph (read_at graph visit.vertex row inside c.index-graph-visit.is) c.as_slice-row.result.now c.as_slice-row.ensures.value
    c.loop-next.next 0 c.loop-next-test.true)

pub index-requires : goal.index-requires
index-requires c =
    let graph = c.args.graph.now in
    let visit = c.index-visit.result.now in
    let inside = visit_within graph c.args.stop.now c.args.place c.args.self.now visit c.requires.search
    (read_at c.args.self.now.held.items c.args.place visit c.requires.search.within c.index-visit.ensures) in
    let row = c.index-graph-visit.result in
    subst (λ n. get_or c.as_slice-row.result.now c.loop-next.next 0 < n) (sym (c.loop-next.self.marks.ok.0 ∙ c.loop-next.invariant.looking.search.placed.sized))
    (edge_within graph visit.vertex row c.requires.graph (read_at graph visit.vertex row inside c.index-graph-visit.is) c.as_slice-row.result.now c.as_slice-row.ensures.value
    c.loop-next.next 0 c.loop-next-test.true)

pub returns-in-Unseen : goal.returns-in-Unseen
returns-in-Unseen c =
    let graph = c.args.graph.now in
    let stop = c.args.stop.now in
    let place = c.args.place in
    let visit = c.index-visit.result.now in
    let next = c.loop-next.next in
    let row = c.index-graph-visit.result in
    let xs = c.as_slice-row.result.now in
    let v = get_or xs next 0 in
    let s = c.loop-next.self in
    let is_row = read_at graph visit.vertex row (visit_within graph stop place c.args.self.now visit c.requires.search
    (read_at c.args.self.now.held.items place visit c.requires.search.within c.index-visit.ensures)) c.index-graph-visit.is in
    let inside = edge_within graph visit.vertex row c.requires.graph is_row xs c.as_slice-row.ensures.value next 0 c.loop-next-test.true in
    let is_next = sym (ap (λ ys. slice_get ys next) c.as_slice-row.ensures.value) ∙ slice_get-get_or xs next 0 c.loop-next-test.true in
    let free = value_at stop v _ _ (subst (λ n. v < n) (sym c.requires.stop) inside) c.if-not-stop-vertex.true in
    let step = the_step graph stop place visit next v row c.args.self.now s s c.loop-next.invariant is_row is_next free in
    looked_unseen graph stop place visit next v c.args.self.now s c.loop-next.invariant step
    (mark_read graph stop place visit next v c.index.result.now Unseen c.args.self.now s c.loop-next.invariant inside c.index.ensures c.in-Unseen.is)

pub loop-next-preserved : goal.loop-next-preserved
loop-next-preserved c =
    let graph = c.args.graph.now in
    let stop = c.args.stop.now in
    let place = c.args.place in
    let old = c.args.self.now in
    let visit = c.index-visit.result.now in
    let next = c.loop-next.next in
    let row = c.index-graph-visit.result in
    let xs = c.as_slice-row.result.now in
    let v = get_or xs next 0 in
    let s = c.loop-next.self in
    let is_row = read_at graph visit.vertex row (visit_within graph stop place old visit c.requires.search
    (read_at old.held.items place visit c.requires.search.within c.index-visit.ensures)) c.index-graph-visit.is in
    let inside = edge_within graph visit.vertex row c.requires.graph is_row xs c.as_slice-row.ensures.value next 0 c.loop-next-test.true in
    let within_stop = subst (λ n. v < n) (sym c.requires.stop) inside in
    let is_next = sym (ap (λ ys. slice_get ys next) c.as_slice-row.ensures.value) ∙ slice_get-get_or xs next 0 c.loop-next-test.true in
    let Known = λ (t : Search). IsLookedTo graph stop place visit next old t × (IsUnmarked stop v → IsPassed t place v) in
    let mid = c.if-not-stop-vertex.self in
    let known : Known mid = elim c.if-not-stop-vertex.branch [
      | then-not-stop-vertex+in-Held w ↦
          let step = the_step graph stop place visit next v row old s s c.loop-next.invariant is_row is_next (value_at stop v _ _ within_stop w.if-not-stop-vertex.true) in
          let marked = mark_read graph stop place visit next v w.index.result.now _ old s c.loop-next.invariant inside w.index.ensures w.in-Held.is in
          let both = looks_merged graph stop place visit next v w.in-Held.before old s _ c.loop-next.invariant step marked refl refl w.merge.ensures refl refl in
          subst Known (sym w.self-is) (both.0, λ free. both.1)
      | then-not-stop-vertex+in-Done w ↦
          let done = mark_read graph stop place visit next v w.index.result.now _ old s c.loop-next.invariant inside w.index.ensures w.in-Done.is in
          subst Known (sym w.self-is) (c.loop-next.invariant, λ free. inl (_, done))
      | else-not-stop-vertex w ↦
          let stops = value_at stop v _ _ within_stop w.if-not-stop-vertex.false in
          subst Known (sym w.self-is) (c.loop-next.invariant, λ free. absurd (cc))
    ] in
    looks_past graph stop place visit next v row old mid _ known.0 is_row is_next refl refl refl refl refl known.1

pub returns : goal.returns
returns c =
    let graph = c.args.graph.now in
    let visit = c.index-visit.result.now in
    let inside = visit_within graph c.args.stop.now c.args.place c.args.self.now visit c.requires.search
    (read_at c.args.self.now.held.items c.args.place visit c.requires.search.within c.index-visit.ensures) in
    let row = c.index-graph-visit.result in
    looked_all graph c.args.stop.now c.args.place visit c.loop-next.next row c.args.self.now c.loop-next.self (read_at graph visit.vertex row inside c.index-graph-visit.is)
    (subst (λ xs. length xs ≤ c.loop-next.next) c.as_slice-row.ensures.value c.loop-next-test.false) c.loop-next.invariant
