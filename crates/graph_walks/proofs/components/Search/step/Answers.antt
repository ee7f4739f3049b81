use Rattle.std.proofs.Common.{◌≡◌, ◌-◌, Some, get_or, take, length, refl, subst, sym, arith}
use Rattle.std.specs.Prelude.{slice_get}
use Rattle.std.proofs.lemmas.Option.{slice_get-get_or, slice_get_within}
use Rattle.graph_walks.proofs.SearchLemmas.{found_led, looking_at, no_more_by_look, seen_by_look, step_behind, step_by_finish, step_by_hold, step_by_pop}
use Rattle.graph_walks.proofs.ListLemmas.{in_of, ok_then}
use Rattle.graph_walks.proofs.components.Search.step.Goals as goal

pub finish-requires-clause-start : goal.finish-requires-clause-start
finish-requires-clause-start c =
    let s = c.args.self.now in
    let inside = c.requires.search.bounds.within c.args.start (in_of s.bounds.items (length s.bounds.items - 1) c.args.start c.requires.start) in
    omega (arith, inside)

pub finish-requires-clause-held : goal.finish-requires-clause-held
finish-requires-clause-held c = λ k d small.
    let s = c.args.self.now in
    slice_get_within s.marks.items _ _ (c.requires.search.placed.marked k (get_or s.held.items k d) (slice_get-get_or s.held.items k d small))

pub returns-in_default : goal.returns-in_default
returns-in_default c =
    ok_then c.finish.result c.finish.ensures
    (step_by_finish c.args.graph.now c.args.stop.now c.args.start c.args.self.now c.finish.new.self c.requires.search c.requires.start c.in_default.ensures)

pub look-requires-clause-search : goal.look-requires-clause-search
look-requires-clause-search c =
    looking_at c.args.graph.now c.args.stop.now c.args.start c.in-Some.place c.args.self.now c.requires.search c.requires.start c.in-Some.ensures

pub hold-requires : goal.hold-requires
hold-requires c = slice_get_within c.look.new.self.marks.items _ _ c.in-Some-look.ensures.leads.3

pub returns-in-Some-look : goal.returns-in-Some-look
returns-in-Some-look c =
    let graph = c.args.graph.now in
    let stop = c.args.stop.now in
    let place = c.in-Some.place in
    let v = c.in-Some-look.vertex in
    let old = c.args.self.now in
    let mid = c.look.new.self in
    let looked = c.in-Some-look.ensures in
    ok_then c.hold.result c.hold.ensures (λ holding.
    step_behind graph stop old mid c.hold.new.self (seen_by_look graph stop place old mid _ looked) (no_more_by_look graph stop place old mid _ looked)
    (step_by_hold graph stop mid c.hold.new.self v looked.looking.search looked.leads.3 holding (found_led graph stop place v mid looked.looking looked.leads)))

pub returns : goal.returns
returns c =
    let graph = c.args.graph.now in
    let stop = c.args.stop.now in
    let place = c.in-Some.place in
    let old = c.args.self.now in
    let mid = c.look.new.self in
    let looked = c.in_default-look.ensures in
    let at_end = subst (λ xs. slice_get xs (length xs - 1) ≡ Some place) (sym looked.pending) c.in-Some.ensures.1 in
    step_behind graph stop old mid _ (seen_by_look graph stop place old mid _ looked) (no_more_by_look graph stop place old mid _ looked)
    (step_by_pop graph stop place mid _ looked.looking looked.leads at_end (subst (λ n. c.pop.new.self.items ≡ take (n - 1) mid.pending.items) mid.pending.ok.0 c.pop.ensures.rest)
    refl refl refl refl)
