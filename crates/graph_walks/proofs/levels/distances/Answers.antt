use Rattle.std.proofs.Common.{◌<◌, ◌+◌, ap, get_or, length, refl, subst, sym, ◌∙◌, arith}
use Rattle.std.proofs.lemmas.List.Elements.{Contains-get_or}
use Rattle.std.proofs.lemmas.Option.{slice_get_within}
use Rattle.graph_walks.specs.Levels.{IsLedFrom, IsSpread}
use Rattle.graph_walks.specs.declared.levels.Level.{Level}
use Rattle.graph_walks.proofs.LevelLemmas.{last_level, next_level}
use Rattle.graph_walks.proofs.ListLemmas.{none_left, some_left}
use Rattle.graph_walks.proofs.levels.distances.Goals as goal

pub go_on-requires-clause-front : goal.go_on-requires-clause-front
go_on-requires-clause-front c = λ k d small.
    let level = c.loop-alloc.level in
    let same = c.deref.ensures.value ∙ ap (λ v. v.items) c.replace-front.ensures.value in
    let inside : k < length level.front.items = omega (arith, ap length same, small) in
    let at = c.loop-alloc.invariant.at_distance _ (Contains-get_or level.front.items k d inside) in
    subst (λ n. get_or c.deref.result.now k d < n) c.loop-alloc.invariant.sized
    (subst (λ xs. get_or xs k d < length level.distances.items) (sym same) (slice_get_within level.distances.items _ _ at))

pub loop-alloc-preserved : goal.loop-alloc-preserved
loop-alloc-preserved c =
    let graph = c.args.graph.now in
    let stop = c.args.stop.now in
    let level = c.loop-alloc.level in
    let distance = c.loop-alloc.distance in
    let cleared : Level = record { distances = level.distances; front = c.replace-front.new.dest } in
    let same = c.deref.ensures.value ∙ ap (λ v. v.items) c.replace-front.ensures.value in
    let spread = subst (λ xs. IsSpread (IsLedFrom graph stop xs) (distance + 1) cleared c.go_on.new.self) same c.in_ok-go_on.ensures in
    next_level graph c.args.from.now stop distance level cleared c.go_on.new.self c.loop-alloc.invariant refl
    (ap (λ v. v.items) c.replace-front.ensures.after ∙ c.new.ensures.items) (some_left level.front.items level.front.len _ level.front.ok.0 c.is_empty.ensures c.loop-alloc-test.true) spread

pub returns : goal.returns
returns c =
    last_level c.args.graph.now c.args.from.now c.args.stop.now c.loop-alloc.distance c.loop-alloc.level c.loop-alloc.invariant
    (none_left c.loop-alloc.level.front.items c.loop-alloc.level.front.len _ c.loop-alloc.level.front.ok.0 c.is_empty.ensures c.loop-alloc-test.false)
