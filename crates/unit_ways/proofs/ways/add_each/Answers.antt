use Rattle.std.proofs.Common.{◌≡◌, ℕ, List, ◌++◌, ◌∷◌, ◌+◌, ◌<◌, ◌∙◌, [], length, take, map, get_or, ap, subst, arith}
use Rattle.unit_ways.specs.Targets.{targets_of}
use Rattle.unit_ways.specs.Ways.{Way, each_way, edge_of, post_of}
use Rattle.unit_ways.proofs.WayLists.{added_last, added_one, on_ok}
use Rattle.unit_ways.proofs.ways.add_each.Goals as goal

pub loop-place-preserved : goal.loop-place-preserved
loop-place-preserved g c =
    let Known = g.row.S-Known.Denot in
    let edge = edge_of {A = Known} (g.S.Site.address c.args.site.now) in
    let post = post_of {A = Known} (g.S.Site.label c.args.site.now) (g.S.Site.frame_of c.args.site.now) in
    let all = targets_of c.args.targets.now in
    let place = c.loop-place.place in
    let known = c.args.known in
    let below : place < length all = omega (arith, c.loop-place-test.true, c.last_place-last.ensures.targets) in
    let is : ◌≡◌ {A = Way Known} (c.target.result, c.in_ok-copy.copy) (get_or all place 0, known) =
    ap (λ n. let way : Way Known = (n, c.in_ok-copy.copy) in way) c.target.ensures ∙ ap (λ (a : Known). let way : Way Known = (get_or all place 0, a) in way) c.in_ok-copy.ensures in (
      added_one edge known all place c.args.ways.now.items c.loop-place.ways.items c.add.new.ways.items below c.loop-place.invariant.0
          (c.in_ok-add.ensures.items ∙ ap (λ (way : Way Known). c.loop-place.ways.items ++ edge way ∷ []) is),
      added_one post known all place c.args.ways.now.posts c.loop-place.ways.posts c.add.new.ways.posts below c.loop-place.invariant.1
          (c.in_ok-add.ensures.posts ∙ ap (λ (way : Way Known). c.loop-place.ways.posts ++ post way ∷ []) is),
      c.in_ok-add.ensures.opens ∙ c.loop-place.invariant.2,
    )

-- behind the last one all are there
pub returns-clause-items : goal.returns-clause-items
returns-clause-items g c =
    let edge = edge_of {A = g.row.S-Known.Denot} (g.S.Site.address c.args.site.now) in
    let all = targets_of c.args.targets.now in
    let known = c.args.known in
    let last = c.last_place-last.result in
    let at : c.loop-place.place ≡ last = omega (arith, c.loop-place-test.false, c.loop-place.auto.place-end) in
    on_ok c.add-2.result (λ added. added_last edge known all last c.args.ways.now.items c.loop-place.ways.items c.add-2.new.ways.items c.last_place-last.ensures.targets
    (subst (λ n. c.loop-place.ways.items ≡ c.args.ways.now.items ++ map edge (each_way (take n all) known)) at c.loop-place.invariant.0)
    (added ∙ ap (λ n. c.loop-place.ways.items ++ edge (n, known) ∷ []) c.target-2.ensures)) c.add-2.ensures.items

pub returns-clause-posts : goal.returns-clause-posts
returns-clause-posts g c =
    let post = post_of {A = g.row.S-Known.Denot} (g.S.Site.label c.args.site.now) (g.S.Site.frame_of c.args.site.now) in
    let all = targets_of c.args.targets.now in
    let known = c.args.known in
    let last = c.last_place-last.result in
    let at : c.loop-place.place ≡ last = omega (arith, c.loop-place-test.false, c.loop-place.auto.place-end) in
    on_ok c.add-2.result (λ added. added_last post known all last c.args.ways.now.posts c.loop-place.ways.posts c.add-2.new.ways.posts c.last_place-last.ensures.targets
    (subst (λ n. c.loop-place.ways.posts ≡ c.args.ways.now.posts ++ map post (each_way (take n all) known)) at c.loop-place.invariant.1)
    (added ∙ ap (λ n. c.loop-place.ways.posts ++ post (n, known) ∷ []) c.target-2.ensures)) c.add-2.ensures.posts
