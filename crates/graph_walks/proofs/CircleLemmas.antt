-- Circles, components and the nearest way back.
use Rattle.std.proofs.Common.{◌≡◌, ℕ, ◌+◌, ◌<◌, ◌≤◌, Bool, true, false, Option, None, Some, List, [], ◌∷◌, ◌++◌, length, refl, replicate, set, take, take_all, ap, sym, ◌∙◌, subst, inl, inr, arith, length-append}
use Rattle.std.specs.Prelude.{◌↔◌, Contains, Vec, slice_get}
use Rattle.std.specs.declared.alloc.Global.{Global}
use Rattle.std.proofs.lemmas.Bool.{cases_eq, cases_lt}
use Rattle.std.proofs.lemmas.List.{append_assoc, length-replicate}
use Rattle.std.proofs.lemmas.Option.{slice_get_within}
use Rattle.plain_lemmas.specs.Cases.{same_Some}
use Rattle.graph_walks.specs.Circles.{ComesFirst, HasCircle, HasNoCircle, IsCircle, IsFirstCircle, IsShortest, IsShortestOf}
use Rattle.graph_walks.specs.Components.{AreAllComponents, AreComponents, IsDone}
use Rattle.graph_walks.specs.Graphs.{Enters, GoesOn, HasEdge, IsGraph, IsMarked, IsUnmarked, Leads}
use Rattle.graph_walks.specs.Reached.{AreDistances, IsDistance, IsReached}
use Rattle.graph_walks.specs.Turned.{IsTurned}
use Rattle.graph_walks.specs.Ways.{AreDistancesTo, HasWayTo, IsClosing, IsDistanceTo, IsFirstClosing, IsNearer, IsNearest, IsUpTo, IsWay, LeadsInto}
use Rattle.graph_walks.specs.declared.circles.Way.{Way}
use Rattle.graph_walks.specs.declared.components.Components.{Components}
use Rattle.graph_walks.specs.declared.components.Mark.{Mark}
use Rattle.graph_walks.specs.declared.components.Mark.TheVariants.{Done}
use Rattle.graph_walks.proofs.ListLemmas.{from_replicate, from_set, get_replicate, get_set, in_before, in_last, in_more, one_at, some_at}
use Rattle.graph_walks.proofs.WalkLemmas.{one_more}

-- WITHIN A COMPONENT

-- an edge of a vertex into its component is on a circle
pub closing_is_circle : (graph : List (Vec ℕ Global)) (stop : List Bool) (marks : List Mark) (order : List ℕ) (v : ℕ) → AreComponents graph stop marks order
    → IsClosing graph stop marks v → HasCircle graph stop v
closing_is_circle graph stop marks order v are closing =
    let (walk, leads) = are.one closing.next v closing.component closing.also closing.is in
    (closing.next ∷ walk, (closing.step, leads))

-- components fall along a walk
falls : (graph : List (Vec ℕ Global)) (stop : List Bool) (marks : List Mark) (order : List ℕ) → AreComponents graph stop marks order → (a b c : ℕ) (walk : List ℕ)
    → IsDone marks c a → Leads (Enters graph stop) a walk b → (d : ℕ) × IsDone marks d b × (d ≤ c)
falls graph stop marks order are a b c [] done leads = (c, subst (IsDone marks c) leads done, omega arith)
falls graph stop marks order are a b c (next ∷ behind) done leads =
    let (d, there, low) = are.back a next c done leads.0 in
    let (e, end, lower) = falls graph stop marks order are next b d behind there leads.1 in
    (e, end, omega (arith, low, lower))

pub circle_is_closing : (graph : List (Vec ℕ Global)) (stop : List Bool) (found : Components) (v : ℕ) → AreAllComponents graph stop found → HasCircle graph stop v
    → IsClosing graph stop found.marks.items v
circle_is_closing graph stop found v all ([], none) = absurd none
circle_is_closing graph stop found v all (next ∷ behind, circle) =
    let marks = found.marks.items in
    let (row, at, h) = circle.0.0 in
    let (c, done) = all.all v (slice_get_within graph v row at) in
    let (d, there, low) = all.components.back v next c done circle.0 in
    let (e, end, lower) = falls graph stop marks found.order.items all.components next v d behind there circle.1 in
    let same = one_at marks v (Done e) (Done c) end done in
    let equal : e ≡ c = cc in
    let one : d ≡ c = omega (arith, equal, low, lower) in
    record { component = c; is = done; next = next; step = circle.0; also = subst (λ k. IsDone marks k next) one there }

-- SOME OF A ROW

-- THE LEAST VERTEX

pub closing_at : (graph : List (Vec ℕ Global)) (stop : List Bool) (marks : List Mark) (v component : ℕ) (row : Vec ℕ Global) → slice_get graph v ≡ Some row
    → IsDone marks component v → (w : ℕ) → LeadsInto stop marks component row.items w → IsClosing graph stop marks v
closing_at graph stop marks v component row at done w (h, free, also) =
    record { component = component; is = done; next = w; step = ((row, at, h), free); also = also }

pub not_closing : (graph : List (Vec ℕ Global)) (stop : List Bool) (marks : List Mark) (v component : ℕ) (row : Vec ℕ Global) → slice_get graph v ≡ Some row
    → IsDone marks component v → ((w : ℕ) → LeadsInto stop marks component row.items w → ⊥) → IsClosing graph stop marks v → ⊥
not_closing graph stop marks v component row at done none closing =
    let (other, there, h) = closing.step.0 in
    let same = one_at marks v (Done closing.component) (Done component) closing.is done in
    let equal : closing.component ≡ component = cc in
    none closing.next (
      subst (λ (r : Vec ℕ Global). Contains r.items closing.next) (one_at graph v other row there at) h,
      closing.step.1,
      subst (λ k. IsDone marks k closing.next) equal closing.also,
    )

pub closing_more : (graph : List (Vec ℕ Global)) (stop : List Bool) (marks : List Mark) (n : ℕ) → (IsClosing graph stop marks n → ⊥)
    → ((w : ℕ) → w < n → IsClosing graph stop marks w → ⊥) → (w : ℕ) → w < n + 1 → IsClosing graph stop marks w → ⊥
closing_more graph stop marks n not_here before w small closing = elim (cases_eq w n) [
  | inl same ↦ not_here (subst (IsClosing graph stop marks) same closing)
  | inr other ↦ before w (omega (arith, small, other)) closing
]

pub closing_within : (graph : List (Vec ℕ Global)) (stop : List Bool) (marks : List Mark) (w : ℕ) → IsClosing graph stop marks w → w < length graph
closing_within graph stop marks w closing = let (row, at, h) = closing.step.0 in slice_get_within graph w row at

pub least_closing : (graph : List (Vec ℕ Global)) (stop : List Bool) (marks : List Mark) (n : ℕ) → ((w : ℕ) → w < n → IsClosing graph stop marks w → ⊥)
    → (w : ℕ) → IsClosing graph stop marks w → n ≤ w
least_closing graph stop marks n before w closing = elim (cases_lt w n) [ inl low ↦ absurd (before w low closing) | inr high ↦ high ]

-- WALKS THAT ARE TURNED ROUND

pub turned_formed : (graph : List (Vec ℕ Global)) (stop : List Bool) (turned : List (Vec ℕ Global)) → IsTurned graph stop turned → IsGraph turned
turned_formed graph stop turned is_turned b a edge =
    let (row, at, h) = ((is_turned.edges a b).0 edge).0 in
    omega (arith, is_turned.sized, slice_get_within graph a row at)

module _ (graph : List (Vec ℕ Global)) (stop : List Bool) (turned : List (Vec ℕ Global)) (from nowhere : List Bool) (is_turned : IsTurned graph stop turned) (v : ℕ)
    (starts : (w : ℕ) → IsMarked from w ↔ (w ≡ v)) (free : (w : ℕ) → w < length graph → IsUnmarked nowhere w) where
  turned_within : (a b : ℕ) → HasEdge turned b a → b < length graph
  turned_within a b (row, at, h) = omega (arith, is_turned.sized, slice_get_within turned b row at)

  -- a walk of turned edges goes back
  there_and_back : (a b : ℕ) (walk : List ℕ) → Leads (GoesOn turned nowhere) a walk b
      → (back : List ℕ) × Leads (Enters graph stop) b back a × (length back ≡ length walk)
  there_and_back a b [] leads = ([], sym leads, refl)
  there_and_back a b (next ∷ behind) leads =
      let (back, to_next, long) = there_and_back next b behind leads.1 in
      (back ++ a ∷ [], one_more (Enters graph stop) b next a back to_next ((is_turned.edges next a).0 leads.0.1), omega (arith, length-append back (a ∷ []), long))

  back_and_there : (a b : ℕ) (walk : List ℕ) → Leads (Enters graph stop) b walk a
      → (back : List ℕ) × Leads (GoesOn turned nowhere) a back b × (length back ≡ length walk)
  back_and_there a b [] leads = ([], sym leads, refl)
  back_and_there a b (next ∷ behind) leads =
      let (back, to_next, long) = back_and_there a next behind leads.1 in
      let edge = (is_turned.edges b next).1 leads.0 in
      (back ++ b ∷ [], one_more (GoesOn turned nowhere) a next b back to_next (free next (turned_within b next edge), edge), omega (arith, length-append back (b ∷ []), long))

  walk_to : (w : ℕ) (walk : List ℕ) → IsReached turned from nowhere walk w → (back : List ℕ) × Leads (Enters graph stop) w back v × (length back ≡ length walk)
  walk_to w walk reached =
      let (back, leads, long) = there_and_back reached.start w walk reached.leads in
      (back, subst (Leads (Enters graph stop) w back) ((starts reached.start).0 reached.is_start) leads, long)

  reached_from : (w : ℕ) (walk : List ℕ) → Leads (Enters graph stop) w walk v → (back : List ℕ) × IsReached turned from nowhere back w × (length back ≡ length walk)
  reached_from w walk leads =
      let (back, there, long) = back_and_there v w walk leads in
      (back, record { start = v; is_start = (starts v).1 refl; leads = there }, long)

  distance_to : (w : ℕ) (known : Option ℕ) → IsDistance turned from nowhere w known → IsDistanceTo graph stop v w known
  distance_to w None none = λ walk leads. let (back, reached, long) = reached_from w walk leads in none back reached
  distance_to w (Some distance) is =
      let walk = is.0 in
      let (back, leads, long) = walk_to w walk.walk walk.reached in (
        record { walk = back; leads = leads; long = long ∙ walk.long },
        λ other to_v. let (there, reached, same) = reached_from w other to_v in omega (arith, same, is.1 there reached),
      )

  pub distances_to_it : (distances : List (Option ℕ)) → AreDistances turned from nowhere distances → AreDistancesTo graph stop v distances
  distances_to_it distances are = record {
    sized = are.sized ∙ is_turned.sized;
    exact = λ w known at. distance_to w known (are.exact w known at);
  }

-- one mark
pub one_marked : (n v : ℕ) (from : List Bool) → v < n → from ≡ set (replicate n false) v true → (w : ℕ) → IsMarked from w ↔ (w ≡ v)
one_marked n v from small is w =
    let inside : v < length (replicate n false) = omega (arith, length-replicate n false, small) in (
      λ marked. elim (from_set (replicate n false) v w true true inside (sym (ap (λ xs. slice_get xs w) is) ∙ marked)) [
        | inl (same, now) ↦ same
        | inr (other, was) ↦ let clash = from_replicate n w false true was in absurd (cc)
      ],
      λ same. ap (λ xs. slice_get xs w) is ∙ ap (slice_get (set (replicate n false) v true)) same ∙ get_set (replicate n false) v true inside,
    )

-- THE NEAREST

same_up_to : (result way other : Way) → IsUpTo result way → way.distance ≡ other.distance → way.vertex ≡ other.vertex → IsUpTo result other
same_up_to result way other (inl nearer) distance vertex = inl (omega (arith, nearer, distance))
same_up_to result way other (inr (same, early)) distance vertex = inr (same ∙ distance, omega (arith, early, vertex))

up_to_along : (a b c : Way) → IsUpTo a b → IsUpTo b c → IsUpTo a c
up_to_along a b c (inl nearer) (inl farther) = inl (omega (arith, nearer, farther))
up_to_along a b c (inl nearer) (inr (same, early)) = inl (omega (arith, nearer, same))
up_to_along a b c (inr (same, early)) (inl farther) = inl (omega (arith, same, farther))
up_to_along a b c (inr (same, early)) (inr (also, later)) = inr (same ∙ also, omega (arith, early, later))

nearest_held : (stop : List Bool) (distances : List (Option ℕ)) (row : List ℕ) (held : Option Way) (way result other : Way) → IsNearest stop distances row held
    → IsNearer held way result → IsWay stop distances row other → IsUpTo result other
nearest_held stop distances row None way result other so_far nearer candidate = absurd (so_far other candidate)
nearest_held stop distances row (Some held) way result other so_far nearer candidate =
    up_to_along result held other (nearer.up_to_held held refl) (so_far.1 other candidate)

pub nearest_more : (stop : List Bool) (distances : List (Option ℕ)) (row : List ℕ) (n : ℕ) (held : Option Way) (way result : Way) → slice_get row n ≡ Some way.vertex
    → IsUnmarked stop way.vertex → slice_get distances way.vertex ≡ Some (Some way.distance) → IsNearest stop distances (take n row) held → IsNearer held way result
    → IsNearest stop distances (take (n + 1) row) (Some result)
nearest_more stop distances row n held way result is free at so_far nearer = (
  elim nearer.one [
    | inr same ↦ subst (IsWay stop distances (take (n + 1) row)) (sym same) (record { there = in_last n row way.vertex is; free = free; at = at })
    | inl same ↦
        let before = (subst (IsNearest stop distances (take n row)) same so_far).0 in
        record { there = in_before n row result.vertex before.there; free = before.free; at = before.at }
  ],
  λ other candidate. elim (in_more n row way.vertex is other.vertex candidate.there) [
    | inl before ↦ nearest_held stop distances (take n row) held way result other so_far nearer (record { there = before; free = candidate.free; at = candidate.at })
    | inr last ↦
        let known = one_at distances way.vertex (Some other.distance) (Some way.distance)
        (subst (λ v. slice_get distances v ≡ Some (Some other.distance)) last candidate.at) at in
        let equal : other.distance ≡ way.distance = same_Some known in
        same_up_to result way other nearer.up_to (sym equal) (sym last)
  ],
)

pub nearest_past : (stop : List Bool) (distances : List (Option ℕ)) (row : List ℕ) (n v : ℕ) (held : Option Way) → slice_get row n ≡ Some v
    → ((distance : ℕ) → IsUnmarked stop v → slice_get distances v ≡ Some (Some distance) → ⊥) → IsNearest stop distances (take n row) held
    → IsNearest stop distances (take (n + 1) row) held
nearest_past stop distances row n v None is none so_far = λ way candidate. elim (in_more n row v is way.vertex candidate.there) [
  | inl before ↦ so_far way (record { there = before; free = candidate.free; at = candidate.at })
  | inr last ↦ none way.distance (subst (IsUnmarked stop) last candidate.free) (subst (λ u. slice_get distances u ≡ Some (Some way.distance)) last candidate.at)
]
nearest_past stop distances row n v (Some held) is none so_far = (
  record { there = in_before n row held.vertex so_far.0.there; free = so_far.0.free; at = so_far.0.at },
  λ way candidate. elim (in_more n row v is way.vertex candidate.there) [
    | inl before ↦ so_far.1 way (record { there = before; free = candidate.free; at = candidate.at })
    | inr last ↦ absurd (none way.distance (subst (IsUnmarked stop) last candidate.free) (subst (λ u. slice_get distances u ≡ Some (Some way.distance)) last candidate.at))
  ],
)

pub nearest_all : (stop : List Bool) (distances : List (Option ℕ)) (row : List ℕ) (n : ℕ) (held : Option Way) → length row ≤ n → IsNearest stop distances (take n row) held
    → IsNearest stop distances row held
nearest_all stop distances row n held long so_far = subst (λ xs. IsNearest stop distances xs held) (take_all n row long) so_far

-- THE SHORTEST

up_to_near : (a b : Way) → IsUpTo a b → a.distance ≤ b.distance
up_to_near a b (inl nearer) = omega (arith, nearer)
up_to_near a b (inr (same, early)) = omega (arith, same)

-- a walk to the vertex along which each step is the nearest one
pub record IsBest (graph : List (Vec ℕ Global)) (stop : List Bool) (v : ℕ) (way : Way) (tail : List ℕ) : Type 0 where
  pub leads : Leads (Enters graph stop) way.vertex tail v
  pub long : length tail ≡ way.distance
  pub first : (other : List ℕ) → Leads (Enters graph stop) way.vertex other v → length other ≡ way.distance → ComesFirst tail other

module _ (graph : List (Vec ℕ Global)) (stop : List Bool) (distances : List (Option ℕ)) (v : ℕ) (are : AreDistancesTo graph stop v distances) (formed : IsGraph graph)
  where
    known_by : (w : ℕ) (walk : List ℕ) → Leads (Enters graph stop) w walk v → (known : Option ℕ) → slice_get distances w ≡ Some known → IsDistanceTo graph stop v w known
        → (d : ℕ) × (slice_get distances w ≡ Some (Some d)) × (d ≤ length walk)
    known_by w walk leads None at is = absurd (is walk leads)
    known_by w walk leads (Some d) at is = (d, at, is.1 walk leads)

    -- each vertex from which a walk leads to the vertex has a distance
    known_of : (w : ℕ) (walk : List ℕ) → w < length graph → Leads (Enters graph stop) w walk v → (d : ℕ) × (slice_get distances w ≡ Some (Some d)) × (d ≤ length walk)
    known_of w walk inside leads =
        let (known, at) = some_at distances w (omega (arith, are.sized, inside)) in
        known_by w walk leads known at (are.exact w known at)

    -- the next vertex of a walk is a way, and the nearest way is up to it
    pub next_way : (a next : ℕ) (behind : List ℕ) (row : Vec ℕ Global) → slice_get graph a ≡ Some row → Enters graph stop a next → Leads (Enters graph stop) next behind v
        → (d : ℕ) × IsWay stop distances row.items (record { distance = d; vertex = next }) × (d ≤ length behind)
    next_way a next behind row at step leads =
        let (other, there, h) = step.0 in
        let (d, known, near) = known_of next behind (formed a next step.0) leads in
        (d, record { there = subst (λ (r : Vec ℕ Global). Contains r.items next) (one_at graph a other row there at) h; free = step.1; at = known }, near)

    -- its distance is that of the shortest walk
    pub way_long : (row : List ℕ) (way : Way) → IsWay stop distances row way → HasWayTo graph stop v way.distance way.vertex
    way_long row way is = (are.exact way.vertex (Some way.distance) is.at).0

    way_least : (row : List ℕ) (way : Way) → IsWay stop distances row way → (walk : List ℕ) → Leads (Enters graph stop) way.vertex walk v → way.distance ≤ length walk
    way_least row way is = (are.exact way.vertex (Some way.distance) is.at).1

    -- where the nearest way and a walk are as long, the walk comes no earlier
    comes_first : (way : Way) (tail : List ℕ) (next : ℕ) (behind : List ℕ) (d : ℕ) → IsBest graph stop v way tail → IsUpTo way (record { distance = d; vertex = next })
        → d ≤ length behind → length behind ≡ way.distance → Leads (Enters graph stop) next behind v → ComesFirst (way.vertex ∷ tail) (next ∷ behind)
    comes_first way tail next behind d best (inl nearer) near long leads = absurd (omega (arith, nearer, near, long))
    comes_first way tail next behind d best (inr (same, early)) near long leads = elim (cases_lt way.vertex next) [
      | inl less ↦ inl less
      | inr more ↦
          let equal : way.vertex ≡ next = omega (arith, early, more) in
          inr (equal, best.first behind (subst (λ w. Leads (Enters graph stop) w behind v) (sym equal) leads) long)
    ]

    near_by : (here next : Way) (next_row : Vec ℕ Global) (walk : List ℕ) → slice_get graph here.vertex ≡ Some next_row
        → IsNearest stop distances next_row.items (Some next) → Leads (Enters graph stop) here.vertex walk v → length walk ≡ here.distance → 0 < here.distance
        → next.distance < here.distance
    near_by here next next_row [] at nearest leads long some = absurd (omega (arith, long, some))
    near_by here next next_row (w ∷ behind) at nearest leads long some =
        let (d, candidate, near) = next_way here.vertex w behind next_row at leads.0 leads.1 in
        omega (arith, up_to_near next (record { distance = d; vertex = w }) (nearest.1 (record { distance = d; vertex = w }) candidate), near, long)

    -- the nearest is at most one nearer
    pub next_nearer : (row : List ℕ) (here next : Way) (next_row : Vec ℕ Global) → IsWay stop distances row here → slice_get graph here.vertex ≡ Some next_row
        → IsNearest stop distances next_row.items (Some next) → 0 < here.distance → next.distance < here.distance
    next_nearer row here next next_row is at nearest some =
        let walk = way_long row here is in near_by here next next_row walk.walk at nearest walk.leads walk.long some

    first_of : (row : List ℕ) (here next : Way) (next_row : Vec ℕ Global) (tail : List ℕ) → IsWay stop distances row here → slice_get graph here.vertex ≡ Some next_row
        → IsNearest stop distances next_row.items (Some next) → IsBest graph stop v next tail → length (next.vertex ∷ tail) ≡ here.distance
        → (other : List ℕ) → Leads (Enters graph stop) here.vertex other v → length other ≡ here.distance → ComesFirst (next.vertex ∷ tail) other
    first_of row here next next_row tail is at nearest best long [] leads same = absurd (omega (arith, same, long))
    first_of row here next next_row tail is at nearest best long (w ∷ behind) leads same =
        let (d, candidate, near) = next_way here.vertex w behind next_row at leads.0 leads.1 in
        comes_first next tail w behind d best (nearest.1 (record { distance = d; vertex = w }) candidate) near (omega (arith, same, long, best.long)) leads.1

    -- one step back
    pub best_on : (row : List ℕ) (here next : Way) (next_row : Vec ℕ Global) (tail : List ℕ) → IsWay stop distances row here → slice_get graph here.vertex ≡ Some next_row
        → IsNearest stop distances next_row.items (Some next) → 0 < here.distance → IsBest graph stop v next tail → IsBest graph stop v here (next.vertex ∷ tail)
    best_on row here next next_row tail is at nearest some best =
        let step : Enters graph stop here.vertex next.vertex = ((next_row, at, nearest.0.there), nearest.0.free) in
        let least = way_least row here is (next.vertex ∷ tail) (step, best.leads) in
        let near = next_nearer row here next next_row is at nearest some in
        let long : length (next.vertex ∷ tail) ≡ here.distance = omega (arith, least, near, best.long) in
        record {
          leads = (step, best.leads);
          long = long;
          first = first_of row here next next_row tail is at nearest best long;
        }

    ends_at : (walk : List ℕ) (w : ℕ) → length walk ≡ 0 → Leads (Enters graph stop) w walk v → w ≡ v
    ends_at [] w none leads = leads
    ends_at (next ∷ behind) w none leads = absurd (omega (arith, none))

    shorter_of : (way : Way) (row : Vec ℕ Global) (tail : List ℕ) → slice_get graph v ≡ Some row → IsNearest stop distances row.items (Some way) → IsBest graph stop v way tail
        → (other : List ℕ) → IsCircle graph stop v other → length (way.vertex ∷ tail) ≤ length other
    shorter_of way row tail at nearest best [] circle = absurd circle
    shorter_of way row tail at nearest best (w ∷ behind) circle =
        let (d, candidate, near) = next_way v w behind row at circle.0 circle.1 in
        omega (arith, up_to_near way (record { distance = d; vertex = w }) (nearest.1 (record { distance = d; vertex = w }) candidate), near, best.long)

    earlier_of : (way : Way) (row : Vec ℕ Global) (tail : List ℕ) → slice_get graph v ≡ Some row → IsNearest stop distances row.items (Some way) → IsBest graph stop v way tail
        → (other : List ℕ) → IsCircle graph stop v other → length other ≡ length (way.vertex ∷ tail) → ComesFirst (way.vertex ∷ tail) other
    earlier_of way row tail at nearest best [] circle same = absurd circle
    earlier_of way row tail at nearest best (w ∷ behind) circle same =
        let (d, candidate, near) = next_way v w behind row at circle.0 circle.1 in
        comes_first way tail w behind d best (nearest.1 (record { distance = d; vertex = w }) candidate) near (omega (arith, same, best.long)) circle.1

    -- at the vertex itself nothing is left
    pub best_end : (row : List ℕ) (way : Way) → IsWay stop distances row way → way.distance ≡ 0 → IsBest graph stop v way []
    best_end row way is none =
        let walk = way_long row way is in
        record {
          leads = ends_at walk.walk way.vertex (walk.long ∙ none) walk.leads;
          long = sym none;
          first = λ other leads same. tt;
        }

    -- the first of the shortest circles goes along the nearest way
    pub best_circle : (way : Way) (row : Vec ℕ Global) (tail : List ℕ) → slice_get graph v ≡ Some row → IsNearest stop distances row.items (Some way)
        → IsBest graph stop v way tail → IsShortest graph stop v (way.vertex ∷ tail)
    best_circle way row tail at nearest best = record {
      circle = (((row, at, nearest.0.there), nearest.0.free), best.leads);
      shortest = shorter_of way row tail at nearest best;
      first = earlier_of way row tail at nearest best;
    }

-- A CIRCLE, step by step

-- what is best behind the way makes the shortest circle of what is there
pub record IsComing (graph : List (Vec ℕ Global)) (stop : List Bool) (distances : List (Option ℕ)) (v : ℕ) (circle : List ℕ) (way : Way) : Type 0 where
  pub row : List ℕ
  pub is : IsWay stop distances row way
  pub inside : way.vertex < length graph
  pub comes : (tail : List ℕ) → IsBest graph stop v way tail → IsShortestOf graph stop v (circle ++ way.vertex ∷ tail)

pub comes_first_way : (graph : List (Vec ℕ Global)) (stop : List Bool) (distances : List (Option ℕ)) (v : ℕ) (circle : List ℕ) (way : Way) (row : Vec ℕ Global)
    → AreDistancesTo graph stop v distances → IsGraph graph → slice_get graph v ≡ Some row → IsNearest stop distances row.items (Some way) → circle ≡ v ∷ []
    → IsComing graph stop distances v circle way
comes_first_way graph stop distances v circle way row are formed at nearest begun = record {
  row = row.items;
  is = nearest.0;
  inside = formed v way.vertex (row, at, nearest.0.there);
  comes = λ tail best. subst (λ xs. IsShortestOf graph stop v (xs ++ way.vertex ∷ tail)) (sym begun) (refl, best_circle graph stop distances v are formed way row tail at nearest best);
}

pub comes_on : (graph : List (Vec ℕ Global)) (stop : List Bool) (distances : List (Option ℕ)) (v : ℕ) (old new : List ℕ) (here next : Way) (row : Vec ℕ Global)
    → AreDistancesTo graph stop v distances → IsGraph graph → IsComing graph stop distances v old here → slice_get graph here.vertex ≡ Some row
    → IsNearest stop distances row.items (Some next) → 0 < here.distance → new ≡ old ++ here.vertex ∷ []
    → IsComing graph stop distances v new next × (next.distance < here.distance)
comes_on graph stop distances v old new here next row are formed coming at nearest some pushes = (
  record {
    row = row.items;
    is = nearest.0;
    inside = formed here.vertex next.vertex (row, at, nearest.0.there);
    comes = λ tail best.
        let whole : new ++ next.vertex ∷ tail ≡ old ++ here.vertex ∷ (next.vertex ∷ tail) =
        ap (λ xs. xs ++ next.vertex ∷ tail) pushes ∙ append_assoc old (here.vertex ∷ []) (next.vertex ∷ tail) in
        subst (IsShortestOf graph stop v) (sym whole)
        (coming.comes (next.vertex ∷ tail) (best_on graph stop distances v are formed coming.row here next row tail coming.is at nearest some best));
  },
  next_nearer graph stop distances v are formed coming.row here next row coming.is at nearest some,
)

pub comes_to_end : (graph : List (Vec ℕ Global)) (stop : List Bool) (distances : List (Option ℕ)) (v : ℕ) (old new : List ℕ) (way : Way)
    → AreDistancesTo graph stop v distances → IsGraph graph → IsComing graph stop distances v old way → way.distance ≡ 0 → new ≡ old ++ way.vertex ∷ []
    → IsShortestOf graph stop v new
comes_to_end graph stop distances v old new way are formed coming none pushes =
    subst (IsShortestOf graph stop v) (sym pushes) (coming.comes [] (best_end graph stop distances v are formed coming.row way coming.is none))

pub no_way : (graph : List (Vec ℕ Global)) (stop : List Bool) (distances : List (Option ℕ)) (v w : ℕ) (row : Vec ℕ Global) (walk : List ℕ)
    → AreDistancesTo graph stop v distances → IsGraph graph → slice_get graph w ≡ Some row → Leads (Enters graph stop) w walk v → 0 < length walk
    → IsNearest stop distances row.items None → ⊥
no_way graph stop distances v w row [] are formed at leads some none = omega (arith, some)
no_way graph stop distances v w row (next ∷ behind) are formed at leads some none =
    let (d, candidate, near) = next_way graph stop distances v are formed w next behind row at leads.0 leads.1 in
    none (record { distance = d; vertex = next }) candidate

-- a way is there
pub some_way : (graph : List (Vec ℕ Global)) (stop : List Bool) (distances : List (Option ℕ)) (v : ℕ) (here : Way) (row : Vec ℕ Global) (known : List ℕ)
    → AreDistancesTo graph stop v distances → IsGraph graph → IsWay stop distances known here → slice_get graph here.vertex ≡ Some row → 0 < here.distance
    → IsNearest stop distances row.items None → ⊥
some_way graph stop distances v here row known are formed is at some none =
    let walk = way_long graph stop distances v are formed known here is in
    no_way graph stop distances v here.vertex row walk.walk are formed at walk.leads (omega (arith, walk.long, some)) none

pub circle_has_way : (graph : List (Vec ℕ Global)) (stop : List Bool) (distances : List (Option ℕ)) (v : ℕ) (row : Vec ℕ Global) → AreDistancesTo graph stop v distances
    → IsGraph graph → slice_get graph v ≡ Some row → HasCircle graph stop v → IsNearest stop distances row.items None → ⊥
circle_has_way graph stop distances v row are formed at ([], none) nothing = none
circle_has_way graph stop distances v row are formed at (next ∷ behind, circle) nothing =
    no_way graph stop distances v v row (next ∷ behind) are formed at circle (omega arith) nothing

pub circle_within : (graph : List (Vec ℕ Global)) (stop : List Bool) (v : ℕ) → HasCircle graph stop v → v < length graph
circle_within graph stop v ([], none) = absurd none
circle_within graph stop v (next ∷ behind, circle) = let (row, at, h) = circle.0.0 in slice_get_within graph v row at

-- no mark
pub none_marked : (n : ℕ) (nowhere : List Bool) → nowhere ≡ replicate n false → (w : ℕ) → w < n → IsUnmarked nowhere w
none_marked n nowhere is w small = ap (λ xs. slice_get xs w) is ∙ get_replicate n w false small

-- THE ANSWER

pub none_of : (graph : List (Vec ℕ Global)) (stop : List Bool) (found : Components) (marks : List Mark) → AreAllComponents graph stop found → marks ≡ found.marks.items
    → IsFirstClosing graph stop marks None → HasNoCircle graph stop
none_of graph stop found marks all same none v circle =
    none v (subst (λ xs. IsClosing graph stop xs v) (sym same) (circle_is_closing graph stop found v all circle))

pub circle_of : (graph : List (Vec ℕ Global)) (stop : List Bool) (found : Components) (marks : List Mark) (v : ℕ) → AreAllComponents graph stop found
    → marks ≡ found.marks.items → IsFirstClosing graph stop marks (Some v) → HasCircle graph stop v
circle_of graph stop found marks v all same first =
    closing_is_circle graph stop found.marks.items found.order.items v all.components (subst (λ xs. IsClosing graph stop xs v) same first.0)

pub first_circle : (graph : List (Vec ℕ Global)) (stop : List Bool) (found : Components) (marks : List Mark) (v : ℕ) (circle : List ℕ) → AreAllComponents graph stop found
    → marks ≡ found.marks.items → IsFirstClosing graph stop marks (Some v) → IsShortestOf graph stop v circle → IsFirstCircle graph stop circle
first_circle graph stop found marks v circle all same first shortest = record {
  vertex = v;
  shortest = shortest;
  least = λ w other. first.1 w (subst (λ xs. IsClosing graph stop xs w) (sym same) (circle_is_closing graph stop found w all other));
}
