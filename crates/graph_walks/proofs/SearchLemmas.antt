-- The steps of a search in depth.
use Rattle.std.proofs.Common.{◌≡◌, ℕ, ◌+◌, ◌-◌, ◌<◌, ◌≤◌, Bool, false, Option, None, Some, List, [], ◌∷◌, ◌++◌, get_or, length, map, refl, set, take, take_all, drop, ap, sym, ◌∙◌, subst, inl, inr, arith, length-append, length-drop, length-set, length-take-le}
use Rattle.std.specs.Prelude.{◌⊎◌, Contains, Vec, count_by, slice_get}
use Rattle.std.specs.declared.alloc.Global.{Global}
use Rattle.std.proofs.lemmas.Bool.{cases_eq, cases_lt}
use Rattle.std.proofs.lemmas.List.Elements.{Contains-append_cases, Contains-append_left, Contains-append_right, Contains-push, Contains-push_cases}
use Rattle.std.proofs.lemmas.List.{append-nil, append_assoc, length-map, length-replicate, map-append, take_more}
use Rattle.std.proofs.lemmas.Option.{get_or_from_slice_get, slice_get_within}
use Rattle.plain_lemmas.specs.Members.{from_map, in_map, in_none}
use Rattle.graph_walks.specs.Components.{AreAllComponents, AreComponents, IsDone, Reaches}
use Rattle.graph_walks.specs.Graphs.{Enters, IsUnmarked, Leads}
use Rattle.graph_walks.specs.Searches.{AreBounds, AreLinked, ArePlaced, IsAscending, IsAssigned, IsBehind, IsCleared, IsEdge, IsExplored, IsFinished, IsFound, IsHolding, IsLooked, IsLooking, IsMark, IsMerged, IsPassed, IsSearch, IsSeen, IsStep, IsToLook, IsVisit, KeepsSeen, is_unseen, work_left}
use Rattle.graph_walks.specs.declared.components.Components.{Components}
use Rattle.graph_walks.specs.declared.components.Mark.{Mark}
use Rattle.graph_walks.specs.declared.components.Mark.TheVariants.{Unseen, Held, Done}
use Rattle.graph_walks.specs.declared.components.Visit.{Visit}
use Rattle.graph_walks.specs.declared.components.Search.{Search}
use Rattle.graph_walks.proofs.ListLemmas.{at_of, from_behind, from_front, from_push, from_replicate, from_set, from_take, get_drop, get_front, get_push, get_set, get_set_other, get_take, in_before, in_last, in_more, in_of, no_more, none_in_front, one_at, one_fewer, read_at}
use Rattle.graph_walks.proofs.OrderLemmas.{IsTaken, in_taken, last_greatest, last_in, none_ascend, push_ascends, taken}
use Rattle.graph_walks.proofs.WalkLemmas.{joined}

-- A COMPONENT IS ASSIGNED, visit by visit

one_more_of : (visits : List Visit) (n : ℕ) (visit : Visit) → slice_get visits n ≡ Some visit
    → map (λ (w : Visit). w.vertex) (take (n + 1) visits) ≡ map (λ (w : Visit). w.vertex) (take n visits) ++ visit.vertex ∷ []
one_more_of visits n visit at =
    let more : take (n + 1) visits ≡ take n visits ++ visit ∷ [] =
    take_more visits n visit (slice_get_within visits n visit at) ∙ ap (λ w. take n visits ++ w ∷ []) (get_or_from_slice_get visits n visit visit at) in
    ap (map (λ (w : Visit). w.vertex)) more ∙ map-append (λ (w : Visit). w.vertex) (take n visits) (visit ∷ [])

pub assigned_none : (visits : List Visit) (component : ℕ) (marks : List Mark) (order : List ℕ) → IsAssigned (take 0 visits) component marks marks order order
assigned_none visits component marks order = record {
  sized = refl;
  assigned = λ visit h. absurd (none_in_front visits visit h);
  from = λ v mark at. inl at;
  kept = λ v mark at. inl at;
  order = sym (append-nil order);
  unseen = omega arith;
}

pub assigned_more : (visits : List Visit) (n component : ℕ) (visit : Visit) (old mid new : List Mark) (first second third : List ℕ) → slice_get visits n ≡ Some visit
    → visit.vertex < length old → new ≡ set mid visit.vertex (Done component) → third ≡ second ++ visit.vertex ∷ []
    → IsAssigned (take n visits) component old mid first second → IsAssigned (take (n + 1) visits) component old new first third
assigned_more visits n component visit old mid new first second third at small writes pushes so_far =
    let inside : visit.vertex < length mid = omega (arith, so_far.sized, small) in
    let here : IsDone new component visit.vertex = ap (λ xs. slice_get xs visit.vertex) writes ∙ get_set mid visit.vertex (Done component) inside in
    let last = in_last n visits visit at in
    record {
      sized = ap length writes ∙ length-set mid visit.vertex (Done component) ∙ so_far.sized;
      assigned = λ other h. elim (in_more n visits visit at other h) [
        | inr same ↦ subst (λ (w : Visit). IsDone new component w.vertex) (sym same) here
        | inl before ↦ elim (cases_eq other.vertex visit.vertex) [
          | inl same ↦ subst (λ v. IsDone new component v) (sym same) here
          | inr apart ↦ ap (λ xs. slice_get xs other.vertex) writes ∙ get_set_other mid visit.vertex other.vertex (Done component) apart ∙ so_far.assigned other before
        ]
      ];
      from = λ v mark there. elim (from_set mid visit.vertex v (Done component) mark inside (sym (ap (λ xs. slice_get xs v) writes) ∙ there)) [
        | inl (same, is) ↦ inr (is, visit, last, sym same)
        | inr (apart, was) ↦ elim (so_far.from v mark was) [
          | inl before ↦ inl before
          | inr (is, other, h, of_v) ↦ inr (is, other, in_before n visits other h, of_v)
        ]
      ];
      kept = λ v mark there. elim (so_far.kept v mark there) [
        | inr (other, h, of_v) ↦ inr (other, in_before n visits other h, of_v)
        | inl is ↦ elim (cases_eq v visit.vertex) [
          | inl same ↦ inr (visit, last, sym same)
          | inr apart ↦ inl (ap (λ xs. slice_get xs v) writes ∙ get_set_other mid visit.vertex v (Done component) apart ∙ is)
        ]
      ];
      order = pushes ∙ ap (λ xs. xs ++ visit.vertex ∷ []) so_far.order ∙ append_assoc first (map (λ (w : Visit). w.vertex) (take n visits)) (visit.vertex ∷ [])
          ∙ ap (λ xs. first ++ xs) (sym (one_more_of visits n visit at));
      unseen = omega (arith, so_far.unseen, ap (count_by is_unseen) writes, no_more is_unseen mid visit.vertex (Done component) refl);
    }

pub assigned_all : (visits : List Visit) (n component : ℕ) (old new : List Mark) (first second : List ℕ) → length visits ≤ n
    → IsAssigned (take n visits) component old new first second → IsAssigned visits component old new first second
assigned_all visits n component old new first second long so_far = subst (λ xs. IsAssigned xs component old new first second) (take_all n visits long) so_far

-- COMPONENTS, where other vertices get other marks

components_kept : (graph : List (Vec ℕ Global)) (stop : List Bool) (old new : List Mark) (order : List ℕ) → AreComponents graph stop old order
    → ((c v : ℕ) → IsDone new c v → IsDone old c v) → ((c v : ℕ) → IsDone old c v → IsDone new c v) → AreComponents graph stop new order
components_kept graph stop old new order are was stays = record {
  back = λ a b c at step. let (d, there, low) = are.back a b c (was c a at) step in (d, stays d b there, low);
  one = λ a b c at_a at_b. are.one a b c (was c a at_a) (was c b at_b);
  listed = λ v c at. are.listed v c (was c v at);
  only = λ v h. let (c, at) = are.only v h in (c, stays c v at);
  ascend = λ i j a b c d before at_i at_j at_a at_b. are.ascend i j a b c d before at_i at_j (was c a at_a) (was d b at_b);
  below = λ v c at. are.below v c (was c v at);
}

-- NOTHING IS SEEN

pub search_begins : (graph : List (Vec ℕ Global)) (stop : List Bool) (count : ℕ) (s : Search) → count ≡ length graph → IsCleared count s → IsSearch graph stop s
search_begins graph stop count s sized cleared =
    let unseen : (v : ℕ) (mark : Mark) → IsMark s mark v → mark ≡ Unseen = λ v mark at. from_replicate count v Unseen mark (sym (ap (λ xs. slice_get xs v) cleared.marks) ∙ at) in
    let none : (place : ℕ) (visit : Visit) → IsVisit s place visit → ⊥ = λ place visit at. in_none visit (subst (λ xs. Contains xs visit) cleared.held (in_of s.held.items place visit at)) in
    let unbound : (place : ℕ) → Contains s.bounds.items place → ⊥ = λ place h. in_none place (subst (λ xs. Contains xs place) cleared.bounds h) in
    let done : (c v : ℕ) → IsDone s.marks.items c v → ⊥ = λ c v at. let is = unseen v (Done c) at in absurd (cc) in
    record {
      placed = record {
        sized = ap length cleared.marks ∙ length-replicate count Unseen ∙ sized;
        marked = λ place visit at. absurd (none place visit at);
        held = λ v place at. let is = unseen v (Held place) at in absurd (cc);
      };
      bounds = record {
        bounds = none_ascend s.bounds.items cleared.bounds;
        within = λ bound h. absurd (unbound bound h);
        first = λ some. absurd (omega (arith, some, ap length cleared.held));
        pending = none_ascend s.pending.items cleared.pending;
        inside = λ place h. absurd (in_none place (subst (λ xs. Contains xs place) cleared.pending h));
      };
      links = record {
        ended = λ place visit at. absurd (none place visit at);
        passed = λ place visit number v at. absurd (none place visit at);
        linked = λ p q a b at. absurd (none p a at);
      };
      components = record {
        back = λ a b c at. absurd (done c a at);
        one = λ a b c at. absurd (done c a at);
        listed = λ v c at. absurd (done c v at);
        only = λ v h. absurd (in_none v (subst (λ xs. Contains xs v) cleared.order h));
        ascend = λ i j a b c d before at_i. absurd (in_none a (subst (λ xs. Contains xs a) cleared.order (in_of s.order.items i a at_i)));
        below = λ v c at. absurd (done c v at);
      };
    }

-- A VERTEX IS HELD

-- each vertex that is held leads to this one
abbrev AllLead : List (Vec ℕ Global) → List Bool → Search → ℕ → Type 0
AllLead graph stop s v = (place : ℕ) (visit : Visit) → IsVisit s place visit → Reaches graph stop visit.vertex v

module _ (graph : List (Vec ℕ Global)) (stop : List Bool) (old new : Search) (vertex : ℕ) (search : IsSearch graph stop old) (unseen : IsMark old Unseen vertex)
    (holding : IsHolding vertex old new) where
  -- the marks of the others stay
  other_vertex : (v : ℕ) (mark : Mark) → IsMark old mark v → (mark ≡ Unseen → ⊥) → v ≡ vertex → ⊥
  other_vertex v mark at seen same = seen (one_at old.marks.items vertex mark Unseen (subst (λ u. IsMark old mark u) same at) unseen)

  stays : (v : ℕ) (mark : Mark) → IsMark old mark v → (mark ≡ Unseen → ⊥) → IsMark new mark v
  stays v mark at seen =
      ap (λ xs. slice_get xs v) holding.marks ∙ get_set_other old.marks.items vertex v (Held (length old.held.items)) (other_vertex v mark at seen) ∙ at

  stays_done : (c v : ℕ) → IsDone old.marks.items c v → IsDone new.marks.items c v
  stays_done c v at = stays v (Done c) at (λ same. cc)

  stays_held : (place v : ℕ) → IsMark old (Held place) v → IsMark new (Held place) v
  stays_held place v at = stays v (Held place) at (λ same. cc)

  -- it is held itself, or was marked so before
  was_marked : (v : ℕ) (mark : Mark) → IsMark new mark v → ((v ≡ vertex) × (mark ≡ Held (length old.held.items))) ⊎ IsMark old mark v
  was_marked v mark at =
      elim (from_set old.marks.items vertex v (Held (length old.held.items)) mark (slice_get_within old.marks.items vertex Unseen unseen)
      (sym (ap (λ xs. slice_get xs v) holding.marks) ∙ at)) [
        | inl is ↦ inl is
        | inr (apart, was) ↦ inr was
      ]

  was_done : (c v : ℕ) → IsDone new.marks.items c v → IsDone old.marks.items c v
  was_done c v at = elim (was_marked v (Done c) at) [ inl (same, is) ↦ absurd (cc) | inr was ↦ was ]

  was_visit : (place : ℕ) (visit : Visit) → IsVisit new place visit → ((place ≡ length old.held.items) × (visit ≡ record { vertex = vertex; next = 0 })) ⊎ IsVisit old place visit
  was_visit place visit at = from_push old.held.items (record { vertex = vertex; next = 0 }) place visit (sym (ap (λ xs. slice_get xs place) holding.held) ∙ at)

  bound_stays : (bound : ℕ) → Contains old.bounds.items bound → Contains new.bounds.items bound
  bound_stays bound h = subst (λ xs. Contains xs bound) (sym holding.bounds) (Contains-append_left old.bounds.items (length old.held.items ∷ []) bound h)

  was_bound : (bound : ℕ) → Contains new.bounds.items bound → Contains old.bounds.items bound ⊎ (length old.held.items ≡ bound)
  was_bound bound h = Contains-push_cases old.bounds.items (length old.held.items) bound (subst (λ xs. Contains xs bound) holding.bounds h)

  visit_stays : (place : ℕ) (visit : Visit) → IsVisit old place visit → IsVisit new place visit
  visit_stays place visit at = ap (λ xs. slice_get xs place) holding.held ∙ get_front old.held.items (record { vertex = vertex; next = 0 } ∷ []) place visit at

  new_visit : IsVisit new (length old.held.items) (record { vertex = vertex; next = 0 })
  new_visit = ap (λ xs. slice_get xs (length old.held.items)) holding.held ∙ get_push old.held.items (record { vertex = vertex; next = 0 })

  was_pending : (place : ℕ) → Contains new.pending.items place → Contains old.pending.items place ⊎ (length old.held.items ≡ place)
  was_pending place h = Contains-push_cases old.pending.items (length old.held.items) place (subst (λ xs. Contains xs place) holding.pending h)

  longer : length new.held.items ≡ length old.held.items + 1
  longer = ap length holding.held ∙ length-append old.held.items (record { vertex = vertex; next = 0 } ∷ [])

  hold_placed : ArePlaced graph new
  hold_placed = record {
    sized = ap length holding.marks ∙ length-set old.marks.items vertex (Held (length old.held.items)) ∙ search.placed.sized;
    marked = λ place visit at. elim (was_visit place visit at) [
      | inr was ↦ stays_held place visit.vertex (search.placed.marked place visit was)
      | inl (last, is) ↦
          let here = ap (λ xs. slice_get xs vertex) holding.marks ∙ get_set old.marks.items vertex (Held (length old.held.items)) (slice_get_within old.marks.items vertex Unseen unseen) in
          subst (λ (w : Visit). IsMark new (Held place) w.vertex) (sym is) (subst (λ p. IsMark new (Held p) vertex) (sym last) here)
    ];
    held = λ v place at. elim (was_marked v (Held place) at) [
      | inr was ↦ let (visit, there, of_v) = search.placed.held v place was in (visit, visit_stays place visit there, of_v)
      | inl (same, is) ↦
          let last : place ≡ length old.held.items = cc in
          (record { vertex = vertex; next = 0 }, subst (λ p. IsVisit new p (record { vertex = vertex; next = 0 })) (sym last) new_visit, sym same)
    ];
  }

  hold_bounds : AreBounds new
  hold_bounds = record {
    bounds = subst IsAscending (sym holding.bounds) (push_ascends old.bounds.items (length old.held.items) search.bounds.bounds search.bounds.within);
    within = λ bound h. elim (was_bound bound h) [
      | inl before ↦ omega (arith, search.bounds.within bound before, longer)
      | inr is ↦ omega (arith, is, longer)
    ];
    first = λ some. elim (cases_lt 0 (length old.held.items)) [
      | inl before ↦ bound_stays 0 (search.bounds.first before)
      | inr none ↦
          let is : length old.held.items ≡ 0 = omega (arith, none) in
          subst (Contains new.bounds.items) is (subst (λ xs. Contains xs (length old.held.items)) (sym holding.bounds) (Contains-push old.bounds.items (length old.held.items)))
    ];
    pending = subst IsAscending (sym holding.pending) (push_ascends old.pending.items (length old.held.items) search.bounds.pending search.bounds.inside);
    inside = λ place h. elim (was_pending place h) [
      | inl before ↦ omega (arith, search.bounds.inside place before, longer)
      | inr is ↦ omega (arith, is, longer)
    ];
  }

  hold_links : AllLead graph stop old vertex → AreLinked graph stop new
  hold_links leads = record {
    ended = λ place visit at. elim (was_visit place visit at) [
      | inl (last, is) ↦ inl (subst (Contains new.pending.items) (sym last)
          (subst (λ xs. Contains xs (length old.held.items)) (sym holding.pending) (Contains-push old.pending.items (length old.held.items))))
      | inr was ↦ elim (search.links.ended place visit was) [
        | inl before ↦ inl (subst (λ xs. Contains xs place) (sym holding.pending) (Contains-append_left old.pending.items (length old.held.items ∷ []) place before))
        | inr all ↦ inr all
      ]
    ];
    passed = λ place visit number v at below edge free. elim (was_visit place visit at) [
      | inl (last, is) ↦ absurd (omega (arith, below, ap (λ (w : Visit). w.next) is))
      | inr was ↦ elim (search.links.passed place visit number v was below edge free) [
        | inl (c, done) ↦ inl (c, stays_done c v done)
        | inr (q, held, behind) ↦ inr (
          q,
          stays_held q v held,
          λ bound h low. elim (was_bound bound h) [
            | inl before ↦ behind bound before low
            | inr is ↦ absurd (omega (arith, is, low, slice_get_within old.held.items place visit was))
          ],
        )
      ]
    ];
    linked = λ p q a b at_a at_b behind. elim (was_visit q b at_b) [
      | inl (last, is) ↦ elim (was_visit p a at_a) [
        | inl (also, same) ↦ ([], ap (λ (w : Visit). w.vertex) (same ∙ sym is))
        | inr was ↦ subst (λ (w : Visit). Reaches graph stop a.vertex w.vertex) (sym is) (leads p a was)
      ]
      | inr was_b ↦ elim (was_visit p a at_a) [
        | inl (last, same) ↦
            let new_bound = subst (λ xs. Contains xs (length old.held.items)) (sym holding.bounds) (Contains-push old.bounds.items (length old.held.items)) in
            let beyond = behind (length old.held.items) new_bound (omega (arith, last)) in
            absurd (omega (arith, beyond, slice_get_within old.held.items q b was_b))
        | inr was_a ↦ search.links.linked p q a b was_a was_b (λ bound h low. behind bound (bound_stays bound h) low)
      ]
    ];
  }

  search_holds : AllLead graph stop old vertex → IsSearch graph stop new
  search_holds leads = record {
    placed = hold_placed;
    bounds = hold_bounds;
    links = hold_links leads;
    components = subst (AreComponents graph stop new.marks.items) (sym holding.order)
        (components_kept graph stop old.marks.items new.marks.items old.order.items search.components was_done stays_done);
  }

  pub step_by_hold : AllLead graph stop old vertex → IsStep graph stop old new
  step_by_hold leads = record {
    search = search_holds leads;
    seen = λ v (mark, at, seen). (mark, stays v mark at (λ same. let clash = ap is_unseen same in absurd (cc)), seen);
    less =
        let fewer = one_fewer is_unseen old.marks.items vertex (Held (length old.held.items)) Unseen unseen refl refl in
        let bounds = ap length holding.bounds ∙ length-append old.bounds.items (length old.held.items ∷ []) in
        let pending = ap length holding.pending ∙ length-append old.pending.items (length old.held.items ∷ []) in
        omega (arith, fewer, ap (count_by is_unseen) holding.marks, bounds, pending);
  }

  pub seen_by_hold : IsSeen new vertex
  seen_by_hold = (
    Held (length old.held.items),
    ap (λ xs. slice_get xs vertex) holding.marks ∙ get_set old.marks.items vertex (Held (length old.held.items)) (slice_get_within old.marks.items vertex Unseen unseen),
    refl,
  )

-- A LOOK ALONG AN EDGE

passed_same : (old new : Search) (place v : ℕ) → new.marks.items ≡ old.marks.items → new.bounds.items ≡ old.bounds.items → IsPassed old place v → IsPassed new place v
passed_same old new place v marks bounds (inl (c, done)) = inl (c, ap (λ xs. slice_get xs v) marks ∙ done)
passed_same old new place v marks bounds (inr (q, held, behind)) =
    inr (q, ap (λ xs. slice_get xs v) marks ∙ held, λ bound h low. behind bound (subst (λ xs. Contains xs bound) bounds h) low)

-- the edge at hand needs no look any more
module _ (graph : List (Vec ℕ Global)) (stop : List Bool) (place : ℕ) (old new : Search) (visit : Visit) (looking : IsLooking graph stop place old)
    (at : IsVisit old place visit) (held : new.held.items ≡ set old.held.items place (record { vertex = visit.vertex; next = visit.next + 1 }))
    (marks : new.marks.items ≡ old.marks.items) (bounds : new.bounds.items ≡ old.bounds.items) (pending : new.pending.items ≡ old.pending.items)
    (order : new.order.items ≡ old.order.items)
    (edge : (v : ℕ) → IsEdge graph visit.vertex visit.next v → IsUnmarked stop v → IsPassed old place v) where
  pub looked_visit : IsVisit new place (record { vertex = visit.vertex; next = visit.next + 1 })
  looked_visit = ap (λ xs. slice_get xs place) held ∙ get_set old.held.items place (record { vertex = visit.vertex; next = visit.next + 1 }) looking.within

  look_was : (p : ℕ) (now : Visit) → IsVisit new p now
      → ((p ≡ place) × (now ≡ record { vertex = visit.vertex; next = visit.next + 1 })) ⊎ ((p ≡ place → ⊥) × IsVisit old p now)
  look_was p now there =
      from_set old.held.items place p (record { vertex = visit.vertex; next = visit.next + 1 }) now looking.within (sym (ap (λ xs. slice_get xs p) held) ∙ there)

  same_length : length new.held.items ≡ length old.held.items
  same_length = ap length held ∙ length-set old.held.items place (record { vertex = visit.vertex; next = visit.next + 1 })

  -- its vertex stays
  vertex_was : (p : ℕ) (now : Visit) → IsVisit new p now → (was : Visit) × IsVisit old p was × (was.vertex ≡ now.vertex)
  vertex_was p now there = elim (look_was p now there) [
    | inl (same, is) ↦ (visit, subst (λ k. IsVisit old k visit) (sym same) at, ap (λ (w : Visit). w.vertex) (sym is))
    | inr (other, was) ↦ (now, was, refl)
  ]

  look_placed : ArePlaced graph new
  look_placed = record {
    sized = ap length marks ∙ looking.search.placed.sized;
    marked = λ p now there.
        let (was, before, same) = vertex_was p now there in
        ap (λ xs. slice_get xs now.vertex) marks ∙ subst (λ v. IsMark old (Held p) v) same (looking.search.placed.marked p was before);
    held = λ v p there.
        let (was, before, of_v) = looking.search.placed.held v p (sym (ap (λ xs. slice_get xs v) marks) ∙ there) in
        elim (cases_eq p place) [
          | inl same ↦
              let is = one_at old.held.items place was visit (subst (λ k. IsVisit old k was) same before) at in (
                record { vertex = visit.vertex; next = visit.next + 1 },
                subst (λ k. IsVisit new k (record { vertex = visit.vertex; next = visit.next + 1 })) (sym same) looked_visit,
                ap (λ (w : Visit). w.vertex) (sym is) ∙ of_v,
              )
          | inr other ↦ (
            was,
            ap (λ xs. slice_get xs p) held ∙ get_set_other old.held.items place p (record { vertex = visit.vertex; next = visit.next + 1 }) other ∙ before,
            of_v,
          )
        ];
  }

  look_bounds : AreBounds new
  look_bounds = record {
    bounds = subst IsAscending (sym bounds) looking.search.bounds.bounds;
    within = λ bound h. omega (arith, same_length, looking.search.bounds.within bound (subst (λ xs. Contains xs bound) bounds h));
    first = λ some. subst (λ xs. Contains xs 0) (sym bounds) (looking.search.bounds.first (omega (arith, same_length, some)));
    pending = subst IsAscending (sym pending) looking.search.bounds.pending;
    inside = λ p h. omega (arith, same_length, looking.search.bounds.inside p (subst (λ xs. Contains xs p) pending h));
  }

  look_links : AreLinked graph stop new
  look_links = record {
    ended = λ p now there. elim (look_was p now there) [
      | inr (other, was) ↦ elim (looking.search.links.ended p now was) [
        | inl left ↦ inl (subst (λ xs. Contains xs p) (sym pending) left)
        | inr all ↦ inr all
      ]
      | inl (same, is) ↦ elim (looking.search.links.ended place visit at) [
        | inl left ↦ inl (subst (λ xs. Contains xs p) (sym pending) (subst (Contains old.pending.items) (sym same) left))
        | inr all ↦ inr (λ number v of_now.
            let here = all number v (subst (λ (w : Visit). IsEdge graph w.vertex number v) is of_now) in
            omega (arith, here, ap (λ (w : Visit). w.next) is))
      ]
    ];
    passed = λ p now number v there below of_now free. passed_same old new p v marks bounds (elim (look_was p now there) [
      | inr (other, was) ↦ looking.search.links.passed p now number v was below of_now free
      | inl (same, is) ↦
          let of_visit : IsEdge graph visit.vertex number v = subst (λ (w : Visit). IsEdge graph w.vertex number v) is of_now in
          subst (λ k. IsPassed old k v) (sym same) (elim (cases_eq number visit.next) [
            | inl last ↦ edge v (subst (λ k. IsEdge graph visit.vertex k v) last of_visit) free
            | inr before ↦ looking.search.links.passed place visit number v at (omega (arith, below, before, ap (λ (w : Visit). w.next) is)) of_visit free
          ])
    ]);
    linked = λ p q a b at_a at_b behind.
        let (was_a, before_a, same_a) = vertex_was p a at_a in
        let (was_b, before_b, same_b) = vertex_was q b at_b in
        let leads = looking.search.links.linked p q was_a was_b before_a before_b (λ bound h low. behind bound (subst (λ xs. Contains xs bound) (sym bounds) h) low) in
        subst (λ v. Reaches graph stop v b.vertex) same_a (subst (λ v. Reaches graph stop was_a.vertex v) same_b leads);
  }

  pub looks_on : IsLooking graph stop place new
  looks_on = record {
    search = record {
      placed = look_placed;
      bounds = look_bounds;
      links = look_links;
      components = subst (λ xs. AreComponents graph stop xs new.order.items) (sym marks) (subst (AreComponents graph stop old.marks.items) (sym order) looking.search.components);
    };
    within = omega (arith, looking.within, same_length);
    last = λ bound h. looking.last bound (subst (λ xs. Contains xs bound) bounds h);
  }

-- BOUNDS ARE MERGED

module _ (graph : List (Vec ℕ Global)) (stop : List Bool) (place : ℕ) (old new : Search) (visit : Visit) (looking : IsLooking graph stop place old)
    (at : IsVisit old place visit) (before v : ℕ) (step : Enters graph stop visit.vertex v) (marked : IsMark old (Held before) v)
    (held : new.held.items ≡ old.held.items) (marks : new.marks.items ≡ old.marks.items) (merged : IsMerged before old.bounds.items new.bounds.items)
    (pending : new.pending.items ≡ old.pending.items) (order : new.order.items ≡ old.order.items) where
  merge_was : (p : ℕ) (now : Visit) → IsVisit new p now → IsVisit old p now
  merge_was p now there = sym (ap (λ xs. slice_get xs p) held) ∙ there

  merge_passed : (p w : ℕ) → IsPassed old p w → IsPassed new p w
  merge_passed p w (inl (c, done)) = inl (c, ap (λ xs. slice_get xs w) marks ∙ done)
  merge_passed p w (inr (q, is, behind)) = inr (q, ap (λ xs. slice_get xs w) marks ∙ is, λ bound h low. behind bound ((merged.bounds bound).0 h).0 low)

  -- from behind the place of the edge's end the way back goes along the edge
  merge_linked : (p q : ℕ) (a b : Visit) → IsVisit old p a → IsVisit old q b → IsBehind new.bounds.items p q → Reaches graph stop a.vertex b.vertex
  merge_linked p q a b at_a at_b behind = elim (cases_lt before p) [
    | inr low ↦ looking.search.links.linked p q a b at_a at_b (λ bound h small. behind bound ((merged.bounds bound).1 (h, omega (arith, small, low))) small)
    | inl high ↦
        let (target, there, of_v) = looking.search.placed.held v before marked in
        let (first, to_here) = looking.search.links.linked p place a visit at_a at (λ bound h small. looking.last bound h) in
        let (second, from_there) = looking.search.links.linked before q target b there at_b
        (λ bound h small. behind bound ((merged.bounds bound).1 (h, small)) (omega (arith, small, high))) in
        let onward : Leads (Enters graph stop) v second b.vertex = subst (λ w. Leads (Enters graph stop) w second b.vertex) of_v from_there in
        (first ++ v ∷ second, joined (Enters graph stop) a.vertex visit.vertex b.vertex first (v ∷ second) to_here (step, onward))
  ]

  pub merges_on : IsLooking graph stop place new
  merges_on = record {
    search = record {
      placed = record {
        sized = ap length marks ∙ looking.search.placed.sized;
        marked = λ p now there. ap (λ xs. slice_get xs now.vertex) marks ∙ looking.search.placed.marked p now (merge_was p now there);
        held = λ w p there.
            let (was, is, of_w) = looking.search.placed.held w p (sym (ap (λ xs. slice_get xs w) marks) ∙ there) in
            (was, ap (λ xs. slice_get xs p) held ∙ is, of_w);
      };
      bounds = record {
        bounds = merged.ascending;
        within = λ bound h. omega (arith, ap length held, looking.search.bounds.within bound ((merged.bounds bound).0 h).0);
        first = λ some. (merged.bounds 0).1 (looking.search.bounds.first (omega (arith, ap length held, some)), omega arith);
        pending = subst IsAscending (sym pending) looking.search.bounds.pending;
        inside = λ p h. omega (arith, ap length held, looking.search.bounds.inside p (subst (λ xs. Contains xs p) pending h));
      };
      links = record {
        ended = λ p now there. elim (looking.search.links.ended p now (merge_was p now there)) [
          | inl left ↦ inl (subst (λ xs. Contains xs p) (sym pending) left)
          | inr all ↦ inr all
        ];
        passed = λ p now number w there below edge free. merge_passed p w (looking.search.links.passed p now number w (merge_was p now there) below edge free);
        linked = λ p q a b at_a at_b behind. merge_linked p q a b (merge_was p a at_a) (merge_was q b at_b) behind;
      };
      components = subst (λ xs. AreComponents graph stop xs new.order.items) (sym marks) (subst (AreComponents graph stop old.marks.items) (sym order) looking.search.components);
    };
    within = omega (arith, looking.within, ap length held);
    last = λ bound h. looking.last bound ((merged.bounds bound).0 h).0;
  }

  pub merge_passes : IsPassed new place v
  merge_passes = inr (before, ap (λ xs. slice_get xs v) marks ∙ marked, λ bound h low. ((merged.bounds bound).0 h).1)

-- A PLACE ISN'T PENDING ANY MORE

module _ (graph : List (Vec ℕ Global)) (stop : List Bool) (place : ℕ) (old new : Search) (looking : IsLooking graph stop place old)
    (none : IsFound graph stop place old None) (at_end : slice_get old.pending.items (length old.pending.items - 1) ≡ Some place)
    (rest : new.pending.items ≡ take (length old.pending.items - 1) old.pending.items) (held : new.held.items ≡ old.held.items)
    (marks : new.marks.items ≡ old.marks.items) (bounds : new.bounds.items ≡ old.bounds.items) (order : new.order.items ≡ old.order.items) where
  left_pending : IsTaken old.pending.items new.pending.items place
  left_pending = taken old.pending.items new.pending.items place looking.search.bounds.pending at_end rest

  pops_on : IsSearch graph stop new
  pops_on = record {
    placed = record {
      sized = ap length marks ∙ looking.search.placed.sized;
      marked = λ p now there. ap (λ xs. slice_get xs now.vertex) marks ∙ looking.search.placed.marked p now (sym (ap (λ xs. slice_get xs p) held) ∙ there);
      held = λ v p there.
          let (was, is, of_v) = looking.search.placed.held v p (sym (ap (λ xs. slice_get xs v) marks) ∙ there) in
          (was, ap (λ xs. slice_get xs p) held ∙ is, of_v);
    };
    bounds = record {
      bounds = subst IsAscending (sym bounds) looking.search.bounds.bounds;
      within = λ bound h. omega (arith, ap length held, looking.search.bounds.within bound (subst (λ xs. Contains xs bound) bounds h));
      first = λ some. subst (λ xs. Contains xs 0) (sym bounds) (looking.search.bounds.first (omega (arith, ap length held, some)));
      pending = left_pending.ascending;
      inside = λ p h. omega (arith, ap length held, looking.search.bounds.inside p (in_taken old.pending.items new.pending.items place left_pending p h));
    };
    links = record {
      ended = λ p now there.
          let was : IsVisit old p now = sym (ap (λ xs. slice_get xs p) held) ∙ there in
          elim (looking.search.links.ended p now was) [
            | inr all ↦ inr all
            | inl h ↦ elim (left_pending.from p h) [
              | inl left ↦ inl left
              | inr same ↦ inr (none now (subst (λ k. IsVisit old k now) same was))
            ]
          ];
      passed = λ p now number w there below edge free.
          passed_same old new p w marks bounds (looking.search.links.passed p now number w (sym (ap (λ xs. slice_get xs p) held) ∙ there) below edge free);
      linked = λ p q a b at_a at_b behind.
          looking.search.links.linked p q a b (sym (ap (λ xs. slice_get xs p) held) ∙ at_a) (sym (ap (λ xs. slice_get xs q) held) ∙ at_b)
          (λ bound h low. behind bound (subst (λ xs. Contains xs bound) (sym bounds) h) low);
    };
    components = subst (λ xs. AreComponents graph stop xs new.order.items) (sym marks) (subst (AreComponents graph stop old.marks.items) (sym order) looking.search.components);
  }

  pub step_by_pop : IsStep graph stop old new
  step_by_pop = record {
    search = pops_on;
    seen = λ v (mark, at, seen). (mark, ap (λ xs. slice_get xs v) marks ∙ at, seen);
    less = omega (arith, left_pending.shorter, ap (count_by is_unseen) marks, ap length bounds);
  }

-- THE LAST PART IS A COMPONENT

module _ (graph : List (Vec ℕ Global)) (stop : List Bool) (start : ℕ) (old new : Search) (search : IsSearch graph stop old)
    (last : slice_get old.bounds.items (length old.bounds.items - 1) ≡ Some start) (ended : (place : ℕ) → Contains old.pending.items place → place < start)
    (finished : IsFinished start old new) where
  left_bounds : IsTaken old.bounds.items new.bounds.items start
  left_bounds = taken old.bounds.items new.bounds.items start search.bounds.bounds last finished.bounds

  start_within : start < length old.held.items
  start_within = search.bounds.within start (last_in old.bounds.items new.bounds.items start left_bounds)

  -- of the last part
  in_part : (place : ℕ) (visit : Visit) → IsVisit old place visit → start ≤ place → Contains (drop start old.held.items) visit
  in_part place visit at behind =
      let same : start + (place - start) ≡ place = omega (arith, behind) in
      in_of (drop start old.held.items) (place - start) visit (get_drop start old.held.items (place - start) ∙ ap (slice_get old.held.items) same ∙ at)

  of_part : (visit : Visit) → Contains (drop start old.held.items) visit → (place : ℕ) × IsVisit old place visit × (start ≤ place)
  of_part visit h =
      let (k, at) = at_of (drop start old.held.items) visit h in
      (start + k, sym (get_drop start old.held.items k) ∙ at, omega arith)

  part_done : (place : ℕ) (visit : Visit) → IsVisit old place visit → start ≤ place → IsDone new.marks.items (length old.order.items) visit.vertex
  part_done place visit at behind = finished.assigned.assigned visit (in_part place visit at behind)

  -- a component that was done stays
  done_stays : (c v : ℕ) → IsDone old.marks.items c v → IsDone new.marks.items c v
  done_stays c v at = elim (finished.assigned.kept v (Done c) at) [
    | inl is ↦ is
    | inr (visit, h, of_v) ↦
        let (place, there, behind) = of_part visit h in
        let marked = subst (λ w. IsMark old (Held place) w) of_v (search.placed.marked place visit there) in
        let clash = one_at old.marks.items v (Done c) (Held place) at marked in absurd (cc)
  ]

  -- a vertex of a component is of an earlier one, or of this one
  was_done_or_part : (c v : ℕ) → IsDone new.marks.items c v
      → IsDone old.marks.items c v ⊎ ((c ≡ length old.order.items) × (visit : Visit) × (place : ℕ) × IsVisit old place visit × (start ≤ place) × (visit.vertex ≡ v))
  was_done_or_part c v at = elim (finished.assigned.from v (Done c) at) [
    | inl was ↦ inl was
    | inr (is, visit, h, of_v) ↦ let (place, there, behind) = of_part visit h in inr (cc, visit, place, there, behind, of_v)
  ]

  no_later : (c v : ℕ) → IsDone new.marks.items c v → c ≤ length old.order.items
  no_later c v at = elim (was_done_or_part c v at) [
    | inl was ↦ omega (arith, search.components.below v c was)
    | inr (is, visit, place, there, behind, of_v) ↦ omega (arith, is)
  ]

  -- what was held in front of the part still is
  held_was : (p : ℕ) (now : Visit) → IsVisit new p now → (p < start) × IsVisit old p now
  held_was p now there = from_take start old.held.items p now (sym (ap (λ xs. slice_get xs p) finished.held) ∙ there)

  length_left : length new.held.items ≡ start
  length_left = ap length finished.held ∙ length-take-le start old.held.items (omega (arith, start_within))

  -- a mark stays, or its vertex is of the component
  stays_or_done : (v : ℕ) (mark : Mark) → IsMark old mark v → IsMark new mark v ⊎ IsDone new.marks.items (length old.order.items) v
  stays_or_done v mark at = elim (finished.assigned.kept v mark at) [
    | inl is ↦ inl is
    | inr (visit, h, of_v) ↦ inr (subst (IsDone new.marks.items (length old.order.items)) of_v (finished.assigned.assigned visit h))
  ]

  finish_placed : ArePlaced graph new
  finish_placed = record {
    sized = finished.assigned.sized ∙ search.placed.sized;
    marked = λ p now there.
        let (below, was) = held_was p now there in
        elim (finished.assigned.kept now.vertex (Held p) (search.placed.marked p now was)) [
          | inl is ↦ is
          | inr (visit, h, same) ↦
              let (place, at, behind) = of_part visit h in
              let clash = one_at old.marks.items now.vertex (Held p) (Held place) (search.placed.marked p now was)
              (subst (λ v. IsMark old (Held place) v) same (search.placed.marked place visit at)) in
              let equal : p ≡ place = cc in absurd (omega (arith, equal, below, behind))
        ];
    held = λ v p there. elim (finished.assigned.from v (Held p) there) [
      | inr (is, visit, h, of_v) ↦ absurd (cc)
      | inl was ↦
          let (visit, at, of_v) = search.placed.held v p was in
          elim (cases_lt p start) [
            | inl below ↦ (visit, ap (λ xs. slice_get xs p) finished.held ∙ get_take start old.held.items p visit below at, of_v)
            | inr behind ↦
                let done = subst (IsDone new.marks.items (length old.order.items)) of_v (part_done p visit at behind) in
                let clash = one_at new.marks.items v (Held p) (Done (length old.order.items)) there done in absurd (cc)
          ]
    ];
  }

  finish_bounds : AreBounds new
  finish_bounds = record {
    bounds = left_bounds.ascending;
    within = λ bound h. omega (arith, left_bounds.below bound h, length_left);
    first = λ some. elim (left_bounds.from 0 (search.bounds.first (omega (arith, start_within)))) [
      | inl h ↦ h
      | inr same ↦ absurd (omega (arith, same, some, length_left))
    ];
    pending = subst IsAscending (sym finished.pending) search.bounds.pending;
    inside = λ p h. omega (arith, length_left, ended p (subst (λ xs. Contains xs p) finished.pending h));
  }

  finish_passed : (p v : ℕ) → IsPassed old p v → IsPassed new p v
  finish_passed p v (inl (c, done)) = inl (c, done_stays c v done)
  finish_passed p v (inr (q, held, behind)) = elim (stays_or_done v (Held q) held) [
    | inl is ↦ inr (q, is, λ bound h low. behind bound (in_taken old.bounds.items new.bounds.items start left_bounds bound h) low)
    | inr done ↦ inl (length old.order.items, done)
  ]

  finish_links : AreLinked graph stop new
  finish_links = record {
    ended = λ p now there. elim (search.links.ended p now (held_was p now there).1) [
      | inl left ↦ inl (subst (λ xs. Contains xs p) (sym finished.pending) left)
      | inr all ↦ inr all
    ];
    passed = λ p now number v there below edge free. finish_passed p v (search.links.passed p now number v (held_was p now there).1 below edge free);
    linked = λ p q a b at_a at_b behind.
        let (low, was_a) = held_was p a at_a in
        search.links.linked p q a b was_a (held_was q b at_b).1 (λ bound h small. elim (left_bounds.from bound h) [
          | inl left ↦ behind bound left small
          | inr same ↦ absurd (omega (arith, same, small, low))
        ]);
  }

  -- edges from the part lead to it or to an earlier component
  leads_back : (place : ℕ) (visit : Visit) (b : ℕ) → IsVisit old place visit → start ≤ place → Enters graph stop visit.vertex b
      → (d : ℕ) × IsDone new.marks.items d b × (d ≤ length old.order.items)
  leads_back place visit b at behind step =
      let (row, is, h) = step.0 in
      let (number, edge) = at_of row.items b h in
      let of_visit : IsEdge graph visit.vertex number b = (row, is, edge) in
      elim (search.links.ended place visit at) [
        | inl left ↦ absurd (omega (arith, ended place left, behind))
        | inr all ↦ elim (search.links.passed place visit number b at (all number b of_visit) of_visit step.1) [
          | inl (d, done) ↦ (d, done_stays d b done, omega (arith, search.components.below b d done))
          | inr (q, held, beyond) ↦
              let (target, there, of_b) = search.placed.held b q held in
              let far = beyond start (last_in old.bounds.items new.bounds.items start left_bounds) behind in
              (length old.order.items, subst (IsDone new.marks.items (length old.order.items)) of_b (part_done q target there far), omega arith)
        ]
      ]

  -- those of the part lead to one another
  part_one : (p q : ℕ) (a b : Visit) → IsVisit old p a → IsVisit old q b → start ≤ q → Reaches graph stop a.vertex b.vertex
  part_one p q a b at_a at_b behind = search.links.linked p q a b at_a at_b (λ bound h low. elim (left_bounds.from bound h) [
    | inl left ↦ omega (arith, left_bounds.below bound left, behind)
    | inr same ↦ omega (arith, same, behind)
  ])

  vertex_in_part : (v : ℕ) → Contains (map (λ (w : Visit). w.vertex) (drop start old.held.items)) v → IsDone new.marks.items (length old.order.items) v
  vertex_in_part v h =
      let (visit, there, of_v) = from_map (λ (w : Visit). w.vertex) (drop start old.held.items) v h in
      subst (IsDone new.marks.items (length old.order.items)) of_v (finished.assigned.assigned visit there)

  finish_components : AreComponents graph stop new.marks.items new.order.items
  finish_components = record {
    back = λ a b c at step. elim (was_done_or_part c a at) [
      | inl was ↦ let (d, there, low) = search.components.back a b c was step in (d, done_stays d b there, low)
      | inr (is, visit, place, there, behind, of_a) ↦
          let (d, done, low) = leads_back place visit b there behind (subst (λ v. Enters graph stop v b) (sym of_a) step) in
          (d, done, omega (arith, is, low))
    ];
    one = λ a b c at_a at_b. elim (was_done_or_part c a at_a) [
      | inl was_a ↦ elim (was_done_or_part c b at_b) [
        | inl was_b ↦ search.components.one a b c was_a was_b
        | inr (is, visit, place, there, behind, of_b) ↦ absurd (omega (arith, is, search.components.below a c was_a))
      ]
      | inr (is, visit_a, p, there_a, behind_a, of_a) ↦ elim (was_done_or_part c b at_b) [
        | inl was_b ↦ absurd (omega (arith, is, search.components.below b c was_b))
        | inr (also, visit_b, q, there_b, behind_b, of_b) ↦
            subst (λ v. Reaches graph stop v b) of_a (subst (λ v. Reaches graph stop visit_a.vertex v) of_b (part_one p q visit_a visit_b there_a there_b behind_b))
      ]
    ];
    listed = λ v c at. subst (λ xs. Contains xs v) (sym finished.assigned.order) (elim (finished.assigned.from v (Done c) at) [
      | inl was ↦ Contains-append_left old.order.items (map (λ (w : Visit). w.vertex) (drop start old.held.items)) v (search.components.listed v c was)
      | inr (is, visit, h, of_v) ↦ Contains-append_right old.order.items (map (λ (w : Visit). w.vertex) (drop start old.held.items)) v
          (subst (Contains (map (λ (w : Visit). w.vertex) (drop start old.held.items))) of_v (in_map (λ (w : Visit). w.vertex) (drop start old.held.items) visit h))
    ]);
    only = λ v h. elim (Contains-append_cases old.order.items (map (λ (w : Visit). w.vertex) (drop start old.held.items)) v
        (subst (λ xs. Contains xs v) finished.assigned.order h)) [
          | inl before ↦ let (c, at) = search.components.only v before in (c, done_stays c v at)
          | inr part ↦ (length old.order.items, vertex_in_part v part)
        ];
    ascend = λ i j a b c d before at_i at_j at_a at_b.
        let vertices = map (λ (w : Visit). w.vertex) (drop start old.held.items) in
        let there_a = subst (λ xs. slice_get xs i ≡ Some a) finished.assigned.order at_i in
        let there_b = subst (λ xs. slice_get xs j ≡ Some b) finished.assigned.order at_j in
        elim (cases_lt j (length old.order.items)) [
          | inl low ↦
              let old_a = from_front old.order.items vertices i a (omega (arith, before, low)) there_a in
              let old_b = from_front old.order.items vertices j b low there_b in
              let (e, was_a) = search.components.only a (in_of old.order.items i a old_a) in
              let (f, was_b) = search.components.only b (in_of old.order.items j b old_b) in
              let same_a = one_at new.marks.items a (Done c) (Done e) at_a (done_stays e a was_a) in
              let same_b = one_at new.marks.items b (Done d) (Done f) at_b (done_stays f b was_b) in
              let is_a : c ≡ e = cc in
              let is_b : d ≡ f = cc in
              omega (arith, is_a, is_b, search.components.ascend i j a b e f before old_a old_b was_a was_b)
          | inr high ↦
              let part_b = vertex_in_part b (from_behind old.order.items vertices j b high there_b) in
              let same = one_at new.marks.items b (Done d) (Done (length old.order.items)) at_b part_b in
              let is : d ≡ length old.order.items = cc in
              omega (arith, is, no_later c a at_a)
        ];
    below = λ v c at.
        let longer = ap length finished.assigned.order ∙ length-append old.order.items (map (λ (w : Visit). w.vertex) (drop start old.held.items)) in
        omega (arith, no_later c v at, longer, length-map (drop start old.held.items) (λ (w : Visit). w.vertex), length-drop start old.held.items, start_within);
  }

  finishes_on : IsSearch graph stop new
  finishes_on = record { placed = finish_placed; bounds = finish_bounds; links = finish_links; components = finish_components }

  pub step_by_finish : IsStep graph stop old new
  step_by_finish = record {
    search = finishes_on;
    seen = λ v (mark, at, seen). elim (finished.assigned.kept v mark at) [
      | inl is ↦ (mark, is, seen)
      | inr (visit, h, of_v) ↦ (
        Done (length old.order.items),
        subst (IsDone new.marks.items (length old.order.items)) of_v (finished.assigned.assigned visit h),
        refl,
      )
    ];
    less = omega (arith, finished.assigned.unseen, left_bounds.shorter, ap length finished.pending);
  }

-- A WHOLE STEP

-- one step behind another that leaves no more
pub step_behind : (graph : List (Vec ℕ Global)) (stop : List Bool) (old mid new : Search) → KeepsSeen old mid → work_left mid ≤ work_left old
    → IsStep graph stop mid new → IsStep graph stop old new
step_behind graph stop old mid new kept no_more step = record {
  search = step.search;
  seen = λ v seen. step.seen v (kept v seen);
  less = omega (arith, step.less, no_more);
}

pub seen_by_look : (graph : List (Vec ℕ Global)) (stop : List Bool) (place : ℕ) (old new : Search) (found : Option ℕ) → IsLooked graph stop place old new found
    → KeepsSeen old new
seen_by_look graph stop place old new found looked v (mark, at, seen) = (mark, ap (λ xs. slice_get xs v) looked.marks ∙ at, seen)

pub no_more_by_look : (graph : List (Vec ℕ Global)) (stop : List Bool) (place : ℕ) (old new : Search) (found : Option ℕ) → IsLooked graph stop place old new found
    → work_left new ≤ work_left old
no_more_by_look graph stop place old new found looked = omega (arith, ap (count_by is_unseen) looked.marks, ap length looked.pending, looked.shorter)

-- whatever is held leads to what is found
pub found_led : (graph : List (Vec ℕ Global)) (stop : List Bool) (place v : ℕ) (s : Search) → IsLooking graph stop place s → IsFound graph stop place s (Some v)
    → AllLead graph stop s v
found_led graph stop place v s looking (visit, at, step, unseen) p a there =
    let (walk, leads) = looking.search.links.linked p place a visit there at (λ bound h low. looking.last bound h) in
    (walk ++ v ∷ [], joined (Enters graph stop) a.vertex visit.vertex v walk (v ∷ []) leads (step, refl))

-- THE END

pub nothing_held : (graph : List (Vec ℕ Global)) (stop : List Bool) (s : Search) → IsSearch graph stop s → s.bounds.items ≡ [] → length s.held.items ≡ 0
nothing_held graph stop s search none = elim (cases_lt 0 (length s.held.items)) [
  | inl some ↦ absurd (in_none 0 (subst (λ xs. Contains xs 0) none (search.bounds.first some)))
  | inr empty ↦ omega (arith, empty)
]

all_lead_none : (graph : List (Vec ℕ Global)) (stop : List Bool) (s : Search) (v : ℕ) → length s.held.items ≡ 0 → AllLead graph stop s v
all_lead_none graph stop s v none place visit at = absurd (omega (arith, none, slice_get_within s.held.items place visit at))

-- where nothing is held all that was seen is in a component
pub seen_is_done : (graph : List (Vec ℕ Global)) (stop : List Bool) (s : Search) → IsSearch graph stop s → length s.held.items ≡ 0 → (v : ℕ) → IsSeen s v
    → (c : ℕ) × IsDone s.marks.items c v
seen_is_done graph stop s search none v (Unseen, at, seen) = absurd (cc)
seen_is_done graph stop s search none v (Held place, at, seen) =
    let (visit, there, of_v) = search.placed.held v place at in
    absurd (omega (arith, none, slice_get_within s.held.items place visit there))
seen_is_done graph stop s search none v (Done c, at, seen) = (c, at)

-- ALONG THE EDGES OF A PLACE

pub visit_within : (graph : List (Vec ℕ Global)) (stop : List Bool) (place : ℕ) (s : Search) (visit : Visit) → IsLooking graph stop place s → IsVisit s place visit
    → visit.vertex < length graph
visit_within graph stop place s visit looking at =
    omega (arith, looking.search.placed.sized, slice_get_within s.marks.items visit.vertex (Held place) (looking.search.placed.marked place visit at))

-- the edges of a place in front of this one were looked along
pub record IsLookedTo (graph : List (Vec ℕ Global)) (stop : List Bool) (place : ℕ) (visit : Visit) (next : ℕ) (old new : Search) : Type 0 where
  pub looking : IsLooking graph stop place new
  pub here : IsVisit new place (record { vertex = visit.vertex; next = next })
  pub marks : new.marks.items ≡ old.marks.items
  pub pending : new.pending.items ≡ old.pending.items
  pub shorter : length new.bounds.items ≤ length old.bounds.items

pub looks_first : (graph : List (Vec ℕ Global)) (stop : List Bool) (place : ℕ) (visit : Visit) (s : Search) → IsLooking graph stop place s → IsVisit s place visit
    → IsLookedTo graph stop place visit visit.next s s
looks_first graph stop place visit s looking at = record { looking = looking; here = at; marks = refl; pending = refl; shorter = omega arith }

module _ (graph : List (Vec ℕ Global)) (stop : List Bool) (place : ℕ) (visit : Visit) (next v : ℕ) (row : Vec ℕ Global) (old mid new : Search)
    (looked : IsLookedTo graph stop place visit next old mid) (is_row : slice_get graph visit.vertex ≡ Some row) (is_next : slice_get row.items next ≡ Some v) where
  the_edge : (w : ℕ) → IsEdge graph visit.vertex next w → w ≡ v
  the_edge w (other, there, at) = one_at row.items next w v (subst (λ (r : Vec ℕ Global). slice_get r.items next ≡ Some w) (one_at graph visit.vertex other row there is_row) at) is_next

  pub the_step : IsUnmarked stop v → Enters graph stop visit.vertex v
  the_step free = ((row, is_row, in_of row.items next v is_next), free)

  -- the edge is behind the next one
  pub looks_past : new.held.items ≡ set mid.held.items place (record { vertex = visit.vertex; next = next + 1 }) → new.marks.items ≡ mid.marks.items
      → new.bounds.items ≡ mid.bounds.items → new.pending.items ≡ mid.pending.items → new.order.items ≡ mid.order.items
      → (IsUnmarked stop v → IsPassed mid place v) → IsLookedTo graph stop place visit (next + 1) old new
  looks_past held marks bounds pending order passes =
      let now : Visit = record { vertex = visit.vertex; next = next } in
      let edge = λ (w : ℕ) (is : IsEdge graph visit.vertex next w) (free : IsUnmarked stop w).
      subst (IsPassed mid place) (sym (the_edge w is)) (passes (subst (IsUnmarked stop) (the_edge w is) free)) in
      record {
        looking = looks_on graph stop place mid new now looked.looking looked.here held marks bounds pending order edge;
        here = looked_visit graph stop place mid new now looked.looking looked.here held marks bounds pending order edge;
        marks = marks ∙ looked.marks;
        pending = pending ∙ looked.pending;
        shorter = omega (arith, ap length bounds, looked.shorter);
      }

-- the parts up to this one are merged
pub looks_merged : (graph : List (Vec ℕ Global)) (stop : List Bool) (place : ℕ) (visit : Visit) (next v before : ℕ) (old mid new : Search)
    → IsLookedTo graph stop place visit next old mid → Enters graph stop visit.vertex v → IsMark mid (Held before) v → new.held.items ≡ mid.held.items
    → new.marks.items ≡ mid.marks.items → IsMerged before mid.bounds.items new.bounds.items → new.pending.items ≡ mid.pending.items
    → new.order.items ≡ mid.order.items → IsLookedTo graph stop place visit next old new × IsPassed new place v
looks_merged graph stop place visit next v before old mid new looked step marked held marks merged pending order =
    let now : Visit = record { vertex = visit.vertex; next = next } in (
      record {
        looking = merges_on graph stop place mid new now looked.looking looked.here before v step marked held marks merged pending order;
        here = ap (λ xs. slice_get xs place) held ∙ looked.here;
        marks = marks ∙ looked.marks;
        pending = pending ∙ looked.pending;
        shorter = omega (arith, merged.shorter, looked.shorter);
      },
      merge_passes graph stop place mid new now looked.looking looked.here before v step marked held marks merged pending order,
    )

-- no edge is left
pub looked_all : (graph : List (Vec ℕ Global)) (stop : List Bool) (place : ℕ) (visit : Visit) (next : ℕ) (row : Vec ℕ Global) (old new : Search)
    → slice_get graph visit.vertex ≡ Some row → length row.items ≤ next → IsLookedTo graph stop place visit next old new → IsLooked graph stop place old new None
looked_all graph stop place visit next row old new is_row long looked = record {
  looking = looked.looking;
  marks = looked.marks;
  pending = looked.pending;
  shorter = looked.shorter;
  leads = λ now at number v (other, there, edge).
      let is = one_at new.held.items place now (record { vertex = visit.vertex; next = next }) at looked.here in
      let same = one_at graph visit.vertex other row (subst (λ (w : Visit). slice_get graph w.vertex ≡ Some other) is there) is_row in
      let inside = slice_get_within row.items number v (subst (λ (r : Vec ℕ Global). slice_get r.items number ≡ Some v) same edge) in
      omega (arith, inside, long, ap (λ (w : Visit). w.next) is);
}

-- an edge leads to a vertex that wasn't seen
pub looked_unseen : (graph : List (Vec ℕ Global)) (stop : List Bool) (place : ℕ) (visit : Visit) (next v : ℕ) (old new : Search)
    → IsLookedTo graph stop place visit next old new → Enters graph stop visit.vertex v → IsMark new Unseen v → IsLooked graph stop place old new (Some v)
looked_unseen graph stop place visit next v old new looked step unseen = record {
  looking = looked.looking;
  marks = looked.marks;
  pending = looked.pending;
  shorter = looked.shorter;
  leads = (record { vertex = visit.vertex; next = next }, looked.here, step, unseen);
}

-- what is read of a mark
pub mark_read : (graph : List (Vec ℕ Global)) (stop : List Bool) (place : ℕ) (visit : Visit) (next v : ℕ) (read mark : Mark) (old s : Search)
    → IsLookedTo graph stop place visit next old s → v < length graph → read ≡ get_or s.marks.items v read → read ≡ mark → IsMark s mark v
mark_read graph stop place visit next v read mark old s looked inside is same =
    read_at s.marks.items v read (omega (arith, looked.looking.search.placed.sized, inside)) is ∙ ap (λ m. Some m) same

-- the place is in the last part
pub looking_at : (graph : List (Vec ℕ Global)) (stop : List Bool) (start place : ℕ) (s : Search) → IsSearch graph stop s
    → slice_get s.bounds.items (length s.bounds.items - 1) ≡ Some start → IsToLook start s.pending.items (Some place) → IsLooking graph stop place s
looking_at graph stop start place s search last (behind, at) = record {
  search = search;
  within = search.bounds.inside place (in_of s.pending.items (length s.pending.items - 1) place at);
  last = λ bound h. omega (arith, behind, last_greatest s.bounds.items start search.bounds.bounds last bound h);
}

-- FROM A VERTEX ON

pub record IsExploring (graph : List (Vec ℕ Global)) (stop : List Bool) (vertex : ℕ) (old new : Search) : Type 0 where
  pub search : IsSearch graph stop new
  pub seen : KeepsSeen old new
  pub found : IsSeen new vertex

pub explores_first : (graph : List (Vec ℕ Global)) (stop : List Bool) (vertex : ℕ) (old new : Search) → IsSearch graph stop old → length old.held.items ≡ 0
    → IsMark old Unseen vertex → IsHolding vertex old new → IsExploring graph stop vertex old new
explores_first graph stop vertex old new search none unseen holding =
    let step = step_by_hold graph stop old new vertex search unseen holding (all_lead_none graph stop old vertex none) in
    record { search = step.search; seen = step.seen; found = seen_by_hold graph stop old new vertex search unseen holding }

-- ALL VERTICES

pub record IsExploredTo (graph : List (Vec ℕ Global)) (stop : List Bool) (count : ℕ) (s : Search) : Type 0 where
  pub search : IsSearch graph stop s
  pub ended : length s.held.items ≡ 0
  pub seen : (v : ℕ) → v < count → IsSeen s v

pub explored_none : (graph : List (Vec ℕ Global)) (stop : List Bool) (count : ℕ) (s : Search) → count ≡ length graph → IsCleared count s → IsExploredTo graph stop 0 s
explored_none graph stop count s sized cleared = record {
  search = search_begins graph stop count s sized cleared;
  ended = ap length cleared.held;
  seen = λ v small. absurd (omega (arith, small));
}

pub explored_more : (graph : List (Vec ℕ Global)) (stop : List Bool) (count : ℕ) (old new : Search) → IsExploredTo graph stop count old
    → IsExplored graph stop count old new → IsExploredTo graph stop (count + 1) new
explored_more graph stop count old new before more = record {
  search = more.search;
  ended = more.ended;
  seen = λ v small. elim (cases_eq v count) [
    | inl same ↦ subst (IsSeen new) (sym same) more.found
    | inr other ↦ more.seen v (before.seen v (omega (arith, small, other)))
  ];
}

pub explored_known : (graph : List (Vec ℕ Global)) (stop : List Bool) (count : ℕ) (s : Search) → IsExploredTo graph stop count s → IsSeen s count
    → IsExploredTo graph stop (count + 1) s
explored_known graph stop count s before seen = record {
  search = before.search;
  ended = before.ended;
  seen = λ v small. elim (cases_eq v count) [
    | inl same ↦ subst (IsSeen s) (sym same) seen
    | inr other ↦ before.seen v (omega (arith, small, other))
  ];
}

pub explored_all : (graph : List (Vec ℕ Global)) (stop : List Bool) (count : ℕ) (s : Search) → length graph ≤ count → IsExploredTo graph stop count s
    → (found : Components) → found.marks.items ≡ s.marks.items → found.order.items ≡ s.order.items → AreAllComponents graph stop found
explored_all graph stop count s long all found marks order = record {
  sized = ap length marks ∙ all.search.placed.sized;
  components = subst (λ xs. AreComponents graph stop xs found.order.items) (sym marks) (subst (AreComponents graph stop s.marks.items) (sym order) all.search.components);
  all = λ v small.
      let (c, done) = seen_is_done graph stop s all.search all.ended v (all.seen v (omega (arith, small, long))) in
      (c, ap (λ xs. slice_get xs v) marks ∙ done);
}

pub not_unseen : (mark : Mark) → (mark ≡ Unseen → ⊥) → is_unseen mark ≡ false
not_unseen Unseen other = absurd (other refl)
not_unseen (Held place) other = refl
not_unseen (Done component) other = refl
