-- Levels of distances.
use Rattle.std.proofs.Common.{◌≡◌, ℕ, ◌+◌, ◌<◌, ◌≤◌, Bool, true, false, Option, None, Some, List, [], ◌∷◌, ◌++◌, length, refl, replicate, map, set, take, ap, sym, ◌∙◌, subst, inl, inr, arith, length-append, length-set}
use Rattle.std.proofs.lemmas.List.{length-map, length-replicate}
use Rattle.std.proofs.lemmas.Option.{slice_get-map, slice_get_within}
use Rattle.plain_lemmas.specs.Members.{in_none}
use Rattle.std.specs.Prelude.{◌⊎◌, Contains, Vec, count_by, is_none, is_some, option_map, slice_get}
use Rattle.std.specs.declared.alloc.Global.{Global}
use Rattle.std.proofs.lemmas.Bool.{cases_eq, cases_lt}
use Rattle.std.proofs.lemmas.List.Elements.{Contains-push, Contains-push_cases, Contains-append_left}
use Rattle.plain_lemmas.specs.Cases.{mapped, same_Some}
use Rattle.graph_walks.specs.Graphs.{GoesOn, IsGraph, IsMarked, IsUnmarked, Leads}
use Rattle.graph_walks.specs.Levels.{IsAt, IsFirstLevel, IsLedFrom, IsLevel, IsSpread, left_in}
use Rattle.graph_walks.specs.Reached.{AreDistances, AreReached, IsDistance, IsReached}
use Rattle.graph_walks.specs.declared.levels.Level.{Level}
use Rattle.graph_walks.proofs.ListLemmas.{count_all, from_replicate, from_set, get_set, get_set_other, in_before, in_last, in_more, one_at, one_fewer, some_at}
use Rattle.graph_walks.proofs.WalkLemmas.{one_more}

-- ONE VERTEX IS LED TO

-- it has a distance
pub spread_none : (level : Level) (v distance : ℕ) (here : Option ℕ) → slice_get level.distances.items v ≡ Some here → is_some here ≡ true
    → IsSpread (λ w. w ≡ v) distance level level
spread_none level v distance None is known = absurd (cc)
spread_none level v distance (Some d) is known = record {
  sized = refl;
  kept = λ w e at. at;
  made = λ w e at. inl at;
  stays = λ w h. h;
  front = λ w h. inl h;
  led = λ w same. (d, subst (λ u. IsAt level d u) (sym same) is);
  counted = refl;
}

-- it has none
pub spread_new : (old new : Level) (v distance : ℕ) (here : Option ℕ) → slice_get old.distances.items v ≡ Some here → is_some here ≡ false
    → v < length old.distances.items
    → new.distances.items ≡ set old.distances.items v (Some distance) → new.front.items ≡ old.front.items ++ v ∷ []
    → IsSpread (λ w. w ≡ v) distance old new
spread_new old new v distance (Some d) is unknown small distances front = absurd (cc)
spread_new old new v distance None is unknown small distances front =
    let before = old.distances.items in
    let at : (w e : ℕ) → slice_get (set before v (Some distance)) w ≡ Some (Some e) → IsAt new e w
    = λ w e there. ap (λ xs. slice_get xs w) distances ∙ there in
    let here : IsAt new distance v = at v distance (get_set before v (Some distance) small) in
    let stands : Contains new.front.items v = subst (λ xs. Contains xs v) (sym front) (Contains-push old.front.items v) in
    let fewer = one_fewer is_none before v (Some distance) None is refl refl in
    record {
      sized = ap length distances ∙ length-set before v (Some distance);
      kept = λ w e there. elim (cases_eq w v) [
        | inl same ↦ absurd (cc (is, ap (slice_get before) same, there))
        | inr other ↦ at w e (get_set_other before v w (Some distance) other ∙ there)
      ];
      made = λ w e there. elim (from_set before v w (Some distance) (Some e) small (sym (ap (λ xs. slice_get xs w) distances) ∙ there)) [
        | inl (same, is_new) ↦ inr (same_Some is_new, subst (λ u. Contains new.front.items u) (sym same) stands, same)
        | inr (other, was) ↦ inl was
      ];
      stays = λ w h. subst (λ xs. Contains xs w) (sym front) (Contains-append_left old.front.items (v ∷ []) w h);
      front = λ w h. elim (Contains-push_cases old.front.items v w (subst (λ xs. Contains xs w) front h)) [
        | inl before ↦ inl before
        | inr same ↦ inr (subst (λ u. IsAt new distance u) same here)
      ];
      led = λ w same. (distance, subst (λ u. IsAt new distance u) (sym same) here);
      counted = omega (arith, fewer, ap (count_by is_none) distances, ap length front, length-append old.front.items (v ∷ []));
    }

-- SEVERAL

-- one spread behind another
pub spread_on : (First Second Both : ℕ → Type 0) (distance : ℕ) (old mid new : Level) → IsSpread First distance old mid → IsSpread Second distance mid new
    → ((v : ℕ) → First v → Both v) → ((v : ℕ) → Second v → Both v) → ((v : ℕ) → Both v → First v ⊎ Second v) → IsSpread Both distance old new
spread_on First Second Both distance old mid new first second of_first of_second parts = record {
  sized = second.sized ∙ first.sized;
  kept = λ v d at. second.kept v d (first.kept v d at);
  made = λ v d at. elim (second.made v d at) [
    | inl before ↦ elim (first.made v d before) [
      | inl old_one ↦ inl old_one
      | inr (is, stands, led) ↦ inr (is, second.stays v stands, of_first v led)
    ]
    | inr (is, stands, led) ↦ inr (is, stands, of_second v led)
  ];
  stays = λ v h. second.stays v (first.stays v h);
  front = λ v h. elim (second.front v h) [
    | inl before ↦ elim (first.front v before) [
      | inl old_one ↦ inl old_one
      | inr is ↦ inr (second.kept v distance is)
    ]
    | inr is ↦ inr is
  ];
  led = λ v both. elim (parts v both) [
    | inl one ↦ let (d, at) = first.led v one in (d, second.kept v d at)
    | inr two ↦ second.led v two
  ];
  counted = second.counted ∙ first.counted;
}

-- of the same vertices
pub spread_same : (First Other : ℕ → Type 0) (distance : ℕ) (old new : Level) → IsSpread First distance old new
    → ((v : ℕ) → First v → Other v) → ((v : ℕ) → Other v → First v) → IsSpread Other distance old new
spread_same First Other distance old new spread there back = record {
  sized = spread.sized;
  kept = spread.kept;
  made = λ v d at. elim (spread.made v d at) [ inl before ↦ inl before | inr (is, stands, led) ↦ inr (is, stands, there v led) ];
  stays = spread.stays;
  front = spread.front;
  led = λ v other. spread.led v (back v other);
  counted = spread.counted;
}

-- ALONG A LIST

pub spread_to_next : (old mid new : Level) (distance n : ℕ) (row : List ℕ) (next : ℕ) → slice_get row n ≡ Some next
    → IsSpread (Contains (take n row)) distance old mid → IsSpread (λ v. v ≡ next) distance mid new → IsSpread (Contains (take (n + 1) row)) distance old new
spread_to_next old mid new distance n row next is first second =
    spread_on (Contains (take n row)) (λ v. v ≡ next) (Contains (take (n + 1) row)) distance old mid new first second
    (λ v h. in_before n row v h) (λ v same. subst (Contains (take (n + 1) row)) (sym same) (in_last n row next is)) (λ v h. in_more n row next is v h)

-- FROM A FRONT

-- the next one is no stop
pub spread_from_next : (graph : List (Vec ℕ Global)) (stop : List Bool) (old mid new : Level) (distance n : ℕ) (front : List ℕ) (a : ℕ) (row : Vec ℕ Global)
    → slice_get front n ≡ Some a → slice_get graph a ≡ Some row → IsUnmarked stop a → IsSpread (IsLedFrom graph stop (take n front)) distance old mid
    → IsSpread (Contains row.items) distance mid new → IsSpread (IsLedFrom graph stop (take (n + 1) front)) distance old new
spread_from_next graph stop old mid new distance n front a row is at free first second =
    spread_on (IsLedFrom graph stop (take n front)) (Contains row.items) (IsLedFrom graph stop (take (n + 1) front)) distance old mid new first second
    (λ v (b, h, step). (b, in_before n front b h, step))
    (λ v h. (a, in_last n front a is, (free, (row, at, h))))
    (λ v (b, h, step). elim (in_more n front a is b h) [
      | inl before ↦ inl (b, before, step)
      | inr same ↦
          let (other, there, in_other) = step.1 in
          inr (subst (λ (r : Vec ℕ Global). Contains r.items v) (one_at graph a other row (subst (λ u. slice_get graph u ≡ Some other) same there) at) in_other)
    ])

-- the next one is a stop
pub spread_from_stop : (graph : List (Vec ℕ Global)) (stop : List Bool) (old new : Level) (distance n : ℕ) (front : List ℕ) (a : ℕ)
    → slice_get front n ≡ Some a → IsMarked stop a → IsSpread (IsLedFrom graph stop (take n front)) distance old new
    → IsSpread (IsLedFrom graph stop (take (n + 1) front)) distance old new
spread_from_stop graph stop old new distance n front a is stops spread =
    spread_same (IsLedFrom graph stop (take n front)) (IsLedFrom graph stop (take (n + 1) front)) distance old new spread
    (λ v (b, h, step). (b, in_before n front b h, step))
    (λ v (b, h, step). elim (in_more n front a is b h) [
      | inl before ↦ (b, before, step)
      | inr same ↦ absurd (cc (step.0, ap (slice_get stop) same, stops))
    ])

-- THE FIRST LEVEL

-- those of the first so many vertices that are starts
pub record IsBegun (from : List Bool) (n : ℕ) (level : Level) : Type 0 where
  pub sized : length level.distances.items ≡ length from
  pub starts : (v : ℕ) → v < n → IsMarked from v → IsAt level 0 v
  pub only : (v d : ℕ) → IsAt level d v → (d ≡ 0) × Contains level.front.items v × IsMarked from v
  pub front : (v : ℕ) → Contains level.front.items v → IsAt level 0 v
  pub counted : left_in level ≡ length from

pub begins : (from : List Bool) (level : Level) (n : ℕ) → n ≡ length from → level.distances.items ≡ replicate n None → level.front.items ≡ [] → IsBegun from 0 level
begins from level n sized distances front = record {
  sized = ap length distances ∙ length-replicate n None ∙ sized;
  starts = λ v below marked. absurd (omega arith);
  only = λ v d at. let none = from_replicate n v None (Some d) (sym (ap (λ xs. slice_get xs v) distances) ∙ at) in absurd (cc);
  front = λ v h. absurd (in_none v (subst (λ xs. Contains xs v) front h));
  counted = let all = ap (count_by is_none) distances ∙ count_all is_none n None refl in omega (arith, all, ap length front, sized);
}

pub begins_more : (from : List Bool) (n : ℕ) (mid new : Level) → IsMarked from n → IsBegun from n mid → IsSpread (λ v. v ≡ n) 0 mid new → IsBegun from (n + 1) new
begins_more from n mid new marked begun spread = record {
  sized = spread.sized ∙ begun.sized;
  starts = λ v below is. elim (cases_lt v n) [
    | inl before ↦ spread.kept v 0 (begun.starts v before is)
    | inr last ↦
        let same : v ≡ n = omega (arith, below, last) in
        let (d, at) = spread.led v same in
        elim (spread.made v d at) [
          | inl old ↦ subst (λ e. IsAt new e v) (begun.only v d old).0 at
          | inr (zero, stands, led) ↦ subst (λ e. IsAt new e v) zero at
        ]
  ];
  only = λ v d at. elim (spread.made v d at) [
    | inl old ↦ let (zero, stands, is) = begun.only v d old in (zero, spread.stays v stands, is)
    | inr (zero, stands, same) ↦ (zero, stands, subst (IsMarked from) (sym same) marked)
  ];
  front = λ v h. elim (spread.front v h) [ inl old ↦ spread.kept v 0 (begun.front v old) | inr at ↦ at ];
  counted = spread.counted ∙ begun.counted;
}

pub begins_past : (from : List Bool) (n : ℕ) (level : Level) → IsUnmarked from n → IsBegun from n level → IsBegun from (n + 1) level
begins_past from n level unmarked begun = record {
  sized = begun.sized;
  starts = λ v below is. elim (cases_lt v n) [
    | inl before ↦ begun.starts v before is
    | inr last ↦ let same : v ≡ n = omega (arith, below, last) in absurd (cc (is, ap (slice_get from) same, unmarked))
  ];
  only = begun.only;
  front = begun.front;
  counted = begun.counted;
}

pub has_begun : (from : List Bool) (n : ℕ) (level : Level) → length from ≤ n → IsBegun from n level → IsFirstLevel from level
has_begun from n level long begun = record {
  sized = begun.sized;
  starts = λ v is. begun.starts v (omega (arith, long, slice_get_within from v true is)) is;
  only = begun.only;
  front = begun.front;
  counted = begun.counted;
}

-- LEVEL BY LEVEL

module _ (graph : List (Vec ℕ Global)) (from stop : List Bool) where
  pub first_level : (level : Level) → length from ≡ length graph → IsFirstLevel from level → IsLevel graph from stop 0 level
  first_level level same first = record {
    sized = first.sized ∙ same;
    walks = λ v d at.
        let (zero, stands, marked) = first.only v d at in (
          omega (arith, zero),
          record { walk = []; reached = record { start = v; is_start = marked; leads = refl }; long = sym zero },
        );
    starts = first.starts;
    goes_on = λ a b d at below step. absurd (omega (arith, below));
    front = λ v at. (first.only v 0 at).1;
    at_distance = first.front;
    counted = omega (arith, first.counted, same);
  }

  pub next_level : (distance : ℕ) (old cleared new : Level) → IsLevel graph from stop distance old → cleared.distances.items ≡ old.distances.items
      → cleared.front.items ≡ [] → 0 < length old.front.items → IsSpread (IsLedFrom graph stop old.front.items) (distance + 1) cleared new
      → IsLevel graph from stop (distance + 1) new
  next_level distance old cleared new level same empty some spread =
      let was : (d v : ℕ) → IsAt cleared d v → IsAt old d v = λ d v at. subst (λ xs. slice_get xs v ≡ Some (Some d)) same at in
      let keeps : (d v : ℕ) → IsAt old d v → IsAt new d v = λ d v at. spread.kept v d (subst (λ xs. slice_get xs v ≡ Some (Some d)) (sym same) at) in
      record {
        sized = spread.sized ∙ ap length same ∙ level.sized;
        walks = λ v d at. elim (spread.made v d at) [
          | inl before ↦ let (near, walk) = level.walks v d (was d v before) in (omega (arith, near), walk)
          | inr (is, stands, led) ↦
              let (a, h, step) = led in
              let (near, known) = level.walks a distance (level.at_distance a h) in
              let reached = known.reached in (
                omega (arith, is),
                record {
                  walk = known.walk ++ v ∷ [];
                  reached = record { start = reached.start; is_start = reached.is_start; leads = one_more (GoesOn graph stop) reached.start a v known.walk reached.leads step };
                  long = omega (arith, length-append known.walk (v ∷ []), known.long, is);
                },
              )
        ];
        starts = λ v marked. keeps 0 v (level.starts v marked);
        goes_on = λ a b d at below step. elim (spread.made a d at) [
          | inr (is, stands, led) ↦ absurd (omega (arith, is, below))
          | inl before ↦ elim (cases_lt d distance) [
            | inl near ↦ let (e, there, short) = level.goes_on a b d (was d a before) near step in (e, keeps e b there, short)
            | inr far ↦
                let last : d ≡ distance = omega (arith, below, far) in
                let h = level.front a (subst (λ k. IsAt old k a) last (was d a before)) in
                let (e, there) = spread.led b (a, h, step) in
                elim (spread.made b e there) [
                  | inl known ↦ let (near, walk) = level.walks b e (was e b known) in (e, there, omega (arith, near, last))
                  | inr (is, stands, led) ↦ (e, there, omega (arith, is, last))
                ]
          ]
        ];
        front = λ v at. elim (spread.made v (distance + 1) at) [
          | inl before ↦ let (near, walk) = level.walks v (distance + 1) (was (distance + 1) v before) in absurd (omega (arith, near))
          | inr (is, stands, led) ↦ stands
        ];
        at_distance = λ v h. elim (spread.front v h) [
          | inl before ↦ absurd (in_none v (subst (λ xs. Contains xs v) empty before))
          | inr at ↦ at
        ];
        counted = omega (arith, spread.counted, level.counted, ap (count_by is_none) same, ap length empty, some);
      }

  -- fewer are left
  pub fewer_left : (distance : ℕ) (old cleared new : Level) → cleared.distances.items ≡ old.distances.items
      → cleared.front.items ≡ [] → 0 < length old.front.items → IsSpread (IsLedFrom graph stop old.front.items) (distance + 1) cleared new
      → left_in new < left_in old
  fewer_left distance old cleared new same empty some spread = omega (arith, spread.counted, ap (count_by is_none) same, ap length empty, some)

  -- behind the last level each walk stays among the vertices that have their distance
  kept_along : (distance : ℕ) (level : Level) → IsLevel graph from stop distance level → level.front.items ≡ [] → (a d v : ℕ) (walk : List ℕ) → IsAt level d a
      → Leads (GoesOn graph stop) a walk v → (e : ℕ) × IsAt level e v × (e ≤ d + length walk)
  kept_along distance level is empty a d v [] at leads = (d, subst (λ u. IsAt level d u) leads at, omega arith)
  kept_along distance level is empty a d v (next ∷ behind) at leads =
      let (near, walk) = is.walks a d at in
      elim (cases_eq d distance) [
        | inl last ↦ absurd (in_none a (subst (λ xs. Contains xs a) empty (is.front a (subst (λ k. IsAt level k a) last at))))
        | inr other ↦
            let (e, there, short) = is.goes_on a next d at (omega (arith, near, other)) leads.0 in
            let (f, end, long) = kept_along distance level is empty next e v behind there leads.1 in
            (f, end, omega (arith, short, long))
      ]

  reached_at : (distance : ℕ) (level : Level) → IsLevel graph from stop distance level → level.front.items ≡ [] → (v : ℕ) (walk : List ℕ) → IsReached graph from stop walk v
      → (e : ℕ) × IsAt level e v × (e ≤ length walk)
  reached_at distance level is empty v walk reached =
      let (e, at, long) = kept_along distance level is empty reached.start 0 v walk (is.starts reached.start reached.is_start) reached.leads in
      (e, at, omega (arith, long))

  distance_of : (distance : ℕ) (level : Level) → IsLevel graph from stop distance level → level.front.items ≡ [] → (v : ℕ) (known : Option ℕ)
      → slice_get level.distances.items v ≡ Some known → IsDistance graph from stop v known
  distance_of distance level is empty v None none = λ walk reached.
      let (e, at, long) = reached_at distance level is empty v walk reached in
      let clash = same_Some (sym none ∙ at) in absurd (cc)
  distance_of distance level is empty v (Some d) at = (
    (is.walks v d at).1,
    λ walk reached.
        let (e, there, long) = reached_at distance level is empty v walk reached in
        let same : d ≡ e = same_Some (same_Some (sym at ∙ there)) in omega (arith, same, long),
  )

  pub last_level : (distance : ℕ) (level : Level) → IsLevel graph from stop distance level → level.front.items ≡ []
      → AreDistances graph from stop level.distances.items
  last_level distance level is empty = record { sized = is.sized; exact = distance_of distance level is empty }

  -- MARKS

  -- a walk of edges stays among the vertices
  led_within : IsGraph graph → (a v : ℕ) (walk : List ℕ) → a < length graph → Leads (GoesOn graph stop) a walk v → v < length graph
  led_within formed a v [] inside leads = subst (λ n. n < length graph) leads inside
  led_within formed a v (next ∷ behind) inside leads = led_within formed next v behind (formed a next leads.0.1) leads.1

  has_known : (distances : List (Option ℕ)) → AreDistances graph from stop distances → (v : ℕ) (known : Option ℕ) → slice_get distances v ≡ Some known
      → is_some known ≡ true → (walk : List ℕ) × IsReached graph from stop walk v
  has_known distances exact v None at known = absurd (cc)
  has_known distances exact v (Some d) at known = let walk = (exact.exact v (Some d) at).0 in (walk.walk, walk.reached)

  known_where : (distances : List (Option ℕ)) → AreDistances graph from stop distances → (v : ℕ) (walk : List ℕ) → IsReached graph from stop walk v
      → (known : Option ℕ) → slice_get distances v ≡ Some known → is_some known ≡ true
  known_where distances exact v walk reached None at = absurd (exact.exact v None at walk reached)
  known_where distances exact v walk reached (Some d) at = refl

  pub marks_of : (distances : List (Option ℕ)) (marks : List Bool) → IsGraph graph → length from ≡ length graph → AreDistances graph from stop distances
      → marks ≡ map is_some distances → AreReached graph from stop marks
  marks_of distances marks formed sized exact same =
      let seen : (v : ℕ) → slice_get marks v ≡ option_map is_some (slice_get distances v) = λ v. ap (λ xs. slice_get xs v) same ∙ slice_get-map is_some distances v in
      record {
        sized = ap length same ∙ length-map distances is_some ∙ exact.sized;
        exact = λ v. (
          λ marked. let (known, at, is) = mapped is_some (slice_get distances v) true (sym (seen v) ∙ marked) in has_known distances exact v known at is,
          λ (walk, reached).
              let inside : reached.start < length graph = omega (arith, sized, slice_get_within from reached.start true reached.is_start) in
              let there : v < length distances = omega (arith, exact.sized, led_within formed reached.start v walk inside reached.leads) in
              let (known, at) = some_at distances v there in
              seen v ∙ ap (option_map is_some) at ∙ ap (λ b. Some b) (known_where distances exact v walk reached known at),
        );
      }
