-- Legs, and the greatest of what they cost.
use Rattle.std.proofs.Common.{◌≡◌, ℕ, ◌+◌, ◌*◌, ◌<◌, ◌≤◌, Bool, true, false, max, Option, None, Some, List, [], ◌∷◌, get_or, length, refl, replicate, set, take, take_all, ap, sym, ◌∙◌, subst, inl, inr, arith, length-set}
use Rattle.std.specs.Prelude.{Contains, IfSome, Vec, if◌then◌else◌, option_map, slice_get, slice_index, slice_index_or}
use Rattle.std.specs.declared.alloc.Global.{Global}
use Rattle.std.proofs.lemmas.Bool.{cases_eq, cases_lt}
use Rattle.std.proofs.lemmas.List.{get_or_past, length-replicate}
use Rattle.std.proofs.lemmas.List.Elements.{Contains-get_or}
use Rattle.std.proofs.lemmas.Option.{get_or_from_slice_get, slice_get_within}
use Rattle.plain_lemmas.specs.Cases.{mapped, same_Some}
use Rattle.graph_walks.specs.Circles.{HasNoCircle}
use Rattle.graph_walks.specs.Components.{AreAllComponents, IsDone}
use Rattle.graph_walks.specs.Graphs.{Enters, HasEdge, IsGraph, IsMarked, IsUnmarked}
use Rattle.graph_walks.specs.Greatest.{IsGreatest, greater, left_behind}
use Rattle.graph_walks.specs.Legs.{AreLongest, HasLeg, IsLeg, IsLongest, leg_cost}
use Rattle.graph_walks.specs.declared.components.Components.{Components}
use Rattle.graph_walks.specs.declared.components.Mark.TheVariants.{Done}
use Rattle.graph_walks.proofs.ListLemmas.{at_of, from_replicate, from_set, get_set, get_set_other, get_take, in_all, in_before, in_last, in_more, in_of, none_in_front, one_at, some_at, value_at}

-- THE GREATEST OF A ROW

greatest_with : (left : ℕ → Option ℕ) (row : List ℕ) (n v : ℕ) (most here : Option ℕ) → slice_get row n ≡ Some v → left v ≡ here → IsGreatest left (take n row) most
    → IsGreatest left (take (n + 1) row) (greater most here)
greatest_with left row n v None None is same so_far = λ w h. elim (in_more n row v is w h) [
  | inl before ↦ so_far w before
  | inr last ↦ ap left last ∙ same
]
greatest_with left row n v None (Some b) is same so_far = (
  (v, in_last n row v is, same),
  λ w cost h at. elim (in_more n row v is w h) [
    | inl before ↦ let clash = sym at ∙ so_far w before in absurd (cc)
    | inr last ↦ let equal : cost ≡ b = same_Some (sym at ∙ ap left last ∙ same) in omega (arith, equal)
  ],
)
greatest_with left row n v (Some a) None is same so_far = (
  (so_far.0.0, in_before n row so_far.0.0 so_far.0.1, so_far.0.2),
  λ w cost h at. elim (in_more n row v is w h) [
    | inl before ↦ so_far.1 w cost before at
    | inr last ↦ let clash = sym at ∙ ap left last ∙ same in absurd (cc)
  ],
)
greatest_with left row n v (Some a) (Some b) is same so_far = (
  elim (cases_lt a b) [
    | inl less ↦ let equal : b ≡ max a b = omega (arith, less) in (v, in_last n row v is, same ∙ ap (λ x. Some x) equal)
    | inr more ↦ let equal : a ≡ max a b = omega (arith, more) in (so_far.0.0, in_before n row so_far.0.0 so_far.0.1, so_far.0.2 ∙ ap (λ x. Some x) equal)
  ],
  λ w cost h at. elim (in_more n row v is w h) [
    | inl before ↦ omega (arith, so_far.1 w cost before at)
    | inr last ↦ let equal : cost ≡ b = same_Some (sym at ∙ ap left last ∙ same) in omega (arith, equal)
  ],
)

pub greatest_more : (left : ℕ → Option ℕ) (row : List ℕ) (n v : ℕ) (most : Option ℕ) → slice_get row n ≡ Some v → IsGreatest left (take n row) most
    → IsGreatest left (take (n + 1) row) (greater most (left v))
greatest_more left row n v most is so_far = greatest_with left row n v most (left v) is refl so_far

-- WHAT IS LEFT BEHIND AN EDGE

left_at_stop : (stop : List Bool) (longest : List (Option ℕ)) (v : ℕ) → IsMarked stop v → left_behind stop longest v ≡ Some 0
left_at_stop stop longest v marked = ap (λ b. if b then Some 0 else slice_index_or longest v None) (get_or_from_slice_get stop v true false marked)

left_at_free : (stop : List Bool) (longest : List (Option ℕ)) (v : ℕ) (known : Option ℕ) → IsUnmarked stop v → slice_get longest v ≡ Some known
    → left_behind stop longest v ≡ known
left_at_free stop longest v known free at =
    ap (λ b. if b then Some 0 else slice_index_or longest v None) (get_or_from_slice_get stop v false false free) ∙ get_or_from_slice_get longest v known None at

-- A VERTEX BEHIND THOSE THAT IT LEADS TO

-- what the costs are of those that are known
pub record AreKnown (graph : List (Vec ℕ Global)) (costs : List ℕ) (stop : List Bool) (known : ℕ → Type 0) (longest : List (Option ℕ)) : Type 0 where
  pub sized : length longest ≡ length graph
  pub exact : (v : ℕ) → known v → (cost : Option ℕ) × (slice_get longest v ≡ Some cost) × IsLongest graph costs stop v cost

module _ (graph : List (Vec ℕ Global)) (costs : List ℕ) (stop : List Bool) (known : ℕ → Type 0) (longest : List (Option ℕ)) (are : AreKnown graph costs stop known longest)
    (formed : IsGraph graph) (stops : length stop ≡ length graph) (v : ℕ) (row : Vec ℕ Global) (is_row : slice_get graph v ≡ Some row)
    (leads_to : (w : ℕ) → Enters graph stop v w → known w) where
  in_row : (w : ℕ) → HasEdge graph v w → Contains row.items w
  in_row w (other, at, h) = subst (λ (r : Vec ℕ Global). Contains r.items w) (one_at graph v other row at is_row) h

  leg_on : (most : ℕ) → IsGreatest (left_behind stop longest) row.items (Some most) → (next : ℕ) (behind : List ℕ) → Enters graph stop v next
      → (cost : Option ℕ) → slice_get longest next ≡ Some cost → IsLongest graph costs stop next cost → IsLeg graph stop next behind
      → slice_index costs v + leg_cost costs next behind ≤ slice_index costs v + most
  leg_on most greatest next behind step None at is leg = absurd (is behind leg)
  leg_on most greatest next behind step (Some cost) at is leg =
      omega (arith, greatest.1 next cost (in_row next step.0) (left_at_free stop longest next (Some cost) step.1 at), is.1 behind leg)

  -- a leg costs no more than the greatest behind it
  leg_below : (most : ℕ) → IsGreatest (left_behind stop longest) row.items (Some most) → (walk : List ℕ) → IsLeg graph stop v walk
      → leg_cost costs v walk ≤ slice_index costs v + most
  leg_below most greatest [] leg = omega arith
  leg_below most greatest (next ∷ behind) leg =
      let step = leg.leads.0 in
      let (known_cost, at, is) = are.exact next (leads_to next step) in
      let rest : IsLeg graph stop next behind = record { last = leg.last; leads = leg.leads.1; end = leg.end; edge = leg.edge; ends = leg.ends } in
      leg_on most greatest next behind step known_cost at is rest

  no_leg_on : IsGreatest (left_behind stop longest) row.items None → (next : ℕ) (behind : List ℕ) → Enters graph stop v next
      → (cost : Option ℕ) → slice_get longest next ≡ Some cost → IsLongest graph costs stop next cost → IsLeg graph stop next behind → ⊥
  no_leg_on greatest next behind step None at is leg = is behind leg
  no_leg_on greatest next behind step (Some cost) at is leg =
      let clash = sym (left_at_free stop longest next (Some cost) step.1 at) ∙ greatest next (in_row next step.0) in absurd (cc)

  no_leg : IsGreatest (left_behind stop longest) row.items None → (walk : List ℕ) → IsLeg graph stop v walk → ⊥
  no_leg greatest [] leg =
      let here = subst (λ w. HasEdge graph w leg.end) (sym leg.leads) leg.edge in
      let clash = sym (left_at_stop stop longest leg.end leg.ends) ∙ greatest leg.end (in_row leg.end here) in absurd (cc)
  no_leg greatest (next ∷ behind) leg =
      let step = leg.leads.0 in
      let (known_cost, at, is) = are.exact next (leads_to next step) in
      no_leg_on greatest next behind step known_cost at is (record { last = leg.last; leads = leg.leads.1; end = leg.end; edge = leg.edge; ends = leg.ends })

  -- the greatest is behind a leg
  leg_over : (most w : ℕ) → HasEdge graph v w → left_behind stop longest w ≡ Some most → (stopped : Bool) → slice_get stop w ≡ Some stopped
      → HasLeg graph costs stop v (slice_index costs v + most)
  leg_over most w edge left true marked =
      let none : most ≡ 0 = same_Some (sym left ∙ left_at_stop stop longest w marked) in
      record { walk = []; leg = record { last = v; leads = refl; end = w; edge = edge; ends = marked }; is = omega (arith, none) }
  leg_over most w edge left false free =
      let step : Enters graph stop v w = (edge, free) in
      let (known_cost, at, is) = are.exact w (leads_to w step) in
      let same : known_cost ≡ Some most = sym (left_at_free stop longest w known_cost free at) ∙ left in
      let rest = (subst (IsLongest graph costs stop w) same is).0 in
      record {
        walk = w ∷ rest.walk;
        leg = record { last = rest.leg.last; leads = (step, rest.leg.leads); end = rest.leg.end; edge = rest.leg.edge; ends = rest.leg.ends };
        is = ap (λ n. slice_index costs v + n) rest.is;
      }

  pub longest_over : (greatest : Option ℕ) → IsGreatest (left_behind stop longest) row.items greatest
      → IsLongest graph costs stop v (option_map (λ n. slice_index costs v + n) greatest)
  longest_over None greatest = no_leg greatest
  longest_over (Some most) greatest =
      let (w, h, left) = greatest.0 in
      let edge : HasEdge graph v w = (row, is_row, h) in
      let (stopped, at) = some_at stop w (omega (arith, stops, formed v w edge)) in
      (leg_over most w edge left stopped at, leg_below most greatest)

pub greatest_all : (left : ℕ → Option ℕ) (row : List ℕ) (n : ℕ) (most : Option ℕ) → length row ≤ n → IsGreatest left (take n row) most → IsGreatest left row most
greatest_all left row n most long so_far = subst (λ xs. IsGreatest left xs most) (take_all n row long) so_far

-- IN THE ORDER OF THE COMPONENTS

-- those of the first so many vertices are known, and none is too great
pub record AreKnownTo (graph : List (Vec ℕ Global)) (costs : List ℕ) (stop : List Bool) (order : List ℕ) (n : ℕ) (longest : List (Option ℕ)) : Type 0 where
  pub known : AreKnown graph costs stop (Contains (take n order)) longest
  pub small : (v cost : ℕ) → slice_get longest v ≡ Some (Some cost) → cost ≤ n * 18446744073709551615

pub known_none : (graph : List (Vec ℕ Global)) (costs : List ℕ) (stop : List Bool) (order : List ℕ) (longest : List (Option ℕ))
    → longest ≡ replicate (length graph) None → AreKnownTo graph costs stop order 0 longest
known_none graph costs stop order longest none = record {
  known = record {
    sized = ap length none ∙ length-replicate (length graph) None;
    exact = λ v h. absurd (none_in_front order v h);
  };
  small = λ v cost at. let clash = from_replicate (length graph) v None (Some cost) (sym (ap (λ xs. slice_get xs v) none) ∙ at) in absurd (cc);
}

-- an edge to no stop leads to an earlier component where there is no circle, and so to an earlier vertex
pub leads_before : (graph : List (Vec ℕ Global)) (stop : List Bool) (found : Components) → AreAllComponents graph stop found → HasNoCircle graph stop
    → (n v w : ℕ) → slice_get found.order.items n ≡ Some v → Enters graph stop v w → Contains (take n found.order.items) w
leads_before graph stop found all none n v w at step =
    let are = all.components in
    let (c, is) = are.only v (in_of found.order.items n v at) in
    let (d, there, low) = are.back v w c is step in
    let (j, place) = at_of found.order.items w (are.listed w d there) in
    elim (cases_eq d c) [
      | inl same ↦
          let (walk, leads) = are.one w v c (subst (λ e. IsDone found.marks.items e w) same there) is in
          absurd (none v (w ∷ walk, (step, leads)))
      | inr other ↦ elim (cases_lt j n) [
        | inl before ↦ in_of (take n found.order.items) j w (get_take n found.order.items j w before place)
        | inr behind ↦ elim (cases_eq j n) [
          | inl same ↦
              let equal : w ≡ v = one_at found.order.items n w v (subst (λ k. slice_get found.order.items k ≡ Some w) same place) at in
              let clash = one_at found.marks.items v (Done d) (Done c) (subst (IsDone found.marks.items d) equal there) is in
              let one : d ≡ c = cc in
              absurd (other one)
          | inr apart ↦ let back = are.ascend n j v w c d (omega (arith, behind, apart)) at place is there in absurd (omega (arith, back, low, other))
        ]
      ]
    ]

pub known_more : (graph : List (Vec ℕ Global)) (costs : List ℕ) (stop : List Bool) (order : List ℕ) (n v : ℕ) (row : Vec ℕ Global) (greatest : Option ℕ) (old new : List (Option ℕ))
    → AreKnownTo graph costs stop order n old → IsGraph graph → length stop ≡ length graph → slice_get order n ≡ Some v → slice_get graph v ≡ Some row
    → ((w : ℕ) → Enters graph stop v w → Contains (take n order) w) → IsGreatest (left_behind stop old) row.items greatest
    → new ≡ set old v (option_map (λ m. slice_index costs v + m) greatest)
    → ((cost : ℕ) → option_map (λ m. slice_index costs v + m) greatest ≡ Some cost → cost ≤ (n + 1) * 18446744073709551615)
    → AreKnownTo graph costs stop order (n + 1) new
known_more graph costs stop order n v row greatest old new so_far formed stops at is_row leads_to is writes small =
    let cost = option_map (λ m. slice_index costs v + m) greatest in
    let inside : v < length old = omega (arith, so_far.known.sized, slice_get_within graph v row is_row) in
    let here = longest_over graph costs stop (Contains (take n order)) old so_far.known formed stops v row is_row leads_to greatest is in
    let there : slice_get new v ≡ Some cost = ap (λ xs. slice_get xs v) writes ∙ get_set old v cost inside in
    record {
      known = record {
        sized = ap length writes ∙ length-set old v cost ∙ so_far.known.sized;
        exact = λ w h. elim (cases_eq w v) [
          | inl same ↦ (
            cost,
            subst (λ u. slice_get new u ≡ Some cost) (sym same) there,
            subst (λ u. IsLongest graph costs stop u cost) (sym same) here,
          )
          | inr other ↦ elim (in_more n order v at w h) [
            | inr last ↦ absurd (other last)
            | inl before ↦
                let (known_cost, was, of_w) = so_far.known.exact w before in
                (known_cost, ap (λ xs. slice_get xs w) writes ∙ get_set_other old v w cost other ∙ was, of_w)
          ]
        ];
      };
      small = λ w c is_c. elim (from_set old v w cost (Some c) inside (sym (ap (λ xs. slice_get xs w) writes) ∙ is_c)) [
        | inl (same, equal) ↦ small c (sym equal)
        | inr (other, was) ↦ omega (arith, so_far.small w c was)
      ];
    }

-- all are known
pub known_all : (graph : List (Vec ℕ Global)) (costs : List ℕ) (stop : List Bool) (found : Components) (n : ℕ) (longest : List (Option ℕ))
    → AreAllComponents graph stop found → length found.order.items ≤ n → AreKnownTo graph costs stop found.order.items n longest
    → AreLongest graph costs stop longest
known_all graph costs stop found n longest all long known = record {
  sized = known.known.sized;
  exact = λ v cost at.
      let (c, done) = all.all v (omega (arith, known.known.sized, slice_get_within longest v cost at)) in
      let (other, there, is) = known.known.exact v (in_all n found.order.items v long (all.components.listed v c done)) in
      subst (IsLongest graph costs stop v) (one_at longest v other cost there at) is;
}

-- the vertices of the order are vertices
pub order_within : (graph : List (Vec ℕ Global)) (stop : List Bool) (found : Components) (items : List ℕ) (n : ℕ) → AreAllComponents graph stop found
    → items ≡ found.order.items → n < length items → get_or items n 0 < length graph
order_within graph stop found items n all same inside =
    let there : Contains found.order.items (get_or items n 0) = subst (λ xs. Contains xs (get_or items n 0)) same (Contains-get_or items n 0 inside) in
    let (c, done) = all.components.only (get_or items n 0) there in
    omega (arith, all.sized, slice_get_within found.marks.items (get_or items n 0) (Done c) done)

-- NONE IS TOO GREAT

left_of : (longest : List (Option ℕ)) (v cost : ℕ) → get_or longest v None ≡ Some cost → slice_get longest v ≡ Some (Some cost)
left_of longest v cost is = elim (cases_lt v (length longest)) [
  | inl inside ↦ value_at longest v None (Some cost) inside is
  | inr past ↦ let clash = sym is ∙ get_or_past longest v None past in absurd (cc)
]

left_is_small : (longest : List (Option ℕ)) (v cost bound : ℕ) → ((w c : ℕ) → slice_get longest w ≡ Some (Some c) → c ≤ bound) → (stopped : Bool)
    → (if stopped then Some 0 else slice_index_or longest v None) ≡ Some cost → cost ≤ bound
left_is_small longest v cost bound small true left = let none : 0 ≡ cost = same_Some left in omega (arith, none)
left_is_small longest v cost bound small false left = small v cost (left_of longest v cost left)

pub greatest_small : (stop : List Bool) (longest : List (Option ℕ)) (bound : ℕ) (row : List ℕ) (greatest : Option ℕ)
    → ((w c : ℕ) → slice_get longest w ≡ Some (Some c) → c ≤ bound) → IsGreatest (left_behind stop longest) row greatest
    → (most : ℕ) → greatest ≡ Some most → most ≤ bound
greatest_small stop longest bound row None small is most same = absurd (cc)
greatest_small stop longest bound row (Some greatest) small is most same =
    let (w, h, left) = is.0 in
    let equal : greatest ≡ most = same_Some same in
    omega (arith, equal, left_is_small longest w greatest bound small (slice_index_or stop w false) left)

pub if_some : {X : Type 0} (o : Option X) (P : X → Type 0) → ((x : X) → o ≡ Some x → P x) → IfSome o P
if_some None P of_each = tt
if_some (Some x) P of_each = of_each x refl

-- with the cost of one more vertex
pub cost_small : (n here : ℕ) (greatest : Option ℕ) → here < 18446744073709551616 → ((most : ℕ) → greatest ≡ Some most → most ≤ n * 18446744073709551615)
    → (cost : ℕ) → option_map (λ m. here + m) greatest ≡ Some cost → cost ≤ (n + 1) * 18446744073709551615
cost_small n here greatest small below cost is =
    let (most, same, sum) = mapped (λ m. here + m) greatest cost is in
    omega (arith, below most same, sum, small)
