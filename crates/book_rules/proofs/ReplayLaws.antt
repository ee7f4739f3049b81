-- What holds of the replay of a journal, one event after another.
use Rattle.std.specs.Prelude.{◌≡◌, ℕ, ◌<◌, ◌≤◌, ◌⊎◌, Option, None, Some, List, [], ◌∷◌, ◌++◌}
use Rattle.std.specs.List.{AllByRecursion}
use Rattle.std.specs.Option.{option_map}
use Rattle.std.proofs.Common.{refl, sym, ◌∙◌, ap, ap₂, subst, subst₂, inl, inr, arith}
use Rattle.std.proofs.lemmas.Bool.{cases_Bool, cases_order}
use Rattle.call_context.specs.declared.node.Node.{Node}
use Rattle.call_context.specs.declared.node.Node.TheVariants.{At, Exit}
use Rattle.call_context.specs.declared.node.Unit.{Unit as WorkUnit}
use Rattle.call_context.specs.declared.node.Unit.TheVariants.{One, Back}
use Rattle.book_rules.specs.Sound.{IsSteady, IsWellDone, IsWellOut}
use Rattle.book_rules.specs.Same.{same_node}
use Rattle.chip_analysis.specs.Analysis.{Analysis}
use Rattle.book_rules.specs.declared.event.Event.{Event}
use Rattle.book_rules.specs.declared.event.Event.TheVariants.{Claim, Post, GiveBack}
use Rattle.book_rules.proofs.HeldLaws.{AreApart-all_raised, place_of-held, place_of-one, raised-here, raised-there, held_at-all, version_of-held}
use Rattle.book_rules.specs.Staying.{AllStay-refl, AllStay-trans, AllStay-all_raised, Stays-risen}
use Rattle.book_rules.proofs.EntryLaws.{AreOutOnce-push, AreOutOnce-without, AreUpTo-refl, AreUpTo-trans, versions-between, versions_of-later, inputs_of-found, inputs_of-later, inputs_of-same, out_at-all, all-map, all-push, all-with_done, all-without}
use Rattle.book_rules.specs.Machine.{BookState, Held, Done, Out, out_at, held_at, place_of, version_of, versions_of, inputs_of, opening, posted, risen, raised, all_raised, with_out, without, after, replay_from, replay, IsUnit, IsFirst, IsBelow, ComesBefore, IsLegal, AllLegal, IsLegalJournal, IsFinished}
use Rattle.book_rules.specs.Stays.{AllStay}
use Rattle.book_rules.specs.Replays.{claim-leaves, post-leaves, give_back-leaves}

-- the replay of a journal in two parts
pub replay_from-append : {A : Type 0} (m : Analysis A) (b : BookState A) (es fs : List Event)
    → replay_from m b (es ++ fs) ≡ replay_from m (replay_from m b es) fs
unfolding replay_from
replay_from-append m b [] fs = refl
replay_from-append m b (e ∷ es) fs = replay_from-append m (after m b e) es fs

pub replay-append : {A : Type 0} (m : Analysis A) (journal more : List Event)
    → replay m (journal ++ more) ≡ replay_from m (replay m journal) more
replay-append m journal more = replay_from-append m (opening m) journal more

pub AllLegal-front : {A : Type 0} (m : Analysis A) (b : BookState A) (es fs : List Event) → AllLegal m b (es ++ fs) → AllLegal m b es
unfolding AllLegal
AllLegal-front m b [] fs l = tt
AllLegal-front m b (e ∷ es) fs l = (l.0, AllLegal-front m (after m b e) es fs l.1)

pub AllLegal-rest : {A : Type 0} (m : Analysis A) (b : BookState A) (es fs : List Event) → AllLegal m b (es ++ fs)
    → AllLegal m (replay_from m b es) fs
unfolding replay_from AllLegal
AllLegal-rest m b [] fs l = l
AllLegal-rest m b (e ∷ es) fs l = AllLegal-rest m (after m b e) es fs l.1

pub IsLegalJournal-last : {A : Type 0} (m : Analysis A) (journal : List Event) (event : Event) → IsLegalJournal m (journal ++ event ∷ [])
    → IsLegal (replay m journal) event
unfolding AllLegal
IsLegalJournal-last m journal event l = (AllLegal-rest m (opening m) journal (event ∷ []) l).0

-- what each legal event keeps holds of the replay of a legal journal
pub replay_from-keeps : {A : Type 0} (m : Analysis A) (P : BookState A → Type 0)
    → ((b : BookState A) (event : Event) → IsLegal b event → P b → P (after m b event))
    → (b : BookState A) (es : List Event) → AllLegal m b es → P b → P (replay_from m b es)
unfolding replay_from AllLegal
replay_from-keeps m P step b [] l p = p
replay_from-keeps m P step b (e ∷ es) l p = replay_from-keeps m P step (after m b e) es l.1 (step b e l.0 p)

-- the entry of a unit that a claim puts out
abbrev pub taken : {A : Type 0} → BookState A → ℕ → WorkUnit → A × Option A → Out A
taken b seat unit inputs = record {
  seat = seat;
  unit = unit;
  at = inputs.0;
  exit = inputs.1;
  versions = versions_of b.nodes unit;
  nodes = b.nodes;
}

-- what each event leaves
pub after-claim : {A : Type 0} (m : Analysis A) (b : BookState A) (seat : ℕ) (unit : WorkUnit) (inputs : A × Option A)
    → inputs_of b.nodes unit ≡ Some inputs
    → after m b (Claim seat unit) ≡ record b { out = b.out ++ taken b seat unit inputs ∷ [] }
after-claim m b seat unit inputs e = claim-leaves m b seat unit ∙ ap (λ i. record b { out = with_out b seat unit i }) e

pub after-post : {A : Type 0} (m : Analysis A) (b : BookState A) (seat : ℕ) (unit : WorkUnit) (o : Out A) → out_at b.out unit ≡ Some o
    → after m b (Post seat unit) ≡ posted m b (Some o)
after-post m b seat unit o e = post-leaves m b seat unit ∙ ap (λ x. posted m b x) e

pub after-give_back : {A : Type 0} (m : Analysis A) (b : BookState A) (seat : ℕ) (unit : WorkUnit)
    → after m b (GiveBack seat unit) ≡ record b { out = without b.out unit }
after-give_back m b seat unit = give_back-leaves m b seat unit

AllStay-posted : {A : Type 0} (m : Analysis A) (b : BookState A) (o : Option (Out A)) → AllStay b.nodes (posted m b o).nodes
AllStay-posted m b None = AllStay-refl b.nodes
AllStay-posted m b (Some o) = AllStay-all_raised m b.nodes (m.work o.unit o.at o.exit).posts

-- over any event each node stays in its place
pub AllStay-after : {A : Type 0} (m : Analysis A) (b : BookState A) (event : Event) → AllStay b.nodes (after m b event).nodes
unfolding after
AllStay-after m b (Claim seat unit) = AllStay-refl b.nodes
AllStay-after m b (Post seat unit) = AllStay-posted m b (out_at b.out unit)
AllStay-after m b (GiveBack seat unit) = AllStay-refl b.nodes

pub AllStay-replay : {A : Type 0} (m : Analysis A) (b : BookState A) (es : List Event) → AllStay b.nodes (replay_from m b es).nodes
unfolding replay_from
AllStay-replay m b [] = AllStay-refl b.nodes
AllStay-replay m b (e ∷ es) =
    AllStay-trans b.nodes (after m b e).nodes (replay_from m (after m b e) es).nodes (AllStay-after m b e) (AllStay-replay m (after m b e) es)

-- a unit has its inputs
pub inputs_of-unit : {A : Type 0} (b : BookState A) (unit : WorkUnit) → IsUnit b unit
    → (inputs : A × Option A) × (inputs_of b.nodes unit ≡ Some inputs)
inputs_of-unit b (One (At pc calls frame)) u = (((u.0).state, None), ap (λ o. option_map (λ h. (h.state, None)) o) u.1)
inputs_of-unit b (One (Exit pc frame)) u = absurd u
inputs_of-unit b (Back (At pc calls frame) (Exit from left)) u =
    (((u.0).state, Some (u.1).state), inputs_of-found b.nodes (At pc calls frame) (Exit from left) u.0 u.1 u.2 u.3)
inputs_of-unit b (Back (At pc calls frame) (At from calls' frame')) u = absurd u
inputs_of-unit b (Back (Exit pc frame) exit) u = absurd u

pub IsWellOut-later : {A : Type 0} (hs ls : List (Held A)) (o : Out A) → AllStay hs ls → IsWellOut hs o → IsWellOut ls o
IsWellOut-later hs ls o s w = record {
  there = inputs_of-later hs ls o.unit (w.there).0 s (w.there).1;
  known = AreUpTo-trans o.versions (versions_of hs o.unit) (versions_of ls o.unit) w.known (versions_of-later hs ls o.unit s);
  copied = λ e. let same : versions_of hs o.unit ≡ o.versions =
      versions-between o.versions (versions_of hs o.unit) (versions_of ls o.unit) w.known (versions_of-later hs ls o.unit s) e in
      inputs_of-same hs ls o.unit (o.at, o.exit) s (w.copied same) (e ∙ sym same);
  stay = AllStay-trans o.nodes hs ls w.stay s;
}

pub IsWellDone-later : {A : Type 0} (m : Analysis A) (hs ls : List (Held A)) (d : Done A) → AllStay hs ls
    → IsWellDone m hs d → IsWellDone m ls d
IsWellDone-later m hs ls d s w = record {
  known = AreUpTo-trans d.versions (versions_of hs d.unit) (versions_of ls d.unit) w.known (versions_of-later hs ls d.unit s);
  worked = λ e. let same : versions_of hs d.unit ≡ d.versions =
      versions-between d.versions (versions_of hs d.unit) (versions_of ls d.unit) w.known (versions_of-later hs ls d.unit s) e in
      let r = w.worked same in
      (r.0, inputs_of-same hs ls d.unit r.0 s r.1 (e ∙ sym same), r.2);
}

-- the opening has it
pub IsSteady-opening : {A : Type 0} (m : Analysis A) → IsSteady m (opening m)
IsSteady-opening m = record { apart = (refl, tt); once = tt; out = tt; done = tt }

IsSteady-posted : {A : Type 0} (m : Analysis A) (b : BookState A) (o : Out A) → IsWellOut b.nodes o → IsSteady m b
    → IsSteady m (posted m b (Some o))
IsSteady-posted m b o w s =
    let work = m.work o.unit o.at o.exit in
    let ls : List (Held _) = all_raised m b.nodes work.posts in
    let stay : AllStay b.nodes ls = AllStay-all_raised m b.nodes work.posts in
    let v : IsWellOut ls o = IsWellOut-later b.nodes ls o stay w in
    record {
      apart = AreApart-all_raised m b.nodes work.posts s.apart;
      once = AreOutOnce-without b.out o.unit s.once;
      out = all-without (IsWellOut ls) b.out o.unit (all-map (IsWellOut b.nodes) (IsWellOut ls) (λ x. IsWellOut-later b.nodes ls x stay) b.out s.out);
      done = all-with_done (IsWellDone m ls) b.done (record { unit = o.unit; work = work; versions = o.versions })
          (all-map (IsWellDone m b.nodes) (IsWellDone m ls) (λ x. IsWellDone-later m b.nodes ls x stay) b.done s.done)
          (record { known = v.known; worked = λ e. ((o.at, o.exit), v.copied e, refl) });
    }

-- a legal event keeps it
pub IsSteady-after : {A : Type 0} (m : Analysis A) (b : BookState A) (event : Event) → IsLegal b event → IsSteady m b
    → IsSteady m (after m b event)
IsSteady-after m b (Claim seat unit) l s =
    let i = inputs_of-unit b unit l.claimable.known in
    subst (IsSteady m) (sym (after-claim m b seat unit i.0 i.1)) (record {
      apart = s.apart;
      once = AreOutOnce-push b.out (taken b seat unit i.0) s.once l.claimable.at_home;
      out = all-push (IsWellOut b.nodes) b.out (taken b seat unit i.0) s.out
          (record { there = i; known = AreUpTo-refl (versions_of b.nodes unit); copied = λ e. i.1; stay = AllStay-refl b.nodes });
      done = s.done;
    })
IsSteady-after m b (Post seat unit) l s =
    subst (IsSteady m) (sym (after-post m b seat unit l.0 l.1))
    (IsSteady-posted m b l.0 (out_at-all (IsWellOut b.nodes) b.out unit l.0 s.out l.1).0 s)
IsSteady-after m b (GiveBack seat unit) l s =
    subst (IsSteady m) (sym (after-give_back m b seat unit)) (record {
      apart = s.apart;
      once = AreOutOnce-without b.out unit s.once;
      out = all-without (IsWellOut b.nodes) b.out unit s.out;
      done = s.done;
    })

pub IsSteady-replay : {A : Type 0} (m : Analysis A) (journal : List Event) → IsLegalJournal m journal → IsSteady m (replay m journal)
IsSteady-replay m journal l = replay_from-keeps m (IsSteady m) (IsSteady-after m) (opening m) journal l (IsSteady-opening m)

-- a finished book has no further event
pub finished-end : {A : Type 0} (b : BookState A) (event : Event) → IsFinished b → IsLegal b event → ⊥
finished-end b (Claim seat unit) f l = f.none_claimable unit l.claimable
finished-end b (Post seat unit) f l = let e : None ≡ Some l.0 = ap (λ os. out_at os unit) (sym f.none_out) ∙ l.1 in cc
finished-end b (GiveBack seat unit) f l = let e : None ≡ Some l.0 = ap (λ os. out_at os unit) (sym f.none_out) ∙ l.1 in cc

below-by : {a b : Option ℕ} (p q : ℕ) → a ≡ Some p → b ≡ Some q → p < q → IsBelow a b
below-by p q e d l = subst₂ IsBelow (sym e) (sym d) l

-- nodes that have places stand in one order
nodes-order : {A : Type 0} (hs : List (Held A)) (n k : Node) (p q : ℕ) → place_of hs n ≡ Some p → place_of hs k ≡ Some q
    → (n ≡ k) ⊎ (IsBelow (place_of hs n) (place_of hs k) ⊎ IsBelow (place_of hs k) (place_of hs n))
nodes-order hs n k p q e d =
    elim (cases_order p q) [
      | inl same ↦ inl (place_of-one hs n k p e (d ∙ ap (λ x. Some x) (sym same)))
      | inr (inl l) ↦ inr (inl (below-by p q e d l))
      | inr (inr g) ↦ inr (inr (below-by q p d e g))
    ]

-- a unit's node has a place, and so has its exit
pub unit-place : {A : Type 0} (b : BookState A) (node : Node) → IsUnit b (One node) → (p : ℕ) × (place_of b.nodes node ≡ Some p)
unit-place b (At pc calls frame) u = place_of-held b.nodes (At pc calls frame) u.0 u.1
unit-place b (Exit pc frame) u = absurd u

pub unit-places : {A : Type 0} (b : BookState A) (node exit : Node) → IsUnit b (Back node exit)
    → (p : ℕ) × (q : ℕ) × (place_of b.nodes node ≡ Some p) × (place_of b.nodes exit ≡ Some q)
unit-places b (At pc calls frame) (Exit from left) u =
    let p = place_of-held b.nodes (At pc calls frame) u.0 u.2 in
    let q = place_of-held b.nodes (Exit from left) u.1 u.3 in
    (p.0, q.0, p.1, q.1)
unit-places b (At pc calls frame) (At from calls' frame') u = absurd u
unit-places b (Exit pc frame) exit u = absurd u

-- of two units one comes before the other
pub units-order : {A : Type 0} (b : BookState A) (u v : WorkUnit) → IsUnit b u → IsUnit b v
    → (u ≡ v) ⊎ (ComesBefore b.nodes u v ⊎ ComesBefore b.nodes v u)
units-order b (One n) (One k) f g =
    let p = unit-place b n f in let q = unit-place b k g in
    elim (nodes-order b.nodes n k p.0 q.0 p.1 q.1) [ inl e ↦ inl (ap (λ x. One x) e) | inr o ↦ inr o ]
units-order b (One n) (Back k y) f g = inr (inl tt)
units-order b (Back n x) (One k) f g = inr (inr tt)
units-order b (Back n x) (Back k y) f g =
    let p = unit-places b n x f in let q = unit-places b k y g in
    elim (nodes-order b.nodes n k p.0 q.0 p.2 q.2) [
      | inr (inl l) ↦ inr (inl (inl l))
      | inr (inr r) ↦ inr (inr (inl r))
      | inl e ↦ let same : place_of b.nodes n ≡ place_of b.nodes k = ap (λ z. place_of b.nodes z) e in
          elim (nodes-order b.nodes x y p.1 q.1 p.3 q.3) [
            | inl d ↦ inl (ap₂ (λ a c. Back a c) e d)
            | inr (inl l) ↦ inr (inl (inr (same, l)))
            | inr (inr r) ↦ inr (inr (inr (sym same, r)))
          ]
    ]

-- one unit alone is the first
pub first-one : {A : Type 0} (b : BookState A) (u v : WorkUnit) → IsFirst b u → IsFirst b v → u ≡ v
first-one b u v f g =
    elim (units-order b u v f.claimable.known g.claimable.known) [
      | inl e ↦ e
      | inr (inl l) ↦ absurd (g.least u f.claimable l)
      | inr (inr r) ↦ absurd (f.least v g.claimable r)
    ]

-- each node rose at least once
abbrev pub AreRisen : {A : Type 0} → List (Held A) → Type 0
AreRisen hs = AllByRecursion (λ h. 1 ≤ h.rises) hs

AreRisen-raised : {A : Type 0} (m : Analysis A) (hs : List (Held A)) (post : Node × A) → AreRisen hs → AreRisen (raised m hs post)
AreRisen-raised m [] post a = (omega arith, tt)
AreRisen-raised m (h ∷ hs) post a =
    elim (cases_Bool (same_node post.0 h.node)) [
      | inl t ↦ let s : h.rises ≤ (risen m h post.1).rises = (Stays-risen m h post.1).rises in
          subst AreRisen (sym (raised-here m h hs post t)) (omega (arith, s, a.0), a.1)
      | inr f ↦ subst AreRisen (sym (raised-there m h hs post f)) (a.0, AreRisen-raised m hs post a.1)
    ]

AreRisen-all_raised : {A : Type 0} (m : Analysis A) (hs : List (Held A)) (posts : List (Node × A)) → AreRisen hs
    → AreRisen (all_raised m hs posts)
AreRisen-all_raised m hs [] a = a
AreRisen-all_raised m hs (post ∷ posts) a = AreRisen-all_raised m (raised m hs post) posts (AreRisen-raised m hs post a)

AreRisen-posted : {A : Type 0} (m : Analysis A) (b : BookState A) (o : Option (Out A)) → AreRisen b.nodes → AreRisen (posted m b o).nodes
AreRisen-posted m b None a = a
AreRisen-posted m b (Some o) a = AreRisen-all_raised m b.nodes (m.work o.unit o.at o.exit).posts a

pub AreRisen-after : {A : Type 0} (m : Analysis A) (b : BookState A) (event : Event) → AreRisen b.nodes → AreRisen (after m b event).nodes
unfolding after
AreRisen-after m b (Claim seat unit) a = a
AreRisen-after m b (Post seat unit) a = AreRisen-posted m b (out_at b.out unit) a
AreRisen-after m b (GiveBack seat unit) a = a

pub AreRisen-replay : {A : Type 0} (m : Analysis A) (journal : List Event) → IsLegalJournal m journal → AreRisen (replay m journal).nodes
AreRisen-replay m journal l =
    replay_from-keeps m (λ b. AreRisen b.nodes) (λ b event e a. AreRisen-after m b event a) (opening m) journal l (omega arith, tt)

-- by the entry of the node
least-by : {A : Type 0} (hs : List (Held A)) (node : Node) (h : Held A) → AreRisen hs → held_at hs node ≡ Some h → 1 ≤ version_of hs node
least-by hs node h a e =
    let v = version_of-held hs node h e in
    let i : 1 ≤ h.rises = held_at-all (λ x. 1 ≤ x.rises) hs node h a e in omega (arith, v, i)

-- a unit's node has risen
pub versions_of-least : {A : Type 0} (b : BookState A) (unit : WorkUnit) → AreRisen b.nodes → IsUnit b unit
    → 1 ≤ (versions_of b.nodes unit).at
versions_of-least b (One (At pc calls frame)) a u = least-by b.nodes (At pc calls frame) u.0 a u.1
versions_of-least b (One (Exit pc frame)) a u = absurd u
versions_of-least b (Back (At pc calls frame) (Exit from left)) a u = least-by b.nodes (At pc calls frame) u.0 a u.2
versions_of-least b (Back (At pc calls frame) (At from calls' frame')) a u = absurd u
versions_of-least b (Back (Exit pc frame) exit) a u = absurd u
