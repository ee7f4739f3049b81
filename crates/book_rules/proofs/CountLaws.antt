-- Claims, posts and give-backs of one unit take turns, and a unit is claimed anew only for inputs that rose.
use Rattle.std.specs.Prelude.{◌≡◌, ℕ, ◌+◌, ◌<◌, ◌≤◌, ◌&&◌, Bool, true, false, cond, Option, None, Some, List, [], ◌∷◌, MatchOption, count_by}
use Rattle.std.proofs.Common.{refl, sym, ◌∙◌, ap, subst, inl, inr, arith}
use Rattle.std.proofs.lemmas.Bool.{cases_Bool, cases_lt}
use Rattle.std.proofs.lemmas.Option.{same_Some}
use Rattle.std.proofs.lemmas.List.Sums.{sum_by-cons}
use Rattle.call_context.specs.declared.node.Unit.{Unit as WorkUnit}
use Rattle.book_rules.specs.Sound.{AreInBounds, AreUpTo, IsSteady, IsWellDone, IsWellOut}
use Rattle.book_rules.specs.Same.{same_unit}
use Rattle.book_rules.specs.SameTests.{same_unit-refl, same_unit-eq}
use Rattle.book_rules.specs.declared.versions.Versions.{Versions}
use Rattle.book_rules.specs.declared.event.Event.{Event}
use Rattle.book_rules.specs.declared.event.Event.TheVariants.{Claim, Post, GiveBack}
use Rattle.chip_analysis.specs.Analysis.{Analysis, KeepsForm, TopIsGreatest}
use Rattle.book_rules.proofs.EntryLaws.{done_at-all, out_at-all, all-any, done_at-with_done, done_at-with_done_other, out_at-without, out_at-without_other, out_at-push, out_at-push_other}
use Rattle.book_rules.proofs.ReplayLaws.{IsSteady-after, IsSteady-replay, IsSteady-opening, taken, after-claim, after-post, after-give_back, inputs_of-unit, versions_of-least, AreRisen, AreRisen-after}
use Rattle.book_rules.proofs.FormLaws.{IsInForm-replay, versions_of-most}
use Rattle.book_rules.specs.Counts.{is_claim, is_post, is_give_back, anyone, outs}
use Rattle.book_rules.specs.Machine.{BookState, Done, Out, done_at, out_at, versions_of, opening, with_done, without, after, replay_from, replay, IsUnit, IsClaimable, IsFirst, IsLegal, AllLegal, IsLegalJournal, HasRisen}

-- the unit that an event is of
abbrev pub unit_of : Event → WorkUnit
unit_of (Claim seat unit) = unit
unit_of (Post seat unit) = unit
unit_of (GiveBack seat unit) = unit

-- the last work of a unit that a post leaves
abbrev pub done_by : {A : Type 0} → Analysis A → Out A → Done A
done_by m o = record { unit = o.unit; work = m.work o.unit o.at o.exit; versions = o.versions }

-- a claim leaves its unit out
pub after-claim_out : {A : Type 0} (m : Analysis A) (b : BookState A) (seat : ℕ) (unit : WorkUnit) → IsFirst b unit
    → (o : Out A) × (out_at (after m b (Claim seat unit)).out unit ≡ Some o) × (o.seat ≡ seat) × (o.versions ≡ versions_of b.nodes unit)
    × (done_at (after m b (Claim seat unit)).done unit ≡ done_at b.done unit)
after-claim_out m b seat unit f =
    let i = inputs_of-unit b unit f.claimable.known in
    let e = after-claim m b seat unit i.0 i.1 in (
      taken b seat unit i.0,
      ap (λ x. out_at x.out unit) e ∙ out_at-push b.out (taken b seat unit i.0) f.claimable.at_home,
      refl,
      refl,
      ap (λ x. done_at x.done unit) e,
    )

-- a post leaves its unit at home, with the work of what was out
pub after-post_done : {A : Type 0} (m : Analysis A) (b : BookState A) (seat : ℕ) (unit : WorkUnit) (o : Out A)
    → IsSteady m b → out_at b.out unit ≡ Some o
    → (out_at (after m b (Post seat unit)).out unit ≡ None) × (done_at (after m b (Post seat unit)).done unit ≡ Some (done_by m o))
after-post_done m b seat unit o s e =
    let n : o.unit ≡ unit = (out_at-all (λ x. Unit {0}) b.out unit o (all-any b.out) e).1 in
    let p = after-post m b seat unit o e in (
      ap (λ x. out_at x.out unit) p ∙ ap (λ u. out_at (without b.out u) unit) n ∙ out_at-without b.out unit s.once,
      ap (λ x. done_at x.done unit) p ∙ ap (λ u. done_at (with_done b.done (done_by m o)) u) (sym n) ∙ done_at-with_done b.done (done_by m o),
    )

pub after-give_back_home : {A : Type 0} (m : Analysis A) (b : BookState A) (seat : ℕ) (unit : WorkUnit) → IsSteady m b
    → (out_at (after m b (GiveBack seat unit)).out unit ≡ None) × (done_at (after m b (GiveBack seat unit)).done unit ≡ done_at b.done unit)
after-give_back_home m b seat unit s =
    let e = after-give_back m b seat unit in
    (ap (λ x. out_at x.out unit) e ∙ out_at-without b.out unit s.once, ap (λ x. done_at x.done unit) e)

-- an event leaves the other units as they were
pub after-other : {A : Type 0} (m : Analysis A) (b : BookState A) (event : Event) (unit : WorkUnit) → IsLegal b event
    → same_unit unit (unit_of event) ≡ false
    → (out_at (after m b event).out unit ≡ out_at b.out unit) × (done_at (after m b event).done unit ≡ done_at b.done unit)
after-other m b (Claim seat u) unit l ne =
    let i = inputs_of-unit b u l.claimable.known in
    let e = after-claim m b seat u i.0 i.1 in
    (ap (λ x. out_at x.out unit) e ∙ out_at-push_other b.out (taken b seat u i.0) unit ne, ap (λ x. done_at x.done unit) e)
after-other m b (Post seat u) unit l ne =
    let o = l.0 in
    let n : (l.0).unit ≡ u = (out_at-all (λ x. Unit {0}) b.out u l.0 (all-any b.out) l.1).1 in
    let d : same_unit unit (l.0).unit ≡ false = subst (λ x. same_unit unit x ≡ false) (sym n) ne in
    let p = after-post m b seat u l.0 l.1 in (
      ap (λ x. out_at x.out unit) p ∙ out_at-without_other b.out (l.0).unit unit d,
      ap (λ x. done_at x.done unit) p ∙ done_at-with_done_other b.done (done_by m l.0) unit d,
    )
after-other m b (GiveBack seat u) unit l ne =
    let e = after-give_back m b seat u in
    (ap (λ x. out_at x.out unit) e ∙ out_at-without_other b.out u unit ne, ap (λ x. done_at x.done unit) e)

abbrev one : Bool → ℕ
one b = cond b 1 0

-- what an event adds to each count
abbrev Turn : {A : Type 0} → Analysis A → (ℕ → Bool) → WorkUnit → BookState A → Event → Type 0
Turn m seats unit b event = one (is_claim seats unit event) + outs seats (out_at b.out unit)
    ≡ one (is_post seats unit event) + one (is_give_back seats unit event) + outs seats (out_at (after m b event).out unit)

turn-other : {A : Type 0} (m : Analysis A) (seats : ℕ → Bool) (unit : WorkUnit) (b : BookState A) (event : Event) → IsLegal b event
    → same_unit unit (unit_of event) ≡ false → Turn m seats unit b event
turn-other m seats unit b (Claim seat u) l ne =
    let a : one (same_unit unit u && seats seat) ≡ 0 = ap (λ x. one (x && seats seat)) ne in
    let e = ap (outs seats) (after-other m b (Claim seat u) unit l ne).0 in omega (arith, a, e)
turn-other m seats unit b (Post seat u) l ne =
    let a : one (same_unit unit u && seats seat) ≡ 0 = ap (λ x. one (x && seats seat)) ne in
    let e = ap (outs seats) (after-other m b (Post seat u) unit l ne).0 in omega (arith, a, e)
turn-other m seats unit b (GiveBack seat u) l ne =
    let a : one (same_unit unit u && seats seat) ≡ 0 = ap (λ x. one (x && seats seat)) ne in
    let e = ap (outs seats) (after-other m b (GiveBack seat u) unit l ne).0 in omega (arith, a, e)

turn-own : {A : Type 0} (m : Analysis A) (seats : ℕ → Bool) (b : BookState A) (event : Event) → IsLegal b event → IsSteady m b
    → Turn m seats (unit_of event) b event
turn-own m seats b (Claim seat u) l s =
    let r = after-claim_out m b seat u l in
    let a : one (same_unit u u && seats seat) ≡ one (seats seat) = ap (λ x. one (x && seats seat)) (same_unit-refl u) in
    let home : outs seats (out_at b.out u) ≡ 0 = ap (outs seats) l.claimable.at_home in
    let out : outs seats (out_at (after m b (Claim seat u)).out u) ≡ one (seats seat) = ap (outs seats) r.1 ∙ ap (λ x. one (seats x)) r.2 in
    omega (arith, a, home, out)
turn-own m seats b (Post seat u) l s =
    let r = after-post_done m b seat u l.0 s l.1 in
    let a : one (same_unit u u && seats seat) ≡ one (seats seat) = ap (λ x. one (x && seats seat)) (same_unit-refl u) in
    let out : outs seats (out_at b.out u) ≡ one (seats seat) = ap (outs seats) l.1 ∙ ap (λ x. one (seats x)) l.2 in
    let home : outs seats (out_at (after m b (Post seat u)).out u) ≡ 0 = ap (outs seats) r.0 in
    omega (arith, a, home, out)
turn-own m seats b (GiveBack seat u) l s =
    let r = after-give_back_home m b seat u s in
    let a : one (same_unit u u && seats seat) ≡ one (seats seat) = ap (λ x. one (x && seats seat)) (same_unit-refl u) in
    let out : outs seats (out_at b.out u) ≡ one (seats seat) = ap (outs seats) l.1 ∙ ap (λ x. one (seats x)) l.2 in
    let home : outs seats (out_at (after m b (GiveBack seat u)).out u) ≡ 0 = ap (outs seats) r.0 in
    omega (arith, a, home, out)

turn-step : {A : Type 0} (m : Analysis A) (seats : ℕ → Bool) (unit : WorkUnit) (b : BookState A) (event : Event)
    → IsLegal b event → IsSteady m b
    → Turn m seats unit b event
turn-step m seats unit b event l s =
    elim (cases_Bool (same_unit unit (unit_of event))) [
      | inl t ↦ subst (λ u. Turn m seats u b event) (sym (same_unit-eq unit (unit_of event) t)) (turn-own m seats b event l s)
      | inr f ↦ turn-other m seats unit b event l f
    ]

-- Each claim is answered by a post or a give-back, but for a unit that is out.
pub turns-replay_from : {A : Type 0} (m : Analysis A) (seats : ℕ → Bool) (unit : WorkUnit) (b : BookState A) (es : List Event)
    → AllLegal m b es → IsSteady m b
    → count_by (is_claim seats unit) es + outs seats (out_at b.out unit)
    ≡ count_by (is_post seats unit) es + count_by (is_give_back seats unit) es + outs seats (out_at (replay_from m b es).out unit)
unfolding replay_from AllLegal
turns-replay_from m seats unit b [] l s = omega arith
turns-replay_from m seats unit b (e ∷ es) l s =
    let rest = turns-replay_from m seats unit (after m b e) es l.1 (IsSteady-after m b e l.0 s) in
    let step : Turn m seats unit b e = turn-step m seats unit b e l.0 s in
    let c = sum_by-cons (λ x. cond (is_claim seats unit x) 1 0) e es in
    let p = sum_by-cons (λ x. cond (is_post seats unit x) 1 0) e es in
    let g = sum_by-cons (λ x. cond (is_give_back seats unit x) 1 0) e es in
    omega (arith, rest, step, c, p, g)

pub turns-replay : {A : Type 0} (m : Analysis A) (seats : ℕ → Bool) (unit : WorkUnit) (journal : List Event) → IsLegalJournal m journal
    → count_by (is_claim seats unit) journal
    ≡ count_by (is_post seats unit) journal + count_by (is_give_back seats unit) journal + outs seats (out_at (replay m journal).out unit)
turns-replay m seats unit journal l = let t = turns-replay_from m seats unit (opening m) journal l (IsSteady-opening m) in omega (arith, t)

-- how far a unit's inputs had risen for its last work
abbrev pub level : {A : Type 0} → Option (Done A) → ℕ
level None = 0
level (Some d) = d.versions.at + d.versions.exit

-- a unit that is out has inputs that rose since its last work
abbrev pub IsAhead : {A : Type 0} → WorkUnit → BookState A → Type 0
IsAhead unit b = (o : Out _) → out_at b.out unit ≡ Some o → level (done_at b.done unit) < o.versions.at + o.versions.exit

-- what an event does to the level of a unit
abbrev Climb : {A : Type 0} → Analysis A → WorkUnit → BookState A → Event → Type 0
Climb m unit b event = IsAhead unit (after m b event)
    × (one (is_post anyone unit event) + level (done_at b.done unit) ≤ level (done_at (after m b event).done unit))

-- versions that some input of which rose have a greater sum
risen-sum : (v w : Versions) → AreUpTo v w → HasRisen v w → v.at + v.exit < w.at + w.exit
risen-sum v w u (inl h) = omega (arith, u.at, u.exit, h)
risen-sum v w u (inr h) = omega (arith, u.at, u.exit, h)

-- by whether the unit was done
due-by : {A : Type 0} (now : Versions) (was : Option (Done A)) → 1 ≤ now.at → MatchOption was (Unit {0}) (λ d. HasRisen d.versions now)
    → ((d : Done A) → was ≡ Some d → AreUpTo d.versions now) → level was < now.at + now.exit
due-by now None least due known = omega arith
due-by now (Some d) least due known = risen-sum d.versions now (known d refl) due

climb-other : {A : Type 0} (m : Analysis A) (unit : WorkUnit) (b : BookState A) (event : Event) → IsLegal b event
    → same_unit unit (unit_of event) ≡ false → one (is_post anyone unit event) ≡ 0 → IsAhead unit b → Climb m unit b event
climb-other m unit b event l ne none a =
    let r = after-other m b event unit l ne in
    let lv = ap level r.1 in
    (λ o e. let h : level (done_at b.done unit) < o.versions.at + o.versions.exit = a o (sym r.0 ∙ e) in omega (arith, lv, h), omega (arith, none, lv))

none-other : (unit : WorkUnit) (event : Event) → same_unit unit (unit_of event) ≡ false → one (is_post anyone unit event) ≡ 0
none-other unit (Claim seat u) ne = refl
none-other unit (Post seat u) ne = ap (λ x. one (x && true)) ne
none-other unit (GiveBack seat u) ne = refl

climb-own : {A : Type 0} (m : Analysis A) (b : BookState A) (event : Event) → IsLegal b event → IsSteady m b → AreRisen b.nodes
    → IsAhead (unit_of event) b → Climb m (unit_of event) b event
climb-own m b (Claim seat u) l s n a =
    let r = after-claim_out m b seat u l in
    let lv = ap level r.4 in
    let due : level (done_at b.done u) < (versions_of b.nodes u).at + (versions_of b.nodes u).exit =
    due-by (versions_of b.nodes u) (done_at b.done u) (versions_of-least b u n l.claimable.known) l.claimable.due
    (λ d e. let w = done_at-all (IsWellDone m b.nodes) b.done u d s.done e in subst (λ x. AreUpTo d.versions (versions_of b.nodes x)) w.1 (w.0).known) in (
      λ o e. let same : r.0 ≡ o = same_Some r.0 o (sym r.1 ∙ e) in
          let va : o.versions.at ≡ (versions_of b.nodes u).at = ap (λ x. x.versions.at) (sym same) ∙ ap (λ x. x.at) r.3 in
          let ve : o.versions.exit ≡ (versions_of b.nodes u).exit = ap (λ x. x.versions.exit) (sym same) ∙ ap (λ x. x.exit) r.3 in
          omega (arith, lv, due, va, ve),
      omega (arith, lv),
    )
climb-own m b (Post seat u) l s n a =
    let r = after-post_done m b seat u l.0 s l.1 in
    let lv : level (done_at (after m b (Post seat u)).done u) ≡ (l.0).versions.at + (l.0).versions.exit = ap level r.1 in
    let h : level (done_at b.done u) < (l.0).versions.at + (l.0).versions.exit = a l.0 l.1 in
    let count : one (is_post anyone u (Post seat u)) ≡ 1 = ap (λ x. one (x && true)) (same_unit-refl u) in
    (λ o e. absurd (let no : None ≡ Some o = sym r.0 ∙ e in cc), omega (arith, lv, h, count))
climb-own m b (GiveBack seat u) l s n a =
    let r = after-give_back_home m b seat u s in
    let lv = ap level r.1 in
    (λ o e. absurd (let no : None ≡ Some o = sym r.0 ∙ e in cc), omega (arith, lv))

climb-step : {A : Type 0} (m : Analysis A) (unit : WorkUnit) (b : BookState A) (event : Event) → IsLegal b event → IsSteady m b
    → AreRisen b.nodes → IsAhead unit b → Climb m unit b event
climb-step m unit b event l s n a =
    elim (cases_Bool (same_unit unit (unit_of event))) [
      | inl t ↦ let e : unit ≡ unit_of event = same_unit-eq unit (unit_of event) t in
          subst (λ u. Climb m u b event) (sym e) (climb-own m b event l s n (subst (λ u. IsAhead u b) e a))
      | inr f ↦ climb-other m unit b event l f (none-other unit event f) a
    ]

-- each post of a unit is of inputs that rose further
pub climbs-replay_from : {A : Type 0} (m : Analysis A) (unit : WorkUnit) (b : BookState A) (es : List Event)
    → AllLegal m b es → IsSteady m b
    → AreRisen b.nodes → IsAhead unit b
    → IsAhead unit (replay_from m b es)
    × (count_by (is_post anyone unit) es + level (done_at b.done unit) ≤ level (done_at (replay_from m b es).done unit))
unfolding replay_from AllLegal
climbs-replay_from m unit b [] l s n a = (a, omega arith)
climbs-replay_from m unit b (e ∷ es) l s n a =
    let step : Climb m unit b e = climb-step m unit b e l.0 s n a in
    let rest = climbs-replay_from m unit (after m b e) es l.1 (IsSteady-after m b e l.0 s) (AreRisen-after m b e n) step.0 in
    let p = sum_by-cons (λ x. cond (is_post anyone unit x) 1 0) e es in
    (rest.0, omega (arith, rest.1, step.1, p))

pub climbs-replay : {A : Type 0} (m : Analysis A) (unit : WorkUnit) (journal : List Event) → IsLegalJournal m journal
    → IsAhead unit (replay m journal) × (count_by (is_post anyone unit) journal ≤ level (done_at (replay m journal).done unit))
climbs-replay m unit journal l =
    let c = climbs-replay_from m unit (opening m) journal l (IsSteady-opening m) (omega arith, tt) (λ o e. absurd (cc)) in
    (c.0, omega (arith, c.1))

-- versions with a greater sum have an input that rose
ahead-risen : (v w : Versions) → AreUpTo v w → v.at + v.exit < w.at + w.exit → HasRisen v w
ahead-risen v w u h =
    elim (cases_lt v.at w.at) [ inl lt ↦ inl lt | inr ge ↦ inr (omega (arith, u.at, u.exit, h, ge)) ]

-- by whether the unit was done
ahead-by : {A : Type 0} (now out : Versions) (was : Option (Done A)) → AreUpTo out now → level was < out.at + out.exit
    → ((d : Done A) → was ≡ Some d → AreUpTo d.versions now) → MatchOption was (Unit {0}) (λ d. HasRisen d.versions now)
ahead-by now out None u h known = tt
ahead-by now out (Some d) u h known = ahead-risen d.versions now (known d refl) (omega (arith, u.at, u.exit, h))

-- by whether the unit was done
level-by : {A : Type 0} (m : Analysis A) (b : BookState A) (unit : WorkUnit) → IsSteady m b → AreInBounds m b.nodes
    → (was : Option (Done A)) → done_at b.done unit ≡ was → level was ≤ 128
level-by m b unit s n None e = omega arith
level-by m b unit s n (Some d) e =
    let w = done_at-all (IsWellDone m b.nodes) b.done unit d s.done e in
    let v = versions_of-most m b.nodes d.unit n in
    omega (arith, (w.0).known.at, (w.0).known.exit, v.0, v.1)

-- by whether the unit is out
out-by : {A : Type 0} (m : Analysis A) (b : BookState A) (unit : WorkUnit) → IsSteady m b → AreInBounds m b.nodes → IsAhead unit b
    → (was : Option (Out A)) → out_at b.out unit ≡ was → level (done_at b.done unit) + outs anyone was ≤ 128
out-by m b unit s n a None e = let l = level-by m b unit s n (done_at b.done unit) refl in omega (arith, l)
out-by m b unit s n a (Some o) e =
    let w = out_at-all (IsWellOut b.nodes) b.out unit o s.out e in
    let v = versions_of-most m b.nodes o.unit n in
    let h = a o e in
    omega (arith, (w.0).known.at, (w.0).known.exit, v.0, v.1, h)

-- A unit is claimed at most 128 times more often than it is given back: each claim but the first is of an input that rose.
pub claims-most : {A : Type 0} (m : Analysis A) → KeepsForm m → TopIsGreatest m
    → (unit : WorkUnit) (journal : List Event) → IsLegalJournal m journal
    → count_by (is_claim anyone unit) journal ≤ 128 + count_by (is_give_back anyone unit) journal
claims-most m keeps top unit journal l =
    let b = replay m journal in
    let t = turns-replay m anyone unit journal l in
    let c = climbs-replay m unit journal l in
    let o = out-by m b unit (IsSteady-replay m journal l) (IsInForm-replay m keeps top journal l).nodes c.0 (out_at b.out unit) refl in
    omega (arith, t, c.1, o)

-- Where a unit that is out is given back, it can be claimed anew if it still is a unit.
pub given_back-claimable : {A : Type 0} (m : Analysis A) (b : BookState A) (seat : ℕ) (unit : WorkUnit) (o : Out A)
    → IsSteady m b → IsAhead unit b
    → out_at b.out unit ≡ Some o → IsUnit (after m b (GiveBack seat unit)) unit → IsClaimable (after m b (GiveBack seat unit)) unit
given_back-claimable m b seat unit o s a e u =
    let r = after-give_back_home m b seat unit s in
    let nodes : (after m b (GiveBack seat unit)).nodes ≡ b.nodes = ap (λ x. x.nodes) (after-give_back m b seat unit) in
    let w = out_at-all (IsWellOut b.nodes) b.out unit o s.out e in
    let now : AreUpTo o.versions (versions_of b.nodes unit) = subst (λ x. AreUpTo o.versions (versions_of b.nodes x)) w.1 (w.0).known in
    record {
      known = u;
      at_home = r.0;
      due = subst (λ d. MatchOption d (Unit {0}) (λ x. HasRisen x.versions (versions_of (after m b (GiveBack seat unit)).nodes unit))) (sym r.1)
          (subst (λ n. MatchOption (done_at b.done unit) (Unit {0}) (λ x. HasRisen x.versions (versions_of n unit))) (sym nodes)
          (ahead-by (versions_of b.nodes unit) o.versions (done_at b.done unit) now (a o e)
          (λ d f. let k = done_at-all (IsWellDone m b.nodes) b.done unit d s.done f in
          subst (λ x. AreUpTo d.versions (versions_of b.nodes x)) k.1 (k.0).known)));
    }

-- An input that rose since the claim leaves a unit claimable behind its post, if it still is a unit.
pub posted-claimable : {A : Type 0} (m : Analysis A) (b : BookState A) (seat : ℕ) (unit : WorkUnit) (o : Out A) → IsSteady m b
    → out_at b.out unit ≡ Some o → IsUnit (after m b (Post seat unit)) unit
    → HasRisen o.versions (versions_of (after m b (Post seat unit)).nodes unit) → IsClaimable (after m b (Post seat unit)) unit
posted-claimable m b seat unit o s e u h =
    let r = after-post_done m b seat unit o s e in
    record {
      known = u;
      at_home = r.0;
      due = subst (λ d. MatchOption d (Unit {0}) (λ x. HasRisen x.versions (versions_of (after m b (Post seat unit)).nodes unit))) (sym r.1) h;
    }
