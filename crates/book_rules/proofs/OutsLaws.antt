-- What is out to a seat, through the events of others, and over a turn of one worker.
use Rattle.std.specs.Prelude.{◌≡◌, ◌≢◌, ℕ, false, Option, None, Some, List, [], ◌∷◌, ◌++◌, if◌then◌else◌}
use Rattle.std.proofs.Common.{refl, sym, ◌∙◌, ap, subst}
use Rattle.std.proofs.lemmas.Bool.{false_from_ne_true}
use Rattle.std.proofs.lemmas.Option.{same_Some}
use Rattle.call_context.specs.declared.node.Unit.{Unit as WorkUnit}
use Rattle.book_rules.specs.Same.{same_unit}
use Rattle.book_rules.specs.SameTests.{same_unit-eq, same_unit-refl}
use Rattle.chip_analysis.specs.Analysis.{Analysis}
use Rattle.book_rules.specs.Counts.{seat_of, NoneOfSeat, unit_of}
use Rattle.book_rules.specs.Machine.{BookState, Out, out_at, without, with_out, inputs_of, after, posted, replay_from, IsFirst, IsLegal, AllLegal}
use Rattle.book_rules.specs.declared.event.Event.{Event}
use Rattle.book_rules.specs.declared.event.Event.TheVariants.{Claim, Post, GiveBack}
use Rattle.book_rules.proofs.EntryLaws.{all-any, out_at-all, out_at-push_found, out_at-without_other}
use Rattle.book_rules.proofs.ReplayLaws.{taken, after-claim, after-post, after-give_back, inputs_of-unit}

-- of two seats that differ each has its own unit
other_unit : {A : Type 0} (os : List (Out A)) (unit gone : WorkUnit) (o other : Out A) → out_at os unit ≡ Some o
    → out_at os gone ≡ Some other
    → other.seat ≢ o.seat → same_unit unit gone ≡ false
other_unit os unit gone o other e d differ = false_from_ne_true (same_unit unit gone) (λ t.
    let same : unit ≡ gone = same_unit-eq unit gone t in
    differ (ap (λ x. x.seat) (same_Some other o (sym d ∙ ap (λ u. out_at os u) (sym same) ∙ e))))

unit_of_out : {A : Type 0} (os : List (Out A)) (unit : WorkUnit) (o : Out A) → out_at os unit ≡ Some o → o.unit ≡ unit
unit_of_out os unit o e = (out_at-all (λ x. Unit {0}) os unit o (all-any os) e).1

-- a legal event of another seat leaves it out
out-after : {A : Type 0} (m : Analysis A) (b : BookState A) (event : Event) (unit : WorkUnit) (o : Out A)
    → IsLegal b event → seat_of event ≢ o.seat
    → out_at b.out unit ≡ Some o → out_at (after m b event).out unit ≡ Some o
out-after m b (Claim seat u) unit o legal differ e =
    let i = inputs_of-unit b u legal.claimable.known in
    ap (λ x. out_at x.out unit) (after-claim m b seat u i.0 i.1) ∙ out_at-push_found b.out (taken b seat u i.0) unit o e
out-after m b (Post seat u) unit o legal differ e =
    let other = legal.0 in
    let apart : same_unit unit u ≡ false = other_unit b.out unit u o other e legal.1 (λ s. differ (sym legal.2 ∙ s)) in
    let own : other.unit ≡ u = unit_of_out b.out u other legal.1 in
    ap (λ x. out_at x.out unit) (after-post m b seat u other legal.1)
    ∙ out_at-without_other b.out other.unit unit (subst (λ v. same_unit unit v ≡ false) (sym own) apart) ∙ e
out-after m b (GiveBack seat u) unit o legal differ e =
    let apart : same_unit unit u ≡ false = other_unit b.out unit u o legal.0 e legal.1 (λ s. differ (sym legal.2 ∙ s)) in
    ap (λ x. out_at x.out unit) (after-give_back m b seat u) ∙ out_at-without_other b.out u unit apart ∙ e

pub outs-stay : {A : Type 0} (m : Analysis A) (b : BookState A) (more : List Event) (unit : WorkUnit) (o : Out A) → AllLegal m b more
    → out_at b.out unit ≡ Some o → NoneOfSeat o.seat more → out_at (replay_from m b more).out unit ≡ Some o
unfolding replay_from AllLegal
outs-stay m b [] unit o legal e none = e
outs-stay m b (event ∷ more) unit o legal e none =
    outs-stay m (after m b event) more unit o legal.1 (out-after m b event unit o legal.0 none.0 e) none.1

-- an event of another unit leaves a unit out
pub out-beside : {A : Type 0} (m : Analysis A) (b : BookState A) (event : Event) (unit : WorkUnit) (o : Out A) → out_at b.out unit ≡ Some o
    → same_unit unit (unit_of event) ≡ false → out_at (after m b event).out unit ≡ Some o
unfolding after
out-beside {A = A} m b (Claim seat u) unit o e other = claimed (inputs_of b.nodes u)
  where
    claimed : (inputs : Option (A × Option A)) → out_at (with_out b seat u inputs) unit ≡ Some o
    claimed None = e
    claimed (Some i) = out_at-push_found b.out (taken b seat u i) unit o e
out-beside {A = A} m b (Post seat u) unit o e other = home (out_at b.out u) refl
  where
    home : (p : Option (Out A)) → out_at b.out u ≡ p → out_at (posted m b p).out unit ≡ Some o
    home None is = e
    home (Some p) is =
        let own : p.unit ≡ u = unit_of_out b.out u p is in
        out_at-without_other b.out p.unit unit (subst (λ v. same_unit unit v ≡ false) (sym own) other) ∙ e
out-beside {A = A} m b (GiveBack seat u) unit o e other = out_at-without_other b.out u unit other ∙ e

-- what a turn of one worker leaves: the post is legal, and then nothing is out again
pub record IsTurned {A : Type 0} (m : Analysis A) (b : BookState A) (seat : ℕ) (unit : WorkUnit) : Type 0 where
  pub legal : IsLegal (after m b (Claim seat unit)) (Post seat unit)
  pub none_out : (after m (after m b (Claim seat unit)) (Post seat unit)).out ≡ []

pub turned : {A : Type 0} (m : Analysis A) (b : BookState A) (seat : ℕ) (unit : WorkUnit) → IsFirst b unit → b.out ≡ []
    → IsTurned m b seat unit
turned m b seat unit first none =
    let i = inputs_of-unit b unit first.claimable.known in
    let t = taken b seat unit i.0 in
    let claimed = after m b (Claim seat unit) in
    let e : claimed ≡ record b { out = b.out ++ t ∷ [] } = after-claim m b seat unit i.0 i.1 in
    let one_out : claimed.out ≡ t ∷ [] = ap (λ x. x.out) e ∙ ap (λ os. os ++ t ∷ []) none in
    let found : out_at claimed.out unit ≡ Some t = ap (λ os. out_at os unit) one_out ∙ ap (λ same. if same then Some t else None) (same_unit-refl unit) in
    let p : after m claimed (Post seat unit) ≡ posted m claimed (Some t) = after-post m claimed seat unit t found in
    let left : (after m claimed (Post seat unit)).out ≡ without claimed.out unit = ap (λ x. x.out) p in
    record {
      legal = (t, found, refl);
      none_out = left ∙ ap (λ os. without os unit) one_out ∙ ap (λ same. if same then [] else t ∷ []) (same_unit-refl unit);
    }
