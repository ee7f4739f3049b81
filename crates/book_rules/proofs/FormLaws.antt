-- What the replay of a legal journal keeps for a chip that keeps a form of states: rises in bounds, and every state of the form.
use Rattle.std.specs.Prelude.{◌≡◌, ◌≤◌, Option, None, Some, List}
use Rattle.std.proofs.Common.{refl, sym, subst, arith}
use Rattle.call_context.specs.declared.node.Node.{Node}
use Rattle.call_context.specs.declared.node.Node.TheVariants.{At, Exit}
use Rattle.call_context.specs.declared.node.Unit.{Unit as WorkUnit}
use Rattle.call_context.specs.declared.node.Unit.TheVariants.{One, Back}
use Rattle.book_rules.specs.Sound.{AreInBounds, IsInForm, PostsAreFormed}
use Rattle.book_rules.specs.declared.event.Event.{Event}
use Rattle.book_rules.specs.declared.event.Event.TheVariants.{Claim, Post, GiveBack}
use Rattle.chip_analysis.specs.Analysis.{Analysis, AreFormed, KeepsForm, TopIsGreatest}
use Rattle.book_rules.proofs.RiseLaws.{held_at-in_bounds, all_raised-in_bounds}
use Rattle.book_rules.proofs.HeldLaws.{option_map-some, held_at-node, version_of-held, version_of-none}
use Rattle.book_rules.proofs.EntryLaws.{all_of, inputs_of-back, out_at-all, all-push, all-with_done, all-without}
use Rattle.book_rules.proofs.ReplayLaws.{taken, after-claim, after-post, after-give_back, replay_from-keeps, inputs_of-unit}
use Rattle.book_rules.specs.Machine.{BookState, Held, Out, held_at, version_of, versions_of, inputs_of, opening, posted, after, replay, IsUnit, IsLegal, IsLegalJournal}

-- what a work over formed inputs posts is formed
pub posts-formed : {A : Type 0} (m : Analysis A) → KeepsForm m → (unit : WorkUnit) (at : A) (exit : Option A) → AreFormed m unit at exit
    → PostsAreFormed m (m.work unit at exit).posts
posts-formed m keeps unit at exit f =
    all_of (λ post. m.HasForm post.0 post.1) (m.work unit at exit).posts (λ post h. keeps.posts unit at exit post.0 post.1 f h)

-- a held state has the form of the node that it is asked for
pub held_at-form : {A : Type 0} (m : Analysis A) (hs : List (Held A)) (node : Node) (h : Held A)
    → AreInBounds m hs → held_at hs node ≡ Some h → m.HasForm node h.state
held_at-form m hs node h a e = subst (λ x. m.HasForm x h.state) (held_at-node hs node h e) (held_at-in_bounds m hs node h a e).form

-- the inputs of a unit have the form
pub inputs_of-form : {A : Type 0} (m : Analysis A) (b : BookState A) (unit : WorkUnit) (inputs : A × Option A)
    → AreInBounds m b.nodes → IsUnit b unit → inputs_of b.nodes unit ≡ Some inputs → AreFormed m unit inputs.0 inputs.1
inputs_of-form m b (One (At pc calls frame)) inputs a u e =
    let r = option_map-some (λ h. (h.state, None)) (held_at b.nodes (At pc calls frame)) inputs e in
    subst (λ i. AreFormed m (One (At pc calls frame)) i.0 i.1) r.2 (held_at-form m b.nodes (At pc calls frame) r.0 a r.1)
inputs_of-form m b (One (Exit pc frame)) inputs a u e = absurd u
inputs_of-form m b (Back (At pc calls frame) (Exit from left)) inputs a u e =
    let r = inputs_of-back b.nodes (At pc calls frame) (Exit from left) inputs e in
    subst (λ i. AreFormed m (Back (At pc calls frame) (Exit from left)) i.0 i.1) (sym r.4)
    (held_at-form m b.nodes (At pc calls frame) r.0 a r.2, held_at-form m b.nodes (Exit from left) r.1 a r.3)
inputs_of-form m b (Back (At pc calls frame) (At from calls' frame')) inputs a u e = absurd u
inputs_of-form m b (Back (Exit pc frame) exit) inputs a u e = absurd u

pub IsInForm-opening : {A : Type 0} (m : Analysis A) → KeepsForm m → IsInForm m (opening m)
IsInForm-opening m keeps = record {
  nodes = (record { least = omega arith; most = omega arith; last = λ e. absurd (cc); form = keeps.start }, tt);
  out = tt;
  done = tt;
}

IsInForm-posted : {A : Type 0} (m : Analysis A) → KeepsForm m → TopIsGreatest m
    → (b : BookState A) (o : Out A) → AreFormed m o.unit o.at o.exit → IsInForm m b → IsInForm m (posted m b (Some o))
IsInForm-posted m keeps top b o f i =
    let p = posts-formed m keeps o.unit o.at o.exit f in
    record {
      nodes = all_raised-in_bounds m keeps top b.nodes (m.work o.unit o.at o.exit).posts i.nodes p;
      out = all-without (λ x. AreFormed m x.unit x.at x.exit) b.out o.unit i.out;
      done = all-with_done (λ d. PostsAreFormed m d.work.posts) b.done
          (record { unit = o.unit; work = m.work o.unit o.at o.exit; versions = o.versions }) i.done p;
    }

pub IsInForm-after : {A : Type 0} (m : Analysis A) → KeepsForm m → TopIsGreatest m
    → (b : BookState A) (event : Event) → IsLegal b event → IsInForm m b → IsInForm m (after m b event)
IsInForm-after m keeps top b (Claim seat unit) l i =
    let n = inputs_of-unit b unit l.claimable.known in
    subst (IsInForm m) (sym (after-claim m b seat unit n.0 n.1)) (record {
      nodes = i.nodes;
      out = all-push (λ x. AreFormed m x.unit x.at x.exit) b.out (taken b seat unit n.0) i.out
          (inputs_of-form m b unit n.0 i.nodes l.claimable.known n.1);
      done = i.done;
    })
IsInForm-after m keeps top b (Post seat unit) l i =
    subst (IsInForm m) (sym (after-post m b seat unit l.0 l.1))
    (IsInForm-posted m keeps top b l.0 (out_at-all (λ x. AreFormed m x.unit x.at x.exit) b.out unit l.0 i.out l.1).0 i)
IsInForm-after m keeps top b (GiveBack seat unit) l i =
    subst (IsInForm m) (sym (after-give_back m b seat unit)) (record {
      nodes = i.nodes;
      out = all-without (λ x. AreFormed m x.unit x.at x.exit) b.out unit i.out;
      done = i.done;
    })

pub IsInForm-replay : {A : Type 0} (m : Analysis A) → KeepsForm m → TopIsGreatest m
    → (journal : List Event) → IsLegalJournal m journal → IsInForm m (replay m journal)
IsInForm-replay m keeps top journal l =
    replay_from-keeps m (IsInForm m) (IsInForm-after m keeps top) (opening m) journal l (IsInForm-opening m keeps)

-- by whether the node is there
most-by : {A : Type 0} (m : Analysis A) (hs : List (Held A)) (node : Node) → AreInBounds m hs
    → (o : Option (Held A)) → held_at hs node ≡ o → version_of hs node ≤ 64
most-by m hs node a None e = let z = version_of-none hs node e in omega arith
most-by m hs node a (Some h) e =
    let v = version_of-held hs node h e in let i = (held_at-in_bounds m hs node h a e).most in omega (arith, v, i)

-- versions are at most 64
pub version_of-most : {A : Type 0} (m : Analysis A) (hs : List (Held A)) (node : Node) → AreInBounds m hs → version_of hs node ≤ 64
version_of-most m hs node a = most-by m hs node a (held_at hs node) refl

pub versions_of-most : {A : Type 0} (m : Analysis A) (hs : List (Held A)) (unit : WorkUnit) → AreInBounds m hs
    → ((versions_of hs unit).at ≤ 64) × ((versions_of hs unit).exit ≤ 64)
versions_of-most m hs (One node) a = (version_of-most m hs node a, omega arith)
versions_of-most m hs (Back node exit) a = (version_of-most m hs node a, version_of-most m hs exit a)
