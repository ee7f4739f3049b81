-- In a finished book each unit was done over the present states of its inputs, and what its work posts is under the nodes.
use Rattle.std.specs.Prelude.{◌≡◌, Option, None, Some, List, [], ◌∷◌, MatchOption}
use Rattle.std.specs.List.{AllByRecursion}
use Rattle.std.proofs.Common.{refl, sym, ap, subst}
use Rattle.call_context.specs.declared.node.Unit.{Unit as WorkUnit}
use Rattle.book_rules.specs.Sound.{AreUnder, IsInForm, IsServed, IsSteady, IsWellDone, PostsAreFormed}
use Rattle.book_rules.specs.SameTests.{same_node-refl}
use Rattle.book_rules.specs.declared.event.Event.{Event}
use Rattle.book_rules.specs.declared.event.Event.TheVariants.{Claim, Post, GiveBack}
use Rattle.chip_analysis.specs.Analysis.{Analysis, AreFormed, KeepsForm, IsOrdered}
use Rattle.book_rules.proofs.RiseLaws.{AreUnder-all_raised, IsUnder-all_raised, all_raised-under}
use Rattle.book_rules.specs.Staying.{held_at-here}
use Rattle.book_rules.proofs.EntryLaws.{out_at-all, done_at-all, all-with_done, up_to-unless_risen}
use Rattle.book_rules.proofs.ReplayLaws.{after-claim, after-post, after-give_back, inputs_of-unit}
use Rattle.book_rules.proofs.FormLaws.{posts-formed}
use Rattle.book_rules.specs.Table.{IsWorkOf}
use Rattle.book_rules.specs.Machine.{BookState, Done, Out, done_at, out_at, all_raised, versions_of, opening, posted, after, IsUnit, IsFinished, IsLegal, HasRisen}

-- a unit of a finished book was done
done-by : {A : Type 0} (m : Analysis A) (b : BookState A) (unit : WorkUnit) → IsFinished b → IsSteady m b → IsUnit b unit
    → (was : Option (Done A)) → done_at b.done unit ≡ was → (d : Done A) × (done_at b.done unit ≡ Some d) × IsWorkOf m b.nodes unit d.work
done-by m b unit f s u None e =
    absurd (f.none_claimable unit (record {
      known = u;
      at_home = ap (λ os. out_at os unit) f.none_out;
      due = subst (λ w. MatchOption w (Unit {0}) (λ d. HasRisen d.versions (versions_of b.nodes unit))) (sym e) tt;
    }))
done-by m b unit f s u (Some d) e =
    let w = done_at-all (IsWellDone m b.nodes) b.done unit d s.done e in
    let same : versions_of b.nodes d.unit ≡ d.versions = up_to-unless_risen d.versions (versions_of b.nodes d.unit) (w.0).known
    (λ h. f.none_claimable unit (record {
      known = u;
      at_home = ap (λ os. out_at os unit) f.none_out;
      due = subst (λ w. MatchOption w (Unit {0}) (λ d. HasRisen d.versions (versions_of b.nodes unit))) (sym e)
          (subst (λ x. HasRisen d.versions (versions_of b.nodes x)) w.1 h);
    })) in
    (d, e, subst (λ x. IsWorkOf m b.nodes x d.work) w.1 ((w.0).worked same))

pub finished-done : {A : Type 0} (m : Analysis A) (b : BookState A) (unit : WorkUnit) → IsFinished b → IsSteady m b → IsUnit b unit
    → (d : Done A) × (done_at b.done unit ≡ Some d) × IsWorkOf m b.nodes unit d.work
finished-done m b unit f s u = done-by m b unit f s u (done_at b.done unit) refl

all-both : {X : Type 0} (P Q R : X → Type 0) → ((x : X) → P x → Q x → R x) → (xs : List X) → AllByRecursion P xs
    → AllByRecursion Q xs → AllByRecursion R xs
all-both P Q R f [] p q = tt
all-both P Q R f (x ∷ xs) p q = (f x p.0 q.0, all-both P Q R f xs p.1 q.1)

pub IsServed-opening : {A : Type 0} (m : Analysis A) → KeepsForm m → IsOrdered m → IsServed m (opening m)
IsServed-opening m keeps o = record {
  start = (
    record { node = m.first_node; state = m.first_state; rises = 1 },
    held_at-here (record { node = m.first_node; state = m.first_state; rises = 1 }) [] m.first_node (same_node-refl m.first_node),
    o.itself m.first_node m.first_state keeps.start,
  );
  done = tt;
}

IsServed-posted : {A : Type 0} (m : Analysis A) → KeepsForm m → IsOrdered m
    → (b : BookState A) (out : Out A) → AreFormed m out.unit out.at out.exit → IsInForm m b → IsServed m b
    → IsServed m (posted m b (Some out))
IsServed-posted m keeps o b out f i s =
    let work = m.work out.unit out.at out.exit in
    let p : PostsAreFormed m work.posts = posts-formed m keeps out.unit out.at out.exit f in
    record {
      start = IsUnder-all_raised m keeps o b.nodes work.posts (m.first_node, m.first_state) i.nodes p keeps.start s.start;
      done = all-with_done (λ d. AreUnder m (all_raised m b.nodes work.posts) d.work.posts) b.done
          (record { unit = out.unit; work = work; versions = out.versions })
          (all-both (λ d. PostsAreFormed m d.work.posts) (λ d. AreUnder m b.nodes d.work.posts) (λ d. AreUnder m (all_raised m b.nodes work.posts) d.work.posts)
          (λ d g u. AreUnder-all_raised m keeps o b.nodes work.posts d.work.posts i.nodes p g u) b.done i.done s.done)
          (all_raised-under m keeps o b.nodes work.posts i.nodes p);
    }

pub IsServed-after : {A : Type 0} (m : Analysis A) → KeepsForm m → IsOrdered m
    → (b : BookState A) (event : Event) → IsLegal b event → IsInForm m b → IsServed m b → IsServed m (after m b event)
IsServed-after m keeps o b (Claim seat unit) l i s =
    let n = inputs_of-unit b unit l.claimable.known in
    subst (IsServed m) (sym (after-claim m b seat unit n.0 n.1)) (record { start = s.start; done = s.done })
IsServed-after m keeps o b (Post seat unit) l i s =
    subst (IsServed m) (sym (after-post m b seat unit l.0 l.1))
    (IsServed-posted m keeps o b l.0 (out_at-all (λ x. AreFormed m x.unit x.at x.exit) b.out unit l.0 i.out l.1).0 i s)
IsServed-after m keeps o b (GiveBack seat unit) l i s =
    subst (IsServed m) (sym (after-give_back m b seat unit)) (record { start = s.start; done = s.done })

-- what the work of a unit of a finished book posts is under the nodes
pub finished-under : {A : Type 0} (m : Analysis A) (b : BookState A) (unit : WorkUnit) (d : Done A) → IsServed m b
    → done_at b.done unit ≡ Some d
    → AreUnder m b.nodes d.work.posts
finished-under m b unit d s e = (done_at-all (λ x. AreUnder m b.nodes x.work.posts) b.done unit d s.done e).0
