-- Lemmas: the replay of one more event, and what each event leaves.
use Rattle.std.specs.Prelude.{◌≡◌, ℕ, List, [], ◌∷◌, ◌++◌}
use Rattle.std.proofs.Common.{refl}
use Rattle.call_context.specs.declared.node.Unit.{Unit as WorkUnit}
use Rattle.chip_analysis.specs.Analysis.{Analysis}
use Rattle.book_rules.specs.declared.event.Event.{Event}
use Rattle.book_rules.specs.declared.event.Event.TheVariants.{Claim, Post, GiveBack}
use Rattle.book_rules.specs.Machine.{BookState, opening, out_at, without, with_out, inputs_of, posted, after, replay_from, replay, IsLegal, AllLegal, IsLegalJournal}

module _ {A : Type 0} (m : Analysis A) where
  pub replay_from-push : (b : BookState A) (es : List Event) (event : Event) → replay_from m b (es ++ event ∷ []) ≡ after m (replay_from m b es) event
  unfolding replay_from
  replay_from-push b [] event = refl
  replay_from-push b (e ∷ es) event = replay_from-push (after m b e) es event

  pub replay-push : (journal : List Event) (event : Event) → replay m (journal ++ event ∷ []) ≡ after m (replay m journal) event
  replay-push journal event = replay_from-push (opening m) journal event

  pub replay-none : replay m [] ≡ opening m
  unfolding replay_from
  replay-none = refl

  -- a journal is legal in two parts, each behind what stands before it
  pub AllLegal-append : (b : BookState A) (es fs : List Event) → AllLegal m b es → AllLegal m (replay_from m b es) fs → AllLegal m b (es ++ fs)
  unfolding replay_from AllLegal
  AllLegal-append b [] fs l k = k
  AllLegal-append b (e ∷ es) fs l k = (l.0, AllLegal-append (after m b e) es fs l.1 k)

  -- no event is a legal journal, and one more legal event keeps it legal
  pub IsLegalJournal-none : IsLegalJournal m []
  unfolding AllLegal
  IsLegalJournal-none = tt

  pub IsLegalJournal-push : (journal : List Event) (event : Event) → IsLegalJournal m journal
      → IsLegal (replay m journal) event → IsLegalJournal m (journal ++ event ∷ [])
  IsLegalJournal-push journal event l e = AllLegal-append (opening m) journal (event ∷ []) l (unfold AllLegal in (e, tt))

  pub claim-leaves : (b : BookState A) (seat : ℕ) (u : WorkUnit)
      → after m b (Claim seat u) ≡ record b { out = with_out b seat u (inputs_of b.nodes u) }
  unfolding after
  claim-leaves b seat u = refl

  pub post-leaves : (b : BookState A) (seat : ℕ) (u : WorkUnit) → after m b (Post seat u) ≡ posted m b (out_at b.out u)
  unfolding after
  post-leaves b seat u = refl

  pub give_back-leaves : (b : BookState A) (seat : ℕ) (u : WorkUnit) → after m b (GiveBack seat u) ≡ record b { out = without b.out u }
  unfolding after
  give_back-leaves b seat u = refl
