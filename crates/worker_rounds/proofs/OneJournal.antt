-- Turns that finish a book are the only ones that do: each is of the first unit, and none comes behind the end.
use Rattle.std.proofs.Common.{◌≡◌, List, [], ◌∷◌, refl, sym, ap, ◌∙◌, subst}
use Rattle.call_context.specs.declared.node.Unit.{Unit as WorkUnit}
use Rattle.chip_analysis.specs.Analysis.{Analysis}
use Rattle.book_rules.specs.declared.event.Event.{Event}
use Rattle.book_rules.specs.declared.event.Event.TheVariants.{Claim, Post, GiveBack}
use Rattle.book_rules.specs.Machine.{AllLegal, BookState, IsFinished, IsFirst, after, opening, replay_from}
use Rattle.worker_rounds.specs.Turns.{AreTurns, FinishesAlone}

-- the turns of these units
abbrev turns_of : List WorkUnit → List Event
turns_of [] = []
turns_of (unit ∷ units) = Claim 0 unit ∷ Post 0 unit ∷ turns_of units

as_turns : (events : List Event) → AreTurns events → (units : List WorkUnit) × (events ≡ turns_of units)
as_turns [] are = ([], refl)
as_turns (Claim seat unit ∷ Post other posted ∷ events) are = let (units, same) = as_turns events are.3 in (unit ∷ units, cc)
as_turns (Claim seat unit ∷ []) are = absurd are
as_turns (Claim seat unit ∷ Claim other taken ∷ events) are = absurd are
as_turns (Claim seat unit ∷ GiveBack other taken ∷ events) are = absurd are
as_turns (Post seat unit ∷ events) are = absurd are
as_turns (GiveBack seat unit ∷ events) are = absurd are

module _ {A : Type 0} (m : Analysis A) (first_is_one : (b : BookState A) (unit other : WorkUnit) → IsFirst b unit → IsFirst b other → unit ≡ other) where
  -- the book behind a turn
  abbrev turned : BookState A → WorkUnit → BookState A
  turned b unit = after m (after m b (Claim 0 unit)) (Post 0 unit)

  same_units : (b : BookState A) (us vs : List WorkUnit) → AllLegal m b (turns_of us) → AllLegal m b (turns_of vs)
      → IsFinished (replay_from m b (turns_of us)) → IsFinished (replay_from m b (turns_of vs)) → us ≡ vs
  unfolding AllLegal replay_from
  same_units b [] [] one other end finish = refl
  same_units b [] (v ∷ vs) one other end finish = absurd (end.none_claimable v other.0.claimable)
  same_units b (u ∷ us) [] one other end finish = absurd (finish.none_claimable u one.0.claimable)
  same_units b (u ∷ us) (v ∷ vs) one other end finish =
      let same : v ≡ u = first_is_one b v u other.0 one.0 in
      let rest : us ≡ vs = same_units (turned b u) us vs one.1.1 (subst (λ w. AllLegal m (turned b w) (turns_of vs)) same other.1.1) end
      (subst (λ w. IsFinished (replay_from m (turned b w) (turns_of vs))) same finish) in
      cc

  pub one_journal : (one other : List Event) → FinishesAlone m one → FinishesAlone m other → one ≡ other
  one_journal one other this that =
      let (us, is_one) = as_turns one this.turns in
      let (vs, is_other) = as_turns other that.turns in
      let same : us ≡ vs = same_units (opening m) us vs (subst (AllLegal m (opening m)) is_one this.legal) (subst (AllLegal m (opening m)) is_other that.legal)
      (subst (λ events. IsFinished (replay_from m (opening m) events)) is_one this.finished)
      (subst (λ events. IsFinished (replay_from m (opening m) events)) is_other that.finished) in
      is_one ∙ ap turns_of same ∙ sym is_other
