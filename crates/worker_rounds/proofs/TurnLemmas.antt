-- One turn of a worker alone: it claims the first unit and posts it.
use Rattle.std.proofs.Common.{◌≡◌, List, [], ◌∷◌, ◌++◌, append_assoc, refl, sym, subst}
use Rattle.call_context.specs.declared.node.Unit.{Unit as WorkUnit}
use Rattle.chip_analysis.specs.Analysis.{Analysis}
use Rattle.book_rules.specs.declared.event.Event.{Event}
use Rattle.book_rules.specs.declared.event.Event.TheVariants.{Claim, Post, GiveBack}
use Rattle.book_rules.specs.Machine.{replay, IsFirst}
use Rattle.worker_rounds.specs.Turns.{AreTurns}

AreTurns-push : (journal : List Event) (unit : WorkUnit) → AreTurns journal → AreTurns (journal ++ Claim 0 unit ∷ Post 0 unit ∷ [])
AreTurns-push [] unit h = (refl, refl, refl, tt)
AreTurns-push (Claim seat taken ∷ Post other posted ∷ events) unit h = (h.0, h.1, h.2, AreTurns-push events unit h.3)
AreTurns-push (Claim seat taken ∷ []) unit h = absurd h
AreTurns-push (Claim seat taken ∷ Claim other again ∷ events) unit h = absurd h
AreTurns-push (Claim seat taken ∷ GiveBack other again ∷ events) unit h = absurd h
AreTurns-push (Post seat posted ∷ events) unit h = absurd h
AreTurns-push (GiveBack seat back ∷ events) unit h = absurd h

-- what holds between the turns of one worker: nothing is out, and the journal has whole turns
pub record IsBetweenTurns {A : Type 0} (m : Analysis A) (journal : List Event) : Type 0 where
  pub none_out : (replay m journal).out ≡ []
  pub turns : AreTurns journal

-- what a turn leaves of the units that are out
abbrev pub BringsHome : {A : Type 0} → Analysis A → List Event → WorkUnit → Type 0
BringsHome m journal unit = IsFirst (replay m journal) unit → (replay m journal).out ≡ []
    → (replay m ((journal ++ Claim 0 unit ∷ []) ++ Post 0 unit ∷ [])).out ≡ []

pub behind_turn : {A : Type 0} (m : Analysis A) (journal : List Event) (unit : WorkUnit) → BringsHome m journal unit
    → IsBetweenTurns m journal
    → IsFirst (replay m journal) unit → IsBetweenTurns m ((journal ++ Claim 0 unit ∷ []) ++ Post 0 unit ∷ [])
behind_turn m journal unit home between first = record {
  none_out = home first between.none_out;
  turns = subst AreTurns (sym (append_assoc journal (Claim 0 unit ∷ []) (Post 0 unit ∷ []))) (AreTurns-push journal unit between.turns);
}
