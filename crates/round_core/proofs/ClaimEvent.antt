-- The events of claims and give-backs.
use Rattle.std.specs.Prelude.{◌≡◌, ℕ, Option, None, Some, List, [], ◌∷◌, ◌++◌}
use Rattle.std.proofs.Common.{sym, ◌∙◌, ap, subst}
use Rattle.std.proofs.Math.Path.{ap₂}
use Rattle.call_context.specs.declared.node.Unit.{Unit as WorkUnit}
use Rattle.book_rules.specs.SameTests.{same_unit-refl}
use Rattle.chip_analysis.specs.Analysis.{Analysis}
use Rattle.book_rules.specs.declared.event.Event.{Event}
use Rattle.book_rules.specs.declared.event.Event.TheVariants.{Claim, GiveBack}
use Rattle.round_core.specs.declared.parts.Parts.{Parts}
use Rattle.round_core.specs.declared.place.Place.{Place}
use Rattle.book_rules.specs.declared.versions.Versions.{Versions}
use Rattle.book_rules.specs.Machine.{BookState, Held, Out, after, out_at, without, with_out, inputs_of, versions_of, replay, IsClaimable, IsFirst, IsLegal, IsLegalJournal, NoneClaimable}
use Rattle.round_core.specs.Claims.{placed, IsNext}
use Rattle.book_rules.specs.Kept.{Kept, with_event}
use Rattle.round_core.specs.Shown.{Shows, IsBook, StaysShown}
use Rattle.round_core.specs.Tickets.{IsTicketOf}
use Rattle.round_core.proofs.Cases.{if_true, match_some}
use Rattle.book_rules.specs.Replays.{replay-push, claim-leaves, give_back-leaves, IsLegalJournal-push}
use Rattle.round_core.proofs.OutLemmas.{out_at-last}

module _ {A : Type 0} (m : Analysis A) where
  abbrev behind : BookState A → List (Out A) → BookState A
  behind b os = record b { out = os }

  abbrev ticket : ℕ → WorkUnit → A → Option A → Versions → List (Held A) → Out A
  ticket seat u at exit versions nodes = record { seat = seat; unit = u; at = at; exit = exit; versions = versions; nodes = nodes }

  out-is : (b : BookState A) (seat : ℕ) (u : WorkUnit) (t : Out A) → IsTicketOf b.nodes seat u t
      → with_out b seat u (inputs_of b.nodes u) ≡ b.out ++ t ∷ []
  out-is b seat u t k =
      ap (λ i. with_out b seat u i) k.inputs_are
      ∙ ap₂ (λ s v. b.out ++ ticket s v t.at t.exit (versions_of b.nodes u) b.nodes ∷ []) (sym k.seat_is) (sym k.unit_is)
      ∙ ap₂ (λ v hs. b.out ++ ticket t.seat t.unit t.at t.exit v hs ∷ []) (sym k.versions_are) (sym k.nodes_are)

  -- any book behind a claim, whose unit is out then with its ticket
  pub claim-is : (b : BookState A) (p : Parts A) (seat : ℕ) (u : WorkUnit) (t : Out A) → Shows b p → IsTicketOf p.nodes.rows seat u t
      → after m b (Claim seat u) ≡ behind b (b.out ++ t ∷ [])
  claim-is b p seat u t s k =
      claim-leaves m b seat u ∙ ap (λ os. behind b os) (out-is b seat u t (subst (λ hs. IsTicketOf hs seat u t) s.nodes k))

  pub claimed-shown : (b : BookState A) (p p' : Parts A) (seat : ℕ) (u : WorkUnit) (t : Out A) → Shows b p → IsTicketOf p.nodes.rows seat u t
      → Shows (behind b (b.out ++ t ∷ [])) p' → Shows (after m b (Claim seat u)) p'
  claimed-shown b p p' seat u t s k s' = subst (λ c. Shows c p') (sym (claim-is b p seat u t s k)) s'

  pub claimed-out : (b : BookState A) (p : Parts A) (seat : ℕ) (u : WorkUnit) (t : Out A) → Shows b p → IsTicketOf p.nodes.rows seat u t
      → out_at b.out u ≡ None → out_at (after m b (Claim seat u)).out t.unit ≡ Some t
  claimed-out b p seat u t s k home =
      ap (λ c. out_at c.out t.unit) (claim-is b p seat u t s k) ∙ out_at-last b.out t t.unit (ap (λ v. out_at b.out v) k.unit_is ∙ home)
      ∙ if_true _ _ _ (same_unit-refl t.unit)

  -- the book of a journal behind a claim
  claimed : (journal : List Event) (p p' : Parts A) (seat : ℕ) (u : WorkUnit) (t : Out A)
      → Shows (replay m journal) p → IsFirst (replay m journal) u → IsTicketOf p.nodes.rows seat u t
      → p'.turns.journal ≡ journal ++ Claim seat u ∷ [] → Shows (behind (replay m journal) ((replay m journal).out ++ t ∷ [])) p'
      → Shows (replay m p'.turns.journal) p' × (out_at (replay m p'.turns.journal).out t.unit ≡ Some t)
  claimed journal p p' seat u t s first k e s' =
      let b = replay m journal in
      let back = ap (λ j. replay m j) e ∙ replay-push m journal (Claim seat u) in (
        subst (λ c. Shows c p') (sym back) (claimed-shown b p p' seat u t s k s'),
        ap (λ c. out_at c.out t.unit) back ∙ claimed-out b p seat u t s k first.claimable.at_home,
      )

  -- the book behind a give-back
  pub given_back : (journal : List Event) (p' : Parts A) (seat : ℕ) (u : WorkUnit) → p'.turns.journal ≡ journal ++ GiveBack seat u ∷ []
      → Shows (behind (replay m journal) (without (replay m journal).out u)) p' → Shows (replay m p'.turns.journal) p'
  given_back journal p' seat u e s =
      subst (λ c. Shows c p') (sym (ap (λ j. replay m j) e ∙ replay-push m journal (GiveBack seat u) ∙ give_back-leaves m (replay m journal) seat u)) s

-- parts that stand for the same books, with the same journal
pub book-stays : {A : Type 0} (m : Analysis A) (p p' : Parts A) → StaysShown p p' → p'.turns.journal ≡ p.turns.journal
    → IsBook m p.turns.journal p
    → IsBook m p'.turns.journal p'
book-stays m p p' stays same book = record {
  shows = subst (λ j. Shows (replay m j) p') (sym same) (stays (replay m p.turns.journal) book.shows);
  legal = subst (IsLegalJournal m) (sym same) book.legal;
}

-- the journal behind one more legal event is legal
pub legal-more : {A : Type 0} (m : Analysis A) (journal journal' : List Event) (event : Event) → journal' ≡ journal ++ event ∷ []
    → IsLegalJournal m journal → IsLegal (replay m journal) event → IsLegalJournal m journal'
legal-more m journal journal' event more legal next = subst (IsLegalJournal m) (sym more) (IsLegalJournal-push m journal event legal next)

-- the first unit that can be claimed is taken out: the book behind that, and what the claim tells
pub first_out : {A : Type 0} (m : Analysis A) (p q p' : Parts A) (seat : ℕ) (found : Option (Place × WorkUnit)) (place : Place) (u : WorkUnit) (t : Out A)
    → IsBook m p.turns.journal p → StaysShown p q → q.turns.journal ≡ p.turns.journal
    → IsNext (replay m p.turns.journal) found
    → found ≡ Some (place, u) → IsTicketOf q.nodes.rows seat u t → p'.turns.journal ≡ q.turns.journal ++ Claim seat u ∷ []
    → ((b : BookState A) (o : Out A) → Shows b q → IsClaimable b u → placed b.nodes u ≡ Some place → o.unit ≡ u → Shows (record b { out = b.out ++ o ∷ [] }) p')
    → IsBook m p'.turns.journal p' × IsFirst (replay m p.turns.journal) u × (p'.turns.journal ≡ p.turns.journal ++ Claim seat u ∷ [])
    × (out_at (replay m p'.turns.journal).out t.unit ≡ Some t)
first_out m p q p' seat found place u t book stays same first is k more taken =
    let b = replay m p.turns.journal in
    let s = stays b book.shows in
    let f = match_some (NoneClaimable b) (λ r. IsFirst b r.1 × (placed b.nodes r.1 ≡ Some r.0)) found (place, u) is first in
    let journal = more ∙ ap (λ j. j ++ Claim seat u ∷ []) same in
    let c = claimed m p.turns.journal q p' seat u t s f.0 k journal (taken b t s f.0.claimable f.1 k.unit_is) in (
      record { shows = c.0; legal = legal-more m p.turns.journal p'.turns.journal (Claim seat u) journal book.legal f.0 },
      f.0,
      journal,
      c.1,
    )

module _ {A B : Type 0} (analysis : B → Analysis A) where
  abbrev kept : B → List Event → Kept B
  kept base journal = record { base = base; journal = journal }

  -- what a claim answers where the fields show what is kept
  pub answer-is : (k : Kept B) (base : B) (journal journal' : List Event) (seat : ℕ) (u : WorkUnit) (t : Out A) → kept base journal ≡ k
      → IsFirst (replay (analysis base) journal) u → t.unit ≡ u → t.seat ≡ seat → journal' ≡ journal ++ Claim seat u ∷ []
      → out_at (replay (analysis base) journal').out t.unit ≡ Some t
      → IsFirst (replay (analysis k.base) k.journal) t.unit × (t.seat ≡ seat) × (kept base journal' ≡ with_event k (Claim seat t.unit))
      × (out_at (replay (analysis k.base) journal').out t.unit ≡ Some t)
  answer-is k base journal journal' seat u t e first own seated more out =
      let P : Kept B → Type 0 = λ c. IsFirst (replay (analysis c.base) c.journal) t.unit × (t.seat ≡ seat) × (kept base journal' ≡ with_event c (Claim seat t.unit))
      × (out_at (replay (analysis c.base) journal').out t.unit ≡ Some t) in
      subst P e (
        subst (λ v. IsFirst (replay (analysis base) journal) v) (sym own) first,
        seated,
        ap (λ j. kept base j) (more ∙ ap (λ v. journal ++ Claim seat v ∷ []) (sym own)),
        out,
      )

  pub legal-out : (k : Kept B) (base : B) (journal : List Event) (t : Out A) → kept base journal ≡ k
      → out_at (replay (analysis k.base) k.journal).out t.unit ≡ Some t → out_at (replay (analysis base) journal).out t.unit ≡ Some t
  legal-out k base journal t e out =
      let P : Kept B → Type 0 = λ c. out_at (replay (analysis c.base) c.journal).out t.unit ≡ Some t in subst P (sym e) out
