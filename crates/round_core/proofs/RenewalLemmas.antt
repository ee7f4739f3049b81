-- A turn of a renewal.
use Rattle.std.specs.Prelude.{◌≡◌, Option, None, Some, List, [], ◌∷◌, ◌++◌, Result, Ok, Err, OnErr}
use Rattle.std.proofs.Common.{refl, sym, ◌∙◌, ap}
use Rattle.std.proofs.Math.Path.{ap₂}
use Rattle.call_context.specs.declared.node.Unit.{Unit as WorkUnit}
use Rattle.chip_analysis.specs.Analysis.{Analysis}
use Rattle.book_rules.specs.SameTests.{same_unit-refl}
use Rattle.book_rules.specs.declared.event.Event.TheVariants.{Claim}
use Rattle.book_rules.specs.declared.versions.Versions.{Versions}
use Rattle.book_rules.specs.Machine.{BookState, Done, Held, Out, after, inputs_of, out_at, versions_of, without, IsClaimable, IsFirst}
use Rattle.round_core.specs.declared.parts.Parts.{Parts}
use Rattle.round_core.specs.declared.place.Place.{Place}
use Rattle.round_core.specs.Claims.{placed}
use Rattle.round_core.specs.Renewal.{state_of}
use Rattle.round_core.specs.Shown.{Shows}
use Rattle.round_core.specs.Tickets.{IsTicketOf}
use Rattle.round_core.proofs.Cases.{if_true}
use Rattle.round_core.proofs.ClaimEvent.{claim-is, claimed-out, claimed-shown}

module _ {A : Type 0} where
  -- the ticket of a unit with its inputs, which no one else holds
  abbrev pub own_ticket : List (Held A) → WorkUnit → A → Option A → Versions → Out A
  own_ticket nodes unit at exit versions = record { seat = 0; unit = unit; at = at; exit = exit; versions = versions; nodes = nodes }

  pub own_ticket-is : (nodes : List (Held A)) (unit : WorkUnit) (at : A) (exit : Option A) (versions : Versions)
      → inputs_of nodes unit ≡ Some (at, exit) → versions ≡ versions_of nodes unit
      → IsTicketOf nodes 0 unit (own_ticket nodes unit at exit versions)
  own_ticket-is nodes unit at exit versions inputs are = record {
    seat_is = refl;
    unit_is = refl;
    versions_are = are;
    inputs_are = inputs;
    nodes_are = refl;
  }

  abbrev with_none_out : List (Held A) → List (Done A) → BookState A
  with_none_out nodes done = record { nodes = nodes; done = done; out = [] }

  abbrev with_out : BookState A → List (Out A) → BookState A
  with_out b os = record b { out = os }

  abbrev come_home : BookState A → WorkUnit → BookState A
  come_home b unit = record b { out = without b.out unit }

  -- a unit that is given back at once leaves the book as it was
  pub back-home : (m : Analysis A) (p : Parts A) (unit : WorkUnit) (at : A) (exit : Option A) (versions : Versions) → Shows (state_of p) p
      → IsTicketOf p.nodes.rows 0 unit (own_ticket p.nodes.rows unit at exit versions)
      → come_home (after m (state_of p) (Claim 0 unit)) unit ≡ state_of p
  back-home m p unit at exit versions s k =
      ap (λ b. come_home b unit) (claim-is m (state_of p) p 0 unit (own_ticket p.nodes.rows unit at exit versions) s k)
      ∙ ap (λ os. with_out (state_of p) os) (if_true _ _ _ (same_unit-refl unit))

  -- parts that stand for a book of which none is out
  pub state-is : (b : BookState A) (p : Parts A) → b.out ≡ [] → Shows b p → state_of p ≡ b
  state-is b p none s = ap₂ (λ hs ds. with_none_out hs ds) s.nodes s.done ∙ ap (λ os. with_out b os) (sym none)

  -- the first unit is taken out
  pub taken-out : (m : Analysis A) (p p' : Parts A) (place : Place) (unit : WorkUnit) (at : A) (exit : Option A) (versions : Versions)
      → Shows (state_of p) p → IsFirst (state_of p) unit → placed p.nodes.rows unit ≡ Some place
      → inputs_of p.nodes.rows unit ≡ Some (at, exit) → versions ≡ versions_of p.nodes.rows unit
      → ((b : BookState A) (o : Out A) → Shows b p → IsClaimable b unit → placed b.nodes unit ≡ Some place → o.unit ≡ unit
      → Shows (record b { out = b.out ++ o ∷ [] }) p')
      → Shows (after m (state_of p) (Claim 0 unit)) p'
      × (out_at (after m (state_of p) (Claim 0 unit)).out unit ≡ Some (own_ticket p.nodes.rows unit at exit versions))
  taken-out m p p' place unit at exit versions s first is inputs are taken =
      let b = state_of p in
      let t = own_ticket p.nodes.rows unit at exit versions in
      let k = own_ticket-is p.nodes.rows unit at exit versions inputs are in (
        claimed-shown m b p p' 0 unit t s k (taken b t s first.claimable is refl),
        claimed-out m b p 0 unit t s k first.claimable.at_home,
      )

pub on_err_always : {T E : Type 0} (P : Type 0) → (r : Result T E) → P → OnErr r P
on_err_always P (Ok x) p = tt
on_err_always P (Err e) p = p
