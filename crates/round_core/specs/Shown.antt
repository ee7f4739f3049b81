-- What the parts of a book stand for.
use Rattle.std.specs.Prelude.{◌≡◌, ℕ, ◌⊎◌, ◌&&◌, Bool, true, not, is_some, Option, None, Some, List, [], ◌∷◌, length}
use Rattle.std.specs.BTreeSet.{contains}
use Rattle.std.specs.declared.cmp.Ordering.{Ordering}
use Rattle.call_context.specs.declared.node.Frame.{Frame}
use Rattle.call_context.specs.declared.node.Node.{Node}
use Rattle.call_context.specs.declared.node.Node.TheVariants.{Exit}
use Rattle.call_context.specs.declared.node.Unit.{Unit as WorkUnit}
use Rattle.round_core.specs.declared.place.Place.{Place}
use Rattle.round_core.specs.contracts.place.PlaceOrd.TheImpl as place_impl
use Rattle.round_core.specs.declared.parts.Parts.{Parts}
use Rattle.chip_analysis.specs.Analysis.{Analysis}
use Rattle.book_rules.specs.declared.event.Event.{Event}
use Rattle.book_rules.specs.Machine.{BookState, Held, Out, held_at, out_at, place_of, waits_for, IsClaimable, IsLegalJournal, replay}
use Rattle.round_core.specs.Claims.{placed, claimable_at}
use Rattle.round_core.specs.Agenda.{IsIn, places_in}
use Rattle.round_core.specs.Turns.{place_out, AreGivenBack}

-- the order of places
abbrev pub place_cmp : Place → Place → Ordering
place_cmp = (place_impl.ghosts).cmp

module _ {A : Type 0} where
  -- no node stands twice
  abbrev pub AreDistinct : List (Held A) → Type 0
  AreDistinct [] = Unit {0}
  AreDistinct (h ∷ hs) = (held_at hs h.node ≡ None) × AreDistinct hs

  -- no unit is out twice
  abbrev pub AreApart : List (Out A) → Type 0
  AreApart [] = Unit {0}
  AreApart (o ∷ os) = (out_at os o.unit ≡ None) × AreApart os

  -- a unit has its place among the candidates, or among those that were given back
  abbrev pub IsExpected : List (Held A) → List Place → List Place → WorkUnit → Type 0
  IsExpected nodes candidates returned unit =
      (place : Place) × (placed nodes unit ≡ Some place) × (IsIn place candidates ⊎ IsIn place returned)

  -- the parts stand for a book
  pub record Shows (b : BookState A) (p : Parts A) : Type 0 where
    pub nodes : p.nodes.rows ≡ b.nodes
    pub done : p.works.rows ≡ b.done
    pub distinct : AreDistinct b.nodes
    pub home : (unit : WorkUnit) → out_at b.out unit ≡ None → place_out p.turns.out unit ≡ None
    pub out : (unit : WorkUnit) (o : Out A) → out_at b.out unit ≡ Some o
        → (place : Place) × (place_out p.turns.out unit ≡ Some place) × (placed b.nodes unit ≡ Some place)
    pub count : length p.turns.out ≡ length b.out
    pub apart : AreApart b.out
    pub given_back : AreGivenBack p.turns
    pub expected : (unit : WorkUnit) → IsClaimable b unit → IsExpected b.nodes p.agenda.candidates.keys p.turns.returned unit
    pub waiting : (node : Node) (frame : Frame) → waits_for b.done node frame ≡ true
        → (place : ℕ) × (place_of b.nodes node ≡ Some place) × IsIn place (places_in p.agenda.waiting frame)
    pub exits : (pc : ℕ) (frame : Frame) (place : ℕ) → place_of b.nodes (Exit pc frame) ≡ Some place
        → IsIn place (places_in p.agenda.exits frame)

  -- the unit that is found at a place, where it can be claimed
  abbrev pub found_at : Parts A → Place → Option WorkUnit
  found_at p place = claimable_at p.nodes.rows p.works.rows p.turns.out place

  -- such a place, where it was given back and is no candidate
  abbrev pub is_new_return : Parts A → Place → Bool
  is_new_return p place = not (contains place_cmp p.agenda.candidates place) && is_some (found_at p place)

  -- whatever book the first parts stand for, the second stand for it too
  abbrev pub StaysShown : Parts A → Parts A → Type 0
  StaysShown old new = (b : BookState A) → Shows b old → Shows b new

-- the fields of a book stand for the replay of its journal, of which each event was legal
pub record IsBook {A : Type 0} (a : Analysis A) (journal : List Event) (p : Parts A) : Type 0 where
  pub shows : Shows (replay a journal) p
  pub legal : IsLegalJournal a journal
