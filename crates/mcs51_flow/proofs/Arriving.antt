-- Where instructions go on: the form of what is known there, and where the state behind stands.
use Rattle.std.proofs.Common.{◌≡◌, ℕ, ◌<◌, Bool, true, false, Option, None, Some, refl, sym, subst, IfSome}
use Rattle.call_context.specs.declared.shown.Item.{Item}
use Rattle.chip_flow.specs.Along.{HasWay, IsOnward, limited_is, limited_open, way_jumped, way_on}
use Rattle.chip_flow.specs.Going.{limited}
use Rattle.chip_flow.specs.declared.going.Onward.{Onward}
use Rattle.chip_flow.specs.declared.going.Onward.TheVariants as onward
use Rattle.value_set.specs.declared.form.Form.{Form}
use Rattle.value_set.specs.Summing.{count_of}
use Rattle.mcs51_chip.specs.declared.state.ChipState.{ChipState}
use Rattle.mcs51_chip.specs.Step.{Effect}
use Rattle.mcs51_state.specs.Forms.{IsKnown}
use Rattle.mcs51_state.specs.Holding.{HoldsOf}
use Rattle.mcs51_state.specs.Known.{Known, known_joined, known_within}
use Rattle.mcs51_state.specs.Doing.{Goes as GoesOneWay}
use Rattle.mcs51_state.specs.Doing.Goes.{GoesOn, Jumps}
use Rattle.mcs51_flow.specs.declared.ran.Way.{Way}
use Rattle.mcs51_flow.specs.declared.ran.Way.TheVariants.{Lands, Goes}
use Rattle.mcs51_flow.specs.Doing.{IsWay}
use Rattle.unit_ways.specs.Ways.{ways_of}
use Rattle.mcs51_flow.specs.Chip.{LeadsTo}
use Rattle.mcs51_flow.specs.Going.{onward_by}
use Rattle.mcs51_flow.specs.LawsBelow.{Laws}

-- FORMS

abbrev pub IsAddress : ℕ → Type 0
IsAddress address = address < 65536

pub onward_formed : Laws → (framed leaves : Bool) (limit behind : ℕ) (way : Way Known) → behind < 65536 → IsWay framed way
    → IsOnward IsAddress (IsKnown framed) (onward_by way leaves limit behind)
onward_formed laws framed true limit behind (Lands targets a) below form = form.1
onward_formed laws framed false limit behind (Lands targets a) below form =
    limited_is limit targets (onward.Lands targets a) (IsOnward IsAddress (IsKnown framed)) tt (λ to has. laws.known.sets.below 65536 to targets form.0 has, form.1)
onward_formed laws framed leaves limit behind (Goes target on jumped) below form = (below, form.0, form.1, form.2)

-- a site that is left open has more targets than are followed
pub open_leads : (way : Way Known) (leaves : Bool) (limit behind : ℕ) (values : Form)
    → onward_by way leaves limit behind ≡ onward.Open values
    → LeadsTo way values × (limit < count_of 65536 values)
open_leads (Lands targets a) true limit behind values is = absurd (cc)
open_leads (Lands targets a) false limit behind values is = limited_open limit targets values (onward.Lands targets a) (λ e. cc) is
open_leads (Goes target on jumped) leaves limit behind values is = absurd (cc)

-- what is left at the exit of a frame is behind a return
pub leaves_back : (way : Way Known) (leaves : Bool) (limit behind : ℕ) (b : Known)
    → onward_by way leaves limit behind ≡ onward.Leaves b → leaves ≡ true
leaves_back (Lands targets a) true limit behind b is = refl
leaves_back (Lands targets a) false limit behind b is =
    limited_is limit targets (onward.Lands targets a) (λ (o : Onward Known). o ≡ onward.Leaves b → false ≡ true) (λ e. absurd (cc)) (λ e. absurd (cc)) is
leaves_back (Goes target on jumped) leaves limit behind b is = absurd (cc)

-- THE STATE BEHIND

-- what stands under a state stands under one that this is within
holds_more : Laws → (a b : Known) (t : ChipState) (first : Option ChipState) → known_within a b ≡ true
    → HoldsOf a t first → HoldsOf b t first
holds_more laws a b t first within holds = record {
  state = holds.state;
  suspended = holds.suspended;
  parts = laws.states.parts a b t first within holds.parts;
}

-- on one of the two ways of a jump; s has the address behind it
pub either_way : Laws
    → (framed : Bool) (first : Option ChipState) (target : ℕ) (on jumped : Option Known) (s t : ChipState)
    → IfSome on (IsKnown framed) → IfSome jumped (IsKnown framed)
    → GoesOneWay framed first target on jumped s t → HasWay (λ b. HoldsOf b t first) (ways_of known_joined s.pc target on jumped) t.pc
either_way laws framed first target on jumped s t f g (GoesOn behind is leads) =
    subst (HasWay (λ b. HoldsOf b t first) (ways_of known_joined s.pc target on jumped)) (sym leads.onward)
    (way_on laws.ways known_joined (IsKnown framed) (λ b. HoldsOf b t first) s.pc target on jumped f g
    (λ a b form other. holds_more laws a (known_joined a b) t first (laws.states.join_held framed a b form other)) behind is leads.under.holds)
either_way laws framed first target on jumped s t f g (Jumps behind is goes under) =
    subst (HasWay (λ b. HoldsOf b t first) (ways_of known_joined s.pc target on jumped)) (sym goes)
    (way_jumped laws.ways known_joined (IsKnown framed) (λ b. HoldsOf b t first) s.pc target on jumped f g
    (λ a b form other. holds_more laws b (known_joined a b) t first (laws.states.join_new framed a b form other)) behind is under.holds)
