-- The levels in service behind RETI.
use Rattle.std.proofs.Common.{◌≡◌, Bool, true, false, Option, refl, sym, ap, ◌∙◌, subst}
use Rattle.std.specs.Prelude.{◌||◌}
use Rattle.std.proofs.lemmas.Bool.{cond-true, cond-false, or_left, or_right}
use Rattle.mcs51_chip.specs.declared.state.ChipState.{ChipState}
use Rattle.mcs51_chip.specs.Interrupts.{level_ended}
use Rattle.mcs51_state.specs.declared.levels.Levels.{Levels}
use Rattle.mcs51_state.specs.Forms.{AreLevels, IsKnown}
use Rattle.mcs51_state.specs.Known.{Known}
use Rattle.mcs51_state.specs.Levels.{may_serve}
use Rattle.mcs51_state.specs.Under.{IsUnder}
use Rattle.mcs51_state.specs.FactsStay.{facts_stay}
use Rattle.mcs51_control.specs.Returning.{level_left}

-- IN SERVICE

-- RETI by what is in service
pub low_behind : (low up : Bool) → Bool
low_behind low true = low
low_behind low false = false

left_serves : (levels : Levels) (low up : Bool) → may_serve levels low up ≡ true
    → may_serve (level_left levels) (low_behind low up) false ≡ true
unfolding low_behind
left_serves levels false false serves = or_left (levels.none || levels.low) levels.high (or_left levels.none levels.low serves)
left_serves levels true false serves = or_left (levels.none || levels.low) levels.high (or_right levels.none levels.low serves)
left_serves levels false true serves = or_right (levels.none || levels.low) levels.high serves
left_serves levels true true serves = serves

pub left_levels : (levels : Levels) → AreLevels levels → AreLevels (level_left levels)
left_levels levels (low, up, serves) = (low_behind low up, false, left_serves levels low up serves)

-- STATES

abbrev with_service : (low up : Bool) → ChipState → ChipState
with_service low up s = record s { serves_low = low; serves_high = up }

abbrev with_levels : Levels → Known → Known
with_levels levels known = record known { levels = levels }

levels_form : (framed : Bool) (known : Known) (levels : Levels) → AreLevels levels → IsKnown framed known
    → IsKnown framed (with_levels levels known)
levels_form framed known levels are form = assumption (form, are)

serves_under : (framed : Bool) (known : Known) (levels : Levels) (s : ChipState) (first : Option ChipState) (low up : Bool)
    → may_serve levels low up ≡ true
    → IsUnder framed known s first → IsUnder framed (with_levels levels known) (with_service low up s) first
serves_under framed known levels s first low up serves under =
    let form = levels_form framed known levels (low, up, serves) under.form in
    let facts = facts_stay known s (with_service low up s) first refl refl refl under.holds.parts in
    assumption (under, form, serves, facts)

pub ended_form : (framed : Bool) (known : Known) → IsKnown framed known → IsKnown framed (record known { levels = level_left known.levels })
ended_form framed known form = levels_form framed known (level_left known.levels) (left_levels known.levels form.levels) form

-- which levels are in service behind RETI
ended_as : (s : ChipState) (up : Bool) → s.serves_high ≡ up → level_ended s ≡ with_service (low_behind s.serves_low up) false s
unfolding low_behind
ended_as s true e = cond-true s.serves_high (with_service s.serves_low false s) (with_service false s.serves_high s) e
ended_as s false e = cond-false s.serves_high (with_service s.serves_low false s) (with_service false s.serves_high s) e ∙ ap (λ (up : Bool). with_service false up s) e

-- all else stays
pub ended_pc : (s : ChipState) → (level_ended s).pc ≡ s.pc
ended_pc s = ap (λ (t : ChipState). t.pc) (ended_as s s.serves_high refl)

pub ended_sp : (s : ChipState) → (level_ended s).sp ≡ s.sp
ended_sp s = ap (λ (t : ChipState). t.sp) (ended_as s s.serves_high refl)

pub ended_under : (framed : Bool) (known : Known) (s : ChipState) (first : Option ChipState) → IsUnder framed known s first
    → IsUnder framed (record known { levels = level_left known.levels }) (level_ended s) first
ended_under framed known s first under =
    let low = low_behind s.serves_low s.serves_high in
    let serves = left_serves known.levels s.serves_low s.serves_high under.holds.parts.levels in
    subst (λ (t : ChipState). IsUnder framed (with_levels (level_left known.levels) known) t first) (sym (ended_as s s.serves_high refl))
    (serves_under framed known (level_left known.levels) s first low false serves under)
