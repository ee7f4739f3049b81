-- Which interrupts may come, by what is known of a state (Intel, MCS-51 Microcontroller Family User's Manual, "Interrupts" and
-- "Priority Level Structure").
use Rattle.std.specs.Prelude.{◌≡◌, ℕ, ◌==◌, ◌&&◌, if◌then◌else◌, not, Bool, true, false, None, Some, List, [], ◌∷◌, ◌++◌, Contains, map}
use Rattle.std.specs.List.{flat_map, range_with_len}
use Rattle.call_context.specs.declared.node.Frame.{Frame}
use Rattle.call_context.specs.declared.node.Frame.TheVariants.{Irq}
use Rattle.value_set.specs.declared.form.Form.{Form}
use Rattle.value_set.specs.declared.form.Form.TheVariants.{Values, Run}
use Rattle.value_set.specs.Form.{Has}
use Rattle.value_set.specs.Summing.{single}
use Rattle.value_bits.specs.declared.tri.Tri.{Tri}
use Rattle.value_bits.specs.declared.tri.Tri.TheVariants.{Zero, One, Either}
use Rattle.mcs51_chip.specs.declared.state.ChipState.{ChipState}
use Rattle.mcs51_chip.specs.Interrupts.{coming, is_high}
use Rattle.mcs51_state.specs.declared.addresses.Addresses.TheVariants.{InSfr}
use Rattle.mcs51_state.specs.Holding.{CameAt}
use Rattle.mcs51_state.specs.Known.{Known}
use Rattle.mcs51_state.specs.Reading.{read_bit}
use Rattle.mcs51_entry.specs.declared.coming.Coming.{Coming}

-- WHICH MAY COME

-- what is known doesn't forbid it
abbrev pub may_be : Tri → Bool → Bool
may_be Zero flag = not flag
may_be One flag = flag
may_be Either flag = true

-- a bit of IE may be set, and a bit of IP may be so
abbrev pub may_enable : Known → (place : ℕ) → Bool
may_enable a place = may_be (read_bit a (InSfr 0xA8) place) true

abbrev pub may_have : Known → (source : ℕ) → (high : Bool) → Bool
may_have a source high = may_be (read_bit a (InSfr 0xB8) source) high

-- The levels in a handler: 1 is the low one, 2 the high one, and 3 the high one that interrupted the low one. The low level
-- comes where none is in service, and the high one where no high one is.
abbrev pub may_level : Known → (source level : ℕ) → Bool
may_level a source level =
    if level == 1 then may_have a source false && a.levels.none
    else if level == 2 then may_have a source true && a.levels.none
    else may_have a source true && a.levels.low

-- an interrupt comes at each value of a list of stack pointers by itself, and at those of a run in one
abbrev pub comings_at : (sp : Form) → (source level : ℕ) → List Coming
comings_at (Values sps) source level = map (λ sp. record { source = source; level = level; known_sp = Some sp; sp = single sp }) sps
comings_at (Run p) source level = record { source = source; level = level; known_sp = None; sp = Run p } ∷ []

abbrev pub level_comings : Known → (source level : ℕ) → List Coming
level_comings a source level = if may_level a source level then comings_at a.sp source level else []

-- a source comes by its own bit of IE
abbrev pub source_comings : Known → (source : ℕ) → List Coming
source_comings a source =
    if may_enable a source then level_comings a source 1 ++ (level_comings a source 2 ++ level_comings a source 3) else []

-- by EA, bit 7 of IE: ascending by source, level and stack pointer
unfoldable pub comings_of : Known → List Coming
comings_of a = if may_enable a 7 then flat_map (source_comings a) (range_with_len 0 6) else []

abbrev pub frame_of_coming : Coming → Frame
frame_of_coming coming_so = Irq coming_so.source coming_so.known_sp coming_so.level

-- WHAT COMES

-- the levels in service in the handler of a source that comes in a state
abbrev pub level_in : ChipState → (source : ℕ) → ℕ
level_in s source = if is_high s source then if s.serves_low then 3 else 2 else 1

-- an interrupt that is listed comes in a single state
pub record ComesSo (a : Known) (s : ChipState) (coming_so : Coming) : Type 0 where
  pub comes : Contains (coming s) coming_so.source
  pub listed : Contains (comings_of a) coming_so
  pub at : Has 256 coming_so.sp s.sp
  pub came : CameAt coming_so.known_sp s
  pub level : coming_so.level ≡ level_in s coming_so.source
