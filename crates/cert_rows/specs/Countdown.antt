-- A small chip for rows of certificates: a state is one number below 65536. A location hands its number less one to the next
-- address, in the base frame; at 0 nothing follows. At 7 its site is open, for two causes. At 4 it waits for a handler, whose
-- exit hands its own number to the address behind the next one, and at 5 for two.
use Rattle.std.specs.Prelude.{◌≡◌, ℕ, ◌+◌, ◌-◌, ◌%◌, ◌<◌, ◌==◌, ◌&&◌, nat_le, nat_lt, max, Bool, true, false, if◌then◌else◌, Option, None, Some, List, [], ◌∷◌, codes}
use Rattle.hex_digits.specs.Digits.{hex}
use Rattle.call_context.specs.declared.node.Frame.{Frame}
use Rattle.call_context.specs.declared.node.Frame.TheVariants.{Base, Irq}
use Rattle.call_context.specs.declared.node.Node.{Node}
use Rattle.call_context.specs.declared.node.Node.TheVariants.{At, Exit}
use Rattle.call_context.specs.declared.node.Unit.{Unit as WorkUnit}
use Rattle.call_context.specs.declared.node.Unit.TheVariants.{One, Back}
use Rattle.value_set.specs.Form.{make}
use Rattle.chip_analysis.specs.declared.cause.Cause.{Cause}
use Rattle.chip_analysis.specs.declared.cause.Cause.TheVariants.{Fetch, Targets}
use Rattle.chip_analysis.specs.Analysis.{Analysis}
use Rattle.chip_analysis.specs.declared.chip.Work.{Work}
use Rattle.text_fields.specs.Numbers.{hex_number}
use Rattle.node_fields.specs.declared.outside.Outside.{Outside}
use Rattle.state_text.specs.Texts.{StateTexts}

-- locations without calls, in the base frame or in one of an interrupt that was entered at no known stack pointer
abbrev pub is_frame : Frame → Bool
is_frame Base = true
is_frame (Irq vector None level) = nat_lt vector 100 && (level == 0)
is_frame (Irq vector (Some sp) level) = false

-- the handlers that are waited for
abbrev pub handler : (vector : ℕ) → Frame
handler vector = Irq vector (Some 640) 0

abbrev pub is_handler : Frame → Bool
is_handler Base = false
is_handler (Irq vector None level) = false
is_handler (Irq vector (Some sp) level) = nat_le 9 vector && nat_le vector 10 && (sp == 640) && (level == 0)

abbrev pub is_empty : List ℕ → Bool
is_empty [] = true
is_empty (site ∷ sites) = false

-- such locations, and exits of the handlers
abbrev pub is_mine : Node → Bool
is_mine (At pc calls frame) = nat_lt pc 65536 && is_empty calls && is_frame frame
is_mine (Exit pc frame) = nat_lt pc 65536 && is_handler frame

abbrev pub nothing : Work ℕ
nothing = record { items = []; posts = []; waits = []; opens = [] }

abbrev pub waits_of : ℕ → List Frame
waits_of at =
    if at == 4 then handler 9 ∷ []
    else (if at == 5 then handler 9 ∷ handler 10 ∷ [] else [])

-- of the two the second one's line is the lesser
abbrev pub opens_of : ℕ → ℕ → List (ℕ × Cause)
opens_of pc at = if at == 7 then (pc, Targets (make 65536 0 1 65536)) ∷ (pc, Fetch) ∷ [] else []

abbrev pub next_of : ℕ → ℕ → Work ℕ
next_of pc at =
    if at == 0 then nothing
    else record { items = []; posts = (At ((pc + 1) % 65536) [] Base, at - 1) ∷ []; waits = waits_of at; opens = opens_of pc at }

abbrev pub return_of : ℕ → ℕ → Work ℕ
return_of pc left = record nothing { posts = (At ((pc + 2) % 65536) [] Base, left) ∷ [] }

abbrev pub work_of : WorkUnit → ℕ → Option ℕ → Work ℕ
work_of (One (At pc calls frame)) at exit = next_of pc at
work_of (One (Exit pc frame)) at exit = nothing
work_of (Back (At pc calls frame) from) at (Some left) = return_of pc left
work_of (Back (At pc calls frame) from) at None = nothing
work_of (Back (Exit pc frame) from) at exit = nothing

abbrev pub countdown : Analysis ℕ
countdown = record {
  first_node = At 0 [] Base;
  first_state = 2;
  work = work_of;
  within = nat_le;
  join = max;
  widen = λ coarse. max;
  top = λ node. 65535;
  HasForm = λ node state. (is_mine node ≡ true) × (state < 65536);
  Breaks = λ node a cause. Unit {0};
}

-- four digits
abbrev pub outside : ℕ → ℕ → Option Outside
outside new held = if nat_le new held then None else Some (record { field = codes "V"; posted = hex 4 new; held = hex 4 held })

abbrev pub texts : StateTexts ℕ
texts = record {
  digits = 4;
  text_of = hex 4;
  state_of = λ node text. if is_mine node then (hex_number 4).value text else None;
  outside = outside;
}
