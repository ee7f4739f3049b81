-- Widening: a set that holds both sets, and whose ends are stopped only by marks, so that it can't grow often.
use Rattle.std.specs.Prelude.{ℕ, ◌+◌, ◌-◌, ◌*◌, ◌/◌, ◌%◌, ◌==◌, ◌||◌, nat_lt, nat_le, if◌then◌else◌, List, length, Option, Some, None, unwrap_or, option_map}
use Rattle.std.specs.List.{fold}
use Rattle.value_set.specs.Form.{make, span, class, greater}
use Rattle.value_set.specs.Joining.{is_within, reach, join}
use Rattle.value_set.specs.declared.form.Progression.{Progression}
use Rattle.value_set.specs.declared.form.Form.{Form}

-- the best mark so far with one more seen: the greatest of those at most a number
abbrev pub nearer_below : ℕ → Option ℕ → ℕ → Option ℕ
nearer_below bound best mark = if nat_lt bound mark then best else Some (greater (unwrap_or best 0) mark)

-- the greatest mark that is at most a number
abbrev pub mark_at_most : ℕ → List ℕ → Option ℕ
mark_at_most bound marks = fold (nearer_below bound) None marks

abbrev pub lesser : ℕ → ℕ → ℕ
lesser a b = if nat_lt b a then b else a

-- the best mark so far with one more seen: the least of those above a number
abbrev pub nearer_above : ℕ → Option ℕ → ℕ → Option ℕ
nearer_above bound best mark = if nat_lt bound mark then Some (lesser (unwrap_or best mark) mark) else best

-- the least mark above a number
abbrev pub mark_above : ℕ → List ℕ → Option ℕ
mark_above bound marks = fold (nearer_above bound) None marks

-- the last number of a run, counted on where it goes round
abbrev pub last_of : Progression → ℕ
last_of p = p.base + reach p

-- down in steps from a base, to the least number that isn't below a mark
abbrev pub down_to : (base stride mark : ℕ) → ℕ
down_to base stride mark = base - (base - mark) / stride * stride

-- up in steps from a last number, to the greatest number below a mark
abbrev pub up_to : (last stride mark : ℕ) → ℕ
up_to last stride mark = last + (mark - 1 - last) / stride * stride

-- the first number of the widened run: that of the run where it is the first number held, else down to the next mark
unfoldable pub first_widened : (run held : Progression) → List ℕ → Option ℕ
first_widened run held marks =
    if run.base == held.base then Some run.base
    else option_map (down_to run.base run.stride) (mark_at_most run.base marks)

-- its last number: that of the run where it is the last number held, else up to the next mark
unfoldable pub last_widened : (m : ℕ) (run held : Progression) → List ℕ → Option ℕ
last_widened m run held marks =
    if last_of run == last_of held % m then Some (last_of run)
    else option_map (up_to (last_of run) run.stride) (mark_above (last_of run) marks)

-- the run between two such numbers, or all with its remainder where a mark is missing
abbrev pub widened_between : (m : ℕ) (run : Progression) → Option ℕ → Option ℕ → Form
widened_between m run None last = class m run.base run.stride
widened_between m run (Some first) None = class m run.base run.stride
widened_between m run (Some first) (Some last) = make m first run.stride ((last - first) / run.stride + 1)

unfoldable pub widen_span : (m : ℕ) (run held : Progression) → List ℕ → Form
widen_span m run held marks =
    if (length marks == 0) || nat_le m (last_of run) then class m run.base run.stride
    else widened_between m run (first_widened run held marks) (last_widened m run held marks)

unfoldable pub widen : (m : ℕ) (held new : Form) → List ℕ → Form
widen m held new marks =
    if is_within m new held then held
    else widen_span m (span m (join m held new)) (span m held) marks
