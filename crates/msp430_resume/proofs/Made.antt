-- A resumed state, part by part.
use Rattle.std.proofs.Common.{◌≡◌, ℕ, Bool, Option, List, map, refl}
use Rattle.value_set.specs.declared.form.Form.{Form}
use Rattle.value_set.specs.Summing.{single}
use Rattle.value_bits.specs.declared.tri.Tri.{Tri}
use Rattle.entry_value.specs.declared.word.Word.{Word}
use Rattle.entry_value.specs.Cells.{CellMap}
use Rattle.irq_frames.specs.Ranges.{touched_behind}
use Rattle.irq_frames.specs.Resuming.{resumed_cells, resumed_word}
use Rattle.msp430_state.specs.declared.fact.FlagFact.{FlagFact}
use Rattle.msp430_state.specs.declared.status.Status.{Status}
use Rattle.msp430_state.specs.Known.{Known}
use Rattle.msp430_resume.specs.Resume.{fact_resumed, place_word, resumed_known, status_resumed}

pub made : (framed : Bool) (a : Known) (pc sp : ℕ) (exit : Known) (set : Form) (status : Status) (late : Tri) (registers : List Word) (fact : Option FlagFact) (cells : CellMap) (touched : List (ℕ × ℕ))
    → set ≡ single sp → status ≡ status_resumed a.status exit.status → late ≡ exit.late
    → registers ≡ map (resumed_word (place_word a pc)) exit.registers
    → fact ≡ fact_resumed exit a.fact → cells ≡ resumed_cells (place_word a pc) a.cells exit.cells exit.touched
    → touched ≡ touched_behind framed a.touched exit.touched
    → record { sp = set; status = status; late = late; registers = registers; fact = fact; cells = cells; touched = touched } ≡ resumed_known framed a pc sp exit
unfolding resumed_known
made framed a pc sp exit set status late registers fact cells touched one two three four five six seven = rw (one, two, three, four, five, six, seven) refl
