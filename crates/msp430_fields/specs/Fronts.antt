-- The fields of a state in front of its memory, as they are read.
use Rattle.std.specs.Prelude.{ℕ, Option, Bool, List}
use Rattle.entry_value.specs.declared.word.Word.{Word}
use Rattle.entry_value.specs.Cells.{CellMap}
use Rattle.value_bits.specs.declared.tri.Tri.{Tri}
use Rattle.value_set.specs.declared.form.Form.{Form}
use Rattle.msp430_state.specs.declared.fact.FlagFact.{FlagFact}
use Rattle.msp430_state.specs.declared.status.Status.{Status}
use Rattle.msp430_state.specs.Known.{Known}
use Rattle.text_fields.specs.Fronts.{each_in_front, in_front}
use Rattle.text_fields.specs.Items.{IsReadAs, both_in_front, each_read, one_read, then_read}
use Rattle.value_text.specs.Memories.{Memory}
use Rattle.msp430_fields.specs.Parts.{register_value}
use Rattle.msp430_fields.specs.States.{Parts, fact_named, fact_on, late_named, late_on, memory_field, parts_field, register_names, registers_on, sp_named, status_named, status_on}

abbrev pub Front : Type 0
Front = Form × (Status × (Tri × (List Word × Option FlagFact)))

-- SP, SR, L, R4 to R15, and F
abbrev pub fields_in_front : (framed : Bool) → List ℕ → Option (Front × List ℕ)
fields_in_front framed =
    both_in_front (in_front 32 sp_named)
    (both_in_front (in_front 32 (status_named framed))
    (both_in_front (in_front 32 late_named)
    (both_in_front (each_in_front 32 (register_value framed) register_names) (in_front 32 fact_named))))

abbrev pub with_front : Front → Memory → Parts
with_front front memory = (front.0, (front.1.0, (front.1.1.0, (front.1.1.1.0, (front.1.1.1.1, memory)))))

abbrev pub state_of : Front → CellMap × List (ℕ × ℕ) → Known
state_of front memory = record {
  sp = front.0;
  status = front.1.0;
  late = front.1.1.0;
  registers = front.1.1.1.0;
  fact = front.1.1.1.1;
  cells = memory.0;
  touched = memory.1;
}

-- LAWS

pub fields_read : (framed : Bool) (lo hi : ℕ)
    → IsReadAs (parts_field framed lo hi).value (fields_in_front framed) (memory_field framed lo hi).value with_front
fields_read framed lo hi =
    then_read (one_read sp_named (status_on framed lo hi))
    (then_read (one_read (status_named framed) (late_on framed lo hi))
    (then_read (one_read late_named (registers_on framed lo hi))
    (then_read (each_read register_names (register_value framed) (fact_on framed lo hi)) (one_read fact_named (memory_field framed lo hi)))))
