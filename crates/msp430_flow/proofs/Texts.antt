-- The texts of states are exact.
use Rattle.std.proofs.Common.{◌≡◌, ◌<◌, ℕ, Bool, true, None, Some, List, refl}
use Rattle.std.specs.Prelude.{◌↔◌, codes}
use Rattle.std.proofs.lemmas.List.Elements.{recursion_from_All}
use Rattle.call_context.specs.declared.node.Node.{Node}
use Rattle.call_context.specs.Nodes.{frame_of}
use Rattle.node_fields.specs.Nodes.{IsNodeText}
use Rattle.text_fields.specs.Lines.{IsOneLine}
use Rattle.cell_items.specs.Loose.{each_loose, memory_loose, named_loose}
use Rattle.state_text.specs.Cells.{are_loose}
use Rattle.state_text.specs.Texts.{AreTexts}
use Rattle.value_text.specs.Bits.{bit_field, bit_form, bit_item}
use Rattle.msp430_state.specs.Forms.{HasChipForm, IsKnown, IsWord}
use Rattle.msp430_state.specs.Known.{Known, is_interrupt, known_within}
use Rattle.msp430_fields.specs.Outside.{outside_of}
use Rattle.msp430_fields.specs.Facts.{fact_field, fact_item}
use Rattle.msp430_fields.specs.Parts.{chip_cells_item, is_chip_cell, register_item, register_value, sp_field, sp_item, status_field, status_item}
use Rattle.msp430_fields.specs.Places.{place_field, places}
use Rattle.msp430_fields.specs.States.{fact_on, known_text, late_on, memory_field, parts_of, register_names, registers_on, state_in, status_on}
use Rattle.msp430_flow.specs.declared.setting.Setting.{Setting}
use Rattle.msp430_flow.specs.Chip.{IsSetting, msp430_analysis}
use Rattle.msp430_flow.specs.Texts.{msp430_texts}

-- the cells of a state stand behind its other fields
known_loose : (framed : Bool) (lo hi : ℕ) (a : Known) → hi < 65536 → IsKnown lo hi framed a → are_loose 4 (known_text a) ≡ true
known_loose framed lo hi a top form =
    let parts = parts_of a in
    let memory = parts.1.1.1.1.1 in
    let again = (chip_cells_item framed lo hi top).exact.back a.cells.cells (form.cells, form.each_cell) in
    named_loose sp_field 4 (codes "SP=") refl sp_item.no_space a.sp form.sp ((status_on framed lo hi).text parts.1)
    (named_loose (status_field framed) 4 (codes "SR=") refl (status_item framed).no_space a.status (form.bits, form.status) ((late_on framed lo hi).text parts.1.1)
    (named_loose bit_field 4 (codes "L=") refl bit_item.no_space a.late (bit_form a.late) ((registers_on framed lo hi).text parts.1.1.1)
    (each_loose (register_value framed) 4 register_names refl (register_item framed).no_space a.registers (recursion_from_All (IsWord framed) a.registers form.registers)
    ((fact_on framed lo hi).text parts.1.1.1.1)
    (named_loose fact_field 4 (codes "F=") refl fact_item.no_space a.fact form.fact ((memory_field framed lo hi).text memory)
    (memory_loose 4 place_field places framed is_chip_cell lo hi top memory again)))))

pub texts_exact :
    ((lo hi : ℕ) (node : Node) (a : Known) → hi < 65536 → HasChipForm lo hi node a → state_in lo hi node (known_text a) ≡ Some a)
    → ((lo hi : ℕ) (node : Node) (text : List ℕ) (a : Known) → hi < 65536 → state_in lo hi node text ≡ Some a → HasChipForm lo hi node a × (known_text a ≡ text))
    → ((lo hi : ℕ) (node : Node) (a : Known) → hi < 65536 → HasChipForm lo hi node a → IsOneLine (known_text a))
    → ((lo hi : ℕ) (node : Node) (a : Known) → HasChipForm lo hi node a → IsNodeText 4 node)
    → ((lo hi : ℕ) (framed : Bool) (new held : Known) → IsKnown lo hi framed new → IsKnown lo hi framed held
    → (outside_of new held ≡ None) ↔ (known_within new held ≡ true))
    → (setting : Setting) → IsSetting setting → AreTexts (msp430_analysis setting) (msp430_texts setting.device)
unfolding msp430_analysis
texts_exact again takes one_line nodes included setting is =
    let lo = setting.device.ram.lo in
    let hi = setting.device.ram.hi in
    let top = is.program.top in
    record {
      nodes = nodes lo hi;
      again = λ node a form. again lo hi node a top form;
      takes = λ node text a e. takes lo hi node text a top e;
      one_line = λ node a form. one_line lo hi node a top form;
      loose = λ node a form. known_loose (is_interrupt (frame_of node)) lo hi a top form.1;
      included = λ node new held first second. included lo hi (is_interrupt (frame_of node)) new held first.1 second.1;
    }
