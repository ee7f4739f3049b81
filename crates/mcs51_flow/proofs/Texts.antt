-- The texts of states are exact.
use Rattle.std.proofs.Common.{◌≡◌, ℕ, Bool, true, None, Some, List, refl, arith}
use Rattle.std.specs.Prelude.{◌↔◌, codes}
use Rattle.call_context.specs.declared.node.Node.{Node}
use Rattle.call_context.specs.Nodes.{frame_of}
use Rattle.node_fields.specs.Nodes.{IsNodeText}
use Rattle.text_fields.specs.Lines.{IsOneLine}
use Rattle.cell_items.specs.Loose.{memory_loose, named_loose}
use Rattle.state_text.specs.Cells.{are_loose}
use Rattle.state_text.specs.Texts.{AreTexts}
use Rattle.value_text.specs.Sets.{set_field, set_item}
use Rattle.mcs51_state.specs.Forms.{HasChipForm, IsKnown}
use Rattle.mcs51_state.specs.Known.{Known, is_interrupt, known_within}
use Rattle.mcs51_state.specs.Places.{ie_place, ip_place}
use Rattle.mcs51_fields.specs.Outside.{outside_of}
use Rattle.mcs51_fields.specs.Facts.{carry_field, carry_item, levels_field, levels_item, linear_field, linear_item}
use Rattle.mcs51_fields.specs.Parts.{byte_value, byte_value_item, chip_cells_item, is_chip_cell, own_value, own_value_item, status_field, status_item}
use Rattle.mcs51_fields.specs.Places.{place_field, places}
use Rattle.mcs51_fields.specs.States.{a_on, b_on, carry_on, dph_on, dpl_on, ie_on, ip_on, known_text, levels_on, linear_on, memory_field, parts_of, psw_on, state_in}
use Rattle.mcs51_flow.specs.declared.setting.Setting.{Setting}
use Rattle.mcs51_flow.specs.Chip.{IsSetting, mcs51_analysis}
use Rattle.mcs51_flow.specs.Texts.{mcs51_texts}

-- the cells of a state stand behind its other fields
known_loose : (framed : Bool) (k : Known) → IsKnown framed k → are_loose 2 (known_text k) ≡ true
known_loose framed k form =
    let byte = (byte_value_item framed).no_space in
    let parts = parts_of k in
    named_loose (set_field 2) 2 (codes "SP=") refl (set_item 2 (omega arith)).no_space k.sp form.sp ((a_on framed).text parts.1)
    (named_loose (byte_value framed) 2 (codes "A=") refl byte k.a form.a ((b_on framed).text parts.1.1)
    (named_loose (byte_value framed) 2 (codes "B=") refl byte k.b form.b ((dpl_on framed).text parts.1.1.1)
    (named_loose (byte_value framed) 2 (codes "DPL=") refl byte k.dpl form.dpl ((dph_on framed).text parts.1.1.1.1)
    (named_loose (byte_value framed) 2 (codes "DPH=") refl byte k.dph form.dph ((ie_on framed).text parts.1.1.1.1.1)
    (named_loose (own_value ie_place 64 framed) 2 (codes "IE=") refl (own_value_item ie_place 64 framed refl).no_space k.ie form.ie ((ip_on framed).text parts.1.1.1.1.1.1)
    (named_loose (own_value ip_place 192 framed) 2 (codes "IP=") refl (own_value_item ip_place 192 framed refl).no_space k.ip form.ip ((psw_on framed).text parts.1.1.1.1.1.1.1)
    (named_loose (status_field framed) 2 (codes "PSW=") refl (status_item framed).no_space k.psw (form.bits, form.psw) ((levels_on framed).text parts.1.1.1.1.1.1.1.1)
    (named_loose levels_field 2 (codes "LV=") refl levels_item.no_space k.levels form.levels ((linear_on framed).text parts.1.1.1.1.1.1.1.1.1)
    (named_loose linear_field 2 (codes "K=") refl linear_item.no_space k.linear_fact form.linear_fact ((carry_on framed).text parts.1.1.1.1.1.1.1.1.1.1)
    (named_loose carry_field 2 (codes "F=") refl carry_item.no_space k.carry_fact form.carry_fact ((memory_field framed).text parts.1.1.1.1.1.1.1.1.1.1.1)
    (memory_loose 2 place_field places framed is_chip_cell 0 255 (omega arith) parts.1.1.1.1.1.1.1.1.1.1.1
    ((chip_cells_item framed).exact.back k.cells.cells (form.cells, form.each_cell)))))))))))))

pub texts_exact :
    ((node : Node) (a : Known) → HasChipForm node a → state_in node (known_text a) ≡ Some a)
    → ((node : Node) (text : List ℕ) (a : Known) → state_in node text ≡ Some a → HasChipForm node a × (known_text a ≡ text))
    → ((node : Node) (a : Known) → HasChipForm node a → IsOneLine (known_text a))
    → ((node : Node) (a : Known) → HasChipForm node a → IsNodeText 2 node)
    → ((new held : Known) → (outside_of new held ≡ None) ↔ (known_within new held ≡ true))
    → (setting : Setting) → IsSetting setting → AreTexts (mcs51_analysis setting) mcs51_texts
unfolding mcs51_analysis
texts_exact again takes one_line nodes included setting is =
    record {
      nodes = nodes;
      again = again;
      takes = takes;
      one_line = one_line;
      loose = λ node a form. known_loose (is_interrupt (frame_of node)) a form.1;
      included = λ node new held first second. included new held;
    }
