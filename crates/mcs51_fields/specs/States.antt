-- States: SP, A, B, DPL, DPH, IE, IP, PSW, the levels that may be in service, what is known of A and of CY beside their values,
-- cells of RAM, and touched ranges, each behind its name, with a space between each two.
use Rattle.std.specs.Prelude.{◌≡◌, ℕ, Bool, true, false, if◌then◌else◌, Option, None, Some, List, codes}
use Rattle.std.proofs.Common.{refl, sym, ap, arith}
use Rattle.std.proofs.lemmas.Option.{none-some}
use Rattle.call_context.specs.declared.node.Node.{Node}
use Rattle.call_context.specs.Nodes.{frame_of}
use Rattle.entry_value.specs.declared.byte.Byte.{Byte}
use Rattle.value_set.specs.declared.form.Form.{Form}
use Rattle.mcs51_state.specs.declared.fact.LinearFact.{LinearFact}
use Rattle.mcs51_state.specs.declared.fact.CarryFact.{CarryFact}
use Rattle.mcs51_state.specs.declared.levels.Levels.{Levels}
use Rattle.mcs51_state.specs.declared.status.Status.{Status}
use Rattle.mcs51_state.specs.Forms.{HasChipForm, IsKnown}
use Rattle.mcs51_state.specs.Known.{Known, is_interrupt}
use Rattle.mcs51_state.specs.Places.{ie_place, ip_place}
use Rattle.text_fields.specs.Spelling.{Spelling}
use Rattle.text_fields.specs.Fields.{named, beside, told_by, restated}
use Rattle.text_fields.specs.Items.{IsLine, beside_line, named_item, told_line}
use Rattle.value_text.specs.Cells.{map_of}
use Rattle.value_text.specs.Memories as memories
use Rattle.value_text.specs.Memories.{Memory, memory_line}
use Rattle.value_text.specs.Sets.{set_field, set_item}
use Rattle.mcs51_fields.specs.Facts.{carry_field, carry_item, levels_field, levels_item, linear_field, linear_item}
use Rattle.mcs51_fields.specs.Parts.{byte_value, byte_value_item, chip_cells, chip_cells_item, own_value, own_value_item, status_field, status_item}
use Rattle.mcs51_fields.specs.Nodes.{is_node, nodes}

-- THE FIELD

abbrev pub sp_named : Spelling Form
sp_named = named (set_field 2) (codes "SP=")

abbrev pub a_named : (framed : Bool) → Spelling Byte
a_named framed = named (byte_value framed) (codes "A=")

abbrev pub b_named : (framed : Bool) → Spelling Byte
b_named framed = named (byte_value framed) (codes "B=")

abbrev pub dpl_named : (framed : Bool) → Spelling Byte
dpl_named framed = named (byte_value framed) (codes "DPL=")

abbrev pub dph_named : (framed : Bool) → Spelling Byte
dph_named framed = named (byte_value framed) (codes "DPH=")

abbrev pub ie_named : (framed : Bool) → Spelling Byte
ie_named framed = named (own_value ie_place 64 framed) (codes "IE=")

abbrev pub ip_named : (framed : Bool) → Spelling Byte
ip_named framed = named (own_value ip_place 192 framed) (codes "IP=")

abbrev pub psw_named : (framed : Bool) → Spelling Status
psw_named framed = named (status_field framed) (codes "PSW=")

abbrev pub levels_named : Spelling Levels
levels_named = named levels_field (codes "LV=")

abbrev pub linear_named : Spelling (Option LinearFact)
linear_named = named linear_field (codes "K=")

abbrev pub carry_named : Spelling (Option CarryFact)
carry_named = named carry_field (codes "F=")

-- each field with those behind it

abbrev pub memory_field : (framed : Bool) → Spelling Memory
memory_field framed = memories.memory_field 2 (chip_cells framed) framed 0 255

abbrev pub CarryOn : Type 0
CarryOn = Option CarryFact × Memory

abbrev pub carry_on : (framed : Bool) → Spelling CarryOn
carry_on framed = beside 32 carry_named (memory_field framed)

abbrev pub LinearOn : Type 0
LinearOn = Option LinearFact × CarryOn

abbrev pub linear_on : (framed : Bool) → Spelling LinearOn
linear_on framed = beside 32 linear_named (carry_on framed)

abbrev pub LevelsOn : Type 0
LevelsOn = Levels × LinearOn

abbrev pub levels_on : (framed : Bool) → Spelling LevelsOn
levels_on framed = beside 32 levels_named (linear_on framed)

abbrev pub PswOn : Type 0
PswOn = Status × LevelsOn

abbrev pub psw_on : (framed : Bool) → Spelling PswOn
psw_on framed = beside 32 (psw_named framed) (levels_on framed)

abbrev pub IpOn : Type 0
IpOn = Byte × PswOn

abbrev pub ip_on : (framed : Bool) → Spelling IpOn
ip_on framed = beside 32 (ip_named framed) (psw_on framed)

abbrev pub IeOn : Type 0
IeOn = Byte × IpOn

abbrev pub ie_on : (framed : Bool) → Spelling IeOn
ie_on framed = beside 32 (ie_named framed) (ip_on framed)

abbrev pub DphOn : Type 0
DphOn = Byte × IeOn

abbrev pub dph_on : (framed : Bool) → Spelling DphOn
dph_on framed = beside 32 (dph_named framed) (ie_on framed)

abbrev pub DplOn : Type 0
DplOn = Byte × DphOn

abbrev pub dpl_on : (framed : Bool) → Spelling DplOn
dpl_on framed = beside 32 (dpl_named framed) (dph_on framed)

abbrev pub BOn : Type 0
BOn = Byte × DplOn

abbrev pub b_on : (framed : Bool) → Spelling BOn
b_on framed = beside 32 (b_named framed) (dpl_on framed)

abbrev pub AOn : Type 0
AOn = Byte × BOn

abbrev pub a_on : (framed : Bool) → Spelling AOn
a_on framed = beside 32 (a_named framed) (b_on framed)

abbrev pub Parts : Type 0
Parts = Form × AOn

abbrev pub parts_field : (framed : Bool) → Spelling Parts
parts_field framed = beside 32 sp_named (a_on framed)

abbrev pub known_of : Parts → Known
known_of parts = record {
  sp = parts.0;
  a = parts.1.0;
  b = parts.1.1.0;
  dpl = parts.1.1.1.0;
  dph = parts.1.1.1.1.0;
  ie = parts.1.1.1.1.1.0;
  ip = parts.1.1.1.1.1.1.0;
  psw = parts.1.1.1.1.1.1.1.0;
  levels = parts.1.1.1.1.1.1.1.1.0;
  linear_fact = parts.1.1.1.1.1.1.1.1.1.0;
  carry_fact = parts.1.1.1.1.1.1.1.1.1.1.0;
  cells = map_of 0 255 parts.1.1.1.1.1.1.1.1.1.1.1.0;
  touched = parts.1.1.1.1.1.1.1.1.1.1.1.1;
}

abbrev pub parts_of : Known → Parts
parts_of k =
    (k.sp, (k.a, (k.b, (k.dpl, (k.dph, (k.ie, (k.ip, (k.psw, (k.levels, (k.linear_fact, (k.carry_fact, (k.cells.cells, k.touched))))))))))))

-- a state in an interrupt's frame or in none
abbrev pub known_field : (framed : Bool) → Spelling Known
known_field framed = restated (told_by (parts_field framed) known_of parts_of) (IsKnown framed)

-- the text of a state, whatever the frame
abbrev pub known_text : Known → List ℕ
known_text = (known_field true).text

-- the state that a text is at a node of the chip
abbrev pub state_in : Node → List ℕ → Option Known
state_in node text = if is_node node then (known_field (is_interrupt (frame_of node))).value text else None

-- LAWS

parts_line : (framed : Bool) → IsLine (parts_field framed)
parts_line framed =
    beside_line (named_item (codes "SP=") refl refl (set_item 2 (omega arith)))
    (beside_line (named_item (codes "A=") refl refl (byte_value_item framed))
    (beside_line (named_item (codes "B=") refl refl (byte_value_item framed))
    (beside_line (named_item (codes "DPL=") refl refl (byte_value_item framed))
    (beside_line (named_item (codes "DPH=") refl refl (byte_value_item framed))
    (beside_line (named_item (codes "IE=") refl refl (own_value_item ie_place 64 framed refl))
    (beside_line (named_item (codes "IP=") refl refl (own_value_item ip_place 192 framed refl))
    (beside_line (named_item (codes "PSW=") refl refl (status_item framed))
    (beside_line (named_item (codes "LV=") refl refl levels_item)
    (beside_line (named_item (codes "K=") refl refl linear_item)
    (beside_line (named_item (codes "F=") refl refl carry_item)
    (memory_line 2 (chip_cells framed) framed 0 255 (omega arith) (omega arith) (chip_cells_item framed))))))))))))

-- a state is made of its parts again
made_again : (k : Known) → k.cells.lo ≡ 0 → k.cells.hi ≡ 255 → known_of (parts_of k) ≡ k
made_again k from up_to = rw (sym from, sym up_to) refl

known_narrow : (framed : Bool) (k : Known) → IsKnown framed k → (told_by (parts_field framed) known_of parts_of).Form k
known_narrow framed k form = (
  (
    form.sp,
    (
      form.a,
      (
        form.b,
        (
          form.dpl,
          (
            form.dph,
            (
              form.ie,
              (
                form.ip,
                (
                  (form.bits, form.psw),
                  (
                    form.levels,
                    (
                      form.linear_fact,
                      (
                        form.carry_fact,
                        ((form.cells, form.each_cell), (form.touched, form.none_touched)),
                      ),
                    ),
                  ),
                ),
              ),
            ),
          ),
        ),
      ),
    ),
  ),
  made_again k form.from form.up_to,
)

known_wide : (framed : Bool) (k : Known) → (told_by (parts_field framed) known_of parts_of).Form k → IsKnown framed k
known_wide framed k form =
    let bytes = form.0.1 in
    let psw = bytes.1.1.1.1.1.1 in
    let memory = psw.1.1.1.1 in
    record {
      sp = form.0.0;
      a = bytes.0;
      b = bytes.1.0;
      dpl = bytes.1.1.0;
      dph = bytes.1.1.1.0;
      ie = bytes.1.1.1.1.0;
      ip = bytes.1.1.1.1.1.0;
      bits = psw.0.0;
      psw = psw.0.1;
      levels = psw.1.0;
      linear_fact = psw.1.1.0;
      carry_fact = psw.1.1.1.0;
      from = sym (ap (λ (known : Known). known.cells.lo) form.1);
      up_to = sym (ap (λ (known : Known). known.cells.hi) form.1);
      cells = memory.0.0;
      each_cell = memory.0.1;
      touched = memory.1.0;
      none_touched = memory.1.1;
    }

pub known_line : (framed : Bool) → IsLine (known_field framed)
known_line framed =
    told_line known_of parts_of (IsKnown framed) (λ parts form. refl) (known_narrow framed) (known_wide framed) (parts_line framed)

-- what is read at a node is in form there, and each state in form is read again
pub state_back : (node : Node) (k : Known) → HasChipForm node k → state_in node (known_text k) ≡ Some k
state_back node k form = rw (nodes.back node form.0) ((known_line (is_interrupt (frame_of node))).exact.back k form.1)

abbrev IsRead : Node → List ℕ → Known → Type 0
IsRead node text k = HasChipForm node k × (known_text k ≡ text)

read_only : (node : Node) (text : List ℕ) (k : Known) (is : Bool) → is_node node ≡ is
    → (if is then (known_field (is_interrupt (frame_of node))).value text else None) ≡ Some k → IsRead node text k
read_only node text k true is e = let one = (known_line (is_interrupt (frame_of node))).exact.only text k e in ((nodes.only node is, one.0), one.1)
read_only node text k false is e = absurd (none-some k e)

pub state_only : (node : Node) (text : List ℕ) (k : Known) → state_in node text ≡ Some k → HasChipForm node k × (known_text k ≡ text)
state_only node text k e = read_only node text k (is_node node) refl e
