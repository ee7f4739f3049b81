-- States: SP, SR, whether an interrupt may still come late, R4 to R15, what the flags say, cells of RAM, and touched ranges,
-- each behind its name, with a space between each two.
use Rattle.std.specs.Prelude.{◌≡◌, ℕ, ◌<◌, Bool, true, false, Option, List, [], ◌∷◌, codes, if◌then◌else◌, None, Some}
use Rattle.std.proofs.Common.{refl, sym, ap, arith}
use Rattle.std.proofs.lemmas.List.Elements.{All-from_recursion, recursion_from_All}
use Rattle.std.proofs.lemmas.Option.{none-some}
use Rattle.entry_value.specs.declared.word.Word.{Word}
use Rattle.value_bits.specs.declared.tri.Tri.{Tri}
use Rattle.value_set.specs.declared.form.Form.{Form}
use Rattle.msp430_state.specs.declared.fact.FlagFact.{FlagFact}
use Rattle.msp430_state.specs.declared.status.Status.{Status}
use Rattle.msp430_state.specs.Forms.{HasChipForm, IsKnown, IsWord}
use Rattle.msp430_state.specs.Known.{Known, is_interrupt}
use Rattle.call_context.specs.declared.node.Node.{Node}
use Rattle.call_context.specs.Nodes.{frame_of}
use Rattle.msp430_fields.specs.Nodes.{is_node, nodes}
use Rattle.text_fields.specs.Spelling.{Spelling}
use Rattle.text_fields.specs.Fields.{named, beside, told_by, restated}
use Rattle.text_fields.specs.Fronts.{each_beside}
use Rattle.text_fields.specs.Items.{AreNames, IsLine, beside_line, each_line, named_item, told_line}
use Rattle.value_text.specs.Bits.{bit_field, bit_item, bit_form}
use Rattle.value_text.specs.Cells.{map_of}
use Rattle.value_text.specs.Memories as memories
use Rattle.value_text.specs.Memories.{Memory, memory_line}
use Rattle.msp430_fields.specs.Facts.{fact_field, fact_item}
use Rattle.msp430_fields.specs.Parts.{chip_cells, chip_cells_item, register_value, register_item, sp_field, sp_item, status_field, status_item}

-- THE FIELD

abbrev pub register_names : List (List ℕ)
register_names =
    codes "R4=" ∷ codes "R5=" ∷ codes "R6=" ∷ codes "R7=" ∷ codes "R8=" ∷ codes "R9=" ∷ codes "R10=" ∷ codes "R11=" ∷ codes "R12=" ∷ codes "R13="
    ∷ codes "R14=" ∷ codes "R15=" ∷ []

abbrev pub sp_named : Spelling Form
sp_named = named sp_field (codes "SP=")

abbrev pub status_named : (framed : Bool) → Spelling Status
status_named framed = named (status_field framed) (codes "SR=")

abbrev pub late_named : Spelling Tri
late_named = named bit_field (codes "L=")

abbrev pub fact_named : Spelling (Option FlagFact)
fact_named = named fact_field (codes "F=")

abbrev pub memory_field : (framed : Bool) → (lo hi : ℕ) → Spelling Memory
memory_field framed lo hi = memories.memory_field 4 (chip_cells framed lo hi) framed lo hi

abbrev pub fact_on : (framed : Bool) → (lo hi : ℕ) → Spelling (Option FlagFact × Memory)
fact_on framed lo hi = beside 32 fact_named (memory_field framed lo hi)

abbrev pub registers_on : (framed : Bool) → (lo hi : ℕ) → Spelling (List Word × (Option FlagFact × Memory))
registers_on framed lo hi = each_beside 32 register_names (register_value framed) (fact_on framed lo hi)

abbrev pub late_on : (framed : Bool) → (lo hi : ℕ) → Spelling (Tri × (List Word × (Option FlagFact × Memory)))
late_on framed lo hi = beside 32 late_named (registers_on framed lo hi)

abbrev pub status_on : (framed : Bool) → (lo hi : ℕ) → Spelling (Status × (Tri × (List Word × (Option FlagFact × Memory))))
status_on framed lo hi = beside 32 (status_named framed) (late_on framed lo hi)

abbrev pub Parts : Type 0
Parts = Form × (Status × (Tri × (List Word × (Option FlagFact × Memory))))

abbrev pub parts_field : (framed : Bool) → (lo hi : ℕ) → Spelling Parts
parts_field framed lo hi = beside 32 sp_named (status_on framed lo hi)

abbrev pub known_of : (lo hi : ℕ) → Parts → Known
known_of lo hi parts = record {
  sp = parts.0;
  status = parts.1.0;
  late = parts.1.1.0;
  registers = parts.1.1.1.0;
  fact = parts.1.1.1.1.0;
  cells = map_of lo hi parts.1.1.1.1.1.0;
  touched = parts.1.1.1.1.1.1;
}

abbrev pub parts_of : Known → Parts
parts_of a = (a.sp, (a.status, (a.late, (a.registers, (a.fact, (a.cells.cells, a.touched))))))

-- a state in an interrupt's frame or in none, with RAM from an address to another
abbrev pub known_field : (framed : Bool) → (lo hi : ℕ) → Spelling Known
known_field framed lo hi = restated (told_by (parts_field framed lo hi) (known_of lo hi) parts_of) (IsKnown lo hi framed)

-- the text of a state, whatever the frame and the RAM
abbrev pub known_text : Known → List ℕ
known_text = (known_field true 0 0).text

-- the state that a text is at a node of the chip
abbrev pub state_in : (lo hi : ℕ) → Node → List ℕ → Option Known
state_in lo hi node text = if is_node node then (known_field (is_interrupt (frame_of node)) lo hi).value text else None

-- LAWS

names_are_apart : AreNames register_names
names_are_apart = record {
  no_space = (refl, (refl, (refl, (refl, (refl, (refl, (refl, (refl, (refl, (refl, (refl, (refl, tt))))))))))));
  no_feed = (refl, (refl, (refl, (refl, (refl, (refl, (refl, (refl, (refl, (refl, (refl, (refl, tt))))))))))));
}

parts_line : (framed : Bool) (lo hi : ℕ) → hi < 65536 → IsLine (parts_field framed lo hi)
parts_line framed lo hi top =
    beside_line (named_item (codes "SP=") refl refl sp_item)
    (beside_line (named_item (codes "SR=") refl refl (status_item framed))
    (beside_line (named_item (codes "L=") refl refl bit_item)
    (each_line register_names names_are_apart (register_item framed)
    (beside_line (named_item (codes "F=") refl refl fact_item)
    (memory_line 4 (chip_cells framed lo hi) framed lo hi (omega arith) top (chip_cells_item framed lo hi top))))))

-- a state is made of its parts again
made_again : (lo hi : ℕ) (a : Known) → a.cells.lo ≡ lo → a.cells.hi ≡ hi → known_of lo hi (parts_of a) ≡ a
made_again lo hi a from up_to = rw (sym from, sym up_to) refl

known_narrow : (framed : Bool) (lo hi : ℕ) (a : Known) → IsKnown lo hi framed a
    → (told_by (parts_field framed lo hi) (known_of lo hi) parts_of).Form a
known_narrow framed lo hi a form = (
  (
    form.sp,
    (
      (form.bits, form.status),
      (
        bit_form a.late,
        (
          form.count,
          recursion_from_All (IsWord framed) a.registers form.registers,
          (
            form.fact,
            (
              (form.cells, form.each_cell),
              (form.touched, form.none_touched),
            ),
          ),
        ),
      ),
    ),
  ),
  made_again lo hi a form.from form.up_to,
)

known_wide : (framed : Bool) (lo hi : ℕ) (a : Known)
    → (told_by (parts_field framed lo hi) (known_of lo hi) parts_of).Form a → IsKnown lo hi framed a
known_wide framed lo hi a form =
    let late = form.0.1.1 in
    let memory = late.1.2.1 in
    record {
      sp = form.0.0;
      bits = form.0.1.0.0;
      status = form.0.1.0.1;
      count = late.1.0;
      registers = All-from_recursion (IsWord framed) a.registers late.1.1;
      fact = late.1.2.0;
      from = sym (ap (λ (known : Known). known.cells.lo) form.1);
      up_to = sym (ap (λ (known : Known). known.cells.hi) form.1);
      cells = memory.0.0;
      each_cell = memory.0.1;
      touched = memory.1.0;
      none_touched = memory.1.1;
    }

pub known_line : (framed : Bool) (lo hi : ℕ) → hi < 65536 → IsLine (known_field framed lo hi)
known_line framed lo hi top =
    told_line (known_of lo hi) parts_of (IsKnown lo hi framed) (λ parts form. refl) (known_narrow framed lo hi) (known_wide framed lo hi)
    (parts_line framed lo hi top)

-- what is read at a node is in form there, and each state in form is read again
pub state_back : (lo hi : ℕ) (node : Node) (a : Known) → hi < 65536 → HasChipForm lo hi node a → state_in lo hi node (known_text a) ≡ Some a
state_back lo hi node a top form = rw (nodes.back node form.0) ((known_line (is_interrupt (frame_of node)) lo hi top).exact.back a form.1)

abbrev IsRead : (lo hi : ℕ) → Node → List ℕ → Known → Type 0
IsRead lo hi node text a = HasChipForm lo hi node a × (known_text a ≡ text)

read_only : (lo hi : ℕ) (node : Node) (text : List ℕ) (a : Known) (is : Bool) → is_node node ≡ is → hi < 65536
    → (if is then (known_field (is_interrupt (frame_of node)) lo hi).value text else None) ≡ Some a → IsRead lo hi node text a
read_only lo hi node text a true is top e =
    let one = (known_line (is_interrupt (frame_of node)) lo hi top).exact.only text a e in ((nodes.only node is, one.0), one.1)
read_only lo hi node text a false is top e = absurd (none-some a e)

pub state_only : (lo hi : ℕ) (node : Node) (text : List ℕ) (a : Known) → hi < 65536 → state_in lo hi node text ≡ Some a
    → HasChipForm lo hi node a × (known_text a ≡ text)
state_only lo hi node text a top e = read_only lo hi node text a (is_node node) refl top e
