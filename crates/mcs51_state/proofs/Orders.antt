-- The order of states: it goes part by part.
use Rattle.std.proofs.Common.{ℕ, Bool, List, get_or, ◌<◌, refl, arith}
use Rattle.entry_value.specs.declared.cells.Cell.{Cell}
use Rattle.entry_value.specs.Cells.{join_cells, widen_cells}
use Rattle.irq_frames.specs.KnownLaws.{KnownLaws}
use Rattle.known_parts.specs.Options.{fact_ordered}
use Rattle.plain_lemmas.specs.Orders.{IsOrdered, both_ordered, part_ordered}
use Rattle.known_parts.specs.Parts.{AreUnions, bit_ordered, join_unions, relation_ordered, widen_unions}
use Rattle.known_parts.specs.Pointwise.{each_ordered}
use Rattle.irq_frames.specs.Touched.{touched_ordered}
use Rattle.value_set.specs.declared.form.Form.{Form}
use Rattle.value_set.specs.Joining.{join}
use Rattle.value_set.specs.Laws.{AreMarks}
use Rattle.value_set.specs.Widening.{widen}
use Rattle.mcs51_state.specs.Facts.{is_same_linear, is_same_carry}
use Rattle.mcs51_state.specs.Forms.{IsKnown}
use Rattle.mcs51_state.specs.Known.{Known, top_known, known_united, known_joined, known_widened, known_within, registers_within}
use Rattle.mcs51_state.proofs.FactLemmas.{linear_equality, carry_equality}
use Rattle.mcs51_state.proofs.LevelLemmas.{levels_ordered}
use Rattle.mcs51_state.proofs.StateForms.{bits_part, byte_ordered, byte_part, carry_part, cells_part, levels_part, linear_part, relation_part, sp_part, touched_part, united_form}

-- marks of bytes are marks of the words of cells
word_marks : (marks : List ℕ) → AreMarks 256 marks → AreMarks 65536 marks
word_marks marks below k d lt = let byte : get_or marks k d < 256 = below k d lt in omega (arith, byte)

module _ (laws : KnownLaws) (framed : Bool) where
  module _ (sets : Form → Form → Form) (cells : List Cell → List Cell → List Cell) (unions : AreUnions 256 0 255 sets cells) where
    registers_ordered : IsOrdered (IsKnown framed) registers_within (known_united sets cells) (top_known framed)
    unfolding registers_within
    registers_ordered =
        let form : (a b : Known) → IsKnown framed a → IsKnown framed b → IsKnown framed (known_united sets cells a b) =
        united_form laws sets cells unions framed in
        let byte = byte_ordered laws sets cells unions in
        both_ordered (both_ordered (both_ordered (both_ordered (both_ordered (both_ordered
        (part_ordered (sp_part framed) form (λ s t. refl) unions.sets)
        (part_ordered (byte_part framed (λ known. known.a) (λ known form. form.a.normal)) form (λ s t. refl) byte))
        (part_ordered (byte_part framed (λ known. known.b) (λ known form. form.b.normal)) form (λ s t. refl) byte))
        (part_ordered (byte_part framed (λ known. known.dpl) (λ known form. form.dpl.normal)) form (λ s t. refl) byte))
        (part_ordered (byte_part framed (λ known. known.dph) (λ known form. form.dph.normal)) form (λ s t. refl) byte))
        (part_ordered (byte_part framed (λ known. known.ie) (λ known form. form.ie.normal)) form (λ s t. refl) byte))
        (part_ordered (byte_part framed (λ known. known.ip) (λ known form. form.ip.normal)) form (λ s t. refl) byte)

    united_ordered : IsOrdered (IsKnown framed) known_within (known_united sets cells) (top_known framed)
    unfolding known_within
    united_ordered =
        let form : (a b : Known) → IsKnown framed a → IsKnown framed b → IsKnown framed (known_united sets cells a b) =
        united_form laws sets cells unions framed in
        both_ordered (both_ordered (both_ordered (both_ordered (both_ordered (both_ordered
        registers_ordered
        (both_ordered (part_ordered (bits_part framed) form (λ s t. refl) (each_ordered 6 bit_ordered))
        (part_ordered (relation_part framed) form (λ s t. refl) (relation_ordered laws.values))))
        (part_ordered (levels_part framed) form (λ s t. refl) levels_ordered))
        (part_ordered (linear_part framed) form (λ s t. refl) (fact_ordered is_same_linear linear_equality)))
        (part_ordered (carry_part framed) form (λ s t. refl) (fact_ordered is_same_carry carry_equality)))
        (part_ordered (cells_part framed) form (λ s t. refl) unions.cells))
        (part_ordered (touched_part framed) form (λ s t. refl) (touched_ordered laws 0 255 framed))

  pub joined_ordered : IsOrdered (IsKnown framed) known_within known_joined (top_known framed)
  unfolding known_joined
  joined_ordered = united_ordered (join 256) join_cells (join_unions laws.sets laws.cells 256 0 255)

  pub widened_ordered : (marks : List ℕ) → AreMarks 256 marks
      → IsOrdered (IsKnown framed) known_within (known_widened marks) (top_known framed)
  unfolding known_widened
  widened_ordered marks below =
      united_ordered (λ h n. widen 256 h n marks) (λ h n. widen_cells h n marks) (widen_unions laws.sets laws.cells 256 0 255 marks below (word_marks marks below))
