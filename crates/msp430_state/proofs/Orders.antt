-- The order of states: it goes part by part.
use Rattle.std.proofs.Common.{ℕ, Bool, List, refl}
use Rattle.entry_value.specs.declared.cells.Cell.{Cell}
use Rattle.entry_value.specs.Cells.{join_cells, widen_cells}
use Rattle.irq_frames.specs.KnownLaws.{KnownLaws}
use Rattle.known_parts.specs.Options.{fact_ordered}
use Rattle.plain_lemmas.specs.Orders.{IsOrdered, both_ordered, part_ordered}
use Rattle.known_parts.specs.Parts.{AreUnions, bit_ordered, join_unions, relation_ordered, widen_unions}
use Rattle.known_parts.specs.Pointwise.{each_ordered}
use Rattle.irq_frames.specs.Touched.{touched_ordered}
use Rattle.value_set.specs.declared.form.Form.{Form}
use Rattle.value_set.specs.Joining.{join}
use Rattle.value_set.specs.Laws.{AreMarks}
use Rattle.value_set.specs.Widening.{widen}
use Rattle.msp430_state.specs.Facts.{is_same_fact}
use Rattle.msp430_state.specs.Forms.{IsKnown}
use Rattle.msp430_state.specs.Known.{Known, top_known, known_united, known_joined, known_widened, known_within}
use Rattle.msp430_state.proofs.FactLemmas.{fact_equality}
use Rattle.msp430_state.proofs.StateForms.{bits_part, cells_part, fact_part, late_part, relation_part, sp_ordered, sp_part, touched_part, united_form, word_ordered, words_part}

module _ (laws : KnownLaws) (lo hi : ℕ) (framed : Bool) where
  united_ordered : (sets : Form → Form → Form) (cells : List Cell → List Cell → List Cell) → AreUnions 65536 lo hi sets cells
      → IsOrdered (IsKnown lo hi framed) known_within (known_united sets cells) (top_known lo hi framed)
  unfolding known_within
  united_ordered sets cells unions =
      let form : (a b : Known) → IsKnown lo hi framed a → IsKnown lo hi framed b → IsKnown lo hi framed (known_united sets cells a b) =
      united_form laws lo hi sets cells unions framed in
      both_ordered (both_ordered (both_ordered (both_ordered (both_ordered (both_ordered
      (part_ordered (sp_part lo hi framed) form (λ s t. refl) (sp_ordered laws lo hi sets cells unions))
      (both_ordered (part_ordered (bits_part lo hi framed) form (λ s t. refl) (each_ordered 9 bit_ordered))
      (part_ordered (relation_part lo hi framed) form (λ s t. refl) (relation_ordered laws.values))))
      (part_ordered (late_part lo hi framed) form (λ s t. refl) bit_ordered))
      (part_ordered (words_part lo hi framed) form (λ s t. refl) (each_ordered 12 (word_ordered laws lo hi sets cells unions framed))))
      (part_ordered (fact_part lo hi framed) form (λ s t. refl) (fact_ordered is_same_fact fact_equality)))
      (part_ordered (cells_part lo hi framed) form (λ s t. refl) unions.cells))
      (part_ordered (touched_part lo hi framed) form (λ s t. refl) (touched_ordered laws lo hi framed))

  pub joined_ordered : IsOrdered (IsKnown lo hi framed) known_within known_joined (top_known lo hi framed)
  unfolding known_joined
  joined_ordered = united_ordered (join 65536) join_cells (join_unions laws.sets laws.cells 65536 lo hi)

  pub widened_ordered : (marks : List ℕ) → AreMarks 65536 marks
      → IsOrdered (IsKnown lo hi framed) known_within (known_widened marks) (top_known lo hi framed)
  unfolding known_widened
  widened_ordered marks below =
      united_ordered (λ h n. widen 65536 h n marks) (λ h n. widen_cells h n marks) (widen_unions laws.sets laws.cells 65536 lo hi marks below below)
