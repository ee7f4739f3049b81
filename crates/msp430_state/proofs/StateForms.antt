-- The first state and the greatest have the form of states, and joins and widenings keep it.
use Rattle.std.proofs.Common.{ℕ, ◌≤◌, Bool, Option, List, refl, arith}
use Rattle.std.proofs.lemmas.List.Elements.{All-replicate}
use Rattle.entry_value.specs.declared.cells.Cell.{Cell}
use Rattle.entry_value.specs.declared.word.Entry.{Entry}
use Rattle.entry_value.specs.declared.word.Word.{Word}
use Rattle.entry_value.specs.CellLists.{each_from, each_in}
use Rattle.entry_value.specs.Cells.{AreCells, unknown}
use Rattle.entry_value.specs.RelationFacts.{common_entry_keeps}
use Rattle.entry_value.specs.Words.{word_within}
use Rattle.irq_frames.specs.KnownLaws.{KnownLaws}
use Rattle.known_parts.specs.CellForms.{StaysSo}
use Rattle.known_parts.specs.Options.{common_fact_keeps}
use Rattle.plain_lemmas.specs.Orders.{IsAny, IsOrdered, Part, both_ordered, part_ordered}
use Rattle.known_parts.specs.Parts.{AreUnions, bit_ordered, relation_ordered}
use Rattle.known_parts.specs.Pointwise.{AreEach, each_ordered}
use Rattle.irq_frames.specs.Touched.{AreTouched, all_are_touched, touched_ordered}
use Rattle.plain_lemmas.specs.Members.{in_none}
use Rattle.value_bits.specs.declared.tri.Tri.{Tri}
use Rattle.value_set.specs.declared.form.Form.{Form}
use Rattle.value_set.specs.Form.{IsNormal}
use Rattle.value_set.specs.Joining.{is_within}
use Rattle.msp430_state.specs.declared.fact.FlagFact.{FlagFact}
use Rattle.msp430_state.specs.Facts.{is_same_fact}
use Rattle.msp430_state.specs.FormFacts.{no_relation, no_status_relation}
use Rattle.msp430_state.specs.Forms.{AreEvenWords, IsChipCell, IsRelation, IsStatusRelation, IsFact, IsWord, IsKnown}
use Rattle.msp430_state.specs.Known.{Known, even_words, first_known, top_known, all_touched, known_united, word_united}
use Rattle.msp430_state.proofs.EvenWords.{even_words_form, even_words_have}

-- cells stay in form with another set, with the same relation or with none
chip_cell_stays : (framed : Bool) → StaysSo (IsChipCell framed)
chip_cell_stays framed = record {
  same = λ cell set form. record { even = form.even; byte = form.byte; entry = form.entry };
  none = λ cell set form. record { even = form.even; byte = λ one. refl; entry = no_relation framed };
}

-- THE FIRST AND THE GREATEST

unknown_form : KnownLaws → (framed : Bool) → IsWord framed (unknown 2)
unknown_form laws framed = record { normal = laws.sets.whole_normal 65536 (omega arith); entry = no_relation framed }

pub first_form : KnownLaws → (lo hi : ℕ) (framed : Bool) → IsKnown lo hi framed (first_known lo hi)
first_form laws lo hi framed = record {
  sp = even_words_form laws;
  bits = refl;
  status = no_status_relation framed;
  count = refl;
  registers = All-replicate (IsWord framed) 12 (unknown 2) (unknown_form laws framed);
  fact = tt;
  from = refl;
  up_to = refl;
  cells = tt;
  each_cell = λ cell h. absurd (in_none cell h);
  touched = tt;
  none_touched = λ base. refl;
}

pub top_form : KnownLaws → (lo hi : ℕ) (framed : Bool) → lo ≤ hi → IsKnown lo hi framed (top_known lo hi framed)
top_form laws lo hi framed le =
    let form : IsKnown lo hi framed (first_known lo hi) = first_form laws lo hi framed in
    let all : AreTouched lo hi framed (all_touched framed lo hi) = all_are_touched lo hi framed le in
    assumption (form, all.are, all.none)

-- THE PARTS

module _ (lo hi : ℕ) (framed : Bool) where
  abbrev pub sp_part : Part (IsKnown lo hi framed) AreEvenWords
  sp_part = record { of = λ a. a.sp; formed = λ a form. form.sp }

  abbrev pub bits_part : Part (IsKnown lo hi framed) (AreEach {A = Tri} 9 IsAny)
  bits_part = record { of = λ a. a.status.bits; formed = λ a form. record { count = form.bits; each = λ k d lt. tt } }

  abbrev pub relation_part : Part {A = Option Entry} (IsKnown lo hi framed) IsAny
  relation_part = record { of = λ a. a.status.entry; formed = λ a form. tt }

  abbrev pub late_part : Part {A = Tri} (IsKnown lo hi framed) IsAny
  late_part = record { of = λ a. a.late; formed = λ a form. tt }

  abbrev pub words_part : Part (IsKnown lo hi framed) (AreEach 12 (IsWord framed))
  words_part = record { of = λ a. a.registers; formed = λ a form. record { count = form.count; each = form.registers } }

  abbrev pub fact_part : Part {A = Option FlagFact} (IsKnown lo hi framed) IsAny
  fact_part = record { of = λ a. a.fact; formed = λ a form. tt }

  abbrev pub cells_part : Part (IsKnown lo hi framed) (AreCells lo hi lo)
  cells_part = record { of = λ a. a.cells.cells; formed = λ a form. form.cells }

  abbrev pub touched_part : Part (IsKnown lo hi framed) (AreTouched lo hi framed)
  touched_part = record { of = λ a. a.touched; formed = λ a form. record { are = form.touched; none = form.none_touched } }

-- WHAT IS MADE OF TWO

module _ (laws : KnownLaws) (lo hi : ℕ) (sets : Form → Form → Form) (cells : List Cell → List Cell → List Cell) (unions : AreUnions 65536 lo hi sets cells) where
  pub sp_ordered : IsOrdered AreEvenWords (is_within 65536) sets even_words
  sp_ordered = record {
    itself = λ a f. unions.sets.itself a f.normal;
    along = unions.sets.along;
    form = λ a b f g. record { normal = unions.sets.form a b f.normal g.normal; even = unions.rest 2 0 a b refl f.normal g.normal f.even g.even };
    held = λ a b f g. unions.sets.held a b f.normal g.normal;
    new = λ a b f g. unions.sets.new a b f.normal g.normal;
    whole = λ a f. (laws.sets.tested 65536 a even_words).1 (λ v has. even_words_have laws v (laws.sets.below 65536 v a f.normal has) (f.even v has));
  }

  module _ (framed : Bool) where
    word_form : (held new : Word) → IsWord framed held → IsWord framed new → IsWord framed (word_united sets held new)
    word_form held new f g = record {
      normal = unions.sets.form held.set new.set f.normal g.normal;
      entry = common_entry_keeps (IsRelation framed) held.entry new.entry (no_relation framed) f.entry;
    }

    pub word_ordered : IsOrdered (IsWord framed) word_within (word_united sets) (unknown 2)
    word_ordered =
        let set_part : Part (IsWord framed) (IsNormal 65536) = record { of = λ word. word.set; formed = λ word form. form.normal } in
        let entry_part : Part {A = Option Entry} (IsWord framed) IsAny = record { of = λ word. word.entry; formed = λ word form. tt } in
        both_ordered (part_ordered set_part word_form (λ a b. refl) unions.sets) (part_ordered entry_part word_form (λ a b. refl) (relation_ordered laws.values))

    pub united_form : (a b : Known) → IsKnown lo hi framed a → IsKnown lo hi framed b → IsKnown lo hi framed (known_united sets cells a b)
    united_form a b f g =
        let bits = (each_ordered 9 bit_ordered).form a.status.bits b.status.bits ((bits_part lo hi framed).formed a f) ((bits_part lo hi framed).formed b g) in
        let words = (each_ordered 12 word_ordered).form a.registers b.registers ((words_part lo hi framed).formed a f) ((words_part lo hi framed).formed b g) in
        let touched = (touched_ordered laws lo hi framed).form a.touched b.touched ((touched_part lo hi framed).formed a f) ((touched_part lo hi framed).formed b g) in
        record {
          sp = sp_ordered.form a.sp b.sp f.sp g.sp;
          bits = bits.count;
          status = common_entry_keeps (IsStatusRelation framed) a.status.entry b.status.entry (no_status_relation framed) f.status;
          count = words.count;
          registers = words.each;
          fact = common_fact_keeps is_same_fact IsFact a.fact b.fact tt f.fact;
          from = f.from;
          up_to = f.up_to;
          cells = unions.cells.form a.cells.cells b.cells.cells f.cells g.cells;
          each_cell = each_in (IsChipCell framed) (cells a.cells.cells b.cells.cells)
              (unions.each_cell (IsChipCell framed) (chip_cell_stays framed) a.cells.cells b.cells.cells (each_from (IsChipCell framed) a.cells.cells f.each_cell));
          touched = touched.are;
          none_touched = touched.none;
        }
