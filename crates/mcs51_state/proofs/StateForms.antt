-- The first state and the greatest have the form of states, and joins and widenings keep it.
use Rattle.std.proofs.Common.{ℕ, ◌<◌, Bool, false, Option, List, [], ◌∷◌, get_or, refl, arith, All, Contains}
use Rattle.std.proofs.lemmas.List.Elements.{All-nil, All-cons, All-contains, All-contains_itself}
use Rattle.entry_value.specs.declared.byte.Byte.{Byte}
use Rattle.entry_value.specs.declared.word.Entry.{Entry}
use Rattle.entry_value.specs.declared.cells.Cell.{Cell}
use Rattle.entry_value.specs.CellLists.{Each, each_from, each_in}
use Rattle.entry_value.specs.RelationFacts.{common_entry_keeps}
use Rattle.entry_value.specs.Words.{byte_within, common_entry}
use Rattle.entry_value.specs.Cells.{AreCells}
use Rattle.irq_frames.specs.KnownLaws.{KnownLaws}
use Rattle.known_parts.specs.CellForms.{StaysSo}
use Rattle.known_parts.specs.Options.{common_fact_keeps}
use Rattle.plain_lemmas.specs.Orders.{IsAny, IsOrdered, Part, both_ordered, part_ordered}
use Rattle.known_parts.specs.Parts.{AreUnions, bit_ordered, relation_ordered}
use Rattle.known_parts.specs.Pointwise.{AreEach, each_ordered}
use Rattle.irq_frames.specs.Touched.{AreTouched, all_are_touched, touched_ordered}
use Rattle.value_bits.specs.declared.tri.Tri.{Tri}
use Rattle.value_set.specs.declared.form.Form.{Form}
use Rattle.value_set.specs.Form.{IsNormal, gather}
use Rattle.value_set.specs.Summing.{single}
use Rattle.mcs51_state.specs.declared.fact.CarryFact.{CarryFact}
use Rattle.mcs51_state.specs.declared.fact.LinearFact.{LinearFact}
use Rattle.mcs51_state.specs.declared.levels.Levels.{Levels}
use Rattle.mcs51_state.specs.Facts.{is_same_linear, is_same_carry}
use Rattle.mcs51_state.specs.FormFacts.{byte_form, no_own_relation, no_relation}
use Rattle.mcs51_state.specs.Forms.{AreLevels, IsRelation, IsOwnRelation, IsByte, IsOwnByte, IsLinear, IsCarry, IsChipCell, IsKnown}
use Rattle.mcs51_state.specs.Known.{Known, any_byte, byte_of, first_known, top_known, all_touched, byte_united, known_united}
use Rattle.mcs51_state.specs.Places.{ie_place, ip_place, psw_place}
use Rattle.mcs51_state.specs.Levels.{all_levels}
use Rattle.mcs51_state.proofs.LevelLemmas.{join_levels}

own_form : (framed : Bool) (place unheld : ℕ) (set : Form) → IsNormal 256 set → IsOwnByte framed place unheld (byte_of set)
own_form framed place unheld set normal = record { normal = normal; entry = no_own_relation framed place unheld }

-- cells stay in form with another set, with the same relation or with none
chip_cell_stays : (framed : Bool) → StaysSo (IsChipCell framed)
chip_cell_stays framed = record {
  same = λ cell set form. record { size = form.size; entry = form.entry };
  none = λ cell set form. record { size = form.size; entry = no_relation framed };
}

each_of : (P : Cell → Type 0) (cells : List Cell) → All P cells → Each P cells
each_of P cells all = each_from P cells (λ cell there. All-contains P cells cell all there)

all_of : (P : Cell → Type 0) (cells : List Cell) → Each P cells → All P cells
all_of P cells each = λ k d lt. each_in P cells each (get_or cells k d) (All-contains_itself cells k d lt)

-- THE FIRST AND THE GREATEST

zero_normal : KnownLaws → IsNormal 256 (single 0)
zero_normal laws = (laws.sets.single 256 0 (omega arith)).0

-- each number of a list of bytes is a byte
pub ie_bytes : (v : ℕ) → Contains (0 ∷ 64 ∷ []) v → v < 256
ie_bytes v h = All-contains (λ n. n < 256) (0 ∷ 64 ∷ []) v
    (All-cons (λ n. n < 256) 0 (64 ∷ []) (omega arith) (All-cons (λ n. n < 256) 64 [] (omega arith) (All-nil (λ n. n < 256)))) h

pub ip_bytes : (v : ℕ) → Contains (0 ∷ 64 ∷ 128 ∷ 192 ∷ []) v → v < 256
ip_bytes v h = All-contains (λ n. n < 256) (0 ∷ 64 ∷ 128 ∷ 192 ∷ []) v
    (All-cons (λ n. n < 256) 0 (64 ∷ 128 ∷ 192 ∷ []) (omega arith) (All-cons (λ n. n < 256) 64 (128 ∷ 192 ∷ []) (omega arith)
    (All-cons (λ n. n < 256) 128 (192 ∷ []) (omega arith) (All-cons (λ n. n < 256) 192 [] (omega arith) (All-nil (λ n. n < 256)))))) h

pub first_form : KnownLaws → (framed : Bool) → IsKnown framed first_known
first_form laws framed = record {
  sp = (laws.sets.single 256 7 (omega arith)).0;
  a = byte_form framed (single 0) (zero_normal laws);
  b = byte_form framed (single 0) (zero_normal laws);
  dpl = byte_form framed (single 0) (zero_normal laws);
  dph = byte_form framed (single 0) (zero_normal laws);
  ie = own_form framed ie_place 64 (gather 256 (0 ∷ 64 ∷ [])) (laws.sets.gather_normal 256 (0 ∷ 64 ∷ []) (omega arith) ie_bytes);
  ip = own_form framed ip_place 192 (gather 256 (0 ∷ 64 ∷ 128 ∷ 192 ∷ [])) (laws.sets.gather_normal 256 (0 ∷ 64 ∷ 128 ∷ 192 ∷ []) (omega arith) ip_bytes);
  bits = refl;
  psw = no_own_relation framed psw_place 3;
  levels = (false, false, refl);
  linear_fact = tt;
  carry_fact = tt;
  from = refl;
  up_to = refl;
  cells = tt;
  each_cell = All-nil (IsChipCell framed);
  touched = tt;
  none_touched = λ base. refl;
}

pub top_form : KnownLaws → (framed : Bool) → IsKnown framed (top_known framed)
top_form laws framed =
    let form : IsKnown framed first_known = first_form laws framed in
    let all : AreTouched 0 255 framed (all_touched framed) = all_are_touched 0 255 framed (omega arith) in
    let normal : IsNormal 256 any_byte = laws.sets.whole_normal 256 (omega arith) in
    let byte : IsByte framed (byte_of any_byte) = byte_form framed any_byte normal in
    let ie : IsOwnByte framed ie_place 64 (byte_of any_byte) = own_form framed ie_place 64 any_byte normal in
    let ip : IsOwnByte framed ip_place 192 (byte_of any_byte) = own_form framed ip_place 192 any_byte normal in
    let levels : AreLevels all_levels = (false, false, refl) in
    assumption (form, all.are, all.none, normal, byte, ie, ip, levels)

-- THE PARTS

abbrev pub IsNormalByte : Byte → Type 0
IsNormalByte byte = IsNormal 256 byte.set

module _ (framed : Bool) where
  abbrev pub sp_part : Part (IsKnown framed) (IsNormal 256)
  sp_part = record { of = λ known. known.sp; formed = λ known form. form.sp }

  -- one of the registers that are bytes with a relation
  abbrev pub byte_part : (register : Known → Byte)
      → ((known : Known) → IsKnown framed known → IsNormalByte (register known)) → Part (IsKnown framed) IsNormalByte
  byte_part register formed = record { of = register; formed = formed }

  abbrev pub bits_part : Part (IsKnown framed) (AreEach {A = Tri} 6 IsAny)
  bits_part = record { of = λ known. known.psw.bits; formed = λ known form. record { count = form.bits; each = λ k d lt. tt } }

  abbrev pub relation_part : Part {A = Option Entry} (IsKnown framed) IsAny
  relation_part = record { of = λ known. known.psw.entry; formed = λ known form. tt }

  abbrev pub levels_part : Part {A = Levels} (IsKnown framed) IsAny
  levels_part = record { of = λ known. known.levels; formed = λ known form. tt }

  abbrev pub linear_part : Part {A = Option LinearFact} (IsKnown framed) IsAny
  linear_part = record { of = λ known. known.linear_fact; formed = λ known form. tt }

  abbrev pub carry_part : Part {A = Option CarryFact} (IsKnown framed) IsAny
  carry_part = record { of = λ known. known.carry_fact; formed = λ known form. tt }

  abbrev pub cells_part : Part (IsKnown framed) (AreCells 0 255 0)
  cells_part = record { of = λ known. known.cells.cells; formed = λ known form. form.cells }

  abbrev pub touched_part : Part (IsKnown framed) (AreTouched 0 255 framed)
  touched_part = record { of = λ known. known.touched; formed = λ known form. record { are = form.touched; none = form.none_touched } }

-- WHAT IS MADE OF TWO

common_own : (framed : Bool) (place unheld : ℕ) (a b : Option Entry) → IsOwnRelation framed place unheld a
    → IsOwnRelation framed place unheld (common_entry a b)
common_own framed place unheld a b own = common_entry_keeps (IsOwnRelation framed place unheld) a b (no_own_relation framed place unheld) own

module _ (laws : KnownLaws) (sets : Form → Form → Form) (cells : List Cell → List Cell → List Cell) (unions : AreUnions 256 0 255 sets cells) where
  pub byte_ordered : IsOrdered IsNormalByte byte_within (byte_united sets) (byte_of any_byte)
  byte_ordered =
      let set_part : Part IsNormalByte (IsNormal 256) = record { of = λ byte. byte.set; formed = λ byte normal. normal } in
      let entry_part : Part {A = Option Entry} IsNormalByte IsAny = record { of = λ byte. byte.entry; formed = λ byte normal. tt } in
      let form : (a b : Byte) → IsNormalByte a → IsNormalByte b → IsNormalByte (byte_united sets a b) = λ a b f g. unions.sets.form a.set b.set f g in
      both_ordered (part_ordered set_part form (λ a b. refl) unions.sets) (part_ordered entry_part form (λ a b. refl) (relation_ordered laws.values))

  module _ (framed : Bool) where
    byte_united_form : (held new : Byte) → IsByte framed held → IsByte framed new → IsByte framed (byte_united sets held new)
    byte_united_form held new f g = record {
      normal = unions.sets.form held.set new.set f.normal g.normal;
      entry = common_entry_keeps (IsRelation framed) held.entry new.entry (no_relation framed) f.entry;
    }

    own_united_form : (place unheld : ℕ) (held new : Byte) → IsOwnByte framed place unheld held → IsOwnByte framed place unheld new
        → IsOwnByte framed place unheld (byte_united sets held new)
    own_united_form place unheld held new f g = record {
      normal = unions.sets.form held.set new.set f.normal g.normal;
      entry = common_own framed place unheld held.entry new.entry f.entry;
    }

    pub united_form : (held new : Known) → IsKnown framed held → IsKnown framed new → IsKnown framed (known_united sets cells held new)
    united_form held new f g =
        let bits = (each_ordered 6 bit_ordered).form held.psw.bits new.psw.bits ((bits_part framed).formed held f) ((bits_part framed).formed new g) in
        let touched = (touched_ordered laws 0 255 framed).form held.touched new.touched ((touched_part framed).formed held f) ((touched_part framed).formed new g) in
        record {
          sp = unions.sets.form held.sp new.sp f.sp g.sp;
          a = byte_united_form held.a new.a f.a g.a;
          b = byte_united_form held.b new.b f.b g.b;
          dpl = byte_united_form held.dpl new.dpl f.dpl g.dpl;
          dph = byte_united_form held.dph new.dph f.dph g.dph;
          ie = own_united_form ie_place 64 held.ie new.ie f.ie g.ie;
          ip = own_united_form ip_place 192 held.ip new.ip f.ip g.ip;
          bits = bits.count;
          psw = common_own framed psw_place 3 held.psw.entry new.psw.entry f.psw;
          levels = join_levels held.levels new.levels f.levels;
          linear_fact = common_fact_keeps is_same_linear IsLinear held.linear_fact new.linear_fact tt f.linear_fact;
          carry_fact = common_fact_keeps is_same_carry IsCarry held.carry_fact new.carry_fact tt f.carry_fact;
          from = f.from;
          up_to = f.up_to;
          cells = unions.cells.form held.cells.cells new.cells.cells f.cells g.cells;
          each_cell = all_of (IsChipCell framed) (cells held.cells.cells new.cells.cells)
              (unions.each_cell (IsChipCell framed) (chip_cell_stays framed) held.cells.cells new.cells.cells (each_of (IsChipCell framed) held.cells.cells f.each_cell));
          touched = touched.are;
          none_touched = touched.none;
        }
