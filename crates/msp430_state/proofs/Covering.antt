-- A state that stands under what is known stands under all that this is within, and each reset state under the first.
use Rattle.std.proofs.Common.{◌≡◌, ℕ, ◌-◌, ◌<◌, ◌≤◌, Bool, true, Option, None, Some, List, [], length, get_or, refl, sym, subst, arith, All}
use Rattle.std.specs.Prelude.{nat_le}
use Rattle.std.specs.Option.{option_map}
use Rattle.std.proofs.lemmas.Bool.{and_parts, cond_both, leb-true}
use Rattle.std.proofs.lemmas.List.{get_or-replicate}
use Rattle.std.proofs.lemmas.List.Elements.{All-get_or}
use Rattle.call_context.specs.declared.node.Frame.TheVariants.{Base}
use Rattle.call_context.specs.declared.node.Node.{Node}
use Rattle.call_context.specs.declared.node.Node.TheVariants.{At, Exit}
use Rattle.entry_value.specs.Cells.{unknown}
use Rattle.entry_value.specs.Words.{HoldsOfWord, word_within}
use Rattle.value_bits.specs.declared.tri.Tri.TheVariants.{Zero}
use Rattle.msp430_chip.specs.declared.device.Device.{Device}
use Rattle.msp430_chip.specs.declared.state.ChipState.{ChipState}
use Rattle.msp430_chip.specs.Memory.{is_ram}
use Rattle.msp430_chip.specs.State.{register_of, reset_address, ram_size, IsResetOf}
use Rattle.irq_frames.specs.KnownLaws.{KnownLaws}
use Rattle.known_parts.specs.Bits.{agrees_more, flag_more, is_bit_within}
use Rattle.known_parts.specs.Options.{fact_more}
use Rattle.plain_lemmas.specs.Orders.{seven_true}
use Rattle.known_parts.specs.Pointwise.{passes_at}
use Rattle.irq_frames.specs.Touched.{untouched_more}
use Rattle.value_bits.specs.Pointwise.{each_passes}
use Rattle.value_set.specs.Joining.{is_within}
use Rattle.entry_value.specs.Words.{is_entry_within}
use Rattle.entry_value.specs.Cells.{are_within}
use Rattle.msp430_state.specs.Facts.{is_fact_within, is_same_fact}
use Rattle.msp430_state.specs.Forms.{IsKnown}
use Rattle.msp430_state.specs.Holding.{suspended_of, ram_byte, HoldsOfStatus, HoldsOfFact, KeepsUntouched, HoldsOfParts, HoldsOf, Covers}
use Rattle.msp430_state.specs.Known.{Known, word_of, first_known, known_within}
use Rattle.irq_frames.specs.Ranges.{ranges_within}
use Rattle.msp430_state.specs.Status.{status_of, status_within}
use Rattle.msp430_state.proofs.EvenWords.{even_words_have}
use Rattle.msp430_state.proofs.FactLemmas.{fact_equality}

-- ONE WITHIN ANOTHER

record IsPartwise (new held : Known) : Type 0 where
  sp : is_within 65536 new.sp held.sp ≡ true
  bits : each_passes is_bit_within new.status.bits held.status.bits ≡ true
  relation : is_entry_within new.status.entry held.status.entry ≡ true
  late : is_bit_within new.late held.late ≡ true
  words : each_passes word_within new.registers held.registers ≡ true
  fact : is_fact_within new.fact held.fact ≡ true
  cells : are_within new.cells.cells held.cells.cells ≡ true
  touched : ranges_within new.touched held.touched ≡ true

partwise : (new held : Known) → known_within new held ≡ true → IsPartwise new held
unfolding known_within
partwise new held within =
    let parts = seven_true (is_within 65536 new.sp held.sp) (status_within new.status held.status) (is_bit_within new.late held.late)
    (each_passes word_within new.registers held.registers) (is_fact_within new.fact held.fact) (are_within new.cells.cells held.cells.cells)
    (ranges_within new.touched held.touched) within in
    let status = and_parts (each_passes is_bit_within new.status.bits held.status.bits) (is_entry_within new.status.entry held.status.entry) parts.1 in
    assumption (parts, status)

keeps_more : KnownLaws → (device : Device) (a b : List (ℕ × ℕ)) (ram : List ℕ) (first : Option ChipState)
    → ranges_within a b ≡ true → KeepsUntouched device a ram first → KeepsUntouched device b ram first
keeps_more laws device a b ram None within keeps = tt
keeps_more laws device a b ram (Some f) within keeps = λ at none. keeps at (untouched_more laws a b at within none)

pub parts_more : (laws : KnownLaws) (device : Device) (lo hi : ℕ) (framed : Bool) (a b : Known) (first : Option ChipState) (registers ram : List ℕ)
    → IsKnown lo hi framed a → known_within a b ≡ true
    → HoldsOfParts device a first registers ram → HoldsOfParts device b first registers ram
parts_more laws device lo hi framed a b first registers ram form within holds =
    let parts = partwise a b within in
    let under = option_map suspended_of first in
    record {
      sp = (laws.sets.tested 65536 a.sp b.sp).0 parts.sp (get_or registers 1 0) holds.sp;
      status = record {
        bits = agrees_more a.status.bits b.status.bits (get_or registers 2 0) parts.bits holds.status.bits;
        entry = laws.values.entries.holds under (get_or registers 2 0) a.status.entry b.status.entry parts.relation holds.status.entry;
      };
      words = λ register low high.
          let inside : register - 4 < length a.registers = omega (arith, form.count) in
          laws.values.words.holds under (get_or registers register 0) (word_of a register) (word_of b register)
          (passes_at word_within a.registers b.registers (register - 4) (unknown 2) inside parts.words) (holds.words register low high);
      fact = fact_more is_same_fact fact_equality (λ fact. HoldsOfFact fact registers) a.fact b.fact parts.fact tt holds.fact;
      cells = laws.cells.holds under (ram_byte device ram) a.cells.cells b.cells.cells parts.cells holds.cells;
      untouched = keeps_more laws device a.touched b.touched ram first parts.touched holds.untouched;
    }

pub holds_more : (laws : KnownLaws) (device : Device) (lo hi : ℕ) (framed : Bool) (a b : Known) (s : ChipState) (first : Option ChipState)
    → IsKnown lo hi framed a → known_within a b ≡ true
    → HoldsOf device a s first → HoldsOf device b s first
holds_more laws device lo hi framed a b s first form within holds = record {
  state = holds.state;
  suspended = holds.suspended;
  late = flag_more a.late b.late s.late (partwise a b within).late holds.late;
  parts = parts_more laws device lo hi framed a b first s.registers s.ram form within holds.parts;
}

pub covers_more : (laws : KnownLaws) (device : Device) (lo hi : ℕ) (framed : Bool) (node : Node) (a b : Known) (s : ChipState) (first : Option ChipState)
    → IsKnown lo hi framed a → known_within a b ≡ true
    → Covers device node a s first → Covers device node b s first
covers_more laws device lo hi framed (At pc calls frame) a b s first form within covers =
    (covers.0, holds_more laws device lo hi framed a b s first form within covers.1, covers.2)
covers_more laws device lo hi framed (Exit pc frame) a b s first form within covers =
    (covers.0, holds_more laws device lo hi framed a b s first form within covers.1, covers.2)

-- THE START

pub ram_bytes : (device : Device) (ram : List ℕ) → length ram ≡ ram_size device → All (λ b. b < 256) ram → (at : ℕ)
    → ram_byte device ram at < 256
ram_bytes device ram long bytes at =
    cond_both (is_ram device at) (get_or ram (at - device.ram.lo) 0) 0 (λ b. b < 256)
    (λ e. let ends = and_parts (nat_le device.ram.lo at) (nat_le at device.ram.hi) e in
    let low : device.ram.lo ≤ at = leb-true device.ram.lo at ends.0 in
    let high : at ≤ device.ram.hi = leb-true at device.ram.hi ends.1 in
    All-get_or (λ b. b < 256) ram (at - device.ram.lo) 0 (omega (arith, long)) bytes)
    (λ e. omega arith)

pub reset_holds : (laws : KnownLaws) (device : Device) (s : ChipState) → IsResetOf device s
    → HoldsOf device (first_known device.ram.lo device.ram.hi) s None
reset_holds laws device s reset =
    let long = reset.state.registers in
    let one : 1 < length s.registers = omega arith in
    let cleared : HoldsOfStatus None (status_of Zero) 0 = record { bits = laws.bits.bits_zero 9; entry = tt } in
    record {
      state = reset.state;
      suspended = tt;
      late = reset.not_late;
      parts = record {
        sp = even_words_have laws (register_of s 1) (All-get_or (λ r. r < 65536) s.registers 1 0 one reset.state.words) reset.state.even_sp;
        status = subst (HoldsOfStatus None (status_of Zero)) (sym reset.status) cleared;
        words = λ register low high.
            let inside : register < length s.registers = omega arith in
            let place : register - 4 < 12 = omega arith in
            subst (λ word. HoldsOfWord None word (register_of s register)) (sym (get_or-replicate 12 (register - 4) (unknown 2) (unknown 2) place))
            (laws.sets.whole 65536 (register_of s register) (All-get_or (λ r. r < 65536) s.registers register 0 inside reset.state.words), tt);
        fact = tt;
        cells = laws.cells.none None (ram_byte device s.ram) (ram_bytes device s.ram reset.state.ram reset.state.bytes);
        untouched = tt;
      };
    }

pub reset_covered : (laws : KnownLaws) (device : Device) (s : ChipState) → IsResetOf device s
    → Covers device (At (reset_address device) [] Base) (first_known device.ram.lo device.ram.hi) s None
reset_covered laws device s reset = (reset.starts, reset_holds laws device s reset, refl)
