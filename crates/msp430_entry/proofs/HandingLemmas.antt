-- What the handler is handed holds of the state that is suspended, over that state itself.
use Prim.Native.Nat.{zero, suc}
use Rattle.std.proofs.Common.{◌≡◌, ℕ, ◌+◌, ◌-◌, ◌<◌, Bool, true, Option, Some, List, [], ◌∷◌, length, get_or, refl, sym, ap, ◌∙◌, subst, arith, All, Contains}
use Rattle.std.specs.Prelude.{◌==◌, ◌&&◌, ◌||◌, nat_lt, bit_and, bit_or}
use Rattle.std.specs.Option.{option_map}
use Rattle.std.specs.Int.Bits.{or_zero_r}
use Rattle.std.proofs.lemmas.Bool.{and_from, or_right, lt-ltb}
use Rattle.std.proofs.lemmas.List.Elements.{All-get_or, All-from_get_or}
use Rattle.std.proofs.lemmas.Nat.{and_mask}
use Rattle.entry_value.specs.declared.cells.Cell.{Cell}
use Rattle.entry_value.specs.declared.word.Word.{Word}
use Rattle.entry_value.specs.Cells.{kept, unknown}
use Rattle.entry_value.specs.Words.{HoldsOfWord, IsFromEntry}
use Rattle.msp430_chip.specs.declared.device.Device.{Device}
use Rattle.msp430_chip.specs.declared.state.ChipState.{ChipState}
use Rattle.msp430_chip.specs.State.{register_of}
use Rattle.msp430_state.specs.Forms.{is_place, IsChipCell, IsKnown, IsWord}
use Rattle.msp430_state.specs.Holding.{suspended_of, ram_byte, HoldsOfParts}
use Rattle.msp430_state.specs.Known.{Known, word_of}
use Rattle.msp430_alu.specs.Formats.{IsUnder}
use Rattle.irq_frames.specs.Unrelated.{plain_cell, unrelated}
use Rattle.msp430_entry.specs.Entry.{all_related, handed, itself}
use Rattle.msp430_alu.specs.Laws.{MemoryLaws}

-- RELATIONS TO ITSELF

-- a place's own number came from it, where the other bits that it doesn't hold may be any
pub from_itself : (s : ChipState) (place v : ℕ) → v ≡ register_of s place → v < 65536
    → IsFromEntry (Some (suspended_of s)) (Some (itself place)) v
from_itself s place v is small =
    let masked : bit_and v 65535 ≡ v = and_mask v 16 ∙ omega (arith, small) in
    let whole : bit_or (bit_and v 65535) 0 ≡ v = or_zero_r (bit_and v 65535) ∙ masked in
    (v, (small, ap (λ n. bit_and n ((suspended_of s).held place)) is), sym whole)

related_at : (from : ℕ) (words : List Word) (i : ℕ) (d e : Word) → i < length words
    → get_or (all_related from words) i d ≡ record { set = (get_or words i e).set; entry = Some (itself (from + i)) }
related_at from [] i d e inside = absurd (omega (arith, inside))
related_at from (word ∷ words) zero d e inside = let same : from ≡ from + 0 = omega arith in ap (λ n. record { set = word.set; entry = Some (itself n) }) same
related_at from (word ∷ words) (suc i) d e inside =
    let same : suc from + i ≡ from + suc i = omega arith in
    let rest : i < length words = omega (arith, inside) in
    related_at (suc from) words i d e rest ∙ ap (λ n. record { set = (get_or words i e).set; entry = Some (itself n) }) same

related_count : (from : ℕ) (words : List Word) → length (all_related from words) ≡ length words
related_count from [] = refl
related_count from (word ∷ words) = ap suc (related_count (suc from) words)

pub handed_word : (a : Known) (register : ℕ) → length a.registers ≡ 12 → 3 < register → register < 16
    → word_of (handed a) register ≡ record { set = (word_of a register).set; entry = Some (itself register) }
handed_word a register count low high =
    let inside : register - 4 < length a.registers = omega (arith, count, low, high) in
    let same : 4 + (register - 4) ≡ register = omega (arith, low) in
    related_at 4 a.registers (register - 4) (unknown 2) (unknown 2) inside
    ∙ ap (λ n. record { set = (get_or a.registers (register - 4) (unknown 2)).set; entry = Some (itself n) }) same

-- PARTS

pub handed_parts : (laws : MemoryLaws) (device : Device) (framed : Bool) (a : Known) (s : ChipState) (first : Option ChipState)
    → IsUnder device framed a s first
    → HoldsOfParts device (handed a) (Some s) s.registers s.ram
handed_parts laws device framed a s first under =
    let parts = under.holds.parts in
    let state = under.holds.state in
    let small : (register : ℕ) → register < 16 → register_of s register < 65536 =
    λ register inside. All-get_or (λ r. r < 65536) s.registers register 0 (omega (arith, inside, state.registers)) state.words in
    record {
      sp = parts.sp;
      status = record { bits = parts.status.bits; entry = from_itself s 2 (register_of s 2) refl (small 2 (omega arith)) };
      words = λ register low high. subst (λ word. HoldsOfWord (Some (suspended_of s)) word (register_of s register)) (sym (handed_word a register under.form.count low high))
          ((parts.words register low high).0, from_itself s register (register_of s register) refl (small register high));
      fact = tt;
      cells = laws.known.frames.plain_stands (option_map suspended_of first) (Some (suspended_of s)) (ram_byte device s.ram) a.cells.cells parts.cells;
      untouched = λ at none. refl;
    }

-- FORM

each_kept : (laws : MemoryLaws) (framed : Bool) (cells : List Cell)
    → ((c : Cell) → Contains cells c → IsChipCell framed c) → (c : Cell) → Contains (kept unrelated cells) c
    → IsChipCell true c
each_kept laws framed cells forms c there =
    let (held, among, is) = laws.known.frames.plain_each cells c there in
    let form = forms held among in
    let one : IsChipCell true (plain_cell held) = record { even = form.even; byte = λ e. refl; entry = tt } in
    subst (IsChipCell true) is one

general_place : (i : ℕ) → i < 12 → is_place (4 + i) ≡ true
general_place i low = or_right ((4 + i == 0) || (4 + i == 2)) (nat_lt 3 (4 + i) && nat_lt (4 + i) 16)
    (and_from (nat_lt 3 (4 + i)) (nat_lt (4 + i) 16) (lt-ltb 3 (4 + i) (omega arith)) (lt-ltb (4 + i) 16 (omega (arith, low))))

related_word : (words : List Word) (framed : Bool) → length words ≡ 12 → All (IsWord framed) words → All (IsWord true) (all_related 4 words)
related_word words framed count all =
    All-from_get_or (IsWord true) (all_related 4 words) (unknown 2) (λ i inside.
    let place : i < length words = subst (λ n. i < n) (related_count 4 words) inside in
    let form = All-get_or (IsWord framed) words i (unknown 2) place all in
    let named : is_place (4 + i) ≡ true = general_place i (omega (arith, place, count)) in
    let one : IsWord true (record { set = (get_or words i (unknown 2)).set; entry = Some (itself (4 + i)) }) = record { normal = form.normal; entry = (named, omega arith, omega arith) } in
    subst (IsWord true) (sym (related_at 4 words i (unknown 2) (unknown 2) place)) one)

pub handed_form : (laws : MemoryLaws) (lo hi : ℕ) (framed : Bool) (a : Known) → IsKnown lo hi framed a → IsKnown lo hi true (handed a)
handed_form laws lo hi framed a form = record {
  sp = form.sp;
  bits = form.bits;
  status = (refl, omega arith, refl, omega arith);
  count = related_count 4 a.registers ∙ form.count;
  registers = related_word a.registers framed form.count form.registers;
  fact = tt;
  from = form.from;
  up_to = form.up_to;
  cells = laws.known.frames.plain_form lo hi lo a.cells.cells form.cells;
  each_cell = each_kept laws framed a.cells.cells form.each_cell;
  touched = tt;
  none_touched = λ e. refl;
}
