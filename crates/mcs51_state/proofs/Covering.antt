-- A state that stands under what is known stands under all that this is within, each reset state under the first, and each
-- state under the greatest.
use Rattle.std.proofs.Common.{◌≡◌, ℕ, zero, suc, ◌+◌, ◌*◌, ◌<◌, Bool, true, false, Option, None, Some, List, [], ◌∷◌, length, get_or, refl, sym, ◌∙◌, ap, subst, inl, inr, arith, All, Contains}
use Rattle.std.specs.Option.{option_map}
use Rattle.std.specs.Prelude.{nat_le}
use Rattle.std.proofs.lemmas.Bool.{and_parts, cases_lt, le-leb}
use Rattle.std.proofs.Math.ListN.{get_or-eq_default}
use Rattle.std.proofs.lemmas.List.Elements.{All-get_or}
use Rattle.call_context.specs.declared.node.Frame.TheVariants.{Base}
use Rattle.call_context.specs.declared.node.Node.{Node}
use Rattle.call_context.specs.declared.node.Node.TheVariants.{At, Exit}
use Rattle.entry_value.specs.Cells.{are_within}
use Rattle.entry_value.specs.Words.{byte_within, is_entry_within}
use Rattle.irq_frames.specs.Ranges.{has_address, ranges_within}
use Rattle.known_parts.specs.Bits.{agrees_more, is_bit_within}
use Rattle.known_parts.specs.Options.{fact_more, is_fact_within}
use Rattle.plain_lemmas.specs.Orders.{seven_true}
use Rattle.irq_frames.specs.Touched.{untouched_more}
use Rattle.value_bits.specs.Pointwise.{each_passes}
use Rattle.value_set.specs.Joining.{is_within}
use Rattle.value_set.specs.Form.{Has, gather}
use Rattle.value_set.specs.Summing.{single}
use Rattle.mcs51_chip.specs.declared.state.ChipState.{ChipState}
use Rattle.mcs51_chip.specs.State.{IsChipState, IsReset, reset_with}
use Rattle.irq_frames.specs.KnownLaws.{KnownLaws}
use Rattle.mcs51_state.specs.Facts.{is_same_linear, is_same_carry}
use Rattle.mcs51_state.specs.Holding.{HoldsOfLinear, HoldsOfCarry, IsSuspendedState, KeepsUntouched, HoldsOfParts, HoldsOf, Covers}
use Rattle.mcs51_state.specs.Known.{Known, all_touched, first_known, known_within, registers_within, top_known}
use Rattle.mcs51_state.specs.Levels.{all_levels, levels_within, may_serve}
use Rattle.mcs51_state.specs.Places.{suspended_of}
use Rattle.mcs51_state.specs.Status.{status_within}
use Rattle.mcs51_state.proofs.FactLemmas.{linear_equality, carry_equality}
use Rattle.mcs51_state.proofs.LevelLemmas.{serve_more}
use Rattle.mcs51_state.proofs.StateForms.{ie_bytes, ip_bytes}

-- ONE WITHIN ANOTHER

record IsPartwise (new held : Known) : Type 0 where
  sp : is_within 256 new.sp held.sp ≡ true
  a : byte_within new.a held.a ≡ true
  b : byte_within new.b held.b ≡ true
  dpl : byte_within new.dpl held.dpl ≡ true
  dph : byte_within new.dph held.dph ≡ true
  ie : byte_within new.ie held.ie ≡ true
  ip : byte_within new.ip held.ip ≡ true
  bits : each_passes is_bit_within new.psw.bits held.psw.bits ≡ true
  relation : is_entry_within new.psw.entry held.psw.entry ≡ true
  levels : levels_within new.levels held.levels ≡ true
  linear_fact : is_fact_within is_same_linear new.linear_fact held.linear_fact ≡ true
  carry_fact : is_fact_within is_same_carry new.carry_fact held.carry_fact ≡ true
  cells : are_within new.cells.cells held.cells.cells ≡ true
  touched : ranges_within new.touched held.touched ≡ true

partwise : (new held : Known) → known_within new held ≡ true → IsPartwise new held
unfolding known_within registers_within
partwise new held within =
    let parts = seven_true (registers_within new held) (status_within new.psw held.psw) (levels_within new.levels held.levels)
    (is_fact_within is_same_linear new.linear_fact held.linear_fact) (is_fact_within is_same_carry new.carry_fact held.carry_fact)
    (are_within new.cells.cells held.cells.cells) (ranges_within new.touched held.touched) within in
    let registers = seven_true (is_within 256 new.sp held.sp) (byte_within new.a held.a) (byte_within new.b held.b) (byte_within new.dpl held.dpl)
    (byte_within new.dph held.dph) (byte_within new.ie held.ie) (byte_within new.ip held.ip) parts.0 in
    let psw = and_parts (each_passes is_bit_within new.psw.bits held.psw.bits) (is_entry_within new.psw.entry held.psw.entry) parts.1 in
    assumption (parts, registers, psw)

keeps_more : KnownLaws → (a b : List (ℕ × ℕ)) (s : ChipState) (first : Option ChipState) → ranges_within a b ≡ true
    → KeepsUntouched a s first → KeepsUntouched b s first
keeps_more laws a b s None within keeps = tt
keeps_more laws a b s (Some f) within keeps = λ at none. keeps at (untouched_more laws a b at within none)

pub parts_more : (laws : KnownLaws) (new held : Known) (s : ChipState) (first : Option ChipState)
    → known_within new held ≡ true → HoldsOfParts new s first → HoldsOfParts held s first
parts_more laws new held s first within holds =
    let parts = partwise new held within in
    let under = option_map suspended_of first in
    record {
      sp = (laws.sets.tested 256 new.sp held.sp).0 parts.sp s.sp holds.sp;
      a = laws.values.bytes.sized.holds under s.a new.a held.a parts.a holds.a;
      b = laws.values.bytes.sized.holds under s.b new.b held.b parts.b holds.b;
      dpl = laws.values.bytes.sized.holds under s.dpl new.dpl held.dpl parts.dpl holds.dpl;
      dph = laws.values.bytes.sized.holds under s.dph new.dph held.dph parts.dph holds.dph;
      ie = λ x may. laws.values.bytes.sized.holds under x new.ie held.ie parts.ie (holds.ie x may);
      ip = λ x may. laws.values.bytes.sized.holds under x new.ip held.ip parts.ip (holds.ip x may);
      psw = record {
        bits = agrees_more new.psw.bits held.psw.bits _ parts.bits holds.psw.bits;
        entry = laws.values.entries.holds under s.psw new.psw.entry held.psw.entry parts.relation holds.psw.entry;
      };
      levels = serve_more new.levels held.levels s.serves_low s.serves_high parts.levels holds.levels;
      linear_fact = fact_more is_same_linear linear_equality (λ fact. HoldsOfLinear fact s) new.linear_fact held.linear_fact parts.linear_fact tt holds.linear_fact;
      carry_fact = fact_more is_same_carry carry_equality (λ fact. HoldsOfCarry fact s) new.carry_fact held.carry_fact parts.carry_fact tt holds.carry_fact;
      cells = laws.cells.holds under (λ at. get_or s.ram at 0) new.cells.cells held.cells.cells parts.cells holds.cells;
      untouched = keeps_more laws new.touched held.touched s first parts.touched holds.untouched;
    }

pub holds_more : (laws : KnownLaws) (new held : Known) (s : ChipState) (first : Option ChipState)
    → known_within new held ≡ true → HoldsOf new s first → HoldsOf held s first
holds_more laws new held s first within holds = record {
  state = holds.state;
  suspended = holds.suspended;
  parts = parts_more laws new held s first within holds.parts;
}

pub covers_more : (laws : KnownLaws) (node : Node) (new held : Known) (s : ChipState) (first : Option ChipState)
    → known_within new held ≡ true → Covers node new s first → Covers node held s first
covers_more laws (At pc calls frame) new held s first within covers = (covers.0, holds_more laws new held s first within covers.1, covers.2)
covers_more laws (Exit pc frame) new held s first within covers = (covers.0, holds_more laws new held s first within covers.1, covers.2)

-- THE START

pub ram_bytes : (ram : List ℕ) → length ram ≡ 256 → All (λ b. b < 256) ram → (at : ℕ) → get_or ram at 0 < 256
ram_bytes ram long bytes at = elim (cases_lt at (length ram)) [
  | inl inside ↦ All-get_or (λ b. b < 256) ram at 0 inside bytes
  | inr beyond ↦ subst (λ b. b < 256) (sym (get_or-eq_default ram 0 beyond)) (omega arith)
]

has_zero : KnownLaws → Has 256 (single 0) 0
has_zero laws = (laws.sets.single 256 0 (omega arith)).1

-- IE is 0 but for its bit 6, and IP is 0 but for its bits 7 and 6
ie_read : (bit : ℕ) → bit < 2 → Contains (0 ∷ 64 ∷ []) (0 + 64 * bit)
ie_read zero small = (0, omega arith, refl)
ie_read (suc zero) small = (1, omega arith, refl)
ie_read (suc (suc n)) small = absurd (omega (arith, small))

ip_read : (bits : ℕ) → bits < 4 → Contains (0 ∷ 64 ∷ 128 ∷ 192 ∷ []) (0 + 64 * bits)
ip_read zero small = (0, omega arith, refl)
ip_read (suc zero) small = (1, omega arith, refl)
ip_read (suc (suc zero)) small = (2, omega arith, refl)
ip_read (suc (suc (suc zero))) small = (3, omega arith, refl)
ip_read (suc (suc (suc (suc n)))) small = absurd (omega (arith, small))

reset_parts : (laws : KnownLaws) (ram : List ℕ) → length ram ≡ 256 → All (λ b. b < 256) ram → HoldsOfParts first_known (reset_with ram) None
reset_parts laws ram long bytes = record {
  sp = (laws.sets.single 256 7 (omega arith)).1;
  a = (has_zero laws, tt);
  b = (has_zero laws, tt);
  dpl = (has_zero laws, tt);
  dph = (has_zero laws, tt);
  ie = λ x may. (subst (Has 256 (gather 256 (0 ∷ 64 ∷ []))) (sym may.2) (laws.sets.gather_holds 256 (0 + 64 * may.0) (0 ∷ 64 ∷ []) ie_bytes (ie_read may.0 may.1)), tt);
  ip = λ x may. (
    subst (Has 256 (gather 256 (0 ∷ 64 ∷ 128 ∷ 192 ∷ []))) (sym may.2)
        (laws.sets.gather_holds 256 (0 + 64 * may.0) (0 ∷ 64 ∷ 128 ∷ 192 ∷ []) ip_bytes (ip_read may.0 may.1)),
    tt,
  );
  psw = record { bits = laws.bits.bits_zero 6; entry = tt };
  levels = refl;
  linear_fact = tt;
  carry_fact = tt;
  cells = laws.cells.none None (λ at. get_or ram at 0) (ram_bytes ram long bytes);
  untouched = tt;
}

pub reset_covered : (laws : KnownLaws) (s : ChipState) → IsReset s → Covers (At 0 [] Base) first_known s None
reset_covered laws s reset =
    let holds : HoldsOf first_known s None = record {
      state = reset.state;
      suspended = tt;
      parts = subst (λ t. HoldsOfParts first_known t None) (sym reset.registers) (reset_parts laws s.ram reset.state.ram reset.state.bytes);
    } in
    (ap (λ t. t.pc) reset.registers, holds, refl)

-- THE GREATEST

any_serves : (low high : Bool) → may_serve all_levels low high ≡ true
any_serves false false = refl
any_serves true false = refl
any_serves false true = refl
any_serves true true = refl

-- outside of RAM nothing is held
beyond_ram : (s f : ChipState) → length s.ram ≡ 256 → length f.ram ≡ 256 → (at : ℕ)
    → has_address ((0, 255) ∷ []) at ≡ false → get_or s.ram at 0 ≡ get_or f.ram at 0
beyond_ram s f long long_too at outside = elim (cases_lt 255 at) [
  | inl beyond ↦ get_or-eq_default s.ram 0 (omega (arith, long)) ∙ sym (get_or-eq_default f.ram 0 (omega (arith, long_too)))
  | inr inside ↦
      let reaches : nat_le at 255 ≡ true = le-leb at 255 inside in
      let from : nat_le 0 at ≡ true = le-leb 0 at (omega arith) in
      let there : has_address ((0, 255) ∷ []) at ≡ true = rw (from, reaches) refl in absurd (cc)
]

all_untouched : (framed : Bool) (s : ChipState) (first : Option ChipState) → IsChipState s → IsSuspendedState first
    → (framed ≡ false → first ≡ None) → KeepsUntouched (all_touched framed) s first
all_untouched framed s None state suspended base = tt
all_untouched true s (Some f) state suspended base = λ at outside. beyond_ram s f state.ram suspended.ram at outside
all_untouched false s (Some f) state suspended base = let none : Some f ≡ None = base refl in absurd (cc)

top_parts : (laws : KnownLaws) (framed : Bool) (s : ChipState) (first : Option ChipState) → IsChipState s
    → IsSuspendedState first → (framed ≡ false → first ≡ None) → HoldsOfParts (top_known framed) s first
top_parts laws framed s first state suspended base = record {
  sp = laws.sets.whole 256 s.sp state.sp;
  a = (laws.sets.whole 256 s.a state.a, tt);
  b = (laws.sets.whole 256 s.b state.b, tt);
  dpl = (laws.sets.whole 256 s.dpl state.dpl, tt);
  dph = (laws.sets.whole 256 s.dph state.dph, tt);
  ie = λ x may. (laws.sets.whole 256 x (omega (arith, state.ie, state.ie_held, may.1, may.2)), tt);
  ip = λ x may. (laws.sets.whole 256 x (omega (arith, state.ip, may.1, may.2)), tt);
  psw = record { bits = laws.bits.bits_any 6 _ (omega (arith, state.psw)); entry = tt };
  levels = any_serves s.serves_low s.serves_high;
  linear_fact = tt;
  carry_fact = tt;
  cells = laws.cells.none (option_map suspended_of first) (λ at. get_or s.ram at 0) (ram_bytes s.ram state.ram state.bytes);
  untouched = all_untouched framed s first state suspended base;
}

pub top_holds : (laws : KnownLaws) (framed : Bool) (s : ChipState) (first : Option ChipState) → IsChipState s
    → IsSuspendedState first → (framed ≡ false → first ≡ None) → HoldsOf (top_known framed) s first
top_holds laws framed s first state suspended base = record { state = state; suspended = suspended; parts = top_parts laws framed s first state suspended base }
