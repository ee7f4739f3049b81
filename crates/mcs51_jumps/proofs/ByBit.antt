-- JB, JNB and JBC.
use Rattle.std.proofs.Common.{◌≡◌, ℕ, ◌%◌, ◌<◌, ◌==◌, ◌++◌, Bool, true, false, Option, None, Some, List, [], refl, subst, ap}
use Rattle.std.specs.Prelude.{not}
use Rattle.std.specs.Int.{bit_at}
use Rattle.std.specs.Option.{option_map}
use Rattle.std.proofs.lemmas.Bool.{cond_both}
use Rattle.plain_lemmas.specs.Cases.{mapped}
use Rattle.plain_lemmas.specs.Small.{not_one}
use Rattle.choosing.specs.Gives.{Gives}
use Rattle.mcs51_decode.specs.declared.instr.BitOperation.TheVariants.{Clr}
use Rattle.mcs51_decode.specs.declared.instr.BitTest.{BitTest}
use Rattle.mcs51_decode.specs.declared.instr.BitTest.TheVariants.{SetAndClear, Set, Clear}
use Rattle.mcs51_decode.specs.declared.instr.Instr.TheVariants.{JumpOnBit}
use Rattle.mcs51_decode.specs.Targets.{relative_target}
use Rattle.mcs51_chip.specs.declared.state.ChipState.{ChipState}
use Rattle.mcs51_chip.specs.Leading.{IsOfOne, MayRead}
use Rattle.mcs51_chip.specs.Memory.{bit_address, reads, write, writes}
use Rattle.mcs51_chip.specs.Registers.{bit_of, with_bit}
use Rattle.mcs51_chip.specs.Step.{branched, cleared, effect_of, jumping_on_bit}
use Rattle.mcs51_state.specs.Forms.{IsKnown}
use Rattle.mcs51_state.specs.Known.{Known}
use Rattle.mcs51_state.specs.Under.{IsUnder}
use Rattle.mcs51_state.specs.Operands.{bit_addresses}
use Rattle.mcs51_state.specs.Showing.{AreShown}
use Rattle.mcs51_state.specs.Giving.{of_one}
use Rattle.mcs51_state.specs.Doing.{GoesSo}
use Rattle.mcs51_state.specs.Accesses.{write_at}
use Rattle.mcs51_jumps.specs.Jumps.{AreWays, bit_items, clearing_items, read_of, ways_on_bit, where_bit, where_cleared}
use Rattle.mcs51_jumps.specs.Bits.{bit_changed}
use Rattle.mcs51_jumps.proofs.PartLaws.{PartLaws}
use Rattle.mcs51_jumps.proofs.Branching.{goes, goes_on, jumps}
use Rattle.mcs51_jumps.proofs.Numbers.{bit_place, bit_small, bit_so, clear_bit, place_small, set_bit}

-- WHERE A BIT IS SO

so : (laws : PartLaws) (framed : Bool) (a : Known) (s : ChipState) (first : Option ChipState) (bit x : ℕ) (flag : Bool)
    → IsUnder framed a s first → bit < 256
    → MayRead s (bit_address bit) x
    → bit_at x (bit % 8) ≡ bit_of flag → (way : Known) × (where_bit bit flag a ≡ Some way) × IsUnder framed way s first
so laws framed a s first bit x flag under small may is = laws.branch.bits.way framed a s first (bit_address bit) x (bit % 8) flag under (bit_place bit small) may (place_small bit) is

so_form : (laws : PartLaws) (framed : Bool) (a way : Known) (bit : ℕ) (flag : Bool) → IsKnown framed a → bit < 256
    → where_bit bit flag a ≡ Some way → IsKnown framed way
so_form laws framed a way bit flag form small e = laws.branch.bits.form framed a way (bit_address bit) (bit % 8) flag form (bit_place bit small) (place_small bit) e

read_shown : (laws : PartLaws) (pc bit : ℕ) → bit < 256 → AreShown (read_of pc bit) pc (reads (bit_address bit))
read_shown laws pc bit small = laws.instructions.operands.sums.read pc (bit_addresses bit) (bit_address bit) (laws.instructions.operands.stands.bit bit small).0 (laws.instructions.operands.stands.bit bit small).1

-- JB AND JNB

-- JB is taken where the bit is 1, and JNB where it is 0: the flag is the bit on the way that is taken so
tested_does : (laws : PartLaws) (framed : Bool) (a : Known) (s : ChipState) (first : Option ChipState) (pc bit rel : ℕ) (test : BitTest) (taken : ℕ → Bool) (flag : Bool → Bool)
    → Gives (IsOfOne (MayRead s (bit_address bit)) (λ x. (reads (bit_address bit), branched (taken (bit_at x (bit % 8))) rel s)))
    (jumping_on_bit s test (bit_address bit) (bit % 8) rel)
    → ((v : ℕ) → v < 2 → v ≡ bit_of (flag (taken v))) → IsUnder framed a s first → bit < 256
    → Gives (GoesSo framed first (read_of pc bit) pc (relative_target s.pc rel) (where_bit bit (flag false) a) (where_bit bit (flag true) a) s)
    (jumping_on_bit s test (bit_address bit) (bit % 8) rel)
tested_does laws framed a s first pc bit rel test taken flag leads is under small =
    of_one (GoesSo framed first (read_of pc bit) pc (relative_target s.pc rel) (where_bit bit (flag false) a) (where_bit bit (flag true) a) s)
    (MayRead s (bit_address bit)) (λ x. (reads (bit_address bit), branched (taken (bit_at x (bit % 8))) rel s)) (jumping_on_bit s test (bit_address bit) (bit % 8) rel) leads
    (λ x may. let v = bit_at x (bit % 8) in
    let (way, tested, there) = so laws framed a s first bit x (flag (taken v)) under small may (is v (bit_small x (bit % 8))) in
    record { shown = read_shown laws pc bit small; goes = goes laws framed first (λ t. where_bit bit (flag t) a) (taken v) way rel s s tested refl there })

-- JBC

update_shown : (laws : PartLaws) (pc bit : ℕ) (jumped : Option Known) (way : Known) → bit < 256 → jumped ≡ Some way
    → AreShown (clearing_items pc bit jumped) pc (reads (bit_address bit) ++ writes (bit_address bit))
update_shown laws pc bit None way small e = absurd (cc)
update_shown laws pc bit (Some behind) way small e = laws.instructions.operands.sums.update pc (bit_addresses bit) (bit_address bit) (laws.instructions.operands.stands.bit bit small).0 (laws.instructions.operands.stands.bit bit small).1

test_shown : (laws : PartLaws) (pc bit : ℕ) (jumped : Option Known) → bit < 256
    → AreShown (clearing_items pc bit jumped) pc (reads (bit_address bit))
test_shown laws pc bit None small = read_shown laws pc bit small
test_shown laws pc bit (Some behind) small =
    laws.instructions.operands.sums.both (read_of pc bit) (write_at pc (bit_addresses bit)) pc (reads (bit_address bit)) [] (read_shown laws pc bit small) (laws.instructions.operands.sums.none (write_at pc (bit_addresses bit)) pc)

cleared_so : (laws : PartLaws) (framed : Bool) (a : Known) (s : ChipState) (first : Option ChipState) (pc bit rel x : ℕ)
    → IsUnder framed a s first → bit < 256
    → MayRead s (bit_address bit) x
    → GoesSo framed first (clearing_items pc bit (where_cleared framed bit a)) pc (relative_target s.pc rel) (where_bit bit false a) (where_cleared framed bit a) s (cleared s (bit_address bit) (bit % 8) rel x)
cleared_so laws framed a s first pc bit rel x under small may =
    let v = bit_at x (bit % 8) in
    let address = bit_address bit in
    let lowered = with_bit x (bit % 8) 0 in
    let jumped = where_cleared framed bit a in
    cond_both (v == 1) (reads address ++ writes address, branched true rel (write address lowered s)) (reads address, branched false rel s)
    (GoesSo framed first (clearing_items pc bit jumped) pc (relative_target s.pc rel) (where_bit bit false a) jumped s)
    (λ e. let (way, tested, there) = so laws framed a s first bit x true under small may (bit_so v e) in
    let known : jumped ≡ Some (bit_changed framed Clr bit way) = ap (option_map (bit_changed framed Clr bit)) tested in
    record {
      shown = update_shown laws pc bit jumped (bit_changed framed Clr bit way) small known;
      goes = jumps laws framed first (where_bit bit false a) jumped (bit_changed framed Clr bit way) rel s (write address lowered s) known (laws.instructions.operands.formats.write_keeps address lowered s)
          (laws.bits.changed framed way s first Clr bit x there small may).under;
    })
    (λ e. let (way, tested, there) = so laws framed a s first bit x false under small may (not_one v (bit_small x (bit % 8)) e) in
    record { shown = test_shown laws pc bit jumped small; goes = goes_on laws framed first (where_bit bit false a) jumped way rel s s tested refl there })

clearing_does : (laws : PartLaws) (framed : Bool) (a : Known) (s : ChipState) (first : Option ChipState) (pc bit rel : ℕ)
    → IsUnder framed a s first → bit < 256
    → Gives (GoesSo framed first (clearing_items pc bit (where_cleared framed bit a)) pc (relative_target s.pc rel) (where_bit bit false a) (where_cleared framed bit a) s)
    (jumping_on_bit s SetAndClear (bit_address bit) (bit % 8) rel)
clearing_does laws framed a s first pc bit rel under small =
    of_one (GoesSo framed first (clearing_items pc bit (where_cleared framed bit a)) pc (relative_target s.pc rel) (where_bit bit false a) (where_cleared framed bit a) s)
    (MayRead s (bit_address bit)) (cleared s (bit_address bit) (bit % 8) rel) (jumping_on_bit s SetAndClear (bit_address bit) (bit % 8) rel) (laws.instructions.chip.clearing s (bit_address bit) (bit % 8) rel)
    (λ x may. cleared_so laws framed a s first pc bit rel x under small may)

-- EACH

pub bit_does : (laws : PartLaws) (framed : Bool) (a : Known) (s : ChipState) (first : Option ChipState) (image : List (Option ℕ)) (pc : ℕ) (test : BitTest) (bit rel : ℕ)
    → IsUnder framed a s first → bit < 256
    → Gives (GoesSo framed first (bit_items pc test bit (ways_on_bit framed test bit a).jumped) pc (relative_target s.pc rel) (ways_on_bit framed test bit a).on (ways_on_bit framed test bit a).jumped s)
    (effect_of image s (JumpOnBit test bit rel))
unfolding effect_of ways_on_bit
bit_does laws framed a s first image pc Set bit rel under small =
    tested_does laws framed a s first pc bit rel Set (λ v. v == 1) (λ flag. flag) (laws.instructions.chip.set s (bit_address bit) (bit % 8) rel) set_bit under small
bit_does laws framed a s first image pc Clear bit rel under small =
    tested_does laws framed a s first pc bit rel Clear (λ v. v == 0) not (laws.instructions.chip.clear s (bit_address bit) (bit % 8) rel) clear_bit under small
bit_does laws framed a s first image pc SetAndClear bit rel under small = clearing_does laws framed a s first pc bit rel under small

where_cleared_form : (laws : PartLaws) (framed : Bool) (a way : Known) (bit : ℕ) → IsKnown framed a → bit < 256
    → where_cleared framed bit a ≡ Some way → IsKnown framed way
where_cleared_form laws framed a way bit form small e =
    let (held, tested, same) = mapped (bit_changed framed Clr bit) (where_bit bit true a) way e in
    subst (IsKnown framed) same (laws.bit_forms.change_bit framed held Clr bit (so_form laws framed a held bit true form small tested) small)

pub bit_form : (laws : PartLaws) (framed : Bool) (a : Known) (test : BitTest) (bit : ℕ) → IsKnown framed a → bit < 256
    → AreWays framed (ways_on_bit framed test bit a)
unfolding ways_on_bit
bit_form laws framed a Set bit form small = record {
  on = λ way e. so_form laws framed a way bit false form small e;
  jumped = λ way e. so_form laws framed a way bit true form small e;
}
bit_form laws framed a Clear bit form small = record {
  on = λ way e. so_form laws framed a way bit true form small e;
  jumped = λ way e. so_form laws framed a way bit false form small e;
}
bit_form laws framed a SetAndClear bit form small = record {
  on = λ way e. so_form laws framed a way bit false form small e;
  jumped = λ way e. where_cleared_form laws framed a way bit form small e;
}
