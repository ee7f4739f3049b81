-- What is known keeps its form behind writes.
use Rattle.std.proofs.Common.{◌≡◌, ℕ, ◌-◌, ◌/◌, ◌%◌, ◌<◌, ◌≤◌, ◌==◌, Bool, true, false, Option, None, Some, List, length, drop, set, refl, ap, ◌∙◌, arith, Contains}
use Rattle.std.specs.List.{list_any}
use Rattle.std.specs.Prelude.{nat_le}
use Rattle.std.proofs.lemmas.Bool.{cond_both, eqb-true, leb-false}
use Rattle.std.proofs.lemmas.List.{length-set, length-drop}
use Rattle.std.proofs.lemmas.List.FromFn.{length-map-range_with_len}
use Rattle.std.proofs.lemmas.Nat.{and_le_l, or_lt}
use Rattle.plain_lemmas.specs.AnyOf.{none_passes}
use Rattle.entry_value.specs.declared.byte.Byte.{Byte}
use Rattle.entry_value.specs.declared.word.Entry.{Entry}
use Rattle.value_bits.specs.declared.tri.Logic.TheVariants.{And, Or}
use Rattle.value_bits.specs.declared.tri.Tri.{Tri}
use Rattle.value_bits.specs.Bits.{known_bit, known_bits}
use Rattle.value_bits.specs.Sets.{logic_set}
use Rattle.value_set.specs.declared.form.Form.{Form}
use Rattle.value_set.specs.Form.{IsNormal, gather, members}
use Rattle.value_set.specs.Joining.{is_in}
use Rattle.value_set.specs.Summing.{single}
use Rattle.irq_frames.specs.KnownLaws.{KnownLaws}
use Rattle.mcs51_chip.specs.declared.place.Sfr.{Sfr}
use Rattle.mcs51_chip.specs.declared.place.Sfr.TheVariants.{Sp, Dpl, Dph, Ie, Ip, Psw, Acc, B, Other}
use Rattle.mcs51_chip.specs.Registers.{sfr_at}
use Rattle.mcs51_state.specs.declared.addresses.Addresses.{Addresses}
use Rattle.mcs51_state.specs.declared.addresses.Addresses.TheVariants.{InRam, InSfr}
use Rattle.mcs51_state.specs.declared.fact.Compared.{Compared}
use Rattle.mcs51_state.specs.declared.fact.LinearFact.{LinearFact}
use Rattle.mcs51_state.specs.declared.fact.CarryFact.{CarryFact}
use Rattle.mcs51_state.specs.declared.status.Status.{Status}
use Rattle.mcs51_state.specs.FormFacts.{no_own_relation, byte_form as plain_byte}
use Rattle.mcs51_state.specs.Forms.{IsByte, IsOwnByte, IsOwnRelation, IsRelation, IsLinear, IsCarry, IsKnown}
use Rattle.mcs51_state.specs.Known.{Known, byte_of}
use Rattle.mcs51_state.specs.Places.{ie_place, ip_place, psw_place}
use Rattle.mcs51_state.specs.Standing.{AreAddresses}
use Rattle.mcs51_state.specs.Following.{KeepsForm}
use Rattle.mcs51_state.specs.Stack.{raised, lowered, byte_pushed, pair_pushed, address_pushed, byte_popped}
use Rattle.mcs51_state.specs.ValueFacts.{lowered_normal, raised_normal}
use Rattle.mcs51_state.specs.Writing.{linear_beside, is_compared_in, is_accumulator, carry_unless, word_of_byte, cells_written, ram_written, own_masks, own_entry, own_byte, status_of_byte, status_written, accumulator_written, register_written, byte_written, data_pointer_written, carry_set, flags_set}
use Rattle.mcs51_state.proofs.WrittenBits.{gained, lost, ie_others, ip_others}
use Rattle.mcs51_state.proofs.WrittenCells.{AreByteCells, cells_form, byte_stored}
use Rattle.mcs51_state.proofs.Touching.{touched_form, touched_none}

-- FACTS

pub linear_form : (at : Form) (fact : Option LinearFact) → IsLinear fact → IsLinear (linear_beside at fact)
linear_form at None is = tt
linear_form at (Some fact) is = cond_both (is_in 256 at fact.place) None (Some fact) IsLinear (λ e. tt) (λ e. is)

pub carry_form : (is_written : Compared → Bool) (fact : Option CarryFact) → IsCarry fact → IsCarry (carry_unless is_written fact)
carry_form is_written None is = tt
carry_form is_written (Some fact) is = cond_both (is_written fact.compared) None (Some fact) IsCarry (λ e. tt) (λ e. is)

-- RAM

pub known_cells : (framed : Bool) (known : Known) → IsKnown framed known → AreByteCells framed known.cells
known_cells framed known form = record { from = form.from; up_to = form.up_to; cells = form.cells; each = form.each_cell }

pub stored_cells : (laws : KnownLaws) (framed : Bool) (at : Form) (byte : Byte) → IsByte framed byte → (known : Known)
    → IsKnown framed known
    → AreByteCells framed (cells_written known.cells (members 256 at) (word_of_byte byte))
stored_cells laws framed at byte is known form =
    cells_form laws framed known.cells (members 256 at) (word_of_byte byte) (byte_stored laws framed byte is) (known_cells framed known form)

pub ram_form : (laws : KnownLaws) (framed : Bool) (at : Form) (byte : Byte) → IsNormal 256 at → IsByte framed byte
    → KeepsForm framed (ram_written framed at byte)
unfolding ram_written
ram_form laws framed at byte normal is known form =
    let cells = stored_cells laws framed at byte is known form in
    let linear = linear_form at known.linear_fact form.linear_fact in
    let carry = carry_form (is_compared_in at) known.carry_fact form.carry_fact in
    let touched = touched_form laws framed at known.touched normal form.touched in
    let none = touched_none framed at known.touched form.none_touched in
    assumption (form, cells, linear, carry, touched, none)

-- REGISTERS

masks_own : (framed : Bool) (place unheld : ℕ) (entry : Entry) → unheld < 256 → entry.place ≡ place → IsRelation framed (Some entry)
    → IsOwnRelation framed place unheld (Some (own_masks unheld entry))
masks_own false place unheld entry below same is = absurd is
masks_own true place unheld entry below same is =
    (same, or_lt 8 entry.and unheld is.1 below, gained entry.and unheld, omega (arith, and_le_l entry.or (65535 - unheld), is.2), lost entry.or unheld below)

pub entry_own : (framed : Bool) (place unheld : ℕ) (entry : Option Entry) → unheld < 256 → IsRelation framed entry
    → IsOwnRelation framed place unheld (own_entry place unheld entry)
entry_own framed place unheld None below is = no_own_relation framed place unheld
entry_own framed place unheld (Some entry) below is =
    cond_both (entry.place == place) (Some (own_masks unheld entry)) None (IsOwnRelation framed place unheld)
    (λ e. masks_own framed place unheld entry below (eqb-true entry.place place e) is)
    (λ e. no_own_relation framed place unheld)

pub own_normal : (laws : KnownLaws) (unheld : ℕ) (others : List ℕ) (set_so : Form) → 1 ≤ length others
    → ((v : ℕ) → Contains others v → v < 256) → IsNormal 256 set_so
    → IsNormal 256 (logic_set 8 Or (logic_set 8 And set_so (single (255 - unheld))) (gather 256 others))
own_normal laws unheld others set_so some low normal =
    laws.bits.logic_normal 8 Or (logic_set 8 And set_so (single (255 - unheld))) (gather 256 others)
    (laws.bits.logic_normal 8 And set_so (single (255 - unheld)) normal (laws.sets.single 256 (255 - unheld) (omega arith)).0)
    (laws.sets.gather_normal 256 others some low)

pub own_form : (laws : KnownLaws) (framed : Bool) (place unheld : ℕ) (others : List ℕ) (byte : Byte) → unheld < 256 → 1 ≤ length others
    → ((v : ℕ) → Contains others v → v < 256) → IsByte framed byte → IsOwnByte framed place unheld (own_byte place unheld others byte)
own_form laws framed place unheld others byte below some low is = record {
  normal = own_normal laws unheld others byte.set some low is.normal;
  entry = entry_own framed place unheld byte.entry below is.entry;
}

each_low : (others : List ℕ) → list_any (nat_le 256) others ≡ false → (v : ℕ) → Contains others v → v < 256
each_low others none v h = leb-false 256 v (none_passes (nat_le 256) others none v h)

pub ie_bytes : (v : ℕ) → Contains ie_others v → v < 256
ie_bytes = each_low ie_others refl

pub ip_bytes : (v : ℕ) → Contains ip_others v → v < 256
ip_bytes = each_low ip_others refl

pub status_form : (framed : Bool) (status : Status) → length status.bits ≡ 6
    → IsOwnRelation framed psw_place 3 status.entry → KeepsForm framed (status_written status)
status_form framed status count own known form = let none : IsCarry None = tt in assumption (form, count, own, none)

pub six_bits : (set_so : Form) → length (drop 2 (known_bits 8 set_so)) ≡ 6
six_bits set_so =
    let eight_bits : length (known_bits 8 set_so) ≡ 8 = length-map-range_with_len (λ place. known_bit 8 place set_so) 0 8 in
    length-drop 2 (known_bits 8 set_so) ∙ ap (λ n. n - 2) eight_bits

pub accumulator_form : (framed : Bool) (byte : Byte) → IsByte framed byte → KeepsForm framed (accumulator_written byte)
accumulator_form framed byte is known form =
    let none : IsLinear None = tt in
    let carry = carry_form is_accumulator known.carry_fact form.carry_fact in
    assumption (form, is, none, carry)

pub sp_form : (framed : Bool) (set_so : Form) → IsNormal 256 set_so → KeepsForm framed (λ known. record known { sp = set_so })
sp_form framed set_so normal known form = assumption (form, normal)

pub data_pointer_form : (framed : Bool) (low high : Byte) → IsByte framed low → IsByte framed high
    → KeepsForm framed (data_pointer_written low high)
data_pointer_form framed low high is also known form = assumption (form, is, also)

pub register_form : (laws : KnownLaws) (framed : Bool) (register : Sfr) (byte : Byte) → IsByte framed byte
    → KeepsForm framed (register_written register byte)
unfolding register_written
register_form laws framed Sp byte is known form = sp_form framed byte.set is.normal known form
register_form laws framed Dpl byte is known form = assumption (form, is)
register_form laws framed Dph byte is known form = assumption (form, is)
register_form laws framed Ie byte is known form =
    let own = own_form laws framed ie_place 64 ie_others byte (omega arith) (omega arith) ie_bytes is in
    assumption (form, own)
register_form laws framed Ip byte is known form =
    let own = own_form laws framed ip_place 192 ip_others byte (omega arith) (omega arith) ip_bytes is in
    assumption (form, own)
register_form laws framed Psw byte is known form =
    status_form framed (status_of_byte byte) (six_bits byte.set) (entry_own framed psw_place 3 byte.entry (omega arith) is.entry) known form
register_form laws framed Acc byte is known form = accumulator_form framed byte is known form
register_form laws framed B byte is known form = assumption (form, is)
register_form laws framed Other byte is known form = form

pub byte_form : (laws : KnownLaws) (framed : Bool) (addresses : Addresses) (byte : Byte) → AreAddresses addresses → IsByte framed byte
    → KeepsForm framed (byte_written framed addresses byte)
unfolding byte_written
byte_form laws framed (InRam at) byte are is known form = ram_form laws framed at byte are is known form
byte_form laws framed (InSfr register) byte are is known form = register_form laws framed (sfr_at register) byte is known form

-- FLAGS

pub carry_set_form : (framed : Bool) (carry : Tri) → KeepsForm framed (carry_set carry)
carry_set_form framed carry known form =
    status_form framed (record { bits = set known.psw.bits 5 carry; entry = None }) (length-set known.psw.bits 5 carry ∙ form.bits) (no_own_relation framed psw_place 3) known form

pub three_long : (bits : List Tri) (carry half overflow : Tri) → length bits ≡ 6
    → length (set (set (set bits 0 overflow) 4 half) 5 carry) ≡ 6
three_long bits carry half overflow six =
    let one = set bits 0 overflow in
    let two = set one 4 half in
    length-set two 5 carry ∙ length-set one 4 half ∙ length-set bits 0 overflow ∙ six

pub flags_set_form : (framed : Bool) (carry half overflow : Tri) → KeepsForm framed (flags_set carry half overflow)
flags_set_form framed carry half overflow known form =
    let bits = set (set (set known.psw.bits 0 overflow) 4 half) 5 carry in
    status_form framed (record { bits = bits; entry = None }) (three_long known.psw.bits carry half overflow form.bits) (no_own_relation framed psw_place 3) known form

-- THE STACK

pub push_form : (laws : KnownLaws) (framed : Bool) (byte : Byte) → IsByte framed byte → KeepsForm framed (byte_pushed framed byte)
unfolding byte_pushed
push_form laws framed byte is known form =
    let normal = raised_normal laws known.sp form.sp in
    ram_form laws framed (raised known.sp) byte normal is (record known { sp = raised known.sp }) (sp_form framed (raised known.sp) normal known form)

pub pair_form : (laws : KnownLaws) (framed : Bool) (low high : Byte) → IsByte framed low → IsByte framed high
    → KeepsForm framed (pair_pushed framed low high)
pair_form laws framed low high is also known form = push_form laws framed high also (byte_pushed framed low known) (push_form laws framed low is known form)

pub number_form : (laws : KnownLaws) (framed : Bool) (n : ℕ) → n < 256 → IsByte framed (byte_of (single n))
number_form laws framed n low = plain_byte framed (single n) (laws.sets.single 256 n low).0

pub address_form : (laws : KnownLaws) (framed : Bool) (address : ℕ) → address < 65536 → KeepsForm framed (address_pushed framed address)
address_form laws framed address below =
    pair_form laws framed (byte_of (single (address % 256))) (byte_of (single (address / 256))) (number_form laws framed (address % 256) (omega arith)) (number_form laws framed (address / 256) (omega (arith, below)))

pub pop_form : (laws : KnownLaws) (framed : Bool) → KeepsForm framed byte_popped
pop_form laws framed known form = sp_form framed (lowered known.sp) (lowered_normal laws known.sp form.sp) known form
