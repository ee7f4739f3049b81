-- What stands under what is known of a state stands under it behind a write.
use Rattle.std.proofs.Common.{◌≡◌, ℕ, ◌+◌, ◌-◌, ◌*◌, ◌/◌, ◌%◌, ◌<◌, ◌≤◌, ◌==◌, Bool, true, false, Option, None, Some, List, [], ◌∷◌, length, drop, set, bit_and, refl, sym, ap, ◌∙◌, subst, arith, Contains, get_or-set_other}
use Rattle.std.specs.Prelude.{nat_lt}
use Rattle.std.specs.Option.{option_map}
use Rattle.std.proofs.lemmas.Bool.{cond_both, both_ways, eqb-true}
use Rattle.std.proofs.lemmas.List.{length-set}
use Rattle.std.proofs.lemmas.List.Elements.{All-set}
use Rattle.entry_value.specs.declared.byte.Byte.{Byte}
use Rattle.entry_value.specs.declared.word.Entry.{Entry}
use Rattle.entry_value.specs.Words.{IsFromEntry, HoldsOfByte}
use Rattle.value_bits.specs.declared.tri.Logic.TheVariants.{And, Or}
use Rattle.value_bits.specs.declared.tri.Tri.{Tri}
use Rattle.value_bits.specs.BitFacts.{bit_below}
use Rattle.value_bits.specs.Bits.{Agrees, IsBit, known_bits}
use Rattle.value_bits.specs.Sets.{logic_set}
use Rattle.value_set.specs.declared.form.Form.{Form}
use Rattle.value_set.specs.Form.{Has, IsNormal, gather, members}
use Rattle.value_set.specs.Joining.{is_in}
use Rattle.value_set.specs.Summing.{single}
use Rattle.irq_frames.specs.KnownLaws.{KnownLaws}
use Rattle.mcs51_chip.specs.declared.place.Address.{Address}
use Rattle.mcs51_chip.specs.declared.place.Address.TheVariants.{InRam as AtRam, InSfr as AtSfr}
use Rattle.mcs51_chip.specs.declared.place.Sfr.{Sfr}
use Rattle.mcs51_chip.specs.declared.place.Sfr.TheVariants.{Sp, Dpl, Dph, Ie, Ip, Psw, Acc, B, Other}
use Rattle.mcs51_chip.specs.declared.state.ChipState.{ChipState}
use Rattle.mcs51_chip.specs.Memory.{write, pushed, popped, with_pushed_address}
use Rattle.mcs51_chip.specs.Registers.{bit_of, sfr_at, write_sfr, with_accumulator, with_carry, with_data_pointer, with_flags}
use Rattle.mcs51_chip.specs.State.{IsChipState}
use Rattle.mcs51_state.specs.declared.addresses.Addresses.{Addresses}
use Rattle.mcs51_state.specs.declared.addresses.Addresses.TheVariants.{InRam, InSfr}
use Rattle.mcs51_state.specs.declared.fact.Compared.{Compared}
use Rattle.mcs51_state.specs.declared.fact.Compared.TheVariants.{Accumulator, Ram}
use Rattle.mcs51_state.specs.declared.fact.LinearFact.{LinearFact}
use Rattle.mcs51_state.specs.declared.fact.CarryFact.{CarryFact}
use Rattle.mcs51_state.specs.declared.status.Status.{Status}
use Rattle.mcs51_state.specs.FormFacts.{no_own_relation}
use Rattle.mcs51_state.specs.Forms.{IsByte, IsOwnRelation}
use Rattle.mcs51_state.specs.Holding.{HoldsOfCarry, HoldsOfLinear, HoldsOfReads, HoldsOfStatus, compared_in}
use Rattle.mcs51_state.specs.Known.{Known, byte_of}
use Rattle.mcs51_state.specs.Places.{held_by, sfr_of, suspended_of, ie_place, ip_place, psw_place}
use Rattle.mcs51_state.specs.Standing.{AreAddresses, MayStandAt}
use Rattle.mcs51_state.specs.Under.{IsUnder}
use Rattle.mcs51_state.specs.FactsStay.{FactsHold, facts_stay, linear_stays}
use Rattle.mcs51_state.specs.Following.{Follows, IsValue}
use Rattle.mcs51_state.specs.Stack.{raised, lowered, byte_pushed, pair_pushed, address_pushed, byte_popped}
use Rattle.mcs51_state.specs.ValueFacts.{lowered_has, lowered_normal, plain_value, raised_has, raised_normal}
use Rattle.mcs51_state.specs.Writing.{linear_beside, is_compared_in, is_accumulator, carry_unless, word_of_byte, ram_written, own_masks, own_entry, own_byte, status_of_byte, status_written, accumulator_written, register_written, byte_written, data_pointer_written, carry_set, flags_set}
use Rattle.mcs51_state.proofs.WrittenBits.{AgreesBeside, IsRead, ie_is, ie_others, ip_is, ip_others, own_came, psw_beside}
use Rattle.mcs51_state.proofs.WrittenCells.{cells_cover, byte_stored}
use Rattle.mcs51_state.proofs.WrittenForms.{accumulator_form, entry_own, ie_bytes, ip_bytes, known_cells, own_form, ram_form, six_bits, status_form, three_long}
use Rattle.mcs51_state.proofs.Touching.{untouched_stay}

value_below : (laws : KnownLaws) (framed : Bool) (first : Option ChipState) (byte : Byte) (x : ℕ) → IsValue framed first byte x → x < 256
value_below laws framed first byte x is = laws.sets.below 256 x byte.set is.form.normal is.holds.0

-- FACTS

linear_ram : (laws : KnownLaws) (at : Form) (fact : Option LinearFact) (s : ChipState) (address x : ℕ)
    → Has 256 at address → HoldsOfLinear fact s
    → HoldsOfLinear (linear_beside at fact) (record s { ram = set s.ram address x })
linear_ram laws at None s address x there holds = tt
linear_ram laws at (Some fact) s address x there holds =
    cond_both (is_in 256 at fact.place) None (Some fact) (λ left. HoldsOfLinear left (record s { ram = set s.ram address x }))
    (λ e. tt)
    (λ e. let other : fact.place ≡ address → ⊥ = λ same. both_ways (is_in 256 at fact.place) e (subst (λ n. is_in 256 at n ≡ true) (sym same) (laws.sets.member 256 address at there)) in
    holds ∙ ap (λ v. (fact.factor * v + fact.added) % 256) (sym (get_or-set_other s.ram address fact.place x 0 other)))

compared_beside : (laws : KnownLaws) (at : Form) (compared : Compared) (s : ChipState) (address x : ℕ)
    → Has 256 at address → is_compared_in at compared ≡ false
    → compared_in compared s ≡ compared_in compared (record s { ram = set s.ram address x })
compared_beside laws at Accumulator s address x there e = refl
compared_beside laws at (Ram place) s address x there e =
    let other : place ≡ address → ⊥ = λ same. both_ways (is_in 256 at place) e (subst (λ n. is_in 256 at n ≡ true) (sym same) (laws.sets.member 256 address at there)) in
    sym (get_or-set_other s.ram address place x 0 other)

carry_ram : (laws : KnownLaws) (at : Form) (fact : Option CarryFact) (s : ChipState) (address x : ℕ)
    → Has 256 at address → HoldsOfCarry fact s
    → HoldsOfCarry (carry_unless (is_compared_in at) fact) (record s { ram = set s.ram address x })
carry_ram laws at None s address x there holds = tt
carry_ram laws at (Some fact) s address x there holds =
    cond_both (is_compared_in at fact.compared) None (Some fact) (λ left. HoldsOfCarry left (record s { ram = set s.ram address x }))
    (λ e. tt) (λ e. holds ∙ ap (λ v. bit_of (nat_lt v fact.bound)) (compared_beside laws at fact.compared s address x there e))

compared_kept : (compared : Compared) (s : ChipState) (x : ℕ) → is_accumulator compared ≡ false
    → compared_in compared s ≡ compared_in compared (record s { a = x })
compared_kept Accumulator s x e = absurd (cc)
compared_kept (Ram place) s x e = refl

carry_accumulator : (fact : Option CarryFact) (s : ChipState) (x : ℕ) → HoldsOfCarry fact s
    → HoldsOfCarry (carry_unless is_accumulator fact) (record s { a = x })
carry_accumulator None s x holds = tt
carry_accumulator (Some fact) s x holds =
    cond_both (is_accumulator fact.compared) None (Some fact) (λ left. HoldsOfCarry left (record s { a = x }))
    (λ e. tt) (λ e. holds ∙ ap (λ v. bit_of (nat_lt v fact.bound)) (compared_kept fact.compared s x e))

-- RAM

ram_follows : (laws : KnownLaws) (framed : Bool) (first : Option ChipState) (at : Form) (address x : ℕ) (byte : Byte)
    → IsNormal 256 at → Has 256 at address
    → IsValue framed first byte x → Follows framed first (ram_written framed at byte) (λ s. record s { ram = set s.ram address x })
unfolding ram_written
ram_follows laws framed first at address x byte normal there is known s under =
    let after : ChipState = record s { ram = set s.ram address x } in
    let parts = under.holds.parts in
    let small = value_below laws framed first byte x is in
    let size : length after.ram ≡ 256 = length-set s.ram address x ∙ under.holds.state.ram in
    let bytes = All-set (λ b. b < 256) s.ram address x small under.holds.state.bytes in
    let state : IsChipState after = assumption (under.holds.state, size, bytes) in
    let form = ram_form laws framed at byte normal is.form known under.form in
    let linear = linear_ram laws at known.linear_fact s address x there parts.linear_fact in
    let carry = carry_ram laws at known.carry_fact s address x there parts.carry_fact in
    let suspended = option_map suspended_of first in
    let cells = cells_cover laws suspended framed s after known.cells (members 256 at) address x (word_of_byte byte)
    (λ v h. laws.sets.below 256 v at normal h) there under.holds.state state refl small (byte_stored laws framed byte is.form)
    (known_cells framed known under.form) parts.cells (laws.values.bytes.to_word suspended x byte is.form.normal is.holds) in
    let untouched = untouched_stay laws framed s first at known.touched address x under.base normal under.form.touched there parts.untouched in
    assumption (under, form, state, linear, carry, cells, untouched)

-- REGISTERS

-- a relation of a register to itself
own_holds : (first : Option ChipState) (place unheld r x : ℕ) (entry : Option Entry) → unheld < 256
    → held_by (sfr_of place) ≡ 65535 - unheld
    → r < 256 → AgreesBeside unheld r x → IsFromEntry (option_map suspended_of first) entry x
    → IsFromEntry (option_map suspended_of first) (own_entry place unheld entry) r
own_holds first place unheld r x None below at small same from = tt
own_holds None place unheld r x (Some entry) below at small same from = absurd from
own_holds (Some f) place unheld r x (Some entry) below at small same from =
    cond_both (entry.place == place) (Some (own_masks unheld entry)) None (λ kept. IsFromEntry (Some (suspended_of f)) kept r)
    (λ e. let names : held_by (sfr_of entry.place) ≡ 65535 - unheld = ap (λ n. held_by (sfr_of n)) (eqb-true entry.place place e) ∙ at in
    own_came (suspended_of f) unheld r x entry below names small same from)
    (λ e. tt)

-- each number that the register may be read as
own_reads : (laws : KnownLaws) (framed : Bool) (first : Option ChipState) (place unheld : ℕ) (others : List ℕ) (byte : Byte) (x r : ℕ)
    → unheld < 256 → held_by (sfr_of place) ≡ 65535 - unheld → 1 ≤ length others → ((v : ℕ) → Contains others v → v < 256)
    → IsValue framed first byte x → IsRead unheld others x r
    → HoldsOfByte (option_map suspended_of first) (own_byte place unheld others byte) r
own_reads laws framed first place unheld others byte x r below at some low is read =
    let mask = laws.sets.single 256 (255 - unheld) (omega arith) in
    let masked = logic_set 8 And byte.set (single (255 - unheld)) in
    let normal = laws.bits.logic_normal 8 And byte.set (single (255 - unheld)) is.form.normal mask.0 in
    let has = laws.bits.logic 8 x (255 - unheld) And byte.set (single (255 - unheld)) is.form.normal mask.0 is.holds.0 mask.1 in
    let (t, there, same) = read.other in
    let other = laws.sets.gather_holds 256 t others low there in
    let other_normal = laws.sets.gather_normal 256 others some low in
    let joined = laws.bits.logic 8 (bit_and x (255 - unheld)) t Or masked (gather 256 others) normal other_normal has other in (
      subst (Has 256 (own_byte place unheld others byte).set) (sym same) joined,
      own_holds first place unheld r x byte.entry below at read.below read.beside is.holds.1,
    )

behind_two : (bits : List Tri) (v : ℕ) → Agrees bits v → Agrees (drop 2 bits) (v / 2 / 2)
behind_two [] v h = rw h refl
behind_two (a ∷ []) v h = rw h.1 refl
behind_two (a ∷ b ∷ bits) v h = h.1.1

status_holds : (laws : KnownLaws) (framed : Bool) (first : Option ChipState) (byte : Byte) (x : ℕ) → IsValue framed first byte x
    → HoldsOfStatus (option_map suspended_of first) (status_of_byte byte) (x / 4 * 4)
status_holds laws framed first byte x is =
    let small = value_below laws framed first byte x is in
    let same : x / 2 / 2 ≡ x / 4 * 4 / 4 = omega arith in
    record {
      bits = subst (Agrees (drop 2 (known_bits 8 byte.set))) same (behind_two (known_bits 8 byte.set) x (laws.bits.known 8 x byte.set is.form.normal is.holds.0));
      entry = own_holds first psw_place 3 (x / 4 * 4) x byte.entry (omega arith) refl (omega (arith, small)) (psw_beside x small) is.holds.1;
    }

psw_follows : (framed : Bool) (first : Option ChipState) (status : Status) (psw : ℕ) (known : Known) (s : ChipState)
    → psw < 256 → psw % 4 ≡ 0
    → length status.bits ≡ 6 → IsOwnRelation framed psw_place 3 status.entry → HoldsOfStatus (option_map suspended_of first) status psw
    → IsUnder framed known s first → IsUnder framed (status_written status known) (record s { psw = psw }) first
psw_follows framed first status psw known s small held count own holds under =
    let form = status_form framed status count own known under.form in
    let linear = linear_stays known.linear_fact s (record s { psw = psw }) refl refl under.holds.parts.linear_fact in
    let carry : HoldsOfCarry None (record s { psw = psw }) = tt in
    assumption (under, small, held, form, holds, linear, carry)

pub status_follows : (framed : Bool) (first : Option ChipState) (status : Status) (x : ℕ) → x < 256 → length status.bits ≡ 6
    → IsOwnRelation framed psw_place 3 status.entry → HoldsOfStatus (option_map suspended_of first) status (x / 4 * 4)
    → Follows framed first (status_written status) (write_sfr Psw x)
status_follows framed first status x small count own holds known s under =
    psw_follows framed first status (x / 4 * 4) known s (omega (arith, small)) (omega arith) count own holds under

pub accumulator_follows : (laws : KnownLaws) (framed : Bool) (first : Option ChipState) (byte : Byte) (x : ℕ) → IsValue framed first byte x
    → Follows framed first (accumulator_written byte) (with_accumulator x)
accumulator_follows laws framed first byte x is known s under =
    let small = value_below laws framed first byte x is in
    let form = accumulator_form framed byte is.form known under.form in
    let linear : HoldsOfLinear None (record s { a = x }) = tt in
    let carry = carry_accumulator known.carry_fact s x under.holds.parts.carry_fact in
    assumption (under, is.holds, small, form, linear, carry)

-- what comes with a byte that is written into another register than A and PSW
record IsWritten (framed : Bool) (first : Option ChipState) (byte : Byte) (x : ℕ) (known : Known) (after : ChipState) : Type 0 where
  small : x < 256
  facts : FactsHold known after
  form : IsByte framed byte
  has : Has 256 byte.set x
  from : IsFromEntry (option_map suspended_of first) byte.entry x

is_written : (laws : KnownLaws) (framed : Bool) (first : Option ChipState) (byte : Byte) (x : ℕ) (known : Known) (s after : ChipState)
    → s.psw ≡ after.psw → s.a ≡ after.a → s.ram ≡ after.ram → IsValue framed first byte x → IsUnder framed known s first
    → IsWritten framed first byte x known after
is_written laws framed first byte x known s after psw a ram is under = record {
  small = value_below laws framed first byte x is;
  facts = facts_stay known s after first psw a ram under.holds.parts;
  form = is.form;
  has = is.holds.0;
  from = is.holds.1;
}

register_follows : (laws : KnownLaws) (framed : Bool) (first : Option ChipState) (register : Sfr) (byte : Byte) (x : ℕ)
    → IsValue framed first byte x
    → Follows framed first (register_written register byte) (write_sfr register x)
unfolding register_written
register_follows laws framed first Sp byte x is known s under =
    let written = is_written laws framed first byte x known s (record s { sp = x }) refl refl refl is under in
    assumption (under, written)
register_follows laws framed first Dpl byte x is known s under =
    let written = is_written laws framed first byte x known s (record s { dpl = x }) refl refl refl is under in
    assumption (under, written)
register_follows laws framed first Dph byte x is known s under =
    let written = is_written laws framed first byte x known s (record s { dph = x }) refl refl refl is under in
    assumption (under, written)
register_follows laws framed first Ie byte x is known s under =
    let ie = x % 64 + x / 128 * 128 in
    let written = is_written laws framed first byte x known s (record s { ie = ie }) refl refl refl is under in
    let below : ie < 256 = omega (arith, written.small) in
    let held : ie / 64 % 2 ≡ 0 = omega (arith, written.small) in
    let own = own_form laws framed ie_place 64 ie_others byte (omega arith) (omega arith) ie_bytes is.form in
    let reads : HoldsOfReads (option_map suspended_of first) (own_byte ie_place 64 ie_others byte) (record s { ie = ie }) Ie =
    λ r (bit, low, read). subst (HoldsOfByte (option_map suspended_of first) (own_byte ie_place 64 ie_others byte)) (sym read)
    (own_reads laws framed first ie_place 64 ie_others byte x (ie + 64 * bit) (omega arith) refl (omega arith) ie_bytes is (ie_is x bit written.small low)) in
    assumption (under, written, below, held, own, reads)
register_follows laws framed first Ip byte x is known s under =
    let ip = x % 64 in
    let written = is_written laws framed first byte x known s (record s { ip = ip }) refl refl refl is under in
    let below : ip < 64 = omega arith in
    let own = own_form laws framed ip_place 192 ip_others byte (omega arith) (omega arith) ip_bytes is.form in
    let reads : HoldsOfReads (option_map suspended_of first) (own_byte ip_place 192 ip_others byte) (record s { ip = ip }) Ip =
    λ r (bits, low, read). subst (HoldsOfByte (option_map suspended_of first) (own_byte ip_place 192 ip_others byte)) (sym read)
    (own_reads laws framed first ip_place 192 ip_others byte x (ip + 64 * bits) (omega arith) refl (omega arith) ip_bytes is (ip_is x bits written.small low)) in
    assumption (under, written, below, own, reads)
register_follows laws framed first Psw byte x is known s under =
    status_follows framed first (status_of_byte byte) x (value_below laws framed first byte x is) (six_bits byte.set)
    (entry_own framed psw_place 3 byte.entry (omega arith) is.form.entry) (status_holds laws framed first byte x is) known s under
register_follows laws framed first Acc byte x is known s under = accumulator_follows laws framed first byte x is known s under
register_follows laws framed first B byte x is known s under =
    let written = is_written laws framed first byte x known s (record s { b = x }) refl refl refl is under in
    assumption (under, written)
register_follows laws framed first Other byte x is known s under = under

-- WRITES FOLLOW

pub byte_follows : (laws : KnownLaws) (framed : Bool) (first : Option ChipState) (addresses : Addresses) (address : Address) (byte : Byte) (x : ℕ)
    → IsValue framed first byte x → AreAddresses addresses → MayStandAt addresses address
    → Follows framed first (byte_written framed addresses byte) (write address x)
unfolding byte_written write
byte_follows laws framed first (InRam at) (AtRam address) byte x is are stands known s under =
    ram_follows laws framed first at address x byte are stands is known s under
byte_follows laws framed first (InSfr register) (AtSfr at) byte x is are stands known s under =
    subst (λ n. IsUnder framed (register_written (sfr_at register) byte known) (write_sfr (sfr_at n) x s) first) (sym stands)
    (register_follows laws framed first (sfr_at register) byte x is known s under)
byte_follows laws framed first (InRam at) (AtSfr address) byte x is are stands known s under = absurd stands
byte_follows laws framed first (InSfr register) (AtRam address) byte x is are stands known s under = absurd stands

pub pointer_follows : (laws : KnownLaws) (framed : Bool) (first : Option ChipState) (low high : Byte) (x : ℕ)
    → IsValue framed first low (x % 256) → IsValue framed first high (x / 256)
    → Follows framed first (data_pointer_written low high) (with_data_pointer x)
pointer_follows laws framed first low high x is also known s under =
    let written = is_written laws framed first low (x % 256) known s (with_data_pointer x s) refl refl refl is under in
    let too = is_written laws framed first high (x / 256) known s (with_data_pointer x s) refl refl refl also under in
    assumption (under, written, too)

pub counter_follows : (framed : Bool) (first : Option ChipState) (pc : ℕ) → pc < 65536
    → Follows framed first (λ known. known) (λ s. record s { pc = pc })
counter_follows framed first pc small known s under =
    let facts = facts_stay known s (record s { pc = pc }) first refl refl refl under.holds.parts in
    assumption (under, small, facts)

-- FLAGS FOLLOW

-- PSW holds six bits
of_six : (P : List Tri → Type 0) → ((a b c d e f : Tri) → P (a ∷ b ∷ c ∷ d ∷ e ∷ f ∷ [])) → (bits : List Tri) → length bits ≡ 6 → P bits
of_six P each [] six = absurd (omega (arith, six))
of_six P each (a ∷ []) six = absurd (omega (arith, six))
of_six P each (a ∷ b ∷ []) six = absurd (omega (arith, six))
of_six P each (a ∷ b ∷ c ∷ []) six = absurd (omega (arith, six))
of_six P each (a ∷ b ∷ c ∷ d ∷ []) six = absurd (omega (arith, six))
of_six P each (a ∷ b ∷ c ∷ d ∷ e ∷ []) six = absurd (omega (arith, six))
of_six P each (a ∷ b ∷ c ∷ d ∷ e ∷ f ∷ []) six = each a b c d e f
of_six P each (a ∷ b ∷ c ∷ d ∷ e ∷ f ∷ g ∷ more) six = absurd (omega (arith, six))

carry_agrees : (bits : List Tri) (psw c : ℕ) (carry : Tri) → length bits ≡ 6 → psw < 256 → c < 2 → IsBit carry c
    → Agrees bits (psw / 4) → Agrees (set bits 5 carry) ((psw % 128 + 128 * c) / 4)
carry_agrees bits psw c carry six small low is =
    of_six (λ list. Agrees list (psw / 4) → Agrees (set list 5 carry) ((psw % 128 + 128 * c) / 4)) (λ b0 b1 b2 b3 b4 b5 (h0, (h1, (h2, (h3, (h4, (h5, h6)))))).
    let v = (psw % 128 + 128 * c) / 4 in
    let e0 : psw / 4 % 2 ≡ v % 2 = omega arith in
    let e1 : psw / 4 / 2 % 2 ≡ v / 2 % 2 = omega arith in
    let e2 : psw / 4 / 2 / 2 % 2 ≡ v / 2 / 2 % 2 = omega arith in
    let e3 : psw / 4 / 2 / 2 / 2 % 2 ≡ v / 2 / 2 / 2 % 2 = omega arith in
    let e4 : psw / 4 / 2 / 2 / 2 / 2 % 2 ≡ v / 2 / 2 / 2 / 2 % 2 = omega arith in
    let e5 : c ≡ v / 2 / 2 / 2 / 2 / 2 % 2 = omega (arith, low) in
    let none : v / 2 / 2 / 2 / 2 / 2 / 2 ≡ 0 = omega (arith, low) in
    (subst (IsBit b0) e0 h0, (subst (IsBit b1) e1 h1, (subst (IsBit b2) e2 h2, (subst (IsBit b3) e3 h3, (subst (IsBit b4) e4 h4, (subst (IsBit carry) e5 is, none)))))))
    bits six

abbrev flags_made : (psw c half overflow : ℕ) → ℕ
flags_made psw c half overflow = psw / 8 % 8 * 8 + 128 * c + 64 * half + 4 * overflow

flags_agree : (bits : List Tri) (psw c h o : ℕ) (carry half overflow : Tri) → length bits ≡ 6 → psw < 256 → c < 2 → h < 2 → o < 2
    → IsBit carry c → IsBit half h → IsBit overflow o
    → Agrees bits (psw / 4) → Agrees (set (set (set bits 0 overflow) 4 half) 5 carry) (flags_made psw c h o / 4)
flags_agree bits psw c h o carry half overflow six small low also third is_c is_h is_o =
    let v = flags_made psw c h o / 4 in
    of_six (λ list. Agrees list (psw / 4) → Agrees (set (set (set list 0 overflow) 4 half) 5 carry) v) (λ b0 b1 b2 b3 b4 b5 (h0, (h1, (h2, (h3, (h4, (h5, h6)))))).
    let e0 : o ≡ v % 2 = omega (arith, low, also, third) in
    let e1 : psw / 4 / 2 % 2 ≡ v / 2 % 2 = omega (arith, low, also, third) in
    let e2 : psw / 4 / 2 / 2 % 2 ≡ v / 2 / 2 % 2 = omega (arith, low, also, third) in
    let e3 : psw / 4 / 2 / 2 / 2 % 2 ≡ v / 2 / 2 / 2 % 2 = omega (arith, low, also, third) in
    let e4 : h ≡ v / 2 / 2 / 2 / 2 % 2 = omega (arith, low, also, third) in
    let e5 : c ≡ v / 2 / 2 / 2 / 2 / 2 % 2 = omega (arith, low, also, third) in
    let none : v / 2 / 2 / 2 / 2 / 2 / 2 ≡ 0 = omega (arith, low, also, third) in
    (subst (IsBit overflow) e0 is_o, (subst (IsBit b1) e1 h1, (subst (IsBit b2) e2 h2, (subst (IsBit b3) e3 h3, (subst (IsBit half) e4 is_h, (subst (IsBit carry) e5 is_c, none)))))))
    bits six

pub carry_follows : (framed : Bool) (first : Option ChipState) (carry : Tri) (c : ℕ) → IsBit carry c
    → Follows framed first (carry_set carry) (with_carry c)
carry_follows framed first carry c is known s under =
    let low = bit_below carry c is in
    let state = under.holds.state in
    let bits = carry_agrees known.psw.bits s.psw c carry under.form.bits state.psw low is under.holds.parts.psw.bits in
    psw_follows framed first (record { bits = set known.psw.bits 5 carry; entry = None }) (s.psw % 128 + 128 * c) known s
    (omega (arith, low)) (omega (arith, state.psw_held)) (length-set known.psw.bits 5 carry ∙ under.form.bits) (no_own_relation framed psw_place 3)
    (record { bits = bits; entry = tt }) under

pub flags_follow : (framed : Bool) (first : Option ChipState) (carry half overflow : Tri) (c h o : ℕ) → IsBit carry c
    → IsBit half h → IsBit overflow o
    → Follows framed first (flags_set carry half overflow) (with_flags c h o)
flags_follow framed first carry half overflow c h o is_c is_h is_o known s under =
    let low = bit_below carry c is_c in
    let also = bit_below half h is_h in
    let third = bit_below overflow o is_o in
    let held = known.psw.bits in
    let long = three_long held carry half overflow under.form.bits in
    let bits = flags_agree held s.psw c h o carry half overflow under.form.bits under.holds.state.psw low also third is_c is_h is_o under.holds.parts.psw.bits in
    psw_follows framed first (record { bits = set (set (set held 0 overflow) 4 half) 5 carry; entry = None }) (flags_made s.psw c h o) known s
    (omega (arith, low, also, third)) (omega arith) long (no_own_relation framed psw_place 3) (record { bits = bits; entry = tt }) under

-- THE STACK FOLLOWS

sp_follows : (framed : Bool) (first : Option ChipState) (set_so : Form) (x : ℕ) (known : Known) (s : ChipState)
    → IsNormal 256 set_so → Has 256 set_so x
    → x < 256 → IsUnder framed known s first → IsUnder framed (record known { sp = set_so }) (record s { sp = x }) first
sp_follows framed first set_so x known s normal has small under =
    let facts = facts_stay known s (record s { sp = x }) first refl refl refl under.holds.parts in
    assumption (under, normal, has, small, facts)

pub push_follows : (laws : KnownLaws) (framed : Bool) (first : Option ChipState) (byte : Byte) (x : ℕ) → IsValue framed first byte x
    → Follows framed first (byte_pushed framed byte) (pushed x)
unfolding byte_pushed
push_follows laws framed first byte x is known s under =
    let top = (s.sp + 1) % 256 in
    let normal = raised_normal laws known.sp under.form.sp in
    let has = raised_has laws known.sp s.sp under.form.sp under.holds.parts.sp in
    ram_follows laws framed first (raised known.sp) top x byte normal has is (record known { sp = raised known.sp }) (record s { sp = top })
    (sp_follows framed first (raised known.sp) top known s normal has (omega arith) under)

pub pair_follows : (laws : KnownLaws) (framed : Bool) (first : Option ChipState) (low high : Byte) (address : ℕ)
    → IsValue framed first low (address % 256)
    → IsValue framed first high (address / 256)
    → Follows framed first (pair_pushed framed low high) (with_pushed_address address)
pair_follows laws framed first low high address is also known s under =
    push_follows laws framed first high (address / 256) also (byte_pushed framed low known) (pushed (address % 256) s) (push_follows laws framed first low (address % 256) is known s under)

number_is : (laws : KnownLaws) (framed : Bool) (first : Option ChipState) (n : ℕ) → n < 256 → IsValue framed first (byte_of (single n)) n
number_is laws framed first n low = let one = laws.sets.single 256 n low in plain_value framed first (single n) n one.0 one.1

pub address_follows : (laws : KnownLaws) (framed : Bool) (first : Option ChipState) (address : ℕ) → address < 65536
    → Follows framed first (address_pushed framed address) (with_pushed_address address)
address_follows laws framed first address below =
    pair_follows laws framed first (byte_of (single (address % 256))) (byte_of (single (address / 256))) address
    (number_is laws framed first (address % 256) (omega arith)) (number_is laws framed first (address / 256) (omega (arith, below)))

pub pop_follows : (laws : KnownLaws) (framed : Bool) (first : Option ChipState) → Follows framed first byte_popped popped
pop_follows laws framed first known s under =
    let normal = lowered_normal laws known.sp under.form.sp in
    let has = lowered_has laws known.sp s.sp under.form.sp under.holds.parts.sp in
    let less : s.sp + 256 - 1 ≡ s.sp + 255 = omega arith in
    let same : (s.sp + 256 - 1) % 256 ≡ (s.sp + 255) % 256 = ap (λ n. n % 256) less in
    sp_follows framed first (lowered known.sp) ((s.sp + 255) % 256) known s normal (subst (Has 256 (lowered known.sp)) same has) (omega arith) under
