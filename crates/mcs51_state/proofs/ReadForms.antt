-- What is read has its form, and what holds of it and of its bits.
use Rattle.std.proofs.Common.{◌≡◌, ℕ, ◌<◌, Bool, true, false, Option, None, Some, List, [], ◌∷◌, length, refl, sym, ap, ◌∙◌, subst, arith, All, Contains}
use Rattle.std.specs.Prelude.{◌==◌, ◌&&◌, not, ◌||◌}
use Rattle.std.specs.Int.{bit_at}
use Rattle.std.specs.Option.{option_map}
use Rattle.std.proofs.lemmas.Bool.{cond_both, lt-ltb}
use Rattle.std.proofs.lemmas.List.Elements.{All-head, All-tail}
use Rattle.plain_lemmas.specs.Members.{in_first}
use Rattle.entry_value.specs.declared.cells.Cell.{Cell}
use Rattle.entry_value.specs.declared.word.Entry.{Entry}
use Rattle.entry_value.specs.declared.word.Word.{Word}
use Rattle.entry_value.specs.Cells.{cell_at, found_or as found_word, put_together, read}
use Rattle.entry_value.specs.Words.{HoldsOfByte}
use Rattle.irq_frames.specs.Ranges.{has_address}
use Rattle.value_bits.specs.Bits.{Agrees, IsBit, known_bit, known_bits}
use Rattle.value_set.specs.declared.form.Form.{Form}
use Rattle.value_set.specs.Form.{Has, IsNormal, members}
use Rattle.irq_frames.specs.KnownLaws.{KnownLaws}
use Rattle.mcs51_chip.specs.declared.place.Address.{Address}
use Rattle.mcs51_chip.specs.declared.place.Sfr.{Sfr}
use Rattle.mcs51_chip.specs.declared.place.Sfr.TheVariants.{Sp, Dpl, Dph, Ie, Ip, Psw, Acc, B, Other}
use Rattle.mcs51_chip.specs.declared.place.Address.TheVariants.{InRam as AtRam, InSfr as AtSfr}
use Rattle.mcs51_chip.specs.declared.state.ChipState.{ChipState}
use Rattle.mcs51_chip.specs.Leading.{MayRead, MayReadSfr}
use Rattle.mcs51_chip.specs.Registers.{parity, sfr_at}
use Rattle.mcs51_state.specs.declared.addresses.Addresses.{Addresses}
use Rattle.mcs51_state.specs.declared.addresses.Addresses.TheVariants.{InRam, InSfr}
use Rattle.mcs51_state.specs.FormFacts.{no_relation}
use Rattle.mcs51_state.specs.Forms.{IsByte, IsChipCell, IsKnown, IsOwnRelation, IsRelation}
use Rattle.mcs51_state.specs.Known.{Known}
use Rattle.mcs51_state.specs.Places.{ie_place, ip_place, is_place, is_remembered, psw_place, sfr_of, suspended_of}
use Rattle.mcs51_state.specs.Standing.{AreAddresses, MayStandAt}
use Rattle.mcs51_state.specs.Under.{IsUnder}
use Rattle.mcs51_state.specs.Reading.{found_or, kept_by, kept_from, list_relation, ram_values, read_bit, read_byte, register_bit, register_byte, status_bits}
use Rattle.value_bits.specs.BitFacts.{bits_at}
use Rattle.mcs51_state.proofs.BitReads.{known_is, status_agrees}
use Rattle.mcs51_state.proofs.RamReads.{ram_is, values_have, values_normal}
use Rattle.mcs51_chip.specs.NumberFacts.{parity_below}
use Rattle.mcs51_state.proofs.RegisterReads.{register_is, unheld_bits}

-- RELATIONS

-- that of a register is one, where its place is
own_relation : (framed : Bool) (place unheld : ℕ) (entry : Option Entry) → is_place place ≡ true
    → IsOwnRelation framed place unheld entry → IsRelation framed entry
own_relation framed place unheld None is form = no_relation framed
own_relation false place unheld (Some entry) is form = absurd form
own_relation true place unheld (Some entry) is (same, and_small, all_and, or_small, no_or) = (ap is_place same ∙ is, and_small, or_small)

cell_relation : (framed : Bool) (cells : List Cell) (at size : ℕ) (otherwise : Word) → All (IsChipCell framed) cells
    → IsRelation framed otherwise.entry
    → IsRelation framed (found_word (cell_at cells at size) otherwise).entry
cell_relation framed [] at size otherwise all other = other
cell_relation framed (cell ∷ cells) at size otherwise all other =
    cond_both ((cell.place == at) && (cell.size == size)) (Some cell.word) (cell_at cells at size) (λ found. IsRelation framed (found_word found otherwise).entry)
    (λ here. (All-head (IsChipCell framed) cell cells all).entry)
    (λ there. cell_relation framed cells at size otherwise (All-tail (IsChipCell framed) cell cells all) other)

read_relation : (framed : Bool) (cells : List Cell) (at size : ℕ) → All (IsChipCell framed) cells
    → IsRelation framed (read cells at size).entry
unfolding read
read_relation framed cells at size all = cell_relation framed cells at size (put_together cells at size) all (no_relation framed)

kept_relation : (framed : Bool) (touched : List (ℕ × ℕ)) (at : ℕ) → at < 256 → IsRelation framed (kept_by framed touched at)
kept_relation false touched at inside = tt
kept_relation true touched at inside =
    let place : is_place at ≡ true = ap (λ ram. ram || is_remembered (sfr_of at) || (at == 512) || (at == 513)) (lt-ltb at 256 inside) in
    cond_both (not (has_address touched at)) (Some (kept_from at)) None (IsRelation true) (λ none. (place, omega arith, omega arith)) (λ some. tt)

either_relation : (framed : Bool) (own otherwise : Option Entry) → IsRelation framed own → IsRelation framed otherwise
    → IsRelation framed (found_or own otherwise)
either_relation framed None otherwise own other = other
either_relation framed (Some entry) otherwise own other = own

list_form : (framed : Bool) (known : Known) → IsKnown framed known → (list : List ℕ) → ((at : ℕ) → Contains list at → at < 256)
    → IsRelation framed (list_relation framed known list)
list_form framed known form [] small = no_relation framed
list_form framed known form (at ∷ []) small =
    either_relation framed (read known.cells.cells at 1).entry (kept_by framed known.touched at) (read_relation framed known.cells.cells at 1 form.each_cell)
    (kept_relation framed known.touched at (small at (in_first at [])))
list_form framed known form (at ∷ next ∷ rest) small = no_relation framed

-- BYTES

register_form : (laws : KnownLaws) (framed : Bool) (known : Known) → IsKnown framed known → (sfr : Sfr)
    → IsByte framed (register_byte known sfr)
register_form laws framed known form Sp = record { normal = form.sp; entry = no_relation framed }
register_form laws framed known form Dpl = form.dpl
register_form laws framed known form Dph = form.dph
register_form laws framed known form Ie = record { normal = form.ie.normal; entry = own_relation framed ie_place 64 known.ie.entry refl form.ie.entry }
register_form laws framed known form Ip = record { normal = form.ip.normal; entry = own_relation framed ip_place 192 known.ip.entry refl form.ip.entry }
register_form laws framed known form Psw =
    let count : length (status_bits known.psw.bits) ≡ 8 = omega (arith, form.bits) in
    record { normal = laws.bits.from_normal 8 (status_bits known.psw.bits) count; entry = own_relation framed psw_place 3 known.psw.entry refl form.psw }
register_form laws framed known form Acc = form.a
register_form laws framed known form B = form.b
register_form laws framed known form Other = record { normal = laws.sets.whole_normal 256 (omega arith); entry = no_relation framed }

pub byte_form : (laws : KnownLaws) (framed : Bool) (known : Known) → IsKnown framed known → (addresses : Addresses) → AreAddresses addresses
    → IsByte framed (read_byte framed known addresses)
unfolding read_byte
byte_form laws framed known form (InRam set) are =
    record { normal = values_normal laws known form.cells set; entry = list_form framed known form (members 256 set) (λ at has. laws.sets.below 256 at set are has) }
byte_form laws framed known form (InSfr register) are = register_form laws framed known form (sfr_at register)

pub byte_is : (laws : KnownLaws) (framed : Bool) (known : Known) (s : ChipState) (first : Option ChipState) → IsUnder framed known s first
    → (addresses : Addresses) (address : Address) (x : ℕ)
    → MayStandAt addresses address → AreAddresses addresses → MayRead s address x
    → HoldsOfByte (option_map suspended_of first) (read_byte framed known addresses) x
unfolding read_byte
byte_is laws framed known s first under (InRam set) (AtRam at) x stands are may =
    subst (HoldsOfByte (option_map suspended_of first) (read_byte framed known (InRam set))) (sym may) (ram_is laws framed known s first under set at are stands)
byte_is laws framed known s first under (InRam set) (AtSfr at) x stands are may = absurd stands
byte_is laws framed known s first under (InSfr register) (AtRam at) x stands are may = absurd stands
byte_is laws framed known s first under (InSfr register) (AtSfr at) x stands are may =
    register_is laws framed known s first under (sfr_at register) x (subst (λ n. MayReadSfr s (sfr_at n) x) stands may)

-- BITS

set_bit : (laws : KnownLaws) (set : Form) (x place : ℕ) → IsNormal 256 set → Has 256 set x → place < 8
    → IsBit (known_bit 8 place set) (bit_at x place)
set_bit laws set x place normal has small =
    subst (λ bit. IsBit bit (bit_at x place)) (known_is set place small) (bits_at (known_bits 8 set) place x (laws.bits.known 8 x set normal has))

plain_bit : (laws : KnownLaws) (framed : Bool) (known : Known) (s : ChipState) (first : Option ChipState) → IsUnder framed known s first
    → (sfr : Sfr) (x place : ℕ) → MayReadSfr s sfr x → place < 8
    → IsBit (known_bit 8 place (register_byte known sfr).set) (bit_at x place)
plain_bit laws framed known s first under sfr x place may small =
    set_bit laws (register_byte known sfr).set x place (register_form laws framed known under.form sfr).normal (register_is laws framed known s first under sfr x may).0 small

sfr_bit : (laws : KnownLaws) (framed : Bool) (known : Known) (s : ChipState) (first : Option ChipState) → IsUnder framed known s first
    → (sfr : Sfr) (x place : ℕ) → MayReadSfr s sfr x → place < 8
    → IsBit (register_bit known sfr place) (bit_at x place)
sfr_bit laws framed known s first under Sp x place may small = plain_bit laws framed known s first under Sp x place may small
sfr_bit laws framed known s first under Dpl x place may small = plain_bit laws framed known s first under Dpl x place may small
sfr_bit laws framed known s first under Dph x place may small = plain_bit laws framed known s first under Dph x place may small
sfr_bit laws framed known s first under Ie x place may small = plain_bit laws framed known s first under Ie x place may small
sfr_bit laws framed known s first under Ip x place may small = plain_bit laws framed known s first under Ip x place may small
sfr_bit laws framed known s first under Psw x place (bit, few, is) small =
    let held = under.holds.parts.psw in
    let (y, less, same) = unheld_bits s.psw bit (parity s.a) x few (parity_below s.a) is in
    bits_at (status_bits known.psw.bits) place x (subst (Agrees (status_bits known.psw.bits)) (sym same) (status_agrees known.psw.bits s.psw y under.holds.state.psw_held less held.bits))
sfr_bit laws framed known s first under Acc x place may small = plain_bit laws framed known s first under Acc x place may small
sfr_bit laws framed known s first under B x place may small = plain_bit laws framed known s first under B x place may small
sfr_bit laws framed known s first under Other x place may small = plain_bit laws framed known s first under Other x place may small

pub bit_is : (laws : KnownLaws) (framed : Bool) (known : Known) (s : ChipState) (first : Option ChipState) → IsUnder framed known s first
    → (addresses : Addresses) (address : Address) (x place : ℕ)
    → MayStandAt addresses address → AreAddresses addresses → MayRead s address x → place < 8
    → IsBit (read_bit known addresses place) (bit_at x place)
unfolding read_bit
bit_is laws framed known s first under (InRam set) (AtRam at) x place stands are may small =
    set_bit laws (ram_values known set) x place (values_normal laws known under.form.cells set)
    (subst (Has 256 (ram_values known set)) (sym may) (values_have laws framed known s first under set at are stands)) small
bit_is laws framed known s first under (InRam set) (AtSfr at) x place stands are may small = absurd stands
bit_is laws framed known s first under (InSfr register) (AtRam at) x place stands are may small = absurd stands
bit_is laws framed known s first under (InSfr register) (AtSfr at) x place stands are may small =
    sfr_bit laws framed known s first under (sfr_at register) x place (subst (λ n. MayReadSfr s (sfr_at n) x) stands may) small
