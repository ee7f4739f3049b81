-- The way that a jump by a bit goes.
use Rattle.std.proofs.Common.{◌≡◌, ℕ, ◌+◌, ◌-◌, ◌*◌, ◌/◌, ◌%◌, ◌<◌, ◌==◌, Bool, true, Option, None, Some, length, refl, sym, ap, ◌∙◌, subst, arith}
use Rattle.std.specs.Prelude.{if◌then◌else◌, nat_lt, slice_index, slice_index_or}
use Rattle.std.specs.Int.{bit_at}
use Rattle.std.specs.Option.{option_map}
use Rattle.std.proofs.lemmas.Bool.{cond_both, cond-true}
use Rattle.std.proofs.lemmas.Bool.Decides.{nat_tests}
use Rattle.std.proofs.lemmas.List.{length-set}
use Rattle.std.proofs.lemmas.Option.{same_Some}
use Rattle.entry_value.specs.declared.byte.Byte.{Byte}
use Rattle.entry_value.specs.Words.{HoldsOfByte, IsFromEntry, Suspended}
use Rattle.plain_lemmas.specs.Cases.{mapped}
use Rattle.irq_frames.specs.KnownLaws.{KnownLaws}
use Rattle.value_set.specs.declared.form.Form.{Form}
use Rattle.value_set.specs.declared.form.Form.TheVariants.{Values, Run}
use Rattle.value_set.specs.Form.{Has, IsNormal}
use Rattle.value_bits.specs.declared.tri.Tri.TheVariants.{Either}
use Rattle.value_bits.specs.BitFacts.{bits_at, bits_put, flag_bit, flag_known}
use Rattle.value_bits.specs.Bits.{IsBit, may_be, known_flag}
use Rattle.mcs51_chip.specs.declared.place.Address.{Address}
use Rattle.mcs51_chip.specs.declared.place.Address.TheVariants.{InRam, InSfr}
use Rattle.mcs51_chip.specs.declared.place.Sfr.{Sfr}
use Rattle.mcs51_chip.specs.declared.place.Sfr.TheVariants.{Sp, Dpl, Dph, Ie, Ip, Psw, Acc, B, Other}
use Rattle.mcs51_chip.specs.declared.state.ChipState.{ChipState}
use Rattle.mcs51_chip.specs.Leading.{MayRead, MayReadSfr}
use Rattle.mcs51_chip.specs.NumberFacts.{of_eight, parity_below}
use Rattle.mcs51_chip.specs.Registers.{bit_of, parity, sfr_at}
use Rattle.mcs51_state.specs.declared.fact.Compared.TheVariants.{Ram}
use Rattle.mcs51_state.specs.Forms.{IsByte, IsKnown, IsOwnByte, IsOwnRelation, IsRelation}
use Rattle.mcs51_state.specs.Holding.{HoldsOfReads}
use Rattle.mcs51_state.specs.Known.{Known}
use Rattle.mcs51_state.specs.Places.{ie_place, ip_place, suspended_of}
use Rattle.mcs51_state.specs.Under.{IsUnder}
use Rattle.mcs51_branch.specs.Cuts.{set_at}
use Rattle.mcs51_branch.specs.Testing.{IsPlace, bit_tested, byte_tested, register_tested, status_tested, tested, with_left, with_seen_bit}
use Rattle.mcs51_branch.proofs.CarryBits.{flag_may}
use Rattle.mcs51_branch.proofs.PlaceWays.{set_has, set_normal, with_set_form, with_set_under}
use Rattle.mcs51_branch.proofs.TestedSets.{tested_has, tested_normal}

abbrev Way : Bool → Option Known → ChipState → Option ChipState → Type 0
Way framed cut s first = (way : Known) × (cut ≡ Some way) × IsUnder framed way s first

-- BYTES

-- what is left of a byte has each number with the bit so, and its relation
record IsLeft (place : ℕ) (bit : Bool) (byte left : Byte) : Type 0 where
  is : byte_tested place bit byte ≡ Some left
  normal : IsNormal 256 left.set
  entry : left.entry ≡ byte.entry
  has : (n : ℕ) → Has 256 byte.set n → bit_at n place ≡ bit_of bit → Has 256 left.set n

abbrev with_numbers : Byte → Form → Byte
with_numbers byte set_so = record { set = set_so; entry = byte.entry }

byte_left : (laws : KnownLaws) (byte : Byte) (place v : ℕ) (bit : Bool) → IsNormal 256 byte.set → Has 256 byte.set v
    → place < 8 → bit_at v place ≡ bit_of bit
    → (left : Byte) × IsLeft place bit byte left
unfolding byte_tested
byte_left laws byte place v bit normal has low so =
    let found = tested_has laws byte.set place v bit normal has low so in
    (with_numbers byte found.0, record { is = ap (option_map (with_numbers byte)) found.1; normal = found.2; entry = refl; has = found.3 })

byte_normal : (laws : KnownLaws) (byte left : Byte) (place : ℕ) (bit : Bool) → IsNormal 256 byte.set
    → byte_tested place bit byte ≡ Some left
    → IsNormal 256 left.set × (left.entry ≡ byte.entry)
unfolding byte_tested
byte_normal laws byte left place bit normal e =
    let (part, cut, same) = mapped (with_numbers byte) (tested place bit byte.set) left e in
    (subst (λ (b : Byte). IsNormal 256 b.set) same (tested_normal laws byte.set part place bit normal cut), ap (λ (b : Byte). b.entry) (sym same))

left_holds : (first : Option Suspended) (place v : ℕ) (bit : Bool) (byte left : Byte) → IsLeft place bit byte left
    → bit_at v place ≡ bit_of bit
    → HoldsOfByte first byte v → HoldsOfByte first left v
left_holds first place v bit byte left is so holds = (is.has v holds.0 so, subst (λ entry. IsFromEntry first entry v) (sym is.entry) holds.1)

byte_form : (framed : Bool) (byte left : Byte) → IsNormal 256 left.set → left.entry ≡ byte.entry → IsByte framed byte → IsByte framed left
byte_form framed byte left normal same form = record { normal = normal; entry = subst (IsRelation framed) (sym same) form.entry }

own_form : (framed : Bool) (own unheld : ℕ) (byte left : Byte) → IsNormal 256 left.set → left.entry ≡ byte.entry
    → IsOwnByte framed own unheld byte
    → IsOwnByte framed own unheld left
own_form framed own unheld byte left normal same form = record { normal = normal; entry = subst (IsOwnRelation framed own unheld) (sym same) form.entry }

-- BITS THAT ARE HELD

ie_bit : (ie free place : ℕ) → ie / 64 % 2 ≡ 0 → free < 2 → place < 8 → (place ≡ 6 → ⊥) → bit_at (ie + 64 * free) place ≡ bit_at ie place
ie_bit ie free place held small = of_eight (λ n. (n ≡ 6 → ⊥) → bit_at (ie + 64 * free) n ≡ bit_at ie n)
    (λ o. omega (arith, held, small)) (λ o. omega (arith, held, small)) (λ o. omega (arith, held, small)) (λ o. omega (arith, held, small))
    (λ o. omega (arith, held, small)) (λ o. omega (arith, held, small)) (λ o. absurd (o refl)) (λ o. omega (arith, held, small)) place

ip_bit : (ip free place : ℕ) → ip < 64 → place < 8 → place < 6 → bit_at (ip + 64 * free) place ≡ bit_at ip place
ip_bit ip free place below = of_eight (λ n. n < 6 → bit_at (ip + 64 * free) n ≡ bit_at ip n)
    (λ l. omega (arith, below)) (λ l. omega (arith, below)) (λ l. omega (arith, below)) (λ l. omega (arith, below))
    (λ l. omega (arith, below)) (λ l. omega (arith, below)) (λ l. absurd (omega (arith, l))) (λ l. absurd (omega (arith, l))) place

psw_bit : (psw free odd place : ℕ) → psw % 4 ≡ 0 → free < 2 → odd < 2 → place < 8 → (place < 2 → ⊥)
    → bit_at (psw + 2 * free + odd) place ≡ bit_at psw place
psw_bit psw free odd place held small also = of_eight (λ n. (n < 2 → ⊥) → bit_at (psw + 2 * free + odd) n ≡ bit_at psw n)
    (λ high. absurd (high (omega arith))) (λ high. absurd (high (omega arith))) (λ high. omega (arith, held, small, also)) (λ high. omega (arith, held, small, also))
    (λ high. omega (arith, held, small, also)) (λ high. omega (arith, held, small, also)) (λ high. omega (arith, held, small, also))
    (λ high. omega (arith, held, small, also)) place

psw_shifted : (psw place : ℕ) → place < 8 → (place < 2 → ⊥) → bit_at (psw / 4) (place - 2) ≡ bit_at psw place
psw_shifted psw place = of_eight (λ n. (n < 2 → ⊥) → bit_at (psw / 4) (n - 2) ≡ bit_at psw n)
    (λ high. absurd (high (omega arith))) (λ high. absurd (high (omega arith))) (λ high. omega arith) (λ high. omega arith)
    (λ high. omega arith) (λ high. omega arith) (λ high. omega arith) (λ high. omega arith) place

-- WAYS

-- a cell that is cut, or stays, stands under what is left
left_under : (laws : KnownLaws) (framed : Bool) (whole : Form) (at : ℕ) (known : Known) (left : Form) (s : ChipState) (first : Option ChipState)
    → at < 256 → IsNormal 256 left → Has 256 left (slice_index s.ram at) → IsUnder framed known s first
    → IsUnder framed (with_left whole at known left) s first
left_under laws framed (Values xs) at known left s first is normal has under = with_set_under laws framed (Ram at) known left s first is normal has under
left_under laws framed (Run p) at known left s first is normal has under = under

ram_way : (laws : KnownLaws) (framed : Bool) (known : Known) (s : ChipState) (first : Option ChipState) (at place : ℕ) (bit : Bool)
    → IsUnder framed known s first → at < 256 → place < 8 → bit_at (slice_index s.ram at) place ≡ bit_of bit
    → Way framed (option_map (with_left (set_at (Ram at) known) at known) (tested place bit (set_at (Ram at) known))) s first
ram_way laws framed known s first at place bit under is low so =
    let v = slice_index s.ram at in
    let whole = set_at (Ram at) known in
    let has = set_has laws framed (Ram at) known s first is under in
    let found = tested_has laws whole place v bit (set_normal laws framed (Ram at) known under.form) has low so in (
      with_left whole at known found.0,
      ap (option_map (with_left whole at known)) found.1,
      left_under laws framed whole at known found.0 s first is found.2 (found.3 v has so) under,
    )

-- A, B, IE and IP: where the bits that each may be read with are those that the chip read, what is left of it stands for the
-- state
own_way : (laws : KnownLaws) (framed : Bool) (s : ChipState) (first : Option ChipState) (sfr : Sfr) (put : Byte → Known) (byte : Byte) (x place : ℕ) (bit : Bool)
    → IsNormal 256 byte.set → HoldsOfReads (option_map suspended_of first) byte s sfr → MayReadSfr s sfr x → place < 8
    → bit_at x place ≡ bit_of bit
    → ((y : ℕ) → MayReadSfr s sfr y → bit_at y place ≡ bit_at x place)
    → ((left : Byte) → IsNormal 256 left.set → left.entry ≡ byte.entry → HoldsOfReads (option_map suspended_of first) left s sfr → IsUnder framed (put left) s first)
    → Way framed (option_map put (byte_tested place bit byte)) s first
own_way laws framed s first sfr put byte x place bit normal holds may low so same under =
    let (left, is) = byte_left laws byte place x bit normal (holds x may).0 low so in (
      put left,
      ap (option_map put) is.is,
      under left is.normal is.entry (λ y reads. left_holds (option_map suspended_of first) place y bit byte left is (same y reads ∙ so) (holds y reads)),
    )

a_way : (laws : KnownLaws) (framed : Bool) (known : Known) (s : ChipState) (first : Option ChipState) (x place : ℕ) (bit : Bool)
    → IsUnder framed known s first
    → x ≡ s.a → place < 8 → bit_at x place ≡ bit_of bit
    → Way framed (option_map (λ (a : Byte). record known { a = a }) (byte_tested place bit known.a)) s first
a_way laws framed known s first x place bit under may low so =
    own_way laws framed s first Acc (λ (a : Byte). record known { a = a }) known.a x place bit under.form.a.normal
    (λ y is. subst (HoldsOfByte (option_map suspended_of first) known.a) (sym is) under.holds.parts.a) may low so (λ y is. ap (λ n. bit_at n place) (is ∙ sym may))
    (λ left normal entry reads. let form = byte_form framed known.a left normal entry under.form.a in let holds = reads s.a refl in assumption (under, form, holds))

b_way : (laws : KnownLaws) (framed : Bool) (known : Known) (s : ChipState) (first : Option ChipState) (x place : ℕ) (bit : Bool)
    → IsUnder framed known s first
    → x ≡ s.b → place < 8 → bit_at x place ≡ bit_of bit
    → Way framed (option_map (λ (b : Byte). record known { b = b }) (byte_tested place bit known.b)) s first
b_way laws framed known s first x place bit under may low so =
    own_way laws framed s first B (λ (b : Byte). record known { b = b }) known.b x place bit under.form.b.normal
    (λ y is. subst (HoldsOfByte (option_map suspended_of first) known.b) (sym is) under.holds.parts.b) may low so (λ y is. ap (λ n. bit_at n place) (is ∙ sym may))
    (λ left normal entry reads. let form = byte_form framed known.b left normal entry under.form.b in let holds = reads s.b refl in assumption (under, form, holds))

ie_way : (laws : KnownLaws) (framed : Bool) (known : Known) (s : ChipState) (first : Option ChipState) (x place : ℕ) (bit : Bool)
    → IsUnder framed known s first
    → MayReadSfr s Ie x → place < 8 → (place ≡ 6 → ⊥) → bit_at x place ≡ bit_of bit
    → Way framed (option_map (λ (ie : Byte). record known { ie = ie }) (byte_tested place bit known.ie)) s first
ie_way laws framed known s first x place bit under may low other so =
    let held : (y : ℕ) → MayReadSfr s Ie y → bit_at y place ≡ bit_at s.ie place =
    λ y (free, small, is). ap (λ n. bit_at n place) is ∙ ie_bit s.ie free place under.holds.state.ie_held small low other in
    own_way laws framed s first Ie (λ (ie : Byte). record known { ie = ie }) known.ie x place bit under.form.ie.normal under.holds.parts.ie may low so
    (λ y reads. held y reads ∙ sym (held x may))
    (λ left normal entry reads. let form = own_form framed ie_place 64 known.ie left normal entry under.form.ie in assumption (under, form, reads))

ip_way : (laws : KnownLaws) (framed : Bool) (known : Known) (s : ChipState) (first : Option ChipState) (x place : ℕ) (bit : Bool)
    → IsUnder framed known s first
    → MayReadSfr s Ip x → place < 8 → place < 6 → bit_at x place ≡ bit_of bit
    → Way framed (option_map (λ (ip : Byte). record known { ip = ip }) (byte_tested place bit known.ip)) s first
ip_way laws framed known s first x place bit under may low held_there so =
    let held : (y : ℕ) → MayReadSfr s Ip y → bit_at y place ≡ bit_at s.ip place =
    λ y (free, small, is). ap (λ n. bit_at n place) is ∙ ip_bit s.ip free place under.holds.state.ip low held_there in
    own_way laws framed s first Ip (λ (ip : Byte). record known { ip = ip }) known.ip x place bit under.form.ip.normal under.holds.parts.ip may low so
    (λ y reads. held y reads ∙ sym (held x may))
    (λ left normal entry reads. let form = own_form framed ip_place 192 known.ip left normal entry under.form.ip in assumption (under, form, reads))

seen_way : (framed : Bool) (known : Known) (s : ChipState) (first : Option ChipState) (place : ℕ) (bit : Bool)
    → IsUnder framed known s first → (place < 2 → ⊥)
    → place < 8 → bit_at s.psw place ≡ bit_of bit
    → Way framed (if may_be (slice_index_or known.psw.bits (place - 2) Either) bit then Some (with_seen_bit place bit known) else None) s first
seen_way framed known s first place bit under high low so =
    let bits = known.psw.bits in
    let t = slice_index_or bits (place - 2) Either in
    let long = under.form.bits in
    let agrees = under.holds.parts.psw.bits in
    let inside : place - 2 < length bits = omega (arith, long, low) in
    let at = psw_shifted s.psw place low high ∙ so in
    let may : may_be t bit ≡ true = flag_may t bit (subst (IsBit t) at (bits_at bits (place - 2) (s.psw / 4) agrees)) in
    let seen : IsBit (known_flag bit) (bit_of bit) = flag_bit (known_flag bit) bit (flag_known bit) in
    let put = bits_put bits (place - 2) (s.psw / 4) (known_flag bit) inside agrees (subst (IsBit (known_flag bit)) (sym at) seen) in
    let count = length-set bits (place - 2) (known_flag bit) ∙ long in
    (with_seen_bit place bit known, cond-true (may_be t bit) (Some (with_seen_bit place bit known)) None may, assumption (under, count, put))

status_way : (framed : Bool) (known : Known) (s : ChipState) (first : Option ChipState) (place x : ℕ) (bit : Bool)
    → IsUnder framed known s first → place < 8
    → MayReadSfr s Psw x → bit_at x place ≡ bit_of bit
    → Way framed (status_tested place bit known) s first
unfolding status_tested
status_way framed known s first place x bit under low (free, small, is) so =
    cond_both (nat_lt place 2) (Some known) (if may_be (slice_index_or known.psw.bits (place - 2) Either) bit then Some (with_seen_bit place bit known) else None) (λ (cut : Option Known). Way framed cut s first)
    (λ e. (known, refl, under))
    (λ e. let high : place < 2 → ⊥ = λ less. grind (arith, nat_tests, e, less) in
    let odd = parity_below s.a in
    let held = psw_bit s.psw free (parity s.a) place under.holds.state.psw_held small odd low high in
    seen_way framed known s first place bit under high low (sym held ∙ ap (λ n. bit_at n place) (sym is) ∙ so))

register_way : (laws : KnownLaws) (framed : Bool) (known : Known) (s : ChipState) (first : Option ChipState) (sfr : Sfr) (x place : ℕ) (bit : Bool)
    → IsUnder framed known s first → MayReadSfr s sfr x → place < 8 → bit_at x place ≡ bit_of bit
    → Way framed (register_tested sfr place bit known) s first
unfolding register_tested
register_way laws framed known s first Acc x place bit under may low so = a_way laws framed known s first x place bit under may low so
register_way laws framed known s first B x place bit under may low so = b_way laws framed known s first x place bit under may low so
register_way laws framed known s first Psw x place bit under may low so = status_way framed known s first place x bit under low may so
register_way laws framed known s first Ie x place bit under may low so =
    cond_both (place == 6) (Some known) (option_map (λ (ie : Byte). record known { ie = ie }) (byte_tested place bit known.ie)) (λ (cut : Option Known). Way framed cut s first)
    (λ e. (known, refl, under)) (λ e. ie_way laws framed known s first x place bit under may low (λ same. grind (arith, nat_tests, e, same)) so)
register_way laws framed known s first Ip x place bit under may low so =
    cond_both (nat_lt 5 place) (Some known) (option_map (λ (ip : Byte). record known { ip = ip }) (byte_tested place bit known.ip)) (λ (cut : Option Known). Way framed cut s first)
    (λ e. (known, refl, under)) (λ e. let below : place < 6 = grind (arith, nat_tests, e) in ip_way laws framed known s first x place bit under may low below so)
register_way laws framed known s first Sp x place bit under may low so = (known, refl, under)
register_way laws framed known s first Dpl x place bit under may low so = (known, refl, under)
register_way laws framed known s first Dph x place bit under may low so = (known, refl, under)
register_way laws framed known s first Other x place bit under may low so = (known, refl, under)

pub bit_way : (laws : KnownLaws) (framed : Bool) (known : Known) (s : ChipState) (first : Option ChipState) (address : Address) (x place : ℕ) (bit : Bool)
    → IsUnder framed known s first → IsPlace address → MayRead s address x → place < 8 → bit_at x place ≡ bit_of bit
    → (way : Known) × (bit_tested address place bit known ≡ Some way) × IsUnder framed way s first
unfolding bit_tested
bit_way laws framed known s first (InRam at) x place bit under is may low so = ram_way laws framed known s first at place bit under is low (ap (λ n. bit_at n place) (sym may) ∙ so)
bit_way laws framed known s first (InSfr at) x place bit under is may low so = register_way laws framed known s first (sfr_at at) x place bit under may low so

-- FORM

status_form : (framed : Bool) (known way : Known) (place : ℕ) (bit : Bool) → IsKnown framed known
    → status_tested place bit known ≡ Some way → IsKnown framed way
unfolding status_tested
status_form framed known way place bit form e =
    let bits = known.psw.bits in
    let t = slice_index_or bits (place - 2) Either in
    let seen = with_seen_bit place bit known in
    cond_both (nat_lt place 2) (Some known) (if may_be t bit then Some seen else None) (λ (cut : Option Known). cut ≡ Some way → IsKnown framed way)
    (λ low there. subst (IsKnown framed) (same_Some known way there) form)
    (λ low. cond_both (may_be t bit) (Some seen) None (λ (cut : Option Known). cut ≡ Some way → IsKnown framed way)
    (λ may there. subst (IsKnown framed) (same_Some seen way there) (let count = length-set bits (place - 2) (known_flag bit) ∙ form.bits in assumption (form, count)))
    (λ may there. absurd (cc))) e

own_way_form : (laws : KnownLaws) (framed : Bool) (way : Known) (put : Byte → Known) (byte : Byte) (place : ℕ) (bit : Bool)
    → IsNormal 256 byte.set
    → ((left : Byte) → IsNormal 256 left.set → left.entry ≡ byte.entry → IsKnown framed (put left))
    → option_map put (byte_tested place bit byte) ≡ Some way → IsKnown framed way
own_way_form laws framed way put byte place bit normal each e =
    let (left, cut, same) = mapped put (byte_tested place bit byte) way e in
    let (left_normal, entry) = byte_normal laws byte left place bit normal cut in
    subst (IsKnown framed) same (each left left_normal entry)

register_form : (laws : KnownLaws) (framed : Bool) (known way : Known) (sfr : Sfr) (place : ℕ) (bit : Bool) → IsKnown framed known
    → register_tested sfr place bit known ≡ Some way → IsKnown framed way
unfolding register_tested
register_form laws framed known way Acc place bit form e =
    own_way_form laws framed way (λ (a : Byte). record known { a = a }) known.a place bit form.a.normal
    (λ left normal entry. let is = byte_form framed known.a left normal entry form.a in assumption (form, is)) e
register_form laws framed known way B place bit form e =
    own_way_form laws framed way (λ (b : Byte). record known { b = b }) known.b place bit form.b.normal
    (λ left normal entry. let is = byte_form framed known.b left normal entry form.b in assumption (form, is)) e
register_form laws framed known way Psw place bit form e = status_form framed known way place bit form e
register_form laws framed known way Ie place bit form e =
    let with = λ (ie : Byte). record known { ie = ie } in
    cond_both (place == 6) (Some known) (option_map with (byte_tested place bit known.ie)) (λ (cut : Option Known). cut ≡ Some way → IsKnown framed way)
    (λ six there. subst (IsKnown framed) (same_Some known way there) form)
    (λ six. own_way_form laws framed way with known.ie place bit form.ie.normal
    (λ left normal entry. let is = own_form framed ie_place 64 known.ie left normal entry form.ie in assumption (form, is))) e
register_form laws framed known way Ip place bit form e =
    let with = λ (ip : Byte). record known { ip = ip } in
    cond_both (nat_lt 5 place) (Some known) (option_map with (byte_tested place bit known.ip)) (λ (cut : Option Known). cut ≡ Some way → IsKnown framed way)
    (λ high there. subst (IsKnown framed) (same_Some known way there) form)
    (λ high. own_way_form laws framed way with known.ip place bit form.ip.normal
    (λ left normal entry. let is = own_form framed ip_place 192 known.ip left normal entry form.ip in assumption (form, is))) e
register_form laws framed known way Sp place bit form e = subst (IsKnown framed) (same_Some known way e) form
register_form laws framed known way Dpl place bit form e = subst (IsKnown framed) (same_Some known way e) form
register_form laws framed known way Dph place bit form e = subst (IsKnown framed) (same_Some known way e) form
register_form laws framed known way Other place bit form e = subst (IsKnown framed) (same_Some known way e) form

left_form : (laws : KnownLaws) (framed : Bool) (whole : Form) (at : ℕ) (known : Known) (left : Form)
    → at < 256 → IsNormal 256 left → IsKnown framed known → IsKnown framed (with_left whole at known left)
left_form laws framed (Values xs) at known left is normal form = with_set_form laws framed (Ram at) known left is normal form
left_form laws framed (Run p) at known left is normal form = form

ram_form : (laws : KnownLaws) (framed : Bool) (known way : Known) (at place : ℕ) (bit : Bool) → IsKnown framed known → at < 256
    → option_map (with_left (set_at (Ram at) known) at known) (tested place bit (set_at (Ram at) known)) ≡ Some way → IsKnown framed way
ram_form laws framed known way at place bit form is e =
    let whole = set_at (Ram at) known in
    let (left, cut, same) = mapped (with_left whole at known) (tested place bit whole) way e in
    let normal = tested_normal laws whole left place bit (set_normal laws framed (Ram at) known form) cut in
    subst (IsKnown framed) same (left_form laws framed whole at known left is normal form)

pub bit_way_form : (laws : KnownLaws) (framed : Bool) (known way : Known) (address : Address) (place : ℕ) (bit : Bool)
    → IsKnown framed known → IsPlace address
    → place < 8 → bit_tested address place bit known ≡ Some way → IsKnown framed way
unfolding bit_tested
bit_way_form laws framed known way (InRam at) place bit form is low e = ram_form laws framed known way at place bit form is e
bit_way_form laws framed known way (InSfr at) place bit form is low e = register_form laws framed known way (sfr_at at) place bit form e
