-- A bit of a byte, of PSW, and CY.
use Rattle.std.proofs.Common.{◌≡◌, ℕ, zero, suc, ◌+◌, ◌-◌, ◌*◌, ◌/◌, ◌%◌, ◌^◌, ◌<◌, ◌≤◌, ◌⊎◌, inl, inr, Bool, min, max, Option, None, List, [], ◌∷◌, length, set, refl, sym, ap, ◌∙◌, subst, arith, bit_and, bit_or}
use Rattle.std.specs.Int.{bit_at}
use Rattle.std.specs.Int.Bits.{or_add_and}
use Rattle.std.specs.Option.{option_map}
use Rattle.std.proofs.Math.Nat.{pow-suc}
use Rattle.std.proofs.lemmas.List.{length-set}
use Rattle.std.proofs.lemmas.List.FromFn.{length-map-range_with_len}
use Rattle.std.proofs.lemmas.Nat.{and_comm, and_le_l, and-not, pow_below}
use Rattle.std.proofs.lemmas.Nat.Bits.{and_pow, bit_at-suc}
use Rattle.entry_value.specs.declared.byte.Byte.{Byte}
use Rattle.entry_value.specs.declared.word.Entry.{Entry}
use Rattle.entry_value.specs.Words.{Suspended, IsFromEntry, HoldsOfByte}
use Rattle.irq_frames.specs.KnownLaws.{KnownLaws}
use Rattle.value_set.specs.declared.form.Form.{Form}
use Rattle.value_set.specs.Form.{Has, IsNormal}
use Rattle.value_set.specs.Summing.{single}
use Rattle.value_bits.specs.declared.tri.Tri.{Tri}
use Rattle.value_bits.specs.BitFacts.{and_bit, bit_below, bit_not, bits_at, or_bit}
use Rattle.value_bits.specs.Bits.{IsBit, Agrees, from_bits, known_bit, known_bits, tri_and, tri_not, tri_or}
use Rattle.mcs51_decode.specs.declared.instr.BitOperation.{BitOperation}
use Rattle.mcs51_decode.specs.declared.instr.BitOperation.TheVariants as bit
use Rattle.mcs51_decode.specs.declared.instr.CarryByBit.{CarryByBit}
use Rattle.mcs51_decode.specs.declared.instr.CarryByBit.TheVariants as by_bit
use Rattle.mcs51_decode.specs.declared.instr.CarryOperation.{CarryOperation}
use Rattle.mcs51_decode.specs.declared.instr.CarryOperation.TheVariants as carry
use Rattle.mcs51_chip.specs.declared.place.Sfr.TheVariants.{Psw}
use Rattle.mcs51_chip.specs.declared.state.ChipState.{ChipState}
use Rattle.mcs51_chip.specs.Arithmetic.{bit_after, carry_after, carry_with}
use Rattle.mcs51_chip.specs.Leading.{MayReadSfr}
use Rattle.mcs51_chip.specs.NumberFacts.{bit_after_below, bit_put}
use Rattle.mcs51_chip.specs.Registers.{carry_of, with_bit, with_carry, write_sfr}
use Rattle.mcs51_chip.specs.State.{IsChipState}
use Rattle.mcs51_state.specs.declared.status.Status.{Status}
use Rattle.mcs51_state.specs.FormFacts.{and_form, or_form}
use Rattle.mcs51_state.specs.Forms.{IsByte, IsRelation}
use Rattle.mcs51_state.specs.Holding.{HoldsOfStatus}
use Rattle.mcs51_state.specs.Places.{suspended_of}
use Rattle.mcs51_results.specs.BitRules.{bit_stays}
use Rattle.mcs51_results.specs.Holding.{IsResult, IsStatus}
use Rattle.mcs51_results.specs.Results.{carry_in}
use Rattle.mcs51_results.specs.StatusBytes.{all_bits, upper, bit_of_set, bit_of_status, carry_changed, carry_joined, carry_made, carry_bit_made, bit_made, bit_entry, bit_answer, bit_carries, bits_made, byte_with_bit, status_with_bit}
use Rattle.mcs51_results.proofs.SetLemmas.{combined, zero_is, chosen_is, member}
use Rattle.mcs51_results.proofs.StatusLemmas.{carry_bit, carried_holds}
use Rattle.mcs51_results.proofs.Accumulations.{byte_is}
use Rattle.mcs51_results.proofs.StatusWrites.{own_holds, own_form, own_is, read_entry, read_quarter, status_agrees, upper_agree, write_quarter}

-- CY

carry_after_is : (done : CarryOperation) (c : Tri) (x : ℕ) → IsBit c x → IsBit (carry_changed done c) (carry_after done x)
carry_after_is carry.Cpl c x h = bit_not c x h
carry_after_is carry.Clr c x h = refl
carry_after_is carry.Setb c x h = refl

pub carry_holds : (first : Option Suspended) (done : CarryOperation) (psw : Status) (s : ChipState) → HoldsOfStatus first psw s.psw
    → HoldsOfStatus first (carry_made done psw) (with_carry (carry_after done (carry_of s)) s).psw
carry_holds first done psw s holds =
    carried_holds first psw s.psw (carry_after done (carry_of s)) (carry_changed done (carry_in psw)) holds (carry_after_is done (carry_in psw) (carry_of s) (carry_bit first psw s.psw holds))

-- of two bits
small_bits : (x : ℕ) → x < 2 → (x ≡ 0) ⊎ (x ≡ 1)
small_bits zero h = inl refl
small_bits (suc zero) h = inr refl
small_bits (suc (suc x)) h = absurd (omega (arith, h))

and_small : (x y : ℕ) → (x ≡ 0) ⊎ (x ≡ 1) → (y ≡ 0) ⊎ (y ≡ 1) → bit_and x y ≡ min x y
and_small x y (inl p) (inl q) = rw (p, q) refl
and_small x y (inl p) (inr q) = rw (p, q) refl
and_small x y (inr p) (inl q) = rw (p, q) refl
and_small x y (inr p) (inr q) = rw (p, q) refl

or_small : (x y : ℕ) → (x ≡ 0) ⊎ (x ≡ 1) → (y ≡ 0) ⊎ (y ≡ 1) → bit_or x y ≡ max x y
or_small x y (inl p) (inl q) = rw (p, q) refl
or_small x y (inl p) (inr q) = rw (p, q) refl
or_small x y (inr p) (inl q) = rw (p, q) refl
or_small x y (inr p) (inr q) = rw (p, q) refl

both_is : (c b : Tri) (x y : ℕ) → IsBit c x → IsBit b y → IsBit (tri_and c b) (bit_and x y)
both_is c b x y h k = subst (IsBit (tri_and c b)) (sym (and_small x y (small_bits x (bit_below c x h)) (small_bits y (bit_below b y k)))) (and_bit c b x y h k)

some_is : (c b : Tri) (x y : ℕ) → IsBit c x → IsBit b y → IsBit (tri_or c b) (bit_or x y)
some_is c b x y h k = subst (IsBit (tri_or c b)) (sym (or_small x y (small_bits x (bit_below c x h)) (small_bits y (bit_below b y k)))) (or_bit c b x y h k)

carry_with_is : (done : CarryByBit) (c b : Tri) (x y : ℕ) → IsBit c x → IsBit b y → IsBit (carry_joined done c b) (carry_with done x y)
carry_with_is by_bit.Orl c b x y h k = some_is c b x y h k
carry_with_is by_bit.Anl c b x y h k = both_is c b x y h k
carry_with_is by_bit.OrlComplement c b x y h k = some_is c (tri_not b) x (1 - y) h (bit_not b y k)
carry_with_is by_bit.AnlComplement c b x y h k = both_is c (tri_not b) x (1 - y) h (bit_not b y k)
carry_with_is by_bit.Mov c b x y h k = k

pub carry_bit_holds : (first : Option Suspended) (done : CarryByBit) (psw : Status) (b : Tri) (y : ℕ) (s : ChipState)
    → HoldsOfStatus first psw s.psw → IsBit b y
    → HoldsOfStatus first (carry_bit_made done b psw) (with_carry (carry_with done (carry_of s) y) s).psw
carry_bit_holds first done psw b y s holds is =
    carried_holds first psw s.psw (carry_with done (carry_of s) y) (carry_joined done (carry_in psw) b) holds (carry_with_is done (carry_in psw) b (carry_of s) y (carry_bit first psw s.psw holds) is)

-- A BIT OF A NUMBER

bit_is : (done : BitOperation) (c b : Tri) (x y : ℕ) → IsBit c x → IsBit b y → IsBit (bit_made done c b) (bit_after done x y)
bit_is bit.MovCarry c b x y h k = h
bit_is bit.Cpl c b x y h k = bit_not b y k
bit_is bit.Clr c b x y h k = refl
bit_is bit.Setb c b x y h k = refl

-- the weight of a bit is within its number
weight_within : (v n : ℕ) → bit_at v n * 2 ^ n ≤ v
weight_within v n = let e = and_pow v n in let le = and_le_l v (2 ^ n) in omega (arith, e, le)

-- of the halves, p and z are the bit's weight and its new one
halved : (v p z : ℕ) → p ≤ v / 2 → (v % 2 ≡ (v - p * 2 + z * 2) % 2) × (v / 2 - p + z ≡ (v - p * 2 + z * 2) / 2)
halved v p z within = (omega (arith, within), omega (arith, within))

double : (b n : ℕ) → b * 2 ^ n * 2 ≡ b * 2 ^ suc n
double b n = let power : 2 ^ suc n ≡ 2 ^ n * 2 = pow-suc 2 n in grind (arith, power)

set_agrees : (bits : List Tri) (v n z : ℕ) (t : Tri) → n < length bits → Agrees bits v → IsBit t z → Agrees (set bits n t) (with_bit v n z)
set_agrees [] v n z t lt h is = absurd (omega (arith, lt))
set_agrees (b ∷ bs) v zero z t lt h is =
    let small = bit_below t z is in
    let low : z ≡ (v - bit_at v 0 * 2 ^ 0 + z * 2 ^ 0) % 2 = omega (arith, small) in
    let high : v / 2 ≡ (v - bit_at v 0 * 2 ^ 0 + z * 2 ^ 0) / 2 = omega (arith, small) in
    (subst (IsBit t) low is, subst (Agrees bs) high h.1)
set_agrees (b ∷ bs) v (suc n) z t lt h is =
    let rest = set_agrees bs (v / 2) n z t (omega (arith, lt)) h.1 is in
    let (low, high) = halved v (bit_at (v / 2) n * 2 ^ n) (z * 2 ^ n) (weight_within (v / 2) n) in
    let old : bit_at (v / 2) n * 2 ^ n * 2 ≡ bit_at v (suc n) * 2 ^ suc n = double (bit_at (v / 2) n) n ∙ ap (λ b. b * 2 ^ suc n) (sym (bit_at-suc v n)) in
    let same : v - bit_at (v / 2) n * 2 ^ n * 2 + z * 2 ^ n * 2 ≡ with_bit v (suc n) z = ap (λ p. v - p + z * 2 ^ n * 2) old ∙ ap (λ p. v - bit_at v (suc n) * 2 ^ suc n + p) (double z n) in
    (subst (IsBit b) (low ∙ ap (λ m. m % 2) same) h.0, subst (Agrees (set bs n t)) (high ∙ ap (λ m. m / 2) same) rest)

-- CLR and SETB as logic with a constant
weight_below : (n : ℕ) → n < 8 → 2 ^ n < 256
weight_below n lt = pow_below n 8 lt

clears : (x n : ℕ) → x < 256 → n < 8 → bit_and x (255 - 2 ^ n) ≡ with_bit x n 0
clears x n small lt =
    let whole = and-not 8 (2 ^ n) x (weight_below n lt) small in
    let turn = and_comm x (255 - 2 ^ n) in
    let other = and_comm x (2 ^ n) in
    let weight = and_pow x n in
    let none : 0 * 2 ^ n ≡ 0 = omega arith in
    omega (arith, whole, turn, other, weight, none)

sets : (x n : ℕ) → bit_or x (2 ^ n) ≡ with_bit x n 1
sets x n =
    let both = or_add_and x (2 ^ n) in
    let weight = and_pow x n in
    let within = weight_within x n in
    let one : 1 * 2 ^ n ≡ 2 ^ n = omega arith in
    omega (arith, both, weight, within, one)

-- RELATIONS

pub bit_entry_holds : (laws : KnownLaws) (first : Option Suspended) (done : BitOperation) (n : ℕ) (entry : Option Entry) (x c b : ℕ)
    → n < 8 → x < 256 → IsFromEntry first entry x
    → IsFromEntry first (bit_entry done n entry) (with_bit x n (bit_after done c b))
bit_entry_holds laws first bit.MovCarry n entry x c b lt small holds = tt
bit_entry_holds laws first bit.Cpl n entry x c b lt small holds = tt
bit_entry_holds laws first bit.Clr n entry x c b lt small holds = subst (IsFromEntry first (bit_entry bit.Clr n entry)) (clears x n small lt) (laws.values.entries.and first entry x (255 - 2 ^ n) holds)
bit_entry_holds laws first bit.Setb n entry x c b lt small holds = subst (IsFromEntry first (bit_entry bit.Setb n entry)) (sets x n) (laws.values.entries.or first entry x (2 ^ n) holds)

pub bit_entry_form : (framed : Bool) (done : BitOperation) (n : ℕ) (entry : Option Entry) → n < 8
    → IsRelation framed entry → IsRelation framed (bit_entry done n entry)
bit_entry_form framed bit.MovCarry n entry lt form = tt
bit_entry_form framed bit.Cpl n entry lt form = tt
bit_entry_form framed bit.Clr n entry lt form = and_form framed (255 - 2 ^ n) entry form
bit_entry_form framed bit.Setb n entry lt form = or_form framed (2 ^ n) entry (weight_below n lt) form

-- A BIT OF A BYTE

known_length : (w : ℕ) (set : Form) → length (known_bits w set) ≡ w
known_length w set = length-map-range_with_len (λ place. known_bit w place set) 0 w

abbrev taken : BitOperation → ℕ → ℕ
taken bit.MovCarry c = c
taken bit.Cpl c = 0
taken bit.Clr c = 0
taken bit.Setb c = 0

taken_is : (laws : KnownLaws) (done : BitOperation) (c : Tri) (x : ℕ) → IsBit c x → IsResult 256 (bit_carries done c) (taken done x)
taken_is laws bit.MovCarry c x h = chosen_is laws x c h
taken_is laws bit.Cpl c x h = zero_is laws
taken_is laws bit.Clr c x h = zero_is laws
taken_is laws bit.Setb c x h = zero_is laws

rest_below : (c : ℕ) → c < 2 → c % 2 ≡ c
rest_below c h = omega (arith, h)

after_taken : (done : BitOperation) (c b : ℕ) → c < 2 → bit_after done (taken done c % 2) b ≡ bit_after done c b
after_taken bit.MovCarry c b h = rest_below c h
after_taken bit.Cpl c b h = refl
after_taken bit.Clr c b h = refl
after_taken bit.Setb c b h = refl

place_below : (at : ℕ) → at % 8 < 8
place_below at = omega arith

byte_set_is : (laws : KnownLaws) (done : BitOperation) (at : ℕ) (t : Tri) (set : Form) (x c : ℕ) → IsResult 256 set x → IsBit t c
    → IsResult 256 (byte_with_bit done at t (record { set = set; entry = None })).set (with_bit x (at % 8) (bit_after done c (bit_at x (at % 8))))
byte_set_is laws done at t set x c is bit =
    let n = at % 8 in
    let agrees = laws.bits.known 8 x set is.normal is.has in
    let long = known_length 8 set in
    let old : IsBit (bit_of_set set n) (bit_at x n) = bits_at (known_bits 8 set) n x agrees in
    let new = bits_made done n t set in
    let count : length new ≡ 8 = length-set (known_bits 8 set) n (bit_made done t (bit_of_set set n)) ∙ long in
    let value = with_bit x n (bit_after done c (bit_at x n)) in
    let same : bit_answer done at x 0 (taken done c) ≡ value = ap (λ b. with_bit x n b) (after_taken done c (bit_at x n) (bit_below t c bit)) in
    let made : Agrees new value = set_agrees (known_bits 8 set) x n (bit_after done c (bit_at x n)) (bit_made done t (bit_of_set set n)) (omega (arith, long, place_below at)) agrees (bit_is done t (bit_of_set set n) c (bit_at x n) bit old) in
    let rest : IsResult 256 (from_bits 8 new) value = record { normal = laws.bits.from_normal 8 new count; has = laws.bits.from 8 value new count made } in
    subst (IsResult 256 (byte_with_bit done at t (record { set = set; entry = None })).set) same
    (combined laws (bit_answer done at) set (single 0) (bit_carries done t) (from_bits 8 new) x 0 (taken done c) (bit_stays done at) is (zero_is laws) (taken_is laws done t c bit)
    (subst (IsResult 256 (from_bits 8 new)) (sym same) rest))

pub byte_bit_holds : (laws : KnownLaws) (framed : Bool) (first : Option Suspended) (done : BitOperation) (at : ℕ) (t : Tri) (byte : Byte) (x c : ℕ)
    → IsByte framed byte → HoldsOfByte first byte x → IsBit t c
    → HoldsOfByte first (byte_with_bit done at t byte) (with_bit x (at % 8) (bit_after done c (bit_at x (at % 8))))
byte_bit_holds laws framed first done at t byte x c form holds bit =
    let is = byte_is framed first byte x form holds in (
      (byte_set_is laws done at t byte.set x c is bit).has,
      bit_entry_holds laws first done (at % 8) byte.entry x c (bit_at x (at % 8)) (place_below at) (laws.sets.below 256 x byte.set is.normal is.has) holds.1,
    )

pub byte_bit_form : (laws : KnownLaws) (framed : Bool) (done : BitOperation) (at : ℕ) (t : Tri) (byte : Byte)
    → IsByte framed byte → IsByte framed (byte_with_bit done at t byte)
byte_bit_form laws framed done at t byte form =
    let (x, is) = member laws 256 byte.set form.normal in
    let (c, bit) = laws.bits.bit_some t in
    record { normal = (byte_set_is laws done at t byte.set x c is bit).normal; entry = bit_entry_form framed done (at % 8) byte.entry (place_below at) form.entry }

pub bit_known : (laws : KnownLaws) (at : ℕ) (set : Form) (x : ℕ) → IsNormal 256 set → Has 256 set x
    → IsBit (bit_of_set set (at % 8)) (bit_at x (at % 8))
bit_known laws at set x normal has = bits_at (known_bits 8 set) (at % 8) x (laws.bits.known 8 x set normal has)

-- A BIT OF PSW

pub status_bit_known : (first : Option Suspended) (at : ℕ) (psw : Status) (s : ChipState) (x : ℕ) → IsChipState s
    → HoldsOfStatus first psw s.psw → MayReadSfr s Psw x → IsBit (bit_of_status psw (at % 8)) (bit_at x (at % 8))
status_bit_known first at psw s x state holds may = bits_at (all_bits psw) (at % 8) x (status_agrees first psw s x state holds may)

pub status_bit_holds : (laws : KnownLaws) (framed : Bool) (first : Option ChipState) (done : BitOperation) (at : ℕ) (psw : Status) (s : ChipState) (x : ℕ)
    → IsChipState s → IsStatus framed psw
    → HoldsOfStatus (option_map suspended_of first) psw s.psw → MayReadSfr s Psw x
    → HoldsOfStatus (option_map suspended_of first) (status_with_bit done at psw) (write_sfr Psw (with_bit x (at % 8) (bit_after done (carry_of s) (bit_at x (at % 8)))) s).psw
status_bit_holds laws framed first done at psw s x state form holds may =
    let under = option_map suspended_of first in
    let n = at % 8 in
    let (same, small) = read_quarter s x state may in
    let agrees = status_agrees under psw s x state holds may in
    let old = bits_at (all_bits psw) n x agrees in
    let t = bit_made done (carry_in psw) (bit_of_status psw n) in
    let c = bit_after done (carry_of s) (bit_at x n) in
    let few = carry_bit under psw s.psw holds in
    let long : length (all_bits psw) ≡ 8 = refl in
    let made : Agrees (set (all_bits psw) n t) (with_bit x n c) =
    set_agrees (all_bits psw) x n c t (omega (arith, long, place_below at)) agrees (bit_is done (carry_in psw) (bit_of_status psw n) (carry_of s) (bit_at x n) few old) in
    let below = bit_put x n c (place_below at) small (bit_after_below done (carry_of s) (bit_at x n) (bit_below (carry_in psw) (carry_of s) few)) in
    record {
      bits = subst (Agrees (upper (set (all_bits psw) n t))) (write_quarter (with_bit x n c)) (upper_agree (set (all_bits psw) n t) (with_bit x n c) below made);
      entry = own_holds framed first (bit_entry done n psw.entry) (with_bit x n c) (bit_entry_form framed done n psw.entry (place_below at) (own_is framed psw.entry form.entry))
          (bit_entry_holds laws under done n psw.entry x (carry_of s) (bit_at x n) (place_below at) small (read_entry framed first psw s x state form holds may));
    }

pub status_bit_form : (framed : Bool) (done : BitOperation) (at : ℕ) (psw : Status) → IsStatus framed psw
    → IsStatus framed (status_with_bit done at psw)
status_bit_form framed done at psw form = record { bits = refl; entry = own_form framed (bit_entry done (at % 8) psw.entry) (bit_entry_form framed done (at % 8) psw.entry (place_below at) (own_is framed psw.entry form.entry)) }
