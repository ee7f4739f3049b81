-- PSW read and written as a byte.
use Rattle.std.proofs.Common.{◌≡◌, ℕ, ◌+◌, ◌*◌, ◌/◌, ◌%◌, ◌^◌, ◌<◌, ◌==◌, Bool, true, false, Option, None, Some, List, refl, sym, ap, ◌∙◌, subst, arith, bit_and, bit_or}
use Rattle.std.specs.Prelude.{slice_index_or, if◌then◌else◌}
use Rattle.std.specs.Int.{bit_at}
use Rattle.std.specs.Int.Bits.{or_zero_r, and_zero_l}
use Rattle.std.specs.Option.{option_map}
use Rattle.std.proofs.Math.Path.{ap₂}
use Rattle.std.proofs.lemmas.Bool.{eqb-true}
use Rattle.std.proofs.lemmas.Nat.{and_le_l, and_mask, and_mod, and_or_self, and_shr, or_lt, or_mod, or_shr, shr-shr, xor_lt}
use Rattle.std.proofs.lemmas.Nat.Bits.{and_high_mask, bit_at_and, bit_at_or, bit_at_xor}
use Rattle.entry_value.specs.declared.word.Entry.{Entry}
use Rattle.entry_value.specs.Words.{IsFromEntry, Suspended}
use Rattle.irq_frames.specs.KnownLaws.{KnownLaws}
use Rattle.value_bits.specs.declared.tri.Logic.{Logic as Bitwise}
use Rattle.value_bits.specs.declared.tri.Logic.TheVariants.{And, Or, Xor}
use Rattle.value_bits.specs.declared.tri.Tri.{Tri}
use Rattle.value_bits.specs.declared.tri.Tri.TheVariants.{Either}
use Rattle.value_bits.specs.BitFacts.{and_bit, bits_at, or_bit, xor_bit}
use Rattle.value_bits.specs.Bits.{IsBit, Agrees, known_bits, logic_of, tri_and, tri_logic, tri_or, tri_xor}
use Rattle.mcs51_decode.specs.declared.instr.Logic.{Logic}
use Rattle.mcs51_chip.specs.declared.place.Sfr.TheVariants.{Psw}
use Rattle.mcs51_chip.specs.declared.state.ChipState.{ChipState}
use Rattle.mcs51_chip.specs.Arithmetic.{masked}
use Rattle.mcs51_chip.specs.Leading.{MayReadSfr}
use Rattle.mcs51_chip.specs.NumberFacts.{parity_below}
use Rattle.mcs51_chip.specs.Registers.{parity, write_sfr}
use Rattle.mcs51_chip.specs.State.{IsChipState}
use Rattle.mcs51_state.specs.declared.status.Status.{Status}
use Rattle.mcs51_state.specs.Forms.{IsOwnRelation, IsRelation}
use Rattle.mcs51_state.specs.Holding.{HoldsOfStatus}
use Rattle.mcs51_state.specs.Places.{is_place, psw_place, suspended_of}
use Rattle.mcs51_results.specs.declared.made.Operand.{Operand}
use Rattle.mcs51_results.specs.declared.made.Operand.TheVariants.{Constant, Among}
use Rattle.mcs51_results.specs.Holding.{AreOperands, IsOperand, IsStatus}
use Rattle.mcs51_results.specs.Results.{bit_in, bitwise, masked_entry, set_of}
use Rattle.mcs51_results.specs.StatusBytes.{all_bits, six, upper, bit_of_set, written_entry, masked_status}
use Rattle.mcs51_results.proofs.SetLemmas.{operand_is}
use Rattle.mcs51_results.proofs.StatusLemmas.{six_agree}
use Rattle.mcs51_results.proofs.Accumulations.{entry_holds, entry_form, masked_logic}

-- BITS

pub upper_place : (v p : ℕ) → bit_at v (2 + p) ≡ v / 4 / 2 ^ p % 2
upper_place v p = ap (λ n. n % 2) (sym (shr-shr v 2 p))

pub six_of : (f : ℕ → Tri) (v : ℕ) → v < 64 → ((p : ℕ) → IsBit (f p) (v / 2 ^ p % 2)) → Agrees (six f) v
six_of f v small each =
    six_agree (f 0) (f 1) (f 2) (f 3) (f 4) (f 5) v small (subst (IsBit (f 0)) (omega arith) (each 0)) (subst (IsBit (f 1)) (omega arith) (each 1)) (each 2) (each 3) (each 4) (each 5)

pub upper_agree : (bits : List Tri) (v : ℕ) → v < 256 → Agrees bits v → Agrees (upper bits) (v / 4)
upper_agree bits v small h =
    six_of (λ place. slice_index_or bits (2 + place) Either) (v / 4) (omega (arith, small)) (λ p. subst (IsBit (slice_index_or bits (2 + p) Either)) (upper_place v p) (bits_at bits (2 + p) v h))

-- what is written to PSW
pub write_quarter : (v : ℕ) → v / 4 ≡ v / 4 * 4 / 4
write_quarter v = omega arith

read_agrees : (psw : Status) (p bit one : ℕ) → p < 256 → p % 4 ≡ 0 → bit < 2 → one < 2
    → Agrees psw.bits (p / 4) → Agrees (all_bits psw) (p + 2 * bit + one)
read_agrees psw p bit one small held few less agrees =
    let high : p / 4 ≡ (p + 2 * bit + one) / 2 / 2 = omega (arith, held, few, less) in
    let rest = six_of (bit_in psw) (p / 4) (omega (arith, small)) (λ place. bits_at psw.bits place (p / 4) agrees) in
    (omega arith, (omega arith, subst (Agrees (six (bit_in psw))) high rest))

-- RELATIONS

masked_four : (n : ℕ) → n < 65536 → bit_and n 65532 ≡ n / 4 * 4
masked_four n small = and_high_mask 16 2 (omega arith) n small

-- words that differ in the low two bits alone
same_held : (w y : ℕ) → w < 65536 → y < 4 → bit_and (w / 4 * 4 + y) 65532 ≡ bit_and w 65532
same_held w y small few =
    let same : (w / 4 * 4 + y) / 4 * 4 ≡ w / 4 * 4 = omega (arith, few) in
    masked_four (w / 4 * 4 + y) (omega (arith, small, few)) ∙ same ∙ sym (masked_four w small)

-- what masks make of a word, in its low two bits and above them
low_masked : (w and or : ℕ) → bit_or (bit_and w and) or % 4 ≡ bit_or (bit_and (w % 4) (and % 4)) (or % 4)
low_masked w and or = or_mod (bit_and w and) or 2 ∙ ap (λ n. bit_or n (or % 4)) (and_mod w and 2)

high_masked : (w and or : ℕ) → bit_or (bit_and w and) or / 4 ≡ bit_or (bit_and (w / 4) (and / 4)) (or / 4)
high_masked w and or = or_shr (bit_and w and) or 2 ∙ ap (λ n. bit_or n (or / 4)) (and_shr w and 2)

-- the own relation of PSW, with other bits that aren't held
wider_word : (w and or y : ℕ) → bit_and and 3 ≡ 3 → bit_and or 3 ≡ 0 → y < 4
    → bit_or (bit_and w and) or / 4 * 4 + y ≡ bit_or (bit_and (w / 4 * 4 + y) and) or
wider_word w and or y ands ors few =
    let wider = w / 4 * 4 + y in
    let all : and % 4 ≡ 3 = sym (and_mask and 2) ∙ ands in
    let none : or % 4 ≡ 0 = sym (and_mask or 2) ∙ ors in
    let over : wider % 4 ≡ y = omega (arith, few) in
    let quarter : wider / 4 ≡ w / 4 = omega (arith, few) in
    let kept : bit_and y 3 ≡ y = and_mask y 2 ∙ omega (arith, few) in
    let low : bit_or (bit_and wider and) or % 4 ≡ y =
    low_masked wider and or ∙ ap₂ (λ a b. bit_or a b) (ap₂ (λ a b. bit_and a b) over all ∙ kept) none ∙ or_zero_r y in
    let high : bit_or (bit_and wider and) or / 4 ≡ bit_or (bit_and w and) or / 4 =
    high_masked wider and or ∙ ap (λ n. bit_or (bit_and n (and / 4)) (or / 4)) quarter ∙ sym (high_masked w and or) in
    omega (arith, low, high)

relation_wider : (framed : Bool) (first : Option ChipState) (entry : Option Entry) (p y : ℕ) → p % 4 ≡ 0 → y < 4
    → IsOwnRelation framed psw_place 3 entry
    → IsFromEntry (option_map suspended_of first) entry p
    → IsFromEntry (option_map suspended_of first) entry (p + y)
relation_wider framed first None p y held few form holds = tt
relation_wider framed None (Some e) p y held few form holds = absurd holds
relation_wider false (Some f) (Some e) p y held few form holds = absurd form
relation_wider true (Some f) (Some e) p y held few (place, and_small, ands, or_small, ors) (w, (small, reads), is) =
    let mask : (suspended_of f).held e.place ≡ 65532 = ap (suspended_of f).held place in
    let same : bit_and (w / 4 * 4 + y) ((suspended_of f).held e.place) ≡ bit_and w ((suspended_of f).held e.place) =
    ap (bit_and (w / 4 * 4 + y)) mask ∙ same_held w y small few ∙ sym (ap (bit_and w) mask) in
    let whole : p ≡ p / 4 * 4 = omega (arith, held) in
    let value : p + y ≡ bit_or (bit_and (w / 4 * 4 + y) e.and) e.or = ap (λ n. n + y) (whole ∙ ap (λ n. n / 4 * 4) is) ∙ wider_word w e.and e.or y ands ors few in
    (w / 4 * 4 + y, (omega (arith, small, few), same ∙ reads), value)

-- the own relation of a byte that is written
own_word : (w and or : ℕ) → and < 256 → or < 256
    → bit_or (bit_and w and) or / 4 * 4 ≡ bit_or (bit_and (w / 4 * 4) (bit_or and 3)) (bit_and or 65532)
own_word w and or and_small or_small =
    let cut : bit_and or 65532 ≡ or / 4 * 4 = masked_four or (omega arith) in
    let none : bit_and or 65532 % 4 ≡ 0 = ap (λ n. n % 4) cut ∙ omega arith in
    let rest : bit_and or 65532 / 4 ≡ or / 4 = ap (λ n. n / 4) cut ∙ omega arith in
    let more : bit_or and 3 / 4 ≡ and / 4 = or_shr and 3 2 ∙ or_zero_r (and / 4) in
    let over : w / 4 * 4 % 4 ≡ 0 = omega arith in
    let quarter : w / 4 * 4 / 4 ≡ w / 4 = omega arith in
    let new = bit_or (bit_and (w / 4 * 4) (bit_or and 3)) (bit_and or 65532) in
    let low : new % 4 ≡ 0 =
    low_masked (w / 4 * 4) (bit_or and 3) (bit_and or 65532) ∙ ap₂ (λ a b. bit_or a b) (ap (λ n. bit_and n (bit_or and 3 % 4)) over ∙ and_zero_l (bit_or and 3 % 4)) none in
    let high : new / 4 ≡ bit_or (bit_and w and) or / 4 =
    high_masked (w / 4 * 4) (bit_or and 3) (bit_and or 65532) ∙ ap₂ (λ a b. bit_or a b) (ap₂ (λ a b. bit_and a b) quarter more) rest ∙ sym (high_masked w and or) in
    omega (arith, low, high)

own_by : (first : Option ChipState) (e : Entry) (x : ℕ) (same : Bool) → (e.place == psw_place) ≡ same → e.and < 256 → e.or < 256
    → IsFromEntry (option_map suspended_of first) (Some e) x
    → IsFromEntry (option_map suspended_of first) (if same then Some (record { place = e.place; and = bit_or e.and 3; or = bit_and e.or 65532 }) else None) (x / 4 * 4)
own_by first e x false is and_small or_small holds = tt
own_by None e x true is and_small or_small holds = absurd holds
own_by (Some f) e x true is and_small or_small (w, (small, reads), value) =
    let place : e.place ≡ psw_place = eqb-true e.place psw_place is in
    let mask : (suspended_of f).held e.place ≡ 65532 = ap (suspended_of f).held place in
    let plain : w / 4 * 4 + 0 ≡ w / 4 * 4 = omega arith in
    let same : bit_and (w / 4 * 4) ((suspended_of f).held e.place) ≡ bit_and w ((suspended_of f).held e.place) =
    ap (bit_and (w / 4 * 4)) mask ∙ ap (λ n. bit_and n 65532) (sym plain) ∙ same_held w 0 small (omega arith) ∙ sym (ap (bit_and w) mask) in
    (w / 4 * 4, (omega (arith, small), same ∙ reads), ap (λ n. n / 4 * 4) value ∙ own_word w e.and e.or and_small or_small)

pub own_holds : (framed : Bool) (first : Option ChipState) (entry : Option Entry) (x : ℕ) → IsRelation framed entry
    → IsFromEntry (option_map suspended_of first) entry x
    → IsFromEntry (option_map suspended_of first) (written_entry entry) (x / 4 * 4)
own_holds framed first None x form holds = tt
own_holds false first (Some e) x form holds = absurd form
own_holds true first (Some e) x (place, ands, ors) holds = own_by first e x (e.place == psw_place) refl ands ors holds

own_form_by : (e : Entry) (same : Bool) → (e.place == psw_place) ≡ same → e.and < 256 → e.or < 256
    → IsOwnRelation true psw_place 3 (if same then Some (record { place = e.place; and = bit_or e.and 3; or = bit_and e.or 65532 }) else None)
own_form_by e false is and_small or_small = tt
own_form_by e true is and_small or_small =
    let cut : bit_and e.or 65532 ≡ e.or / 4 * 4 = masked_four e.or (omega arith) in
    let none : bit_and (bit_and e.or 65532) 3 ≡ 0 = and_mask (bit_and e.or 65532) 2 ∙ ap (λ n. n % 4) cut ∙ omega arith in
    (eqb-true e.place psw_place is, or_lt 8 e.and 3 and_small (omega arith), and_or_self 3 e.and, omega (arith, and_le_l e.or 65532, or_small), none)

pub own_form : (framed : Bool) (entry : Option Entry) → IsRelation framed entry → IsOwnRelation framed psw_place 3 (written_entry entry)
own_form framed None form = tt
own_form false (Some e) form = absurd form
own_form true (Some e) (place, ands, ors) = own_form_by e (e.place == psw_place) refl ands ors

-- an own relation is one
pub own_is : (framed : Bool) (entry : Option Entry) → IsOwnRelation framed psw_place 3 entry → IsRelation framed entry
own_is framed None form = tt
own_is false (Some e) form = absurd form
own_is true (Some e) (place, ands, high, ors, low) = (subst (λ at. is_place at ≡ true) (sym place) refl, ands, ors)

-- READING

pub read_entry : (framed : Bool) (first : Option ChipState) (psw : Status) (s : ChipState) (x : ℕ) → IsChipState s → IsStatus framed psw
    → HoldsOfStatus (option_map suspended_of first) psw s.psw
    → MayReadSfr s Psw x → IsFromEntry (option_map suspended_of first) psw.entry x
read_entry framed first psw s x state form holds (bit, few, is) =
    let one = parity_below s.a in
    let sum : s.psw + (2 * bit + parity s.a) ≡ x = omega (arith, is) in
    subst (IsFromEntry (option_map suspended_of first) psw.entry) sum (relation_wider framed first psw.entry s.psw (2 * bit + parity s.a) state.psw_held (omega (arith, few, one)) form.entry holds.entry)

-- the bits that PSW is read with
pub status_agrees : (first : Option Suspended) (psw : Status) (s : ChipState) (x : ℕ) → IsChipState s → HoldsOfStatus first psw s.psw
    → MayReadSfr s Psw x → Agrees (all_bits psw) x
status_agrees first psw s x state holds (bit, few, is) =
    subst (Agrees (all_bits psw)) (sym is) (read_agrees psw s.psw bit (parity s.a) state.psw state.psw_held few (parity_below s.a) holds.bits)

-- LOGIC

logic_bit : (l : Bitwise) (a b : Tri) (x y i : ℕ) → IsBit a (bit_at x i) → IsBit b (bit_at y i)
    → IsBit (tri_logic l a b) (bit_at (logic_of l x y) i)
logic_bit And a b x y i h k = subst (IsBit (tri_and a b)) (sym (bit_at_and x y i)) (and_bit a b (bit_at x i) (bit_at y i) h k)
logic_bit Or a b x y i h k = subst (IsBit (tri_or a b)) (sym (bit_at_or x y i)) (or_bit a b (bit_at x i) (bit_at y i) h k)
logic_bit Xor a b x y i h k = subst (IsBit (tri_xor a b)) (sym (bit_at_xor x y i)) (xor_bit a b (bit_at x i) (bit_at y i) h k)

logic_below : (l : Bitwise) (x y : ℕ) → x < 256 → y < 256 → logic_of l x y < 256
logic_below And x y h k = omega (arith, and_le_l x y, h)
logic_below Or x y h k = or_lt 8 x y h k
logic_below Xor x y h k = xor_lt 8 x y h k

masked_agrees : (laws : KnownLaws) (done : Logic) (psw : Status) (operand : Operand) (x mask : ℕ) → x < 256
    → Agrees psw.bits (x / 4) → IsOperand operand mask
    → Agrees (six (λ place. tri_logic (bitwise done) (bit_in psw place) (bit_of_set (set_of operand) (2 + place)))) (masked done x mask / 4)
masked_agrees laws done psw operand x mask small agrees is =
    let other = operand_is laws operand mask is in
    let v = logic_of (bitwise done) x mask in
    let below : v < 256 = logic_below (bitwise done) x mask small (laws.sets.below 256 mask (set_of operand) other.normal other.has) in
    let bits = laws.bits.known 8 mask (set_of operand) other.normal other.has in
    subst (λ n. Agrees (six (λ place. tri_logic (bitwise done) (bit_in psw place) (bit_of_set (set_of operand) (2 + place)))) (n / 4)) (masked_logic done x mask)
    (six_of (λ place. tri_logic (bitwise done) (bit_in psw place) (bit_of_set (set_of operand) (2 + place))) (v / 4) (omega (arith, below))
    (λ p. subst (IsBit (tri_logic (bitwise done) (bit_in psw p) (bit_of_set (set_of operand) (2 + p)))) (upper_place v p)
    (logic_bit (bitwise done) (bit_in psw p) (bit_of_set (set_of operand) (2 + p)) x mask (2 + p)
    (subst (IsBit (bit_in psw p)) (sym (upper_place x p)) (bits_at psw.bits p (x / 4) agrees))
    (bits_at (known_bits 8 (set_of operand)) (2 + p) mask bits))))

pub read_quarter : (s : ChipState) (x : ℕ) → IsChipState s → MayReadSfr s Psw x → (s.psw / 4 ≡ x / 4) × (x < 256)
read_quarter s x state (bit, few, is) =
    let one = parity_below s.a in
    let held = state.psw_held in
    let small = state.psw in
    (omega (arith, is, few, one, held), omega (arith, is, few, one, held, small))

operands_are : (operand : Operand) (x : ℕ) → IsOperand operand x → AreOperands operand
operands_are (Constant m) x is = is.0
operands_are (Among set) x is = is.normal

pub masked_psw_holds : (laws : KnownLaws) (framed : Bool) (first : Option ChipState) (done : Logic) (psw : Status) (operand : Operand) (s : ChipState) (x mask : ℕ)
    → IsChipState s → IsStatus framed psw
    → HoldsOfStatus (option_map suspended_of first) psw s.psw → MayReadSfr s Psw x → IsOperand operand mask
    → HoldsOfStatus (option_map suspended_of first) (masked_status done psw operand) (write_sfr Psw (masked done x mask) s).psw
masked_psw_holds laws framed first done psw operand s x mask state form holds may is =
    let are = operands_are operand mask is in
    let (same, small) = read_quarter s x state may in
    record {
      bits = subst (Agrees (masked_status done psw operand).bits) (write_quarter (masked done x mask)) (masked_agrees laws done psw operand x mask small (subst (Agrees psw.bits) same holds.bits) is);
      entry = own_holds framed first (masked_entry done operand psw.entry) (masked done x mask) (entry_form framed done operand psw.entry are (own_is framed psw.entry form.entry))
          (entry_holds laws (option_map suspended_of first) done operand psw.entry x mask is (read_entry framed first psw s x state form holds may));
    }

pub masked_psw_form : (framed : Bool) (done : Logic) (psw : Status) (operand : Operand) → IsStatus framed psw → AreOperands operand
    → IsStatus framed (masked_status done psw operand)
masked_psw_form framed done psw operand form are = record { bits = refl; entry = own_form framed (masked_entry done operand psw.entry) (entry_form framed done operand psw.entry are (own_is framed psw.entry form.entry)) }
