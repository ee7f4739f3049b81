-- The bits of PSW behind instructions that set flags.
use Rattle.std.proofs.Common.{◌≡◌, ℕ, ◌+◌, ◌*◌, ◌/◌, ◌%◌, ◌^◌, ◌<◌, ◌==◌, Bool, Option, List, [], ◌∷◌, refl, subst, arith}
use Rattle.std.specs.Prelude.{slice_index_or}
use Rattle.std.specs.Int.{bit_at}
use Rattle.std.proofs.lemmas.Bool.{eqb-true, eqb-false}
use Rattle.entry_value.specs.Words.{Suspended}
use Rattle.value_bits.specs.declared.tri.Tri.{Tri}
use Rattle.value_bits.specs.declared.tri.Tri.TheVariants.{Zero, One, Either}
use Rattle.value_bits.specs.BitFacts.{bit_below, bits_at, flag_bit}
use Rattle.value_bits.specs.Bits.{IsBit, Agrees}
use Rattle.value_bits.specs.declared.all_flags.FourKnown.{FourKnown}
use Rattle.value_bits.specs.AllFlags.{Place, known_at}
use Rattle.value_bits.specs.AllFlags.Place.{First, Second, Third}
use Rattle.value_bits.specs.Flags.{IsFlag, agreed}
use Rattle.irq_frames.specs.KnownLaws.{KnownLaws}
use Rattle.value_set.specs.declared.form.Form.{Form}
use Rattle.value_set.specs.Form.{Has}
use Rattle.mcs51_chip.specs.Registers.{bit_of}
use Rattle.mcs51_state.specs.declared.status.Status.{Status}
use Rattle.mcs51_state.specs.Holding.{HoldsOfStatus}
use Rattle.mcs51_results.specs.Holding.{IsStatus}
use Rattle.mcs51_results.specs.declared.flags.FlagRule.{FlagRule}
use Rattle.mcs51_results.specs.declared.flags.ThreeFlags.{ThreeFlags}
use Rattle.mcs51_results.specs.Results.{flagged, carried, carry_in, half_carry_in, known_flag, three_flags}
use Rattle.mcs51_results.specs.Rules.{flag_by, rule_at}

-- THREE FLAGS

-- as one walk tells them
pub told : (rules : ThreeFlags) (a b c : Form) (psw : Status) (known : FourKnown)
    → ((place : Place) → known_at place known ≡ agreed 256 (flag_by (rule_at place rules)) a b c)
    → flagged known.first known.second known.third psw ≡ three_flags rules a b c psw
told rules a b c psw known same =
    let carry : known.first ≡ known_flag rules.carry a b c = same First in
    let half : known.second ≡ known_flag rules.half a b c = same Second in
    let overflow : known.third ≡ known_flag rules.overflow a b c = same Third in
    rw (carry, half, overflow) refl

-- ONE BIT

-- a flag by its rule
pub flag_is : (laws : KnownLaws) (rule : FlagRule) (x y z : ℕ) (a b c : Form) → Has 256 a x → Has 256 b y → Has 256 c z
    → IsBit (known_flag rule a b c) (bit_of (flag_by rule x y z))
flag_is laws rule x y z a b c h k l = flag_bit (known_flag rule a b c) (flag_by rule x y z) (laws.bits.flags 256 x y z (flag_by rule) a b c h k l)

pub equal_bit : (t : Tri) (n : ℕ) → n < 2 → IsFlag t (n == 1) → IsBit t n
equal_bit Zero n small h = let other = eqb-false n 1 h in omega (arith, small, other)
equal_bit One n small h = eqb-true n 1 h
equal_bit Either n small h = small

-- CY and AC
pub carry_bit : (first : Option Suspended) (psw : Status) (p : ℕ) → HoldsOfStatus first psw p → IsBit (carry_in psw) (bit_at p 7)
carry_bit first psw p h = let same : p / 4 / 2 ^ 5 % 2 ≡ bit_at p 7 = omega arith in subst (IsBit (carry_in psw)) same (bits_at psw.bits 5 (p / 4) h.bits)

pub half_carry_bit : (first : Option Suspended) (psw : Status) (p : ℕ) → HoldsOfStatus first psw p → IsBit (half_carry_in psw) (bit_at p 6)
half_carry_bit first psw p h = let same : p / 4 / 2 ^ 4 % 2 ≡ bit_at p 6 = omega arith in subst (IsBit (half_carry_in psw)) same (bits_at psw.bits 4 (p / 4) h.bits)

-- SIX BITS

pub six_agree : (b0 b1 b2 b3 b4 b5 : Tri) (v : ℕ) → v < 64 → IsBit b0 (v % 2) → IsBit b1 (v / 2 % 2)
    → IsBit b2 (v / 4 % 2) → IsBit b3 (v / 8 % 2)
    → IsBit b4 (v / 16 % 2) → IsBit b5 (v / 32 % 2)
    → Agrees (b0 ∷ b1 ∷ b2 ∷ b3 ∷ b4 ∷ b5 ∷ []) v
six_agree b0 b1 b2 b3 b4 b5 v small h0 h1 h2 h3 h4 h5 =
    let e2 : v / 4 % 2 ≡ v / 2 / 2 % 2 = omega arith in
    let e3 : v / 8 % 2 ≡ v / 2 / 2 / 2 % 2 = omega arith in
    let e4 : v / 16 % 2 ≡ v / 2 / 2 / 2 / 2 % 2 = omega arith in
    let e5 : v / 32 % 2 ≡ v / 2 / 2 / 2 / 2 / 2 % 2 = omega arith in
    (h0, (h1, (subst (IsBit b2) e2 h2, (subst (IsBit b3) e3 h3, (subst (IsBit b4) e4 h4, (subst (IsBit b5) e5 h5, omega (arith, small)))))))

at : (bits : List Tri) (place : ℕ) (v n : ℕ) → Agrees bits v → v / 2 ^ place % 2 ≡ n → IsBit (slice_index_or bits place Either) n
at bits place v n h e = subst (IsBit (slice_index_or bits place Either)) e (bits_at bits place v h)

-- the bits behind flags: q is what stays in PSW of its bits 3 to 5
flags_agree : (bits : List Tri) (p q carry half overflow : ℕ) (c h o : Tri) → q ≡ p / 8 % 8 → Agrees bits (p / 4)
    → IsBit c carry → IsBit h half
    → IsBit o overflow → carry < 2 → half < 2 → overflow < 2
    → Agrees (o ∷ slice_index_or bits 1 Either ∷ slice_index_or bits 2 Either ∷ slice_index_or bits 3 Either ∷ h ∷ c ∷ []) ((q * 8 + 128 * carry + 64 * half + 4 * overflow) / 4)
flags_agree bits p q carry half overflow c h o is agrees first second third few some less =
    let v = overflow + 2 * q + 16 * half + 32 * carry in
    let small : q < 8 = omega (arith, is) in
    let same : v ≡ (q * 8 + 128 * carry + 64 * half + 4 * overflow) / 4 = omega arith in
    subst (Agrees (o ∷ slice_index_or bits 1 Either ∷ slice_index_or bits 2 Either ∷ slice_index_or bits 3 Either ∷ h ∷ c ∷ [])) same
    (six_agree o (slice_index_or bits 1 Either) (slice_index_or bits 2 Either) (slice_index_or bits 3 Either) h c v (omega (arith, small, few, some, less))
    (subst (IsBit o) (omega (arith, less)) third)
    (at bits 1 (p / 4) (v / 2 % 2) agrees (omega (arith, is, less)))
    (at bits 2 (p / 4) (v / 4 % 2) agrees (omega (arith, is, less)))
    (at bits 3 (p / 4) (v / 8 % 2) agrees (omega (arith, is, less)))
    (subst (IsBit h) (omega (arith, small, less, some)) second)
    (subst (IsBit c) (omega (arith, small, less, some, few)) first))

pub flagged_holds : (first : Option Suspended) (psw : Status) (p carry half overflow : ℕ) (c h o : Tri)
    → HoldsOfStatus first psw p → IsBit c carry
    → IsBit h half → IsBit o overflow
    → HoldsOfStatus first (flagged c h o psw) (p / 8 % 8 * 8 + 128 * carry + 64 * half + 4 * overflow)
flagged_holds first psw p carry half overflow c h o holds x y z = record {
  bits = flags_agree psw.bits p (p / 8 % 8) carry half overflow c h o refl holds.bits x y z (bit_below c carry x) (bit_below h half y) (bit_below o overflow z);
  entry = tt;
}

-- three flags by their rules
pub flags_row : (laws : KnownLaws) (first : Option Suspended) (rules : ThreeFlags) (a b c : Form) (psw : Status) (p x y z : ℕ)
    → HoldsOfStatus first psw p
    → Has 256 a x → Has 256 b y → Has 256 c z → HoldsOfStatus first (three_flags rules a b c psw)
    (p / 8 % 8 * 8 + 128 * bit_of (flag_by rules.carry x y z) + 64 * bit_of (flag_by rules.half x y z) + 4 * bit_of (flag_by rules.overflow x y z))
flags_row laws first rules a b c psw p x y z holds h k l =
    flagged_holds first psw p (bit_of (flag_by rules.carry x y z)) (bit_of (flag_by rules.half x y z)) (bit_of (flag_by rules.overflow x y z))
    (known_flag rules.carry a b c) (known_flag rules.half a b c) (known_flag rules.overflow a b c) holds
    (flag_is laws rules.carry x y z a b c h k l) (flag_is laws rules.half x y z a b c h k l) (flag_is laws rules.overflow x y z a b c h k l)

-- the bits behind another CY
carried_agree : (bits : List Tri) (p q carry : ℕ) (c : Tri) → q ≡ p % 128 → Agrees bits (p / 4) → IsBit c carry → carry < 2
    → Agrees (slice_index_or bits 0 Either ∷ slice_index_or bits 1 Either ∷ slice_index_or bits 2 Either ∷ slice_index_or bits 3 Either ∷ slice_index_or bits 4 Either ∷ c ∷ []) ((q + 128 * carry) / 4)
carried_agree bits p q carry c is agrees bit few =
    let v = q / 4 + 32 * carry in
    let small : q < 128 = omega (arith, is) in
    let same : v ≡ (q + 128 * carry) / 4 = omega arith in
    subst (Agrees (slice_index_or bits 0 Either ∷ slice_index_or bits 1 Either ∷ slice_index_or bits 2 Either ∷ slice_index_or bits 3 Either ∷ slice_index_or bits 4 Either ∷ c ∷ [])) same
    (six_agree (slice_index_or bits 0 Either) (slice_index_or bits 1 Either) (slice_index_or bits 2 Either) (slice_index_or bits 3 Either) (slice_index_or bits 4 Either) c v (omega (arith, small, few))
    (at bits 0 (p / 4) (v % 2) agrees (omega (arith, is)))
    (at bits 1 (p / 4) (v / 2 % 2) agrees (omega (arith, is)))
    (at bits 2 (p / 4) (v / 4 % 2) agrees (omega (arith, is)))
    (at bits 3 (p / 4) (v / 8 % 2) agrees (omega (arith, is)))
    (at bits 4 (p / 4) (v / 16 % 2) agrees (omega (arith, is)))
    (subst (IsBit c) (omega (arith, small, few)) bit))

pub carried_holds : (first : Option Suspended) (psw : Status) (p carry : ℕ) (c : Tri) → HoldsOfStatus first psw p → IsBit c carry
    → HoldsOfStatus first (carried c psw) (p % 128 + 128 * carry)
carried_holds first psw p carry c holds x = record {
  bits = carried_agree psw.bits p (p % 128) carry c refl holds.bits x (bit_below c carry x);
  entry = tt;
}

-- FORM

pub flagged_form : (framed : Bool) (c h o : Tri) (psw : Status) → IsStatus framed (flagged c h o psw)
flagged_form framed c h o psw = record { bits = refl; entry = tt }

pub carried_form : (framed : Bool) (c : Tri) (psw : Status) → IsStatus framed (carried c psw)
carried_form framed c psw = record { bits = refl; entry = tt }
