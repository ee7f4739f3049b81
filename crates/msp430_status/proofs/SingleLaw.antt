-- The law of instructions with the one operand SR.
use Rattle.std.proofs.Common.{◌≡◌, ℕ, zero, suc, ◌+◌, ◌*◌, ◌%◌, ◌<◌, ◌++◌, Bool, true, false, Option, None, Some, List, length, get_or, set, sym, ap, ◌∙◌, subst, arith, get_or-set_same, get_or-set_other}
use Rattle.std.proofs.lemmas.List.{length-set}
use Rattle.std.proofs.lemmas.Option.{same_Some}
use Rattle.value_set.specs.Form.{Has, IsNormal}
use Rattle.value_set.specs.Summing.{single}
use Rattle.value_bits.specs.Bits.{Agrees}
use Rattle.chip_numbers.specs.Numbers.{exchanged}
use Rattle.msp430_decode.specs.declared.instr.Register.TheVariants.{Sr}
use Rattle.msp430_decode.specs.declared.instr.SingleOperation.{SingleOperation}
use Rattle.msp430_decode.specs.declared.instr.SingleOperation.TheVariants as operation
use Rattle.msp430_decode.specs.declared.instr.Source.TheVariants as source
use Rattle.msp430_decode.specs.declared.instr.Width.{Width}
use Rattle.msp430_decode.specs.declared.instr.Width.TheVariants.{Word as Words, Byte}
use Rattle.msp430_chip.specs.declared.device.Device.{Device}
use Rattle.msp430_chip.specs.declared.place.Place.TheVariants as place
use Rattle.msp430_chip.specs.declared.state.ChipState.{ChipState}
use Rattle.msp430_chip.specs.Arithmetic.{Made, modulus}
use Rattle.msp430_chip.specs.Leading.{MayLeaveSingle, MaySingle, at_source, origin_of}
use Rattle.msp430_chip.specs.Leading.MayLeaveSingle.{FreeStatus, OfResult}
use Rattle.msp430_chip.specs.Operands.{access_to, with_free_bits}
use Rattle.msp430_chip.specs.Outcome.{Outcome}
use Rattle.msp430_chip.specs.State.{register_of}
use Rattle.msp430_chip.specs.Step.{Left, behind, put, with_status}
use Rattle.msp430_results.specs.Results.{HasWidth}
use Rattle.msp430_state.specs.FormFacts.{no_status_relation}
use Rattle.msp430_state.specs.Forms.{IsKnown}
use Rattle.value_set.specs.Laws.{SetLaws}
use Rattle.msp430_state.specs.Known.{Known}
use Rattle.msp430_alu.specs.Doing.{IsWellMade}
use Rattle.msp430_alu.specs.Formats.{AreShown, IsLeft, IsUnder}
use Rattle.msp430_status.specs.Status.{free_bits, single_bits, single_status_worked}
use Rattle.msp430_status.proofs.BitLemmas.{free_agree, length_free}
use Rattle.msp430_status.proofs.Parts.{Writes, bits_alone, freed, status_left, unflagged, written_is}
use Rattle.msp430_status.proofs.Swapped.{length_swapped, swapped_agree}

-- what a result that sets no flags leaves
written_left : (device : Device) (ram registers : List ℕ) (width : Width) (v : ℕ) (made_so : Made) (left : Left) → (v, None) ≡ made_so
    → left ≡ with_status made_so.1 (put device registers ram width (place.InRegister Sr) made_so.0)
    → left ≡ status_left registers ram (v % 512)
written_left device ram registers width v made_so left same is =
    is ∙ ap (λ (m : Made). with_status m.1 (put device registers ram width (place.InRegister Sr) m.0)) (sym same) ∙ unflagged registers ram (v % 512)

-- a value that is left as it is
value_written : (device : Device) (first : Option ChipState) (ram registers : List ℕ) (width : Width) (bits x : ℕ) (made_so : Made) (left : Left)
    → ◌≡◌ {A = Option Made} (Some (with_free_bits width (place.InRegister Sr) bits x, None)) (Some made_so)
    → left ≡ with_status made_so.1 (put device registers ram width (place.InRegister Sr) made_so.0) → Writes first registers ram (bits_alone free_bits) left
value_written device first ram registers width bits x made_so left may left_is =
    let n = with_free_bits width (place.InRegister Sr) bits x in
    record {
      status = n % 512;
      holds = record { bits = free_agree (n % 512) (omega arith); entry = tt };
      left_is = written_left device ram registers width n made_so left (same_Some (n, None) made_so may) left_is;
    }

-- the bits that are known of SR, whatever its bits 9 to 15 are
single_written : {device : Device} {first : Option ChipState} {ram registers : List ℕ} (done : SingleOperation) (width : Width) (a : Known) (sr bits x : ℕ) {carry : ℕ} {left : Left}
    → HasWidth done width
    → Agrees a.status.bits sr → sr < 512 → bits < 128 → x ≡ sr % modulus width
    → MayLeaveSingle device ram registers done width (place.InRegister Sr) (with_free_bits width (place.InRegister Sr) bits x) carry left
    → Writes first registers ram (bits_alone (single_bits done a.status.bits)) left
single_written operation.Swpb Words a sr bits x fits agrees small few is (FreeStatus free leaves) = absurd (cc)
single_written {device} {ram} {registers} operation.Swpb Words a sr bits x {left} fits agrees small few is (OfResult other made_so may left_is) =
    let n = exchanged 256 (x + 512 * bits) in
    let same : x ≡ sr = omega (arith, is, small) in
    record {
      status = n % 512;
      holds = record {
        bits = subst (λ y. Agrees (single_bits operation.Swpb a.status.bits) (exchanged 256 (y + 512 * bits) % 512)) (sym same)
            (swapped_agree a.status.bits sr bits agrees small few);
        entry = tt;
      };
      left_is = written_left device ram registers Words n made_so left (same_Some (n, None) made_so may) left_is;
    }
single_written operation.Swpb Byte a sr bits x fits agrees small few is leaves = absurd fits
single_written done width a sr bits x fits agrees small few is (FreeStatus free leaves) = freed free_bits free_agree leaves
single_written {device} {first} {ram} {registers} operation.Push width a sr bits x {left} fits agrees small few is (OfResult other made_so may left_is) =
    value_written device first ram registers width bits x made_so left may left_is
single_written {device} {first} {ram} {registers} operation.Call width a sr bits x {left} fits agrees small few is (OfResult other made_so may left_is) =
    value_written device first ram registers width bits x made_so left may left_is
single_written done width a sr bits x fits agrees small few is (OfResult other made_so may left_is) = absurd (cc)

pub single_status_law : ((m v : ℕ) → v < m → IsNormal m (single v) × Has m (single v) v)
    → {device : Device} {framed : Bool} {a : Known} {s : ChipState} {first : Option ChipState} {len : ℕ} {done : SingleOperation} {width : Width} {outcome : Outcome ChipState}
    → IsUnder device framed a s first → HasWidth done width → (may : MaySingle device s len done width (source.Register Sr) outcome)
    → IsLeft device (single_status_worked device framed a (register_of s 0) len done width).after first
    (single_status_worked device framed a (register_of s 0) len done width).next may.left
unfolding single_status_worked
single_status_law singles {device} {framed} {a} {s} {first} {len} {done} {width} {outcome} under fits may =
    let next = behind s len in
    let registers = set s.registers 0 next in
    let long : length registers ≡ 16 = length-set s.registers 0 next ∙ under.holds.state.registers in
    let counter : get_or registers 0 0 ≡ next = get_or-set_same s.registers 0 next 0 (omega (arith, under.holds.state.registers)) in
    let status : get_or (at_source s next) 2 0 ≡ register_of s 2 = get_or-set_other s.registers 0 2 next 0 (λ e. omega (arith, e)) in
    let is : may.x ≡ register_of s 2 % modulus width = may.reads ∙ ap (λ n. n % modulus width) status in
    written_is singles next long (omega arith) counter
    (λ r low. get_or-set_other s.registers 0 r next 0 (λ e. omega (arith, e, low))) under.holds.parts
    (single_written done width a (register_of s 2) may.bits may.x fits under.holds.parts.status.bits under.holds.state.status may.free.below is may.leaves)

pub single_status_shown : (device : Device) (framed : Bool) (a : Known) (s : ChipState) (len : ℕ) (done : SingleOperation) (width : Width)
    → AreShown (single_status_worked device framed a (register_of s 0) len done width).accesses
    (access_to device (register_of s 0) false width (origin_of s (behind s len) (source.Register Sr)) ++ access_to device (register_of s 0) true width (origin_of s (behind s len) (source.Register Sr)))
unfolding single_status_worked
single_status_shown device framed a s len done width single_so (zero, lt, is) = absurd (omega (arith, lt))
single_status_shown device framed a s len done width single_so (suc k, lt, is) = absurd (omega (arith, lt))

pub leaves_no_hit : {device : Device} {ram registers : List ℕ} {done : SingleOperation} {width : Width} {x carry : ℕ} {left : Left}
    → MayLeaveSingle device ram registers done width (place.InRegister Sr) x carry left → left.hit ≡ None
leaves_no_hit {device} (FreeStatus free leaves) = ap (λ (l : Left). l.hit) leaves.left_is
leaves_no_hit {device} (OfResult other made_so may is) = ap (λ (l : Left). l.hit) is

length_single : (done : SingleOperation) (a : Known) → length (single_bits done a.status.bits) ≡ 9
length_single operation.Swpb a = length_swapped a.status.bits
length_single other a = length_free

pub single_status_made : (sets : SetLaws) (device : Device) (framed : Bool) (a : Known) (pc len : ℕ)
    (done : SingleOperation) (width : Width)
    → IsKnown device.ram.lo device.ram.hi framed a
    → IsWellMade device framed ((pc + len) % 65536) (single_status_worked device framed a pc len done width)
unfolding single_status_worked
single_status_made sets device framed a pc len done width form = record {
  form = assumption (length_single done a, no_status_relation framed, form);
  next = (sets.single 65536 ((pc + len) % 65536) (omega arith)).0;
  even = sets.single_rest 65536 2 0 ((pc + len) % 65536);
}
