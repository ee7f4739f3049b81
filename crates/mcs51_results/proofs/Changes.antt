-- INC and DEC of a byte, and INC DPTR.
use Rattle.std.proofs.Common.{◌≡◌, ℕ, ◌+◌, ◌-◌, ◌*◌, ◌%◌, ◌<◌, Bool, Option, subst, arith}
use Rattle.entry_value.specs.declared.byte.Byte.{Byte}
use Rattle.entry_value.specs.Words.{Suspended, HoldsOfByte}
use Rattle.irq_frames.specs.KnownLaws.{KnownLaws}
use Rattle.value_set.specs.Form.{IsNormal}
use Rattle.value_set.specs.Summing.{add, single, sub}
use Rattle.chip_numbers.specs.Numbers.{word_of}
use Rattle.value_bits.specs.Sets.{low_set, high_set, pair_set}
use Rattle.mcs51_chip.specs.declared.state.ChipState.{ChipState}
use Rattle.mcs51_chip.specs.Registers.{data_pointer, with_data_pointer}
use Rattle.mcs51_state.specs.FormFacts.{byte_form}
use Rattle.mcs51_state.specs.Forms.{IsByte}
use Rattle.mcs51_results.specs.Holding.{IsResult}
use Rattle.mcs51_results.specs.Results.{increased, decreased, next_pointers, pointer_increased}
use Rattle.mcs51_results.proofs.SetLemmas.{single_is, add_is, sub_is}
use Rattle.mcs51_results.proofs.Accumulations.{byte_is, plain_holds}

one_is : (laws : KnownLaws) (m : ℕ) → 1 < m → IsResult m (single 1) 1
one_is laws m more = single_is laws m 1 more

pub increased_holds : (laws : KnownLaws) (framed : Bool) (first : Option Suspended) (byte : Byte) (x : ℕ)
    → IsByte framed byte → HoldsOfByte first byte x
    → HoldsOfByte first (increased byte) ((x + 1) % 256)
increased_holds laws framed first byte x form holds =
    plain_holds first (add 256 byte.set (single 1)) ((x + 1) % 256) (add_is laws 256 x 1 byte.set (single 1) (byte_is framed first byte x form holds) (one_is laws 256 (omega arith)))

pub increased_form : (laws : KnownLaws) (framed : Bool) (byte : Byte) → IsByte framed byte → IsByte framed (increased byte)
increased_form laws framed byte form = byte_form framed (add 256 byte.set (single 1)) (laws.sets.add_normal 256 byte.set (single 1) form.normal (one_is laws 256 (omega arith)).normal)

less_one : (x : ℕ) → (x + 256 - 1) % 256 ≡ (x + 255) % 256
less_one x = omega arith

pub decreased_holds : (laws : KnownLaws) (framed : Bool) (first : Option Suspended) (byte : Byte) (x : ℕ)
    → IsByte framed byte → HoldsOfByte first byte x
    → HoldsOfByte first (decreased byte) ((x + 255) % 256)
decreased_holds laws framed first byte x form holds =
    plain_holds first (sub 256 byte.set (single 1)) ((x + 255) % 256)
    (subst (IsResult 256 (sub 256 byte.set (single 1))) (less_one x) (sub_is laws 256 x 1 byte.set (single 1) (byte_is framed first byte x form holds) (one_is laws 256 (omega arith))))

pub decreased_form : (laws : KnownLaws) (framed : Bool) (byte : Byte) → IsByte framed byte → IsByte framed (decreased byte)
decreased_form laws framed byte form = byte_form framed (sub 256 byte.set (single 1)) (laws.sets.sub_normal 256 byte.set (single 1) form.normal (one_is laws 256 (omega arith)).normal)

pointers_are : (laws : KnownLaws) (framed : Bool) (first : Option Suspended) (dpl dph : Byte) (x y : ℕ)
    → IsByte framed dpl → IsByte framed dph
    → HoldsOfByte first dpl x → HoldsOfByte first dph y
    → IsResult 65536 (next_pointers dpl dph) ((word_of x y + 1) % 65536)
pointers_are laws framed first dpl dph x y low high h k =
    let pair : IsResult 65536 (pair_set dpl.set dph.set) (word_of x y) = record {
      normal = laws.bits.pair_normal dpl.set dph.set low.normal high.normal;
      has = laws.bits.pair x y dpl.set dph.set low.normal high.normal h.0 k.0;
    } in
    add_is laws 65536 (word_of x y) 1 (pair_set dpl.set dph.set) (single 1) pair (one_is laws 65536 (omega arith))

same_pointer : (x y : ℕ) → (word_of x y + 1) % 65536 ≡ (x + 256 * y + 1) % 65536
same_pointer x y = omega arith

pub pointer_holds : (laws : KnownLaws) (framed : Bool) (first : Option Suspended) (dpl dph : Byte) (s : ChipState)
    → IsByte framed dpl → IsByte framed dph
    → HoldsOfByte first dpl s.dpl → HoldsOfByte first dph s.dph
    → HoldsOfByte first (pointer_increased dpl dph).0 (with_data_pointer ((data_pointer s + 1) % 65536) s).dpl
    × HoldsOfByte first (pointer_increased dpl dph).1 (with_data_pointer ((data_pointer s + 1) % 65536) s).dph
pointer_holds laws framed first dpl dph s low high h k =
    let is = subst (IsResult 65536 (next_pointers dpl dph)) (same_pointer s.dpl s.dph) (pointers_are laws framed first dpl dph s.dpl s.dph low high h k) in
    let v = (data_pointer s + 1) % 65536 in
    ((laws.bits.low v (next_pointers dpl dph) is.normal is.has, tt), (laws.bits.high v (next_pointers dpl dph) is.normal is.has, tt))

pub pointer_form : (laws : KnownLaws) (framed : Bool) (dpl dph : Byte) → IsByte framed dpl → IsByte framed dph
    → IsByte framed (pointer_increased dpl dph).0 × IsByte framed (pointer_increased dpl dph).1
pointer_form laws framed dpl dph low high =
    let normal : IsNormal 65536 (next_pointers dpl dph) = laws.sets.add_normal 65536 (pair_set dpl.set dph.set) (single 1) (laws.bits.pair_normal dpl.set dph.set low.normal high.normal) (one_is laws 65536 (omega arith)).normal in
    (byte_form framed (low_set (next_pointers dpl dph)) (laws.bits.low_normal (next_pointers dpl dph) normal), byte_form framed (high_set (next_pointers dpl dph)) (laws.bits.high_normal (next_pointers dpl dph) normal))
