-- Instructions whose destination is SR (SLAU049, chapter 3, "Status Register" and "Instruction Set"): its nine bits, and what it
-- came from. MOV, BIC and BIS, and SWPB, make each bit by the known bits of the operands; CLRC and DINT are BIC, SETC and EINT are
-- BIS, and POP is MOV. An instruction that sets flags leaves SR free, whole.
use Rattle.std.specs.Prelude.{ℕ, ◌+◌, ◌%◌, if◌then◌else◌, Bool, false, Option, None, List, [], ◌∷◌, ◌++◌, replicate, take, slice_index_or, slice_set}
use Rattle.entry_value.specs.declared.word.Entry.{Entry}
use Rattle.entry_value.specs.declared.word.Word.{Word}
use Rattle.value_set.specs.Summing.{single}
use Rattle.value_bits.specs.declared.tri.Tri.{Tri}
use Rattle.value_bits.specs.declared.tri.Tri.TheVariants.{Zero, Either}
use Rattle.value_bits.specs.Bits.{known_bits, tri_and, tri_not, tri_or}
use Rattle.msp430_decode.specs.declared.instr.Operation.{Operation}
use Rattle.msp430_decode.specs.declared.instr.Operation.TheVariants.{Mov, Bic, Bis}
use Rattle.msp430_decode.specs.declared.instr.Register.TheVariants.{Sr}
use Rattle.msp430_decode.specs.declared.instr.SingleOperation.{SingleOperation}
use Rattle.msp430_decode.specs.declared.instr.SingleOperation.TheVariants.{Swpb}
use Rattle.msp430_decode.specs.declared.instr.Source.{Source}
use Rattle.msp430_decode.specs.declared.instr.Source.TheVariants as source
use Rattle.msp430_decode.specs.declared.instr.Width.{Width}
use Rattle.msp430_decode.specs.declared.instr.Width.TheVariants.{Word as Words, Byte}
use Rattle.msp430_chip.specs.declared.device.Device.{Device}
use Rattle.msp430_chip.specs.Arithmetic.{sets_flags}
use Rattle.msp430_results.specs.Words.{values_of, written_word}
use Rattle.msp430_state.specs.declared.status.Status.{Status}
use Rattle.msp430_state.specs.Known.{Known}
use Rattle.value_bits.specs.Pointwise.{each_with}
use Rattle.msp430_alu.specs.Formats.{Worked, access_of, constant_of, relation_of}
use Rattle.msp430_alu.specs.Operands.{source_reach, grown_known, operand_word}
use Rattle.msp430_alu.specs.Registers.{status_relation}

-- TWO OPERANDS

-- a bit of the result, by that of the source and that of SR
abbrev pub bit_behind : Operation → (given held : Tri) → Tri
bit_behind Mov given held = given
bit_behind Bic given held = tri_and held (tri_not given)
bit_behind Bis given held = tri_or held given
bit_behind other given held = Either

-- SR holds nine bits, the lowest one first. A byte has no bit 8.
abbrev pub moved_bits : Operation → Width → (given held : List Tri) → List Tri
moved_bits done Words given held = each_with (bit_behind done) given held
moved_bits done Byte given held = slice_set (each_with (bit_behind done) given held) 8 Zero

-- what the result came from, by the source and by SR, where that is SR; a byte tells nothing
abbrev pub moved_relation : Operation → Width → (constant : Option ℕ) → (given held : Option Entry) → Option Entry
moved_relation done Words constant given held = status_relation (relation_of done constant given held)
moved_relation done Byte constant given held = None

-- the lowest nine bits of a word, with the high byte of a byte 0
abbrev pub lowest_bits : Width → Word → List Tri
lowest_bits width word = take 9 (known_bits 16 (written_word width (values_of width word) None).set)

-- those of a source, by its word; SR as the source has the bits that it holds
abbrev pub source_bits : Known → Width → Source → Word → List Tri
source_bits a width (source.Register Sr) word = a.status.bits
source_bits a width other word = lowest_bits width word

-- what MOV, BIC and BIS make of SR, by the word of the source
abbrev pub moved_status : Known → Operation → Width → Source → Word → Status
moved_status a done width origin word = record {
  bits = moved_bits done width (source_bits a width origin word) a.status.bits;
  entry = moved_relation done width (constant_of origin) word.entry a.status.entry;
}

-- SR is free, whole, behind what sets flags: CMP and BIT, too
abbrev pub free_bits : List Tri
free_bits = replicate 9 Either

abbrev pub status_behind : Known → Operation → Width → Source → Word → Status
status_behind a done width origin word =
    if sets_flags done then record { bits = free_bits; entry = None } else moved_status a done width origin word

-- SR is written. The fact goes.
abbrev pub put_status : Known → Status → Known
put_status a status = record a { status = status; fact = None }

-- PC as the source is behind the instruction
unfoldable pub status_worked : Device → (framed : Bool) → Known → (pc len : ℕ) → Operation → Width → Source → Worked
status_worked device framed a pc len done width origin =
    let counted = single ((pc + len) % 65536) in
    let from = source_reach pc a counted origin in
    let word = operand_word device a counted width from in
    record {
      after = put_status (grown_known a counted width origin) (status_behind a done width origin word);
      next = counted;
      accesses = access_of device pc false width from;
      store = None;
    }

-- ONE OPERAND

-- SWPB brings V, bit 8, to bit 0, and C, bit 0, to bit 8. What comes to the bits 1 to 7, SR doesn't hold. No mask tells what
-- that came from.
abbrev pub swapped_bits : (held : List Tri) → List Tri
swapped_bits held = slice_index_or held 8 Either ∷ replicate 7 Either ++ slice_index_or held 0 Either ∷ []

abbrev pub single_bits : SingleOperation → (held : List Tri) → List Tri
single_bits Swpb held = swapped_bits held
single_bits other held = free_bits

-- SR as the one operand: nothing is read from memory, and nothing stored
unfoldable pub single_status_worked : Device → (framed : Bool) → Known → (pc len : ℕ) → SingleOperation → Width → Worked
single_status_worked device framed a pc len done width = record {
  after = put_status a (record { bits = single_bits done a.status.bits; entry = None });
  next = single ((pc + len) % 65536);
  accesses = [];
  store = None;
}
