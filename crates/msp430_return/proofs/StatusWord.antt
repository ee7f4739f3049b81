-- SR from a word.
use Rattle.std.proofs.Common.{◌≡◌, ℕ, ◌/◌, ◌%◌, Bool, Option, length, arith}
use Rattle.std.specs.Option.{option_map}
use Rattle.std.proofs.lemmas.List.{length-take-le}
use Rattle.std.proofs.lemmas.List.FromFn.{length-map-range_with_len}
use Rattle.entry_value.specs.declared.word.Word.{Word}
use Rattle.entry_value.specs.Words.{HoldsOfWord}
use Rattle.value_bits.specs.BitFacts.{bits_take}
use Rattle.value_bits.specs.Bits.{known_bit, known_bits}
use Rattle.msp430_chip.specs.declared.state.ChipState.{ChipState}
use Rattle.msp430_state.specs.Forms.{IsWord}
use Rattle.msp430_state.specs.Holding.{suspended_of, HoldsOfStatus}
use Rattle.msp430_alu.specs.Laws.{MemoryLaws}
use Rattle.msp430_alu.specs.RelationFacts.{status_related}
use Rattle.msp430_return.specs.Return.{status_from}

pub status_length : (word : Word) → length (status_from word).bits ≡ 9
status_length word = length-take-le 9 (known_bits 16 word.set) (omega (arith, length-map-range_with_len (λ place. known_bit 16 place word.set) 0 16))

pub status_holds : (laws : MemoryLaws) (framed : Bool) (first : Option ChipState) (word : Word) (v : ℕ)
    → IsWord framed word → HoldsOfWord (option_map suspended_of first) word v
    → HoldsOfStatus (option_map suspended_of first) (status_from word) (v % 512)
status_holds laws framed first word v form holds = record {
  bits = bits_take 9 (known_bits 16 word.set) v (v % 512) (v / 512) (omega arith) (omega arith) (laws.known.bits.known 16 v word.set form.normal holds.0);
  entry = status_related first word.entry v holds.1;
}
