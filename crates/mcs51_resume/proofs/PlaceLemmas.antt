-- What the places of the suspended state held: bytes in form, which hold of all that a place may be read as.
use Rattle.std.proofs.Common.{◌≡◌, ℕ, ◌-◌, ◌/◌, ◌%◌, ◌<◌, ◌≤◌, Bool, true, Option, None, Some, refl, sym, subst, inl, inr, arith}
use Rattle.std.specs.Option.{option_map}
use Rattle.std.proofs.lemmas.Bool.{lt-ltb, le-ltb}
use Rattle.value_set.specs.Form.{Has}
use Rattle.value_set.specs.Summing.{single}
use Rattle.entry_value.specs.declared.byte.Byte.{Byte}
use Rattle.entry_value.specs.declared.word.Entry.{Entry}
use Rattle.entry_value.specs.Words.{Reads, HoldsOfByte}
use Rattle.mcs51_chip.specs.declared.place.Address.TheVariants.{InRam as AtRam, InSfr as AtSfr}
use Rattle.mcs51_chip.specs.declared.place.Sfr.{Sfr}
use Rattle.mcs51_chip.specs.declared.place.Sfr.TheVariants.{Sp, Dpl, Dph, Ie, Ip, Psw, Acc, B, Other}
use Rattle.mcs51_chip.specs.declared.state.ChipState.{ChipState}
use Rattle.mcs51_chip.specs.Leading.{MayReadSfr}
use Rattle.mcs51_chip.specs.Registers.{sfr_at}
use Rattle.mcs51_state.specs.declared.addresses.Addresses.TheVariants.{InRam, InSfr}
use Rattle.mcs51_state.specs.Forms.{IsByte, IsKnown, IsRelation}
use Rattle.mcs51_state.specs.FormFacts.{byte_form}
use Rattle.mcs51_state.specs.Known.{Known, byte_of}
use Rattle.mcs51_state.specs.Places.{ie_place, ip_place, is_place, sfr_of, suspended_of}
use Rattle.mcs51_state.specs.Under.{IsUnder}
use Rattle.mcs51_state.specs.Reading.{read_byte, register_byte}
use Rattle.mcs51_results.specs.InstructionLaws.{InstructionLaws}
use Rattle.mcs51_resume.specs.Resume.{place_byte}
use Rattle.mcs51_resume.proofs.Masks.{AreFormed, Tells}
use Rattle.mcs51_resume.proofs.Numbers.{IsRegister, MayReadHeld, place_cases, reads_ram, reads_register, same_alone}

-- THE PLACES ONE BY ONE

at_ram : (framed : Bool) (a : Known) (pc place : ℕ) → place < 256 → place_byte framed a pc place ≡ read_byte framed a (InRam (single place))
unfolding place_byte
at_ram framed a pc place low = rw (lt-ltb place 256 low) refl

at_register : (framed : Bool) (a : Known) (pc place : ℕ) → 128 ≤ place - 256 → place - 256 < 256
    → place_byte framed a pc place ≡ read_byte framed a (InSfr (place - 256))
unfolding place_byte
at_register framed a pc place low high = rw (le-ltb place 256 (omega (arith, low)), lt-ltb place 512 (omega (arith, low, high))) refl

at_low : (framed : Bool) (a : Known) (pc : ℕ) → place_byte framed a pc 512 ≡ byte_of (single (pc % 256))
unfolding place_byte
at_low framed a pc = refl

at_high : (framed : Bool) (a : Known) (pc : ℕ) → place_byte framed a pc 513 ≡ byte_of (single (pc / 256))
unfolding place_byte
at_high framed a pc = refl

pub at_enable : (framed : Bool) (a : Known) (pc : ℕ) → place_byte framed a pc ie_place ≡ a.ie
unfolding place_byte read_byte
at_enable framed a pc = refl

pub at_priority : (framed : Bool) (a : Known) (pc : ℕ) → place_byte framed a pc ip_place ≡ a.ip
unfolding place_byte read_byte
at_priority framed a pc = refl

-- WHAT THEY HOLD OF

module _ (laws : InstructionLaws) (framed : Bool) (a : Known) (f : ChipState) (first : Option ChipState) (under : IsUnder framed a f first) where
  read_by_chip : (at word : ℕ) → 128 ≤ at → at < 256 → (sfr : Sfr) → sfr_at at ≡ sfr → MayReadSfr f sfr word
      → HoldsOfByte (option_map suspended_of first) (read_byte framed a (InSfr at)) word
  read_by_chip at word low high sfr is may =
      laws.operands.reads.byte framed a f first under (InSfr at) (AtSfr at) word refl (low, high) (subst (λ r. MayReadSfr f r word) (sym is) may)

  read_status : (at word : ℕ) → sfr_at at ≡ Psw → MayReadHeld f Psw word
      → HoldsOfByte (option_map suspended_of first) (read_byte framed a (InSfr at)) word
  unfolding read_byte
  read_status at word is (y, few, same) =
      subst (λ r. HoldsOfByte (option_map suspended_of first) (register_byte a r) word) (sym is) (laws.operands.reads.status framed a f first under word y few same)

  read_held : (at word : ℕ) → 128 ≤ at → at < 256 → (sfr : Sfr) → sfr_at at ≡ sfr → MayReadHeld f sfr word
      → HoldsOfByte (option_map suspended_of first) (read_byte framed a (InSfr at)) word
  read_held at word low high Sp is may = read_by_chip at word low high Sp is may
  read_held at word low high Dpl is may = read_by_chip at word low high Dpl is may
  read_held at word low high Dph is may = read_by_chip at word low high Dph is may
  read_held at word low high Ie is may = read_by_chip at word low high Ie is may
  read_held at word low high Ip is may = read_by_chip at word low high Ip is may
  read_held at word low high Psw is may = read_status at word is may
  read_held at word low high Acc is may = read_by_chip at word low high Acc is may
  read_held at word low high B is may = read_by_chip at word low high B is may
  read_held at word low high Other is may = read_by_chip at word low high Other is may

  ram_holds : (place word : ℕ) → place < 256 → Reads (suspended_of f) place word
      → HoldsOfByte (option_map suspended_of first) (place_byte framed a f.pc place) word
  ram_holds place word low reads =
      let alone = laws.known.sets.single 256 place low in
      subst (λ byte. HoldsOfByte (option_map suspended_of first) byte word) (sym (at_ram framed a f.pc place low))
      (laws.operands.reads.byte framed a f first under (InRam (single place)) (AtRam place) word alone.1 alone.0 (reads_ram f under.holds.state place word low reads))

  register_holds : (place word : ℕ) → IsRegister place → Reads (suspended_of f) place word
      → HoldsOfByte (option_map suspended_of first) (place_byte framed a f.pc place) word
  register_holds place word one reads =
      subst (λ byte. HoldsOfByte (option_map suspended_of first) byte word) (sym (at_register framed a f.pc place one.low one.high))
      (read_held (place - 256) word one.low one.high (sfr_of place) refl (reads_register f under.holds.state place word one reads))

  number_holds : (byte : Byte) (n word : ℕ) → byte ≡ byte_of (single n) → n < 256 → word ≡ n
      → HoldsOfByte (option_map suspended_of first) byte word
  number_holds byte n word is small same = subst (λ b. HoldsOfByte (option_map suspended_of first) b word) (sym is) (subst (Has 256 (single n)) (sym same) (laws.known.sets.single 256 n small).1, tt)

  low_holds : (word : ℕ) → Reads (suspended_of f) 512 word → HoldsOfByte (option_map suspended_of first) (place_byte framed a f.pc 512) word
  low_holds word (small, same) = number_holds (place_byte framed a f.pc 512) (f.pc % 256) word (at_low framed a f.pc) (omega arith) (same_alone word (f.pc % 256) small (omega arith) same)

  high_holds : (word : ℕ) → Reads (suspended_of f) 513 word
      → HoldsOfByte (option_map suspended_of first) (place_byte framed a f.pc 513) word
  high_holds word (small, same) =
      let pc = under.holds.state.pc in
      number_holds (place_byte framed a f.pc 513) (f.pc / 256) word (at_high framed a f.pc) (omega (arith, pc)) (same_alone word (f.pc / 256) small (omega (arith, pc)) same)

  place_holds : (place word : ℕ) → is_place place ≡ true → Reads (suspended_of f) place word
      → HoldsOfByte (option_map suspended_of first) (place_byte framed a f.pc place) word
  place_holds place word names reads = elim (place_cases place names) [
    | inl low ↦ ram_holds place word low reads
    | inr (inl one) ↦ register_holds place word one reads
    | inr (inr (inl low_byte)) ↦ subst (λ p. HoldsOfByte (option_map suspended_of first) (place_byte framed a f.pc p) word) (sym low_byte) (low_holds word (subst (λ p. Reads (suspended_of f) p word) low_byte reads))
    | inr (inr (inr high_byte)) ↦ subst (λ p. HoldsOfByte (option_map suspended_of first) (place_byte framed a f.pc p) word) (sym high_byte) (high_holds word (subst (λ p. Reads (suspended_of f) p word) high_byte reads))
  ]

-- THEIR FORM

number_form : (laws : InstructionLaws) (framed : Bool) (byte : Byte) (n : ℕ) → byte ≡ byte_of (single n) → n < 256 → IsByte framed byte
number_form laws framed byte n is small = subst (IsByte framed) (sym is) (byte_form framed (single n) (laws.known.sets.single 256 n small).0)

place_form : (laws : InstructionLaws) (framed : Bool) (a : Known) (pc : ℕ) → pc < 65536 → IsKnown framed a → (place : ℕ)
    → is_place place ≡ true → IsByte framed (place_byte framed a pc place)
place_form laws framed a pc small form place names = elim (place_cases place names) [
  | inl low ↦ subst (IsByte framed) (sym (at_ram framed a pc place low)) (laws.operands.reads.form framed a form (InRam (single place)) (laws.known.sets.single 256 place low).0)
  | inr (inl one) ↦ subst (IsByte framed) (sym (at_register framed a pc place one.low one.high)) (laws.operands.reads.form framed a form (InSfr (place - 256)) (one.low, one.high))
  | inr (inr (inl low_byte)) ↦ subst (λ p. IsByte framed (place_byte framed a pc p)) (sym low_byte) (number_form laws framed (place_byte framed a pc 512) (pc % 256) (at_low framed a pc) (omega arith))
  | inr (inr (inr high_byte)) ↦ subst (λ p. IsByte framed (place_byte framed a pc p)) (sym high_byte) (number_form laws framed (place_byte framed a pc 513) (pc / 256) (at_high framed a pc) (omega (arith, small)))
]

-- OF RELATIONS

pub relation_formed : (laws : InstructionLaws) (framed : Bool) (a : Known) (pc : ℕ) → pc < 65536 → IsKnown framed a
    → (entry : Option Entry) → IsRelation true entry
    → AreFormed framed (place_byte framed a pc) entry
relation_formed laws framed a pc small form None named = tt
relation_formed laws framed a pc small form (Some entry) named = place_form laws framed a pc small form entry.place named.0

pub relation_tells : (laws : InstructionLaws) (framed : Bool) (a : Known) (f : ChipState) (first : Option ChipState)
    → IsUnder framed a f first → (entry : Option Entry) → IsRelation true entry
    → Tells (place_byte framed a f.pc) (suspended_of f) (option_map suspended_of first) entry
relation_tells laws framed a f first under None named = tt
relation_tells laws framed a f first under (Some entry) named = record {
  normal = (place_form laws framed a f.pc under.holds.state.pc under.form entry.place named.0).normal;
  tells = λ word reads. place_holds laws framed a f first under entry.place word named.0 reads;
  and_small = named.1;
  or_small = named.2;
}
