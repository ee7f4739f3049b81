-- What is read holds of what stands in memory.
use Rattle.std.proofs.Common.{◌≡◌, ℕ, ◌+◌, ◌-◌, ◌*◌, ◌%◌, ◌<◌, ◌≤◌, true, false, Option, None, Some, List, [], ◌∷◌, length, get_or, refl, sym, ap, ◌∙◌, subst, inl, inr, arith, Contains}
use Rattle.std.specs.Prelude.{◌⊎◌, nat_le}
use Rattle.std.proofs.lemmas.Bool.{and_parts, and_from, cond_both, cond-true, cond-false, cases_Bool, leb-true, le-leb}
use Rattle.std.proofs.lemmas.Option.{same_Some}
use Rattle.plain_lemmas.specs.Members.{in_none, in_cons}
use Rattle.entry_value.specs.declared.word.Word.{Word}
use Rattle.entry_value.specs.Cells.{AreCells, StandsUnder, unknown, number_at, read}
use Rattle.entry_value.specs.Words.{Suspended, HoldsOfWord}
use Rattle.image.specs.Image.{byte_at}
use Rattle.value_set.specs.declared.form.Form.{Form}
use Rattle.value_set.specs.Form.{Has, IsNormal, members}
use Rattle.value_set.specs.Joining.{join}
use Rattle.value_set.specs.Summing.{single}
use Rattle.msp430_decode.specs.declared.instr.Width.{Width}
use Rattle.msp430_decode.specs.declared.instr.Width.TheVariants.{Word as Words, Byte}
use Rattle.msp430_chip.specs.declared.device.Device.{Device}
use Rattle.msp430_chip.specs.Arithmetic.{modulus}
use Rattle.msp430_chip.specs.Leading.{MayRead, MayReadByte}
use Rattle.msp430_chip.specs.Leading.MayReadByte.{OfRam, OfProgram, OfNeither}
use Rattle.msp430_chip.specs.LeadingFacts.{AreBytes, byte_below, image_below, read_below}
use Rattle.msp430_chip.specs.Memory.{is_ram, size_of, aligned}
use Rattle.msp430_state.specs.Holding.{ram_byte}
use Rattle.msp430_state.specs.Known.{Known}
use Rattle.msp430_results.specs.FlagSets.{IsResult}
use Rattle.msp430_alu.specs.Memory.{IsDevice, located, word_by, byte_by, program_word, read_one, read_each, read_list, read_known}
use Rattle.msp430_results.specs.InstructionLaws.{InstructionLaws}
use Rattle.msp430_alu.proofs.WhereAccesses.{located_is}
use Rattle.msp430_alu.specs.NumberFacts.{single_is}

-- UNKNOWN VALUES

-- a word in its one form that holds of the number
pub record IsHeld (first : Option Suspended) (word : Word) (v : ℕ) : Type 0 where
  pub normal : IsNormal 65536 word.set
  pub holds : HoldsOfWord first word v

unknown_byte : (laws : InstructionLaws) (first : Option Suspended) (v : ℕ) → v < 256 → IsHeld first (unknown 1) v
unfolding read
unknown_byte laws first v small = record {
  normal = laws.known.cells.read_normal 0 0 0 0 1 [] tt;
  holds = laws.known.cells.reads first (λ at. v) 0 0 0 0 1 [] tt (omega arith) (inl refl) (λ at. small, λ cell h. absurd (in_none cell h));
}

unknown_word : (laws : InstructionLaws) (first : Option Suspended) (v : ℕ) → v < 65536 → IsHeld first (unknown 2) v
unknown_word laws first v small = record { normal = laws.known.sets.whole_normal 65536 (omega arith); holds = (laws.known.sets.whole 65536 v small, tt) }

unknown_normal : (laws : InstructionLaws) (width : Width) → IsNormal 65536 (unknown (size_of width)).set
unknown_normal laws Words = (unknown_word laws None 0 (omega arith)).normal
unknown_normal laws Byte = (unknown_byte laws None 0 (omega arith)).normal

-- THE PROGRAM

-- no word lies half in RAM
both_in_ram : {device : Device} → IsDevice device → (at : ℕ) → at % 2 ≡ 0 → is_ram device (at + 1) ≡ is_ram device at
both_in_ram {device} is at no_bit = elim (cases_Bool (is_ram device at)) [
  | inl inside ↦
      let ends = and_parts (nat_le device.ram.lo at) (nat_le at device.ram.hi) inside in
      let low : device.ram.lo ≤ at = leb-true device.ram.lo at ends.0 in
      let high : at ≤ device.ram.hi = leb-true at device.ram.hi ends.1 in
      let above : at + 1 ≤ device.ram.hi = omega (arith, is.ram.high, no_bit) in
      and_from (nat_le device.ram.lo (at + 1)) (nat_le (at + 1) device.ram.hi) (le-leb device.ram.lo (at + 1) (omega arith)) (le-leb (at + 1) device.ram.hi above) ∙ sym inside
  | inr outside ↦ elim (cases_Bool (is_ram device (at + 1))) [
    | inr other ↦ other ∙ sym outside
    | inl inside ↦
        let ends = and_parts (nat_le device.ram.lo (at + 1)) (nat_le (at + 1) device.ram.hi) inside in
        let low : device.ram.lo ≤ at + 1 = leb-true device.ram.lo (at + 1) ends.0 in
        let high : at + 1 ≤ device.ram.hi = leb-true (at + 1) device.ram.hi ends.1 in
        let below : device.ram.lo ≤ at = omega (arith, is.ram.low, no_bit) in
        let there : is_ram device at ≡ true = and_from (nat_le device.ram.lo at) (nat_le at device.ram.hi) (le-leb device.ram.lo at below)
        (le-leb at device.ram.hi (omega arith)) in
        absurd (cc)
  ]
]

-- a byte that is read: of RAM, or of no RAM by what the program has
byte_of_ram : (device : Device) (ram : List ℕ) (at byte : ℕ) → is_ram device at ≡ true → MayReadByte device ram at byte
    → byte ≡ ram_byte device ram at
byte_of_ram device ram at byte inside (OfRam there is) = is ∙ sym (cond-true (is_ram device at) (get_or ram (at - device.ram.lo) 0) 0 inside)
byte_of_ram device ram at byte inside (OfProgram outside is) = absurd (cc)
byte_of_ram device ram at byte inside (OfNeither outside is small) = absurd (cc)

data OfImage (device : Device) (at byte : ℕ) : Type 0 where
  Program : byte_at device.image at ≡ Some byte → OfImage device at byte
  Any : byte_at device.image at ≡ None → OfImage device at byte

byte_of_image : (device : Device) (ram : List ℕ) (at byte : ℕ) → is_ram device at ≡ false
    → MayReadByte device ram at byte → OfImage device at byte
byte_of_image device ram at byte outside (OfRam there is) = absurd (cc)
byte_of_image device ram at byte outside (OfProgram there is) = Program is
byte_of_image device ram at byte outside (OfNeither there is small) = Any is

ram_bytes : (device : Device) (ram : List ℕ) → ((at : ℕ) → ram_byte device ram at < 256) → AreBytes device ram
ram_bytes device ram small at inside = subst (λ b. b < 256) (cond-true (is_ram device at) (get_or ram (at - device.ram.lo) 0) 0 inside) (small at)

-- ONE ADDRESS

pub record IsMemory (device : Device) (a : Known) (first : Option Suspended) (ram : List ℕ) : Type 0 where
  pub device_so : IsDevice device
  pub cells : AreCells device.ram.lo device.ram.hi device.ram.lo a.cells.cells
  pub stands : StandsUnder first a.cells.cells (ram_byte device ram)

byte_image_held : (laws : InstructionLaws) (first : Option Suspended) (byte : ℕ) (found : Option ℕ) → byte < 256
    → (found ≡ Some byte) ⊎ (found ≡ None)
    → IsHeld first (byte_by found) byte
byte_image_held laws first byte found small (inl e) =
    let is = single_is laws.known 65536 byte (omega arith) in
    subst (λ f. IsHeld first (byte_by f) byte) (sym e) (record { normal = is.normal; holds = (is.has, tt) })
byte_image_held laws first byte found small (inr e) = subst (λ f. IsHeld first (byte_by f) byte) (sym e) (unknown_byte laws first byte small)

either_image : (device : Device) (at byte : ℕ) → OfImage device at byte
    → (byte_at device.image at ≡ Some byte) ⊎ (byte_at device.image at ≡ None)
either_image device at byte (Program e) = inl e
either_image device at byte (Any e) = inr e

word_image_held : (laws : InstructionLaws) (first : Option Suspended) (low high : ℕ) (one other : Option ℕ) → low < 256
    → high < 256 → (one ≡ Some low) ⊎ (one ≡ None)
    → (other ≡ Some high) ⊎ (other ≡ None)
    → IsHeld first (word_by one other) (low + 256 * high)
word_image_held laws first low high None other small few h k = unknown_word laws first (low + 256 * high) (omega arith)
word_image_held laws first low high (Some b) None small few h k = unknown_word laws first (low + 256 * high) (omega arith)
word_image_held laws first low high (Some b) (Some c) small few (inl e) (inl g) =
    let is = single_is laws.known 65536 (low + 256 * high) (omega arith) in
    let same : low + 256 * high ≡ b + 256 * c = let p : b ≡ low = same_Some b low e in let q : c ≡ high = same_Some c high g in omega (arith, p, q) in
    subst (λ v. IsHeld first (record { set = single v; entry = None }) (low + 256 * high)) same (record { normal = is.normal; holds = (is.has, tt) })
word_image_held laws first low high (Some b) (Some c) small few (inr e) k = absurd (cc)
word_image_held laws first low high (Some b) (Some c) small few (inl e) (inr g) = absurd (cc)

pub one_held : (laws : InstructionLaws) {device : Device} {a : Known} {first : Option Suspended} {ram : List ℕ}
    → IsMemory device a first ram → (width : Width) (address x : ℕ)
    → address < 65536
    → MayRead device ram width address x → IsHeld first (read_one device a width (aligned device width address)) x
one_held laws {device} {a} {first} {ram} memory Byte address x below reads =
    let at = aligned device Byte address in
    let fits = laws.places.fits device Byte address memory.device_so.ram below in
    elim (cases_Bool (is_ram device at)) [
      | inl inside ↦
          let is = byte_of_ram device ram at x inside reads in
          let held : IsHeld first (read a.cells.cells at 1) x = record {
            normal = laws.known.cells.read_normal device.ram.lo device.ram.hi device.ram.lo at 1 a.cells.cells memory.cells;
            holds = subst (HoldsOfWord first (read a.cells.cells at 1)) (sym is)
                (laws.known.cells.reads first (ram_byte device ram) device.ram.lo device.ram.hi device.ram.lo at 1 a.cells.cells memory.cells (omega (arith, fits)) (inl refl) memory.stands);
          } in
          subst (λ word. IsHeld first word x) (sym (cond-true (is_ram device at) (read a.cells.cells at 1) (program_word device Byte at) inside)) held
      | inr outside ↦
          let small = byte_below device ram memory.device_so.bytes (ram_bytes device ram memory.stands.0) at x reads in
          subst (λ word. IsHeld first word x) (sym (cond-false (is_ram device at) (read a.cells.cells at 1) (program_word device Byte at) outside))
          (byte_image_held laws first x (byte_at device.image at) small (either_image device at x (byte_of_image device ram at x outside reads)))
    ]
one_held laws {device} {a} {first} {ram} memory Words address x below reads =
    let at = aligned device Words address in
    let low = reads.low in
    let high = reads.high in
    let no_bit = laws.places.even device address memory.device_so.ram in
    let fits = laws.places.fits device Words address memory.device_so.ram below in
    let small : at < 65535 = omega (arith, fits) in
    let together = both_in_ram memory.device_so at no_bit in
    elim (cases_Bool (is_ram device at)) [
      | inl inside ↦
          let first_byte = byte_of_ram device ram at low inside reads.reads_low in
          let second_byte = byte_of_ram device ram (at + 1) high (together ∙ inside) reads.reads_high in
          let next : (at + 1) % 65536 ≡ at + 1 = omega (arith, small) in
          let is : number_at (ram_byte device ram) at 2 ≡ x =
          ap (λ n. ram_byte device ram at + 256 * ram_byte device ram n) next
          ∙ omega (arith, first_byte, second_byte, reads.word_is) in
          let held : IsHeld first (read a.cells.cells at 2) x = record {
            normal = laws.known.cells.read_normal device.ram.lo device.ram.hi device.ram.lo at 2 a.cells.cells memory.cells;
            holds = subst (HoldsOfWord first (read a.cells.cells at 2)) is
                (laws.known.cells.reads first (ram_byte device ram) device.ram.lo device.ram.hi device.ram.lo at 2 a.cells.cells memory.cells (omega (arith, small)) (inr refl) memory.stands);
          } in
          subst (λ word. IsHeld first word x) (sym (cond-true (is_ram device at) (read a.cells.cells at 2) (program_word device Words at) inside)) held
      | inr outside ↦
          let low_small = byte_below device ram memory.device_so.bytes (ram_bytes device ram memory.stands.0) at low reads.reads_low in
          let high_small = byte_below device ram memory.device_so.bytes (ram_bytes device ram memory.stands.0) (at + 1) high reads.reads_high in
          let one = either_image device at low (byte_of_image device ram at low outside reads.reads_low) in
          let other = either_image device (at + 1) high (byte_of_image device ram (at + 1) high (together ∙ outside) reads.reads_high) in
          let held = word_image_held laws first low high (byte_at device.image at) (byte_at device.image (at + 1)) low_small high_small one other in
          subst (λ word. IsHeld first word x) (sym (cond-false (is_ram device at) (read a.cells.cells at 2) (program_word device Words at) outside))
          (subst (IsHeld first (program_word device Words at)) (sym reads.word_is) held)
    ]

-- SEVERAL ADDRESSES

word_normal : (laws : InstructionLaws) (one other : Option ℕ) → ((b : ℕ) → one ≡ Some b → b < 256)
    → ((b : ℕ) → other ≡ Some b → b < 256) → IsNormal 65536 (word_by one other).set
word_normal laws None other small few = laws.known.sets.whole_normal 65536 (omega arith)
word_normal laws (Some b) None small few = laws.known.sets.whole_normal 65536 (omega arith)
word_normal laws (Some b) (Some c) small few = let low = small b refl in let high = few c refl in (laws.known.sets.single 65536 (b + 256 * c) (omega (arith, low, high))).0

byte_normal : (laws : InstructionLaws) (found : Option ℕ) → ((b : ℕ) → found ≡ Some b → b < 256) → IsNormal 65536 (byte_by found).set
byte_normal laws None small = (unknown_byte laws None 0 (omega arith)).normal
byte_normal laws (Some b) small = let low = small b refl in (laws.known.sets.single 65536 b (omega (arith, low))).0

image_normal : (laws : InstructionLaws) {device : Device} → IsDevice device → (width : Width) (at : ℕ)
    → IsNormal 65536 (program_word device width at).set
image_normal laws {device} is Words at =
    word_normal laws (byte_at device.image at) (byte_at device.image (at + 1)) (λ b. image_below device.image at b is.bytes) (λ b. image_below device.image (at + 1) b is.bytes)
image_normal laws {device} is Byte at = byte_normal laws (byte_at device.image at) (λ b. image_below device.image at b is.bytes)

one_normal : (laws : InstructionLaws) {device : Device} (a : Known) → IsDevice device
    → AreCells device.ram.lo device.ram.hi device.ram.lo a.cells.cells → (width : Width) (at : ℕ)
    → IsNormal 65536 (read_one device a width at).set
one_normal laws {device} a is cells width at =
    cond_both (is_ram device at) (read a.cells.cells at (size_of width)) (program_word device width at) (λ word. IsNormal 65536 word.set)
    (λ e. laws.known.cells.read_normal device.ram.lo device.ram.hi device.ram.lo at (size_of width) a.cells.cells cells)
    (λ e. image_normal laws is width at)

each_normal : (laws : InstructionLaws) {device : Device} (a : Known) → IsDevice device
    → AreCells device.ram.lo device.ram.hi device.ram.lo a.cells.cells
    → (width : Width) (set : Form) (list : List ℕ) → IsNormal 65536 set
    → IsNormal 65536 (read_each device a width set list)
each_normal laws a is cells width set [] normal = normal
each_normal laws {device} a is cells width set (at ∷ rest) normal =
    each_normal laws a is cells width (join 65536 set (read_one device a width at).set) rest
    (laws.known.sets.join_normal 65536 set (read_one device a width at).set normal (one_normal laws a is cells width at))

each_keeps : (laws : InstructionLaws) {device : Device} (a : Known) → IsDevice device
    → AreCells device.ram.lo device.ram.hi device.ram.lo a.cells.cells
    → (width : Width) (set : Form) (list : List ℕ) (v : ℕ) → IsNormal 65536 set
    → Has 65536 set v → Has 65536 (read_each device a width set list) v
each_keeps laws a is cells width set [] v normal has = has
each_keeps laws {device} a is cells width set (at ∷ rest) v normal has =
    let next = (read_one device a width at).set in
    let next_normal = one_normal laws a is cells width at in
    each_keeps laws a is cells width (join 65536 set next) rest v (laws.known.sets.join_normal 65536 set next normal next_normal)
    (laws.known.sets.join_first 65536 set next normal next_normal v has)

each_has : (laws : InstructionLaws) {device : Device} (a : Known) → IsDevice device
    → AreCells device.ram.lo device.ram.hi device.ram.lo a.cells.cells
    → (width : Width) (set : Form) (list : List ℕ) (at v : ℕ) → IsNormal 65536 set
    → Contains list at → Has 65536 (read_one device a width at).set v → Has 65536 (read_each device a width set list) v
each_has laws a is cells width set [] at v normal there has = absurd (in_none at there)
each_has laws {device} a is cells width set (first ∷ rest) at v normal there has =
    let next = (read_one device a width first).set in
    let next_normal = one_normal laws a is cells width first in
    let joined = laws.known.sets.join_normal 65536 set next normal next_normal in
    elim (in_cons first rest at there) [
      | inl same ↦ each_keeps laws a is cells width (join 65536 set next) rest v joined
          (laws.known.sets.join_second 65536 set next normal next_normal v (subst (λ n. Has 65536 (read_one device a width n).set v) (sym same) has))
      | inr later ↦ each_has laws a is cells width (join 65536 set next) rest at v joined later has
    ]

unknown_held : (laws : InstructionLaws) (first : Option Suspended) (width : Width) (v : ℕ) → v < modulus width
    → IsHeld first (unknown (size_of width)) v
unknown_held laws first Words v small = unknown_word laws first v small
unknown_held laws first Byte v small = unknown_byte laws first v small

pub list_held : (laws : InstructionLaws) {device : Device} (a : Known) {first : Option Suspended} → IsDevice device
    → AreCells device.ram.lo device.ram.hi device.ram.lo a.cells.cells
    → (width : Width) (list : List ℕ) (at : ℕ) {v : ℕ}
    → v < modulus width → Contains list at → IsHeld first (read_one device a width at) v → IsHeld first (read_list device a width list) v
list_held laws a is cells width [] at small there held = absurd (in_none at there)
list_held laws {device} a {first} is cells width (only ∷ []) at {v} small there held = elim (in_cons only [] at there) [
  | inl same ↦ subst (λ n. IsHeld first (read_one device a width n) v) (sym same) held
  | inr none ↦ absurd (in_none at none)
]
list_held laws {device} a {first} is cells width (one ∷ next ∷ rest) at {v} small there held =
    let seed = (read_one device a width one).set in
    let seed_normal = one_normal laws a is cells width one in
    cond_both (nat_le (length rest) 254) (record { set = read_each device a width seed (next ∷ rest); entry = None }) (unknown (size_of width)) (λ word. IsHeld first word v)
    (λ few. record {
      normal = each_normal laws a is cells width seed (next ∷ rest) seed_normal;
      holds = (
        elim (in_cons one (next ∷ rest) at there) [
          | inl same ↦ each_keeps laws a is cells width seed (next ∷ rest) v seed_normal (subst (λ n. Has 65536 (read_one device a width n).set v) (sym same) held.holds.0)
          | inr later ↦ each_has laws a is cells width seed (next ∷ rest) at v seed_normal later held.holds.0
        ],
        tt,
      );
    })
    (λ many. unknown_held laws first width v small)

list_normal : (laws : InstructionLaws) {device : Device} (a : Known) → IsDevice device
    → AreCells device.ram.lo device.ram.hi device.ram.lo a.cells.cells
    → (width : Width) (list : List ℕ) → IsNormal 65536 (read_list device a width list).set
list_normal laws a is cells width [] = unknown_normal laws width
list_normal laws a is cells width (only ∷ []) = one_normal laws a is cells width only
list_normal laws {device} a is cells width (one ∷ next ∷ rest) =
    cond_both (nat_le (length rest) 254) (record { set = read_each device a width (read_one device a width one).set (next ∷ rest); entry = None }) (unknown (size_of width))
    (λ word. IsNormal 65536 word.set)
    (λ few. each_normal laws a is cells width (read_one device a width one).set (next ∷ rest) (one_normal laws a is cells width one)) (λ many. unknown_normal laws width)

pub read_known_normal : (laws : InstructionLaws) {device : Device} (a : Known) → IsDevice device
    → AreCells device.ram.lo device.ram.hi device.ram.lo a.cells.cells
    → (width : Width) (set : Form) → IsNormal 65536 (read_known device a width set).set
read_known_normal laws a is cells width set = list_normal laws a is cells width (members 65536 set)

pub memory_below : {device : Device} → IsDevice device → (ram : List ℕ) → ((at : ℕ) → ram_byte device ram at < 256)
    → (width : Width) (address x : ℕ)
    → MayRead device ram width address x → x < modulus width
memory_below {device} is ram small = read_below device ram is.bytes (ram_bytes device ram small)

-- what may be read at an address of a set
pub known_held : (laws : InstructionLaws) {device : Device} {a : Known} {first : Option Suspended} {ram : List ℕ} → IsMemory device a first ram
    → (width : Width) {set : Form} {address : ℕ} (x : ℕ) → IsResult 65536 set address
    → MayRead device ram width address x → IsHeld first (read_known device a width (located device width set)) x
known_held laws {device} {a} {ram} memory width {set} {address} x is reads =
    let at = located_is laws memory.device_so.ram width is in
    let one = one_held laws memory width address x (laws.known.sets.below 65536 address set is.normal is.has) reads in
    list_held laws a memory.device_so memory.cells width (members 65536 (located device width set)) (aligned device width address)
    (memory_below memory.device_so ram memory.stands.0 width address x reads) at.has one
