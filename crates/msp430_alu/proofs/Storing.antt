-- What is known of memory behind a store holds of it.
use Rattle.std.proofs.Common.{◌≡◌, ℕ, ◌+◌, ◌-◌, ◌*◌, ◌/◌, ◌%◌, ◌<◌, ◌≤◌, ◌==◌, ◌||◌, Bool, true, false, Option, None, Some, List, [], ◌∷◌, length, get_or, set, min, max, refl, sym, ap, ◌∙◌, subst, inl, inr, arith, Contains, get_or-set_same, get_or-set_other}
use Rattle.std.specs.Prelude.{◌⊎◌, nat_le, nat_lt, if◌then◌else◌}
use Rattle.std.specs.Option.{option_map}
use Rattle.std.proofs.lemmas.Bool.{and_parts, and_from, or_right, or_left, or_from, or_parts, cond_both, cond-true, cond-false, cases_Bool, cases_eq, leb-true, leb-false, le-leb, ltb-false, le-ltb, eq-eqb, ne_eqb, false_from_ne_true, both_ways}
use Rattle.std.proofs.Math.Nat.{mod-eq_of_lt, mul-le-mul_right}
use Rattle.std.proofs.lemmas.List.{length-set}
use Rattle.std.proofs.lemmas.List.Elements.{All-get_or, All-set}
use Rattle.plain_lemmas.specs.Members.{in_none, in_cons}
use Rattle.entry_value.specs.declared.word.Word.{Word}
use Rattle.entry_value.specs.Cells.{CellMap, AreCells, StandsUnder, write_any, written}
use Rattle.entry_value.specs.Words.{Suspended, HoldsOfWord}
use Rattle.value_set.specs.declared.form.Form.{Form}
use Rattle.value_set.specs.declared.form.Form.TheVariants.{Values, Run}
use Rattle.value_set.specs.Form.{Has, IsNormal}
use Rattle.value_set.specs.StepFacts.{steps_from}
use Rattle.value_set.specs.Joining.{reach}
use Rattle.msp430_decode.specs.declared.instr.Width.{Width}
use Rattle.msp430_decode.specs.declared.instr.Width.TheVariants.{Word as Words, Byte}
use Rattle.msp430_chip.specs.declared.device.Device.{Device}
use Rattle.msp430_chip.specs.declared.state.ChipState.{ChipState}
use Rattle.msp430_chip.specs.Arithmetic.{modulus}
use Rattle.msp430_chip.specs.Memory.{is_ram, size_of, aligned, with_byte, with_stored, HasRam}
use Rattle.msp430_state.specs.Forms.{IsKnown}
use Rattle.msp430_state.specs.Holding.{suspended_of, ram_byte, KeepsUntouched, HoldsOfParts}
use Rattle.msp430_state.specs.Known.{Known}
use Rattle.irq_frames.specs.Ranges.{AreRanges, has_address, lies_in, with_range}
use Rattle.msp430_results.specs.FlagSets.{IsResult}
use Rattle.msp430_alu.specs.Memory.{IsDevice, IsRam, touch, touch_each, touched_behind, with_store}
use Rattle.msp430_results.specs.InstructionLaws.{InstructionLaws}

-- BYTES OF RAM

ram_low : (device : Device) (at : ℕ) → is_ram device at ≡ true → device.ram.lo ≤ at
ram_low device at inside = leb-true device.ram.lo at (and_parts (nat_le device.ram.lo at) (nat_le at device.ram.hi) inside).0

ram_high : (device : Device) (at : ℕ) → is_ram device at ≡ true → at ≤ device.ram.hi
ram_high device at inside = leb-true at device.ram.hi (and_parts (nat_le device.ram.lo at) (nat_le at device.ram.hi) inside).1

in_ram : (device : Device) (at : ℕ) → device.ram.lo ≤ at → at ≤ device.ram.hi → is_ram device at ≡ true
in_ram device at low high = and_from (nat_le device.ram.lo at) (nat_le at device.ram.hi) (le-leb device.ram.lo at low) (le-leb at device.ram.hi high)

with_byte_unfolded : (device : Device) (ram : List ℕ) (at byte : ℕ)
    → with_byte device ram at byte ≡ (if is_ram device at then set ram (at - device.ram.lo) byte else ram)
unfolding with_byte
with_byte_unfolded device ram at byte = refl

byte_ram : {device : Device} {ram : List ℕ} (at byte : ℕ) → byte < 256 → IsRam device ram → IsRam device (with_byte device ram at byte)
byte_ram {device} {ram} at byte small is = subst (IsRam device) (sym (with_byte_unfolded device ram at byte))
    (cond_both (is_ram device at) (set ram (at - device.ram.lo) byte) ram (IsRam device)
    (λ e. record { count = length-set ram (at - device.ram.lo) byte ∙ is.count; bytes = All-set (λ b. b < 256) ram (at - device.ram.lo) byte small is.bytes }) (λ e. is))

-- the written byte, where it lies in RAM
byte_there : {device : Device} {ram : List ℕ} (at byte : ℕ) → is_ram device at ≡ true → IsRam device ram
    → ram_byte device (with_byte device ram at byte) at ≡ byte
byte_there {device} {ram} at byte inside is =
    let low = ram_low device at inside in
    let high = ram_high device at inside in
    let place : at - device.ram.lo < length ram = omega (arith, is.count) in
    let stored : with_byte device ram at byte ≡ set ram (at - device.ram.lo) byte = with_byte_unfolded device ram at byte ∙ cond-true (is_ram device at)
    (set ram (at - device.ram.lo) byte) ram inside in
    ap (λ bytes. ram_byte device bytes at) stored
    ∙ cond-true (is_ram device at) (get_or (set ram (at - device.ram.lo) byte) (at - device.ram.lo) 0) 0 inside
    ∙ get_or-set_same ram (at - device.ram.lo) byte 0 place

-- each other byte stays
byte_elsewhere : (device : Device) (ram : List ℕ) (at byte b : ℕ) → (b ≡ at → ⊥)
    → ram_byte device (with_byte device ram at byte) b ≡ ram_byte device ram b
byte_elsewhere device ram at byte b other = elim (cases_Bool (is_ram device at)) [
  | inr outside ↦ ap (λ bytes. ram_byte device bytes b) (with_byte_unfolded device ram at byte ∙ cond-false (is_ram device at) (set ram (at - device.ram.lo) byte) ram outside)
  | inl inside ↦
      let stored : with_byte device ram at byte ≡ set ram (at - device.ram.lo) byte = with_byte_unfolded device ram at byte ∙ cond-true (is_ram device at)
      (set ram (at - device.ram.lo) byte) ram inside in
      ap (λ bytes. ram_byte device bytes b) stored ∙
      elim (cases_Bool (is_ram device b)) [
        | inr past ↦
            cond-false (is_ram device b) (get_or (set ram (at - device.ram.lo) byte) (b - device.ram.lo) 0) 0 past
            ∙ sym (cond-false (is_ram device b) (get_or ram (b - device.ram.lo) 0) 0 past)
        | inl there ↦
            let low = ram_low device at inside in
            let also = ram_low device b there in
            let apart : b - device.ram.lo ≡ at - device.ram.lo → ⊥ = λ e. other (omega (arith, e, low, also)) in
            cond-true (is_ram device b) (get_or (set ram (at - device.ram.lo) byte) (b - device.ram.lo) 0) 0 there
            ∙ get_or-set_other ram (at - device.ram.lo) (b - device.ram.lo) byte 0 apart
            ∙ sym (cond-true (is_ram device b) (get_or ram (b - device.ram.lo) 0) 0 there)
      ]
]

ram_small : {device : Device} {ram : List ℕ} → IsRam device ram → (at : ℕ) → ram_byte device ram at < 256
ram_small {device} {ram} is at =
    cond_both (is_ram device at) (get_or ram (at - device.ram.lo) 0) 0 (λ b. b < 256)
    (λ e. let low = ram_low device at e in let high = ram_high device at e in
    All-get_or (λ b. b < 256) ram (at - device.ram.lo) 0 (omega (arith, is.count, low, high)) is.bytes)
    (λ e. omega arith)

pub stored_ram : (device : Device) (ram : List ℕ) (width : Width) (address value : ℕ) → value < modulus width → IsRam device ram
    → IsRam device (with_stored device ram width address value)
stored_ram device ram Words address value small is =
    let at = aligned device Words address in
    byte_ram (at + 1) (value / 256) (omega (arith, small)) (byte_ram at (value % 256) (omega arith) is)
stored_ram device ram Byte address value small is = byte_ram (aligned device Byte address) value small is

-- a RAM behind a store and behind a write of cells agree
agrees_there : (laws : InstructionLaws) {device : Device} → HasRam device → {ram : List ℕ} (width : Width) (address value : ℕ)
    → address < 65536 → value < modulus width
    → IsRam device ram → (b : ℕ) → device.ram.lo ≤ b → b ≤ device.ram.hi
    → written (ram_byte device ram) (aligned device width address) (size_of width) value b ≡ ram_byte device (with_stored device ram width address value) b
unfolding written
agrees_there laws {device} where_so {ram} Byte address value below small is b low high =
    let at = aligned device Byte address in
    elim (cases_eq b at) [
      | inl same ↦
          let inside : is_ram device at ≡ true = in_ram device at (subst (λ n. device.ram.lo ≤ n) same low) (subst (λ n. n ≤ device.ram.hi) same high) in
          let whole : value % 256 ≡ value = omega (arith, small) in
          cond-true (b == at) (value % 256) (ram_byte device ram b) (eq-eqb b at same)
          ∙ whole ∙ sym (byte_there at value inside is) ∙ ap (ram_byte device (with_byte device ram at value)) (sym same)
      | inr other ↦ cond-false (b == at) (value % 256) (ram_byte device ram b) (ne_eqb b at other) ∙ sym (byte_elsewhere device ram at value b other)
    ]
agrees_there laws {device} where_so {ram} Words address value below small is b low high =
    let at = aligned device Words address in
    let fits = laws.places.fits device Words address where_so below in
    let next : (at + 1) % 65536 ≡ at + 1 = omega (arith, fits) in
    let first = with_byte device ram at (value % 256) in
    let rest = if b == (at + 1) % 65536 then value / 256 else ram_byte device ram b in
    elim (cases_eq b at) [
      | inl same ↦
          let inside : is_ram device at ≡ true = in_ram device at (subst (λ n. device.ram.lo ≤ n) same low) (subst (λ n. n ≤ device.ram.hi) same high) in
          cond-true (b == at) (value % 256) rest (eq-eqb b at same)
          ∙ sym (byte_there at (value % 256) inside is) ∙ ap (ram_byte device first) (sym same)
          ∙ sym (byte_elsewhere device first (at + 1) (value / 256) b (λ e. omega (arith, e, same)))
      | inr other ↦
          cond-false (b == at) (value % 256) rest (ne_eqb b at other) ∙
          elim (cases_eq b (at + 1)) [
            | inl same ↦
                let inside : is_ram device (at + 1) ≡ true = in_ram device (at + 1) (subst (λ n. device.ram.lo ≤ n) same low) (subst (λ n. n ≤ device.ram.hi) same high) in
                let small_low : value % 256 < 256 = omega arith in
                cond-true (b == (at + 1) % 65536) (value / 256) (ram_byte device ram b) (eq-eqb b ((at + 1) % 65536) (same ∙ sym next))
                ∙ sym (byte_there (at + 1) (value / 256) inside (byte_ram at (value % 256) small_low is))
                ∙ ap (ram_byte device (with_byte device first (at + 1) (value / 256))) (sym same)
            | inr apart ↦
                cond-false (b == (at + 1) % 65536) (value / 256) (ram_byte device ram b) (ne_eqb b ((at + 1) % 65536) (λ e. apart (e ∙ next)))
                ∙ sym (byte_elsewhere device ram at (value % 256) b other)
                ∙ sym (byte_elsewhere device first (at + 1) (value / 256) b apart)
          ]
    ]

-- CELLS

pub size_is : (width : Width) → (size_of width ≡ 1) ⊎ (size_of width ≡ 2)
size_is Words = inr refl
size_is Byte = inl refl

-- a value that may be stored: of bytes it is a byte
pub record IsStorable (width : Width) (word : Word) : Type 0 where
  pub normal : IsNormal 65536 word.set
  pub byte : size_of width ≡ 1 → (n : ℕ) → Has 65536 word.set n → n < 256

cells_stored : (laws : InstructionLaws) {device : Device} (map : CellMap) (first : Option Suspended) {ram : List ℕ} {width : Width} {set_so : Form} (address value : ℕ) {word : Word}
    → IsDevice device → IsRam device ram
    → map.lo ≡ device.ram.lo → map.hi ≡ device.ram.hi → AreCells device.ram.lo device.ram.hi device.ram.lo map.cells → address < 65536
    → IsResult 65536 set_so (aligned device width address)
    → value < modulus width → IsStorable width word → HoldsOfWord first word value → StandsUnder first map.cells (ram_byte device ram)
    → StandsUnder first (write_any map set_so (size_of width) word).cells (ram_byte device (with_stored device ram width address value))
cells_stored laws {device} map first {ram} {width} {set_so} address value {word} is ram_is from up_to cells below at small storable holds stands =
    let size = size_of width in
    let top : map.hi < 65536 = subst (λ n. n < 65536) (sym up_to) is.ram.top in
    let are : AreCells map.lo map.hi map.lo map.cells =
    subst (λ lo. AreCells lo map.hi lo map.cells) (sym from) (subst (λ hi. AreCells device.ram.lo hi device.ram.lo map.cells) (sym up_to) cells) in
    let after = laws.known.cells.store_form map.lo size map set_so word top (omega arith) are (size_is width) storable.normal storable.byte in
    let written_so = laws.known.cells.store first (ram_byte device ram) map.lo size (aligned device width address) value map set_so word top are at.normal
    (size_is width) storable.normal storable.byte stands at.has holds in
    laws.known.cells.agree first (written (ram_byte device ram) (aligned device width address) size value)
    (ram_byte device (with_stored device ram width address value)) map.lo map.hi map.lo
    (write_any map set_so size word).cells top after (ram_small (stored_ram device ram width address value small ram_is))
    (λ b low high. agrees_there laws is.ram width address value below small ram_is b (subst (λ n. n ≤ b) from low) (subst (λ n. b ≤ n) up_to high)) written_so

-- TOUCHED BYTES

has_more : (from hi b low high : ℕ) (ranges : List (ℕ × ℕ)) → (laws : InstructionLaws) → low ≤ high → AreRanges from hi ranges
    → has_address ranges b ≡ true
    → has_address (with_range low high ranges) b ≡ true
has_more from hi b low high ranges laws le are has = laws.known.ranges.add from hi b low high ranges le are ∙ or_left (has_address ranges b) (lies_in (b, b) (low, high)) has

has_new : (from hi b low high : ℕ) (ranges : List (ℕ × ℕ)) → (laws : InstructionLaws) → AreRanges from hi ranges → low ≤ b
    → b ≤ high → has_address (with_range low high ranges) b ≡ true
has_new from hi b low high ranges laws are h k = laws.known.ranges.add from hi b low high ranges (omega arith) are
    ∙ or_right (has_address ranges b) (lies_in (b, b) (low, high)) (and_from (nat_le low b) (nat_le b high) (le-leb low b h) (le-leb b high k))

-- ranges in RAM that have what was touched before
pub record Grows (lo hi : ℕ) (before after : List (ℕ × ℕ)) : Type 0 where
  pub form : AreRanges lo hi after
  pub keeps : (b : ℕ) → has_address before b ≡ true → has_address after b ≡ true

grows_on : {lo hi : ℕ} {one two three : List (ℕ × ℕ)} → Grows lo hi one two → Grows lo hi two three → Grows lo hi one three
grows_on h k = record { form = k.form; keeps = λ b has. k.keeps b (h.keeps b has) }

touch_grows : (laws : InstructionLaws) (lo hi first last : ℕ) (touched : List (ℕ × ℕ)) → lo ≤ hi → first ≤ last → AreRanges lo hi touched
    → Grows lo hi touched (touch lo hi first last touched)
touch_grows laws lo hi first last touched le up are =
    cond_both (nat_lt last lo || nat_lt hi first) touched (with_range (max lo first) (min hi last) touched) (Grows lo hi touched)
    (λ e. record { form = are; keeps = λ b has. has })
    (λ e. let parts = or_parts (nat_lt last lo) (nat_lt hi first) e in
    let reaches : lo ≤ last = ltb-false last lo parts.0 in
    let begins : first ≤ hi = ltb-false hi first parts.1 in
    let ordered : max lo first ≤ min hi last = omega arith in
    record {
      form = laws.known.ranges.add_form lo hi (max lo first) (min hi last) touched (omega arith) ordered (omega arith) are;
      keeps = λ b has. has_more lo hi b (max lo first) (min hi last) touched laws ordered are has;
    })

no_meeting : (lo hi first last b : ℕ) → lo ≤ b → b ≤ hi → first ≤ b → b ≤ last → (nat_lt last lo || nat_lt hi first) ≡ true → ⊥
no_meeting lo hi first last b low high after before e =
    let one : nat_lt last lo ≡ false = le-ltb last lo (omega arith) in
    let two : nat_lt hi first ≡ false = le-ltb hi first (omega arith) in
    let both : (nat_lt last lo || nat_lt hi first) ≡ false = or_from (nat_lt last lo) (nat_lt hi first) one two in
    absurd (cc)

touch_has : (laws : InstructionLaws) (lo hi first last b : ℕ) (touched : List (ℕ × ℕ)) → AreRanges lo hi touched → lo ≤ b
    → b ≤ hi → first ≤ b → b ≤ last
    → has_address (touch lo hi first last touched) b ≡ true
touch_has laws lo hi first last b touched are low high after before =
    cond_both (nat_lt last lo || nat_lt hi first) touched (with_range (max lo first) (min hi last) touched) (λ ranges. has_address ranges b ≡ true)
    (λ e. absurd (no_meeting lo hi first last b low high after before e))
    (λ e. has_new lo hi b (max lo first) (min hi last) touched laws are (omega arith) (omega arith))

each_grows : (laws : InstructionLaws) (lo hi size : ℕ) (list : List ℕ) (touched : List (ℕ × ℕ)) → lo ≤ hi → 1 ≤ size → AreRanges lo hi touched
    → Grows lo hi touched (touch_each lo hi size list touched)
each_grows laws lo hi size [] touched le some are = record { form = are; keeps = λ b has. has }
each_grows laws lo hi size (at ∷ rest) touched le some are =
    let one = touch_grows laws lo hi at (at + size - 1) touched le (omega arith) are in
    grows_on one (each_grows laws lo hi size rest (touch lo hi at (at + size - 1) touched) le some one.form)

each_touched : (laws : InstructionLaws) (lo hi size at b : ℕ) (list : List ℕ) (touched : List (ℕ × ℕ)) → 1 ≤ size
    → AreRanges lo hi touched → Contains list at → lo ≤ b → b ≤ hi → at ≤ b
    → b ≤ at + size - 1
    → has_address (touch_each lo hi size list touched) b ≡ true
each_touched laws lo hi size at b [] touched some are there low high after before = absurd (in_none at there)
each_touched laws lo hi size at b (first ∷ rest) touched some are there low high after before =
    let next = touch lo hi first (first + size - 1) touched in
    let one = touch_grows laws lo hi first (first + size - 1) touched (omega arith) (omega arith) are in
    elim (in_cons first rest at there) [
      | inl same ↦
          let more = each_grows laws lo hi size rest next (omega arith) some one.form in
          more.keeps b (touch_has laws lo hi first (first + size - 1) b touched are low high (omega (arith, same, after)) (omega (arith, same, before)))
      | inr later ↦ each_touched laws lo hi size at b rest next some one.form later low high after before
    ]

pub behind_grows : (laws : InstructionLaws) (lo hi size : ℕ) (set_so : Form) (touched : List (ℕ × ℕ)) → lo ≤ hi → 1 ≤ size
    → AreRanges lo hi touched
    → Grows lo hi touched (touched_behind lo hi size set_so touched)
behind_grows laws lo hi size (Values xs) touched le some are = each_grows laws lo hi size xs touched le some are
behind_grows laws lo hi size (Run p) touched le some are =
    cond_both (nat_le 65536 (p.base + reach p)) (with_range lo hi touched) (touch lo hi p.base (p.base + reach p + size - 1) touched) (Grows lo hi touched)
    (λ e. record { form = laws.known.ranges.add_form lo hi lo hi touched (omega arith) le (omega arith) are; keeps = λ b has. has_more lo hi b lo hi touched laws le are has })
    (λ e. touch_grows laws lo hi p.base (p.base + reach p + size - 1) touched le (omega arith) are)

behind_touched : (laws : InstructionLaws) (lo hi size at b : ℕ) (set_so : Form) (touched : List (ℕ × ℕ)) → 1 ≤ size
    → AreRanges lo hi touched → Has 65536 set_so at → lo ≤ b → b ≤ hi
    → at ≤ b → b ≤ at + size - 1
    → has_address (touched_behind lo hi size set_so touched) b ≡ true
behind_touched laws lo hi size at b (Values xs) touched some are there low high after before = each_touched laws lo hi size at b xs touched some are there low high after before
behind_touched laws lo hi size at b (Run p) touched some are there low high after before =
    let (i, inside, is) = steps_from 65536 p.base p.stride p.count at there in
    let most : i * p.stride ≤ (p.count - 1) * p.stride = mul-le-mul_right p.stride (omega arith) in
    cond_both (nat_le 65536 (p.base + reach p)) (with_range lo hi touched) (touch lo hi p.base (p.base + reach p + size - 1) touched) (λ ranges. has_address ranges b ≡ true)
    (λ e. has_new lo hi b lo hi touched laws are low high)
    (λ e. let once : p.base + reach p < 65536 = leb-false 65536 (p.base + reach p) e in
    let plain : at ≡ p.base + i * p.stride = is ∙ mod-eq_of_lt {n = p.base + i * p.stride} {m = 65536} (omega (arith, once, most)) in
    touch_has laws lo hi p.base (p.base + reach p + size - 1) b touched are low high (omega (arith, plain, after)) (omega (arith, plain, most, before)))

-- a byte that a store doesn't write stays
unwritten : (device : Device) (ram : List ℕ) (width : Width) (address value b : ℕ)
    → (aligned device width address ≤ b → b ≤ aligned device width address + size_of width - 1 → ⊥)
    → ram_byte device (with_stored device ram width address value) b ≡ ram_byte device ram b
unwritten device ram Byte address value b other = byte_elsewhere device ram (aligned device Byte address) value b (λ e. other (omega (arith, e)) (omega (arith, e)))
unwritten device ram Words address value b other =
    let at = aligned device Words address in
    byte_elsewhere device (with_byte device ram at (value % 256)) (at + 1) (value / 256) b (λ e. other (omega (arith, e)) (omega (arith, e)))
    ∙ byte_elsewhere device ram at (value % 256) b (λ e. other (omega (arith, e)) (omega (arith, e)))

outside_same : (device : Device) (one other : List ℕ) (b : ℕ) → is_ram device b ≡ false → ram_byte device one b ≡ ram_byte device other b
outside_same device one other b outside =
    cond-false (is_ram device b) (get_or one (b - device.ram.lo) 0) 0 outside ∙ sym (cond-false (is_ram device b) (get_or other (b - device.ram.lo) 0) 0 outside)

pub some_size : (width : Width) → 1 ≤ size_of width
some_size Words = omega arith
some_size Byte = omega arith

stays_untouched : (laws : InstructionLaws) {device : Device} (ram : List ℕ) (width : Width) (address value : ℕ) (set_so : Form) (touched : List (ℕ × ℕ)) (f : ChipState)
    → IsDevice device
    → AreRanges device.ram.lo device.ram.hi touched → Has 65536 set_so (aligned device width address)
    → KeepsUntouched device touched ram (Some f) → (b : ℕ)
    → has_address (touched_behind device.ram.lo device.ram.hi (size_of width) set_so touched) b ≡ false
    → ram_byte device (with_stored device ram width address value) b ≡ ram_byte device f.ram b
stays_untouched laws {device} ram width address value set_so touched f is are has keeps b none =
    let grows = behind_grows laws device.ram.lo device.ram.hi (size_of width) set_so touched (omega (arith, is.ram.some)) (some_size width) are in
    let before : has_address touched b ≡ false = false_from_ne_true (has_address touched b)
    (λ there. both_ways (has_address (touched_behind device.ram.lo device.ram.hi (size_of width) set_so touched) b) none (grows.keeps b there)) in
    let same : ram_byte device (with_stored device ram width address value) b ≡ ram_byte device ram b = elim (cases_Bool (is_ram device b)) [
      | inr outside ↦ outside_same device (with_stored device ram width address value) ram b outside
      | inl inside ↦ unwritten device ram width address value b (λ after last.
          both_ways (has_address (touched_behind device.ram.lo device.ram.hi (size_of width) set_so touched) b) none
          (behind_touched laws device.ram.lo device.ram.hi (size_of width) (aligned device width address) b set_so touched (some_size width) are has (ram_low device b inside) (ram_high device b inside) after last))
    ] in
    same ∙ keeps b before

store_untouched : (laws : InstructionLaws) {device : Device} (framed : Bool) (ram : List ℕ) (width : Width) (address value : ℕ) (set_so : Form) (touched : List (ℕ × ℕ))
    (first : Option ChipState) → IsDevice device
    → (framed ≡ false → first ≡ None) → AreRanges device.ram.lo device.ram.hi touched
    → Has 65536 set_so (aligned device width address) → KeepsUntouched device touched ram first
    → KeepsUntouched device (if framed then touched_behind device.ram.lo device.ram.hi (size_of width) set_so touched else touched)
    (with_stored device ram width address value) first
store_untouched laws framed ram width address value set_so touched None is base are has keeps = tt
store_untouched laws true ram width address value set_so touched (Some f) is base are has keeps = stays_untouched laws ram width address value set_so touched f is are has keeps
store_untouched laws false ram width address value set_so touched (Some f) is base are has keeps = let none = base refl in absurd (cc)

-- what is known behind a store holds behind it
pub store_holds : (laws : InstructionLaws) {device : Device} {framed : Bool} {a : Known} {first : Option ChipState} {registers ram : List ℕ} {width : Width} (address value : ℕ)
    {set_so : Form} {word : Word} → IsDevice device → IsRam device ram
    → (framed ≡ false → first ≡ None) → IsKnown device.ram.lo device.ram.hi framed a → address < 65536
    → IsResult 65536 set_so (aligned device width address)
    → value < modulus width → IsStorable width word
    → HoldsOfWord (option_map suspended_of first) word value → HoldsOfParts device a first registers ram
    → HoldsOfParts device (with_store device framed a width set_so word) first registers (with_stored device ram width address value)
store_holds laws {framed} {a} {first} {ram} {width} address value {set_so} is ram_is base form below at small storable has holds =
    let cells = cells_stored laws a.cells (option_map suspended_of first) address value is ram_is form.from form.up_to form.cells below at small storable has holds.cells in
    let untouched = store_untouched laws framed ram width address value set_so a.touched first is base form.touched at.has holds.untouched in
    assumption (cells, untouched, holds)
