-- What is known where the handler begins holds of the state that the entry leaves, over the one that it suspends.
use Prim.Native.Nat.{zero, suc}
use Rattle.std.proofs.Common.{◌≡◌, ℕ, ◌+◌, ◌*◌, ◌/◌, ◌%◌, ◌<◌, ◌≤◌, Bool, true, false, Option, Some, None, List, [], ◌∷◌, length, get_or, set, refl, sym, ap, ◌∙◌, subst, arith, Contains, get_or-set_same, get_or-set_other}
use Rattle.std.specs.Prelude.{bit_and, bit_or}
use Rattle.std.specs.List.{slice_index_or}
use Rattle.std.specs.Int.Bits.{or_zero_r}
use Rattle.std.proofs.lemmas.List.{length-set}
use Rattle.std.proofs.lemmas.List.Elements.{All-get_or}
use Rattle.std.proofs.lemmas.Nat.{and_le_l, and_mod}
use Rattle.std.proofs.lemmas.Nat.Bits.{and_pow}
use Rattle.chip_numbers.specs.Single.{Single}
use Rattle.call_context.specs.declared.node.Node.TheVariants.{At}
use Rattle.choosing.specs.Outcome.Outcome.{Next}
use Rattle.entry_value.specs.Words.{HoldsOfWord}
use Rattle.value_bits.specs.declared.tri.Tri.{Tri}
use Rattle.value_bits.specs.declared.tri.Tri.TheVariants.{Zero, Either}
use Rattle.value_bits.specs.Bits.{IsBit, Agrees}
use Rattle.value_set.specs.declared.form.Form.{Form}
use Rattle.value_set.specs.Form.{Has}
use Rattle.value_set.specs.Summing.{add, single}
use Rattle.msp430_decode.specs.declared.instr.Width.TheVariants.{Word as Words}
use Rattle.msp430_chip.specs.declared.device.Device.{Device}
use Rattle.msp430_chip.specs.declared.state.ChipState.{ChipState}
use Rattle.msp430_chip.specs.declared.state.Wild.TheVariants.{Push}
use Rattle.msp430_chip.specs.Interrupts.{entered, entry, first_hit, handler_of}
use Rattle.msp430_chip.specs.Memory.{program_hit, with_stored}
use Rattle.msp430_chip.specs.Outcome.{unless_hit}
use Rattle.msp430_chip.specs.State.{register_of, IsChipState}
use Rattle.msp430_state.specs.declared.status.Status.{Status}
use Rattle.msp430_state.specs.Forms.{AreEvenWords, IsEvenWord, IsFact, IsKnown, IsStatusRelation, IsWord}
use Rattle.msp430_state.specs.Holding.{suspended_of, Covers, HoldsOf, HoldsOfParts, HoldsOfStatus}
use Rattle.msp430_state.specs.Known.{Known, word_of}
use Rattle.msp430_alu.specs.Formats.{IsUnder}
use Rattle.msp430_alu.specs.Memory.{IsDevice, IsRam, with_store}
use Rattle.msp430_alu.specs.Registers.{status_set}
use Rattle.msp430_entry.specs.declared.coming.Coming.{Coming}
use Rattle.msp430_entry.specs.Entry.{ComesSo, comings_of, counted_sp, counter_slot, entered_known, entered_sp, frame_of_coming, handed, itself, status_entered, status_slot}
use Rattle.msp430_entry.proofs.ComingLemmas.{is_listed}
use Rattle.msp430_alu.specs.Laws.{MemoryLaws}
use Rattle.msp430_entry.proofs.HandingLemmas.{from_itself, handed_form, handed_parts}
use Rattle.plain_lemmas.specs.Members.{in_one}

-- THE SLOTS

pub slot_words : (laws : MemoryLaws) (sp : Form) (offset : ℕ) → AreEvenWords sp → offset < 65536 → offset % 2 ≡ 0
    → AreEvenWords (add 65536 sp (single offset))
slot_words laws sp offset words small no_bit =
    let one = (laws.known.sets.single 65536 offset small).0 in
    record {
      normal = laws.known.sets.add_normal 65536 sp (single offset) words.normal one;
      even = laws.known.sets.add_rest 65536 2 0 0 sp (single offset) refl words.normal one words.even (λ v has. subst (λ n. n % 2 ≡ 0) (in_one offset v has) no_bit);
    }

pub slot_has : (laws : MemoryLaws) (sp : Form) (offset v : ℕ) → AreEvenWords sp → offset < 65536 → Has 65536 sp v
    → Has 65536 (add 65536 sp (single offset)) ((v + offset) % 65536)
slot_has laws sp offset v words small has =
    let one = laws.known.sets.single 65536 offset small in
    laws.known.sets.add 65536 v offset sp (single offset) words.normal one.0 has one.1

-- SR

pub bit_6 : (bits : List Tri) (v : ℕ) → Agrees bits v → IsBit (slice_index_or bits 6 Either) (v / 64 % 2)
bit_6 [] v agrees = omega arith
bit_6 (a ∷ []) v agrees = omega arith
bit_6 (a ∷ b ∷ []) v agrees = omega arith
bit_6 (a ∷ b ∷ c ∷ []) v agrees = omega arith
bit_6 (a ∷ b ∷ c ∷ d ∷ []) v agrees = omega arith
bit_6 (a ∷ b ∷ c ∷ d ∷ e ∷ []) v agrees = omega arith
bit_6 (a ∷ b ∷ c ∷ d ∷ e ∷ f ∷ []) v agrees = omega arith
bit_6 (a ∷ b ∷ c ∷ d ∷ e ∷ f ∷ g ∷ bits) v agrees =
    let same : v / 2 / 2 / 2 / 2 / 2 / 2 % 2 ≡ v / 64 % 2 = omega arith in subst (IsBit g) same agrees.1.1.1.1.1.1.0

entered_bits : (bit : Tri) (t : ℕ) → t < 2 → IsBit bit t
    → Agrees (Zero ∷ Zero ∷ Zero ∷ Zero ∷ Zero ∷ Zero ∷ bit ∷ Zero ∷ Zero ∷ []) (t * 64)
entered_bits bit zero small is = (refl, (refl, (refl, (refl, (refl, (refl, (is, (refl, (refl, refl)))))))))
entered_bits bit (suc zero) small is = (refl, (refl, (refl, (refl, (refl, (refl, (is, (refl, (refl, refl)))))))))
entered_bits bit (suc (suc t)) small is = absurd (omega (arith, small))

-- SCG0 alone is left of SR
entered_mask : (sr : ℕ) → sr < 512 → sr / 64 % 2 * 64 ≡ bit_or (bit_and sr 65088) 0
entered_mask sr small =
    let whole = bit_and sr 65088 in
    let least : whole ≤ sr = and_le_l sr 65088 in
    let low : whole % 512 ≡ bit_and (sr % 512) 64 = and_mod sr 65088 9 in
    let same : bit_and (sr % 512) 64 ≡ bit_and sr 64 = ap (λ n. bit_and n 64) (omega (arith, small)) in
    let bit : bit_and sr 64 ≡ sr / 64 % 2 * 64 = and_pow sr 6 in
    let rest : whole ≡ sr / 64 % 2 * 64 = omega (arith, least, small, low, same, bit) in
    sym (or_zero_r whole ∙ rest)

status_so : (s : ChipState) (status : Status) → register_of s 2 < 512 → Agrees status.bits (register_of s 2)
    → HoldsOfStatus (Some (suspended_of s)) (status_entered status) (register_of s 2 / 64 % 2 * 64)
status_so s status small agrees =
    let sr = register_of s 2 in
    record {
      bits = entered_bits (slice_index_or status.bits 6 Either) (sr / 64 % 2) (omega arith) (bit_6 status.bits sr agrees);
      entry = (sr, (omega (arith, small), refl), entered_mask sr small);
    }

-- REGISTERS

record AreEntered (registers left : List ℕ) (handler sp sr : ℕ) : Type 0 where
  pub counter : get_or left 0 0 ≡ handler
  pub stack : get_or left 1 0 ≡ sp
  pub status : get_or left 2 0 ≡ sr
  pub others : (register : ℕ) → 3 < register → get_or left register 0 ≡ get_or registers register 0

are_entered : (registers : List ℕ) (handler sp sr : ℕ) → length registers ≡ 16
    → AreEntered registers (set (set (set registers 0 handler) 1 sp) 2 sr) handler sp sr
are_entered registers handler sp sr long =
    let one = set registers 0 handler in
    let two = set one 1 sp in
    let long_one : length one ≡ 16 = length-set registers 0 handler ∙ long in
    let long_two : length two ≡ 16 = length-set one 1 sp ∙ long_one in
    record {
      counter = get_or-set_other two 2 0 sr 0 (λ e. omega (arith, e)) ∙ get_or-set_other one 1 0 sp 0 (λ e. omega (arith, e)) ∙ get_or-set_same registers 0 handler 0 (omega (arith, long));
      stack = get_or-set_other two 2 1 sr 0 (λ e. omega (arith, e)) ∙ get_or-set_same one 1 sp 0 (omega (arith, long_one));
      status = get_or-set_same two 2 sr 0 (omega (arith, long_two));
      others = λ register low.
          get_or-set_other two 2 register sr 0 (λ e. omega (arith, e, low)) ∙ get_or-set_other one 1 register sp 0 (λ e. omega (arith, e, low))
          ∙ get_or-set_other registers 0 register handler 0 (λ e. omega (arith, e, low));
    }

-- THE STORES

-- behind the store of PC, and behind that of SR
abbrev counted_known : Device → Known → (pc : ℕ) → (sp : Form) → Known
counted_known device a pc sp = with_store device true (handed a) Words (counter_slot device sp) (record { set = single pc; entry = Some (itself 0) })

abbrev stored_known : Device → Known → (pc : ℕ) → (sp : Form) → Known
stored_known device a pc sp = with_store device true (counted_known device a pc sp) Words (status_slot device sp) (record { set = status_set a.status; entry = Some (itself 2) })

counter_word_form : (laws : MemoryLaws) (pc : ℕ) → pc < 65536 → IsWord true (record { set = single pc; entry = Some (itself 0) })
counter_word_form laws pc small = record { normal = (laws.known.sets.single 65536 pc small).0; entry = (refl, omega arith, omega arith) }

status_word_form : (laws : MemoryLaws) (status : Status) → length status.bits ≡ 9
    → IsWord true (record { set = status_set status; entry = Some (itself 2) })
status_word_form laws status long = laws.words.status_form true (record { bits = status.bits; entry = Some (itself 2) }) long (refl, omega arith, refl, omega arith)

counted_form : (laws : MemoryLaws) (device : Device) (framed : Bool) (a : Known) (pc : ℕ) (sp : Form) → IsDevice device
    → IsKnown device.ram.lo device.ram.hi framed a → pc < 65536 → AreEvenWords sp
    → IsKnown device.ram.lo device.ram.hi true (counted_known device a pc sp)
counted_form laws device framed a pc sp is form small words =
    laws.words.stored_form device true (handed a) (counted_sp sp) (record { set = single pc; entry = Some (itself 0) }) is (handed_form laws device.ram.lo device.ram.hi framed a form)
    (slot_words laws sp 65534 words (omega arith) refl).normal (counter_word_form laws pc small)

stored_form : (laws : MemoryLaws) (device : Device) (framed : Bool) (a : Known) (pc : ℕ) (sp : Form) → IsDevice device
    → IsKnown device.ram.lo device.ram.hi framed a → pc < 65536 → AreEvenWords sp
    → IsKnown device.ram.lo device.ram.hi true (stored_known device a pc sp)
stored_form laws device framed a pc sp is form small words =
    laws.words.stored_form device true (counted_known device a pc sp) (entered_sp sp) (record { set = status_set a.status; entry = Some (itself 2) }) is
    (counted_form laws device framed a pc sp is form small words) (slot_words laws sp 65532 words (omega arith) refl).normal (status_word_form laws a.status form.bits)

pub entered_form : (laws : MemoryLaws) (device : Device) (framed : Bool) (a : Known) (pc : ℕ) (coming_so : Coming)
    → IsDevice device → IsKnown device.ram.lo device.ram.hi framed a → IsEvenWord pc
    → Contains (comings_of device a) coming_so → IsKnown device.ram.lo device.ram.hi true (entered_known device a pc coming_so.sp)
unfolding entered_known
entered_form laws device framed a pc coming_so is form word listed =
    let words = (is_listed laws device framed a coming_so form listed).words in
    let stored = stored_form laws device framed a pc coming_so.sp is form word.0 words in
    let sp = slot_words laws coming_so.sp 65532 words (omega arith) refl in
    let bits : length (status_entered a.status).bits ≡ 9 = refl in
    let status : IsStatusRelation true (status_entered a.status).entry = (refl, omega arith, refl, omega arith) in
    let none : IsFact None = tt in
    assumption (sp, bits, status, none, stored)

-- THE HANDLER'S STATE

-- RAM behind both stores
abbrev pushed_ram : Device → ChipState → (bits : ℕ) → List ℕ
pushed_ram device s bits = let sp = register_of s 1 in
    with_stored device (with_stored device s.ram Words ((sp + 65534) % 65536) (register_of s 0)) Words ((sp + 65532) % 65536) (register_of s 2 + 512 * bits)

stored_parts : (laws : MemoryLaws) (device : Device) (framed : Bool) (a : Known) (s : ChipState) (first : Option ChipState) (sp : Form) (bits : ℕ)
    → IsUnder device framed a s first → AreEvenWords sp
    → Has 65536 sp (register_of s 1) → bits < 128
    → HoldsOfParts device (stored_known device a (register_of s 0) sp) (Some s) s.registers (pushed_ram device s bits)
stored_parts laws device framed a s first sp bits under words has few =
    let is = under.device_so in
    let form = under.form in
    let state = under.holds.state in
    let pc = register_of s 0 in
    let sr = register_of s 2 in
    let counter_at = (register_of s 1 + 65534) % 65536 in
    let status_at = (register_of s 1 + 65532) % 65536 in
    let small : pc < 65536 = All-get_or (λ r. r < 65536) s.registers 0 0 (omega (arith, state.registers)) state.words in
    let ram_is : IsRam device s.ram = record { count = state.ram; bytes = state.bytes } in
    let counter_ram = with_stored device s.ram Words counter_at pc in
    let counter_holds : HoldsOfWord (Some (suspended_of s)) (record { set = single pc; entry = Some (itself 0) }) pc = ((laws.known.sets.single 65536 pc small).1, from_itself s 0 pc refl small) in
    let counted = laws.words.stored device true (handed a) (Some s) s.registers s.ram (counted_sp sp) counter_at pc (record { set = single pc; entry = Some (itself 0) }) is ram_is (λ e. absurd (cc))
    (handed_form laws device.ram.lo device.ram.hi framed a form) (slot_words laws sp 65534 words (omega arith) refl).normal (slot_has laws sp 65534 (register_of s 1) words (omega arith) has)
    (counter_word_form laws pc small) counter_holds (handed_parts laws device framed a s first under) in
    let status_holds = laws.words.status true (Some s) (record { bits = a.status.bits; entry = Some (itself 2) }) sr bits form.bits (refl, omega arith, refl, omega arith) state.status few
    (record { bits = under.holds.parts.status.bits; entry = from_itself s 2 sr refl (omega (arith, state.status)) }) in
    laws.words.stored device true (counted_known device a pc sp) (Some s) s.registers counter_ram (entered_sp sp) status_at (sr + 512 * bits) (record { set = status_set a.status; entry = Some (itself 2) })
    is (laws.words.ram device s.ram counter_at pc small ram_is) (λ e. absurd (cc)) (counted_form laws device framed a pc sp is form small words)
    (slot_words laws sp 65532 words (omega arith) refl).normal (slot_has laws sp 65532 (register_of s 1) words (omega arith) has) (status_word_form laws a.status form.bits) status_holds counted

-- the state that an entry leaves
abbrev left_state : Device → ChipState → (vector bits : ℕ) → ChipState
left_state device s vector bits = record { registers = entered device s vector; ram = pushed_ram device s bits; late = false }

entered_parts : (laws : MemoryLaws) (device : Device) (framed : Bool) (a : Known) (s : ChipState) (first : Option ChipState) (sp : Form) (vector bits : ℕ)
    → IsUnder device framed a s first
    → AreEvenWords sp → Has 65536 sp (register_of s 1) → bits < 128
    → HoldsOfParts device (entered_known device a (register_of s 0) sp) (Some s) (entered device s vector) (pushed_ram device s bits)
unfolding entered_known
entered_parts laws device framed a s first sp vector bits under words has few =
    let state = under.holds.state in
    let stored = stored_parts laws device framed a s first sp bits under words has few in
    let status_at = (register_of s 1 + 65532) % 65536 in
    let left = are_entered s.registers (handler_of device vector) status_at (register_of s 2 / 64 % 2 * 64) state.registers in
    let known = entered_known device a (register_of s 0) sp in
    record {
      sp = subst (Has 65536 (entered_sp sp)) (sym left.stack) (slot_has laws sp 65532 (register_of s 1) words (omega arith) has);
      status = subst (HoldsOfStatus (Some (suspended_of s)) (status_entered a.status)) (sym left.status) (status_so s a.status state.status under.holds.parts.status.bits);
      words = λ register low high. subst (HoldsOfWord (Some (suspended_of s)) (word_of known register)) (sym (left.others register low)) (stored.words register low high);
      fact = tt;
      cells = stored.cells;
      untouched = stored.untouched;
    }

-- where no store hits the program, the entry leaves its state
left_by : (hit : Option ℕ) (these items : List Single) (one t : ChipState) → unless_hit Push hit these one ≡ Next items t → one ≡ t
left_by None these items one t e = cc
left_by (Some at) these items one t e = absurd (cc)

entry_leaves : (device : Device) (s t : ChipState) (vector bits : ℕ) (items : List Single)
    → entry device s vector bits ≡ Next items t → left_state device s vector bits ≡ t
entry_leaves device s t vector bits items e = left_by
    (first_hit (program_hit device Words ((register_of s 1 + 65534) % 65536)) (program_hit device Words ((register_of s 1 + 65532) % 65536)))
    _ items (left_state device s vector bits) t e

pub covered : (laws : MemoryLaws) (device : Device) (framed : Bool) (a : Known) (s t : ChipState) (first : Option ChipState) (coming_so : Coming) (bits : ℕ) (items : List Single)
    → IsUnder device framed a s first → ComesSo device a s coming_so → bits < 128
    → entry device s coming_so.vector bits ≡ Next items t → IsChipState device t
    → Covers device (At (handler_of device coming_so.vector) [] (frame_of_coming coming_so)) (entered_known device a (register_of s 0) coming_so.sp) t (Some s)
unfolding entered_known
covered laws device framed a s t first coming_so bits items under so few e state =
    let vector = coming_so.vector in
    let handler = handler_of device vector in
    let known = entered_known device a (register_of s 0) coming_so.sp in
    let is = entry_leaves device s t vector bits items e in
    let words = (is_listed laws device framed a coming_so under.form so.listed).words in
    let one = left_state device s vector bits in
    let parts = entered_parts laws device framed a s first coming_so.sp vector bits under words so.at few in
    let left = are_entered s.registers handler ((register_of s 1 + 65532) % 65536) (register_of s 2 / 64 % 2 * 64) under.holds.state.registers in
    let holds : HoldsOf device known one (Some s) = record { state = subst (IsChipState device) (sym is) state; suspended = under.holds.state; late = refl; parts = parts } in
    let all : Covers device (At handler [] (frame_of_coming coming_so)) known one (Some s) = (left.counter, holds, so.came) in
    subst (λ state_so. Covers device (At handler [] (frame_of_coming coming_so)) known state_so (Some s)) is all
