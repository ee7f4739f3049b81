-- The accesses that an instruction makes are shown, and a store that hits the program is one of the open ones.
use Rattle.std.proofs.Common.{◌≡◌, ℕ, ◌-◌, ◌%◌, ◌++◌, Bool, true, false, Option, None, Some, List, get_or, set, refl, sym, ap, ◌∙◌, subst, inl, inr, arith, get_or-set_other}
use Rattle.std.proofs.lemmas.List.Elements.{Contains-append_cases, Contains-append_left, Contains-append_right}
use Rattle.plain_lemmas.specs.Members.{in_none, in_one}
use Rattle.call_context.specs.Showing.{Shows}
use Rattle.chip_numbers.specs.Single.{Single}
use Rattle.chip_numbers.specs.Single.Single.{Access}
use Rattle.call_context.specs.declared.shown.Item.{Item}
use Rattle.call_context.specs.declared.shown.Item.TheVariants as item
use Rattle.call_context.specs.declared.shown.Set.TheVariants.{W}
use Rattle.chip_numbers.specs.declared.space.Space.TheVariants.{Mem}
use Rattle.value_set.specs.declared.form.Form.{Form}
use Rattle.value_set.specs.Summing.{single}
use Rattle.msp430_decode.specs.declared.instr.Destination.{Destination}
use Rattle.msp430_decode.specs.declared.instr.Operation.{Operation}
use Rattle.msp430_decode.specs.declared.instr.SingleOperation.{SingleOperation}
use Rattle.msp430_decode.specs.declared.instr.SingleOperation.TheVariants.{Call}
use Rattle.msp430_decode.specs.declared.instr.Source.{Source}
use Rattle.msp430_decode.specs.declared.instr.Width.{Width}
use Rattle.msp430_decode.specs.declared.instr.Width.TheVariants.{Word as Words}
use Rattle.msp430_decode.specs.Operands.{IsSource, IsDestination}
use Rattle.msp430_chip.specs.declared.device.Device.{Device}
use Rattle.msp430_chip.specs.declared.place.Place.{Place}
use Rattle.msp430_chip.specs.declared.place.Place.TheVariants as place
use Rattle.msp430_chip.specs.declared.state.ChipState.{ChipState}
use Rattle.msp430_chip.specs.Arithmetic.{writes_result, reads_destination}
use Rattle.msp430_chip.specs.Leading.{MayDouble, MaySingle, MayLeavePush, MayPush, behind_source, origin_of, place_of, pushed_place}
use Rattle.msp430_chip.specs.Leading.MayLeaveDouble.{FreeStatus, OfResult}
use Rattle.msp430_chip.specs.Leading.MayLeaveSingle.{FreeStatus as SingleFree, OfResult as SingleResult}
use Rattle.msp430_chip.specs.Memory.{aligned, size_of, HasRam}
use Rattle.msp430_chip.specs.Operands.{access_to}
use Rattle.msp430_chip.specs.Outcome.{Outcome}
use Rattle.msp430_chip.specs.State.{register_of}
use Rattle.msp430_chip.specs.Step.{Left, put, put_if, behind, reads_if, writes_if, double_accesses, lowered, pushed}
use Rattle.msp430_state.specs.Known.{Known}
use Rattle.msp430_alu.specs.declared.reach.Reach.{Reach}
use Rattle.msp430_alu.specs.declared.reach.Reach.TheVariants.{InMemory}
use Rattle.msp430_results.specs.FlagSets.{IsResult}
use Rattle.msp430_alu.specs.Formats.{access_of, access_if, store_of, counter_set, lowered_known, forming_known, double_worked, single_worked, push_worked, IsUnder, IsHit, AreShown}
use Rattle.msp430_alu.specs.Memory.{located}
use Rattle.msp430_alu.specs.Operands.{source_reach, destination_reach, grown_known, IsReached}
use Rattle.msp430_results.specs.InstructionLaws.{InstructionLaws}
use Rattle.msp430_alu.proofs.Doubles.{counter_is}
use Rattle.msp430_alu.proofs.Growth.{behind_is, way}
use Rattle.msp430_alu.proofs.OperandLemmas.{source_reached, destination_reached}
use Rattle.msp430_alu.proofs.PushLaw.{push_forming, slot_reached}
use Rattle.msp430_alu.proofs.WhereAccesses.{located_is}

-- LISTS

shown_both : (items others : List Item) (xs ys : List Single) → AreShown items xs → AreShown others ys
    → AreShown (items ++ others) (xs ++ ys)
shown_both items others xs ys h k x within = elim (Contains-append_cases xs ys x within) [
  | inl a ↦ let (one, in_items, shows) = h x a in (one, Contains-append_left items others one in_items, shows)
  | inr b ↦ let (one, in_others, shows) = k x b in (one, Contains-append_right items others one in_others, shows)
]

-- ACCESSES

access_shown : (laws : InstructionLaws) {device : Device} → HasRam device
    → (pc : ℕ) (write : Bool) (width : Width) (reach : Reach) (stands : Place) → IsReached reach stands
    → AreShown (access_of device pc write width reach) (access_to device pc write width stands)
access_shown laws {device} is pc write width (InMemory set_so) (place.InMemory address) reached x within = (
  item.Access pc Mem write (size_of width) (W (located device width set_so)),
  (0, omega arith, refl),
  subst (Shows (item.Access pc Mem write (size_of width) (W (located device width set_so))))
      (in_one (Access pc Mem write (size_of width) (aligned device width address)) x within) (refl, refl, refl, refl, (located_is laws is width reached).has),
)
access_shown laws is pc write width reach (place.InMemory address) reached x within = absurd reached
access_shown laws is pc write width reach stands reached x within = absurd (in_none x within)

read_shown : (laws : InstructionLaws) {device : Device} → HasRam device
    → (reads : Bool) (pc : ℕ) (width : Width) (reach : Reach) (stands : Place) → IsReached reach stands
    → AreShown (access_if reads device pc false width reach) (reads_if reads device pc width stands)
read_shown laws is true pc width reach stands reached x within = access_shown laws is pc false width reach stands reached x within
read_shown laws is false pc width reach stands reached x within = absurd (in_none x within)

write_shown : (laws : InstructionLaws) {device : Device} → HasRam device
    → (writes : Bool) (pc : ℕ) (width : Width) (reach : Reach) (stands : Place) → IsReached reach stands
    → AreShown (access_if writes device pc true width reach) (writes_if writes device pc width stands)
write_shown laws is true pc width reach stands reached x within = access_shown laws is pc true width reach stands reached x within
write_shown laws is false pc width reach stands reached x within = absurd (in_none x within)

-- STORES

put_hit : (laws : InstructionLaws) {device : Device} → HasRam device
    → (registers ram : List ℕ) (width : Width) (reach : Reach) (stands : Place) (value at : ℕ) → IsReached reach stands
    → (put device registers ram width stands value).hit ≡ Some at
    → IsHit device width (store_of true device width reach) at
put_hit laws {device} is registers ram width (InMemory set_so) (place.InMemory address) value at reached e =
    (aligned device width address, (located_is laws is width reached).has, e)
put_hit laws is registers ram width reach (place.InMemory address) value at reached e = absurd reached
put_hit laws is registers ram width reach stands value at reached e = absurd (cc)

put_if_hit : (laws : InstructionLaws) {device : Device} → HasRam device
    → (registers ram : List ℕ) (writes : Bool) (width : Width) (reach : Reach) (stands : Place) (value at : ℕ)
    → IsReached reach stands
    → (put_if writes device registers ram width stands value).hit ≡ Some at → IsHit device width (store_of writes device width reach) at
put_if_hit laws is registers ram true width reach stands value at reached e = put_hit laws is registers ram width reach stands value at reached e
put_if_hit laws is registers ram false width reach stands value at reached e = absurd (cc)

-- TWO OPERANDS

pub double_shown : (laws : InstructionLaws) {device : Device} {framed : Bool} {a : Known} {s : ChipState} {first : Option ChipState} {len : ℕ} {done : Operation} {width : Width}
    {origin : Source} {target : Destination} {outcome : Outcome ChipState}
    → IsUnder device framed a s first → IsSource origin → IsDestination target
    → (may : MayDouble device s len done width origin target outcome)
    → AreShown (double_worked device framed a (register_of s 0) len done width origin target).accesses
    (double_accesses device (register_of s 0) done width (origin_of s may.counted origin) (place_of s len may.counted width origin target))
unfolding double_worked
double_shown laws {device} {framed} {a} {s} {first} {len} {done} {width} {origin} {target} {outcome} under from_so to_so may =
    let pc = register_of s 0 in
    let counted_so = counter_set pc len origin target in
    let way = way laws under (counter_is laws s len origin target may.counted may.counts) width origin from_so in
    let from = source_reach pc a counted_so origin in
    let to = destination_reach pc len (grown_known a counted_so width origin) counted_so target in
    let goal = destination_reached laws way.behind pc len target to_so in
    let one = origin_of s may.counted origin in
    let two = place_of s len may.counted width origin target in
    let reads = access_if (reads_destination done) device pc false width to in
    let reads_so = reads_if (reads_destination done) device pc width two in
    shown_both (access_of device pc false width from ++ reads) (access_if (writes_result done) device pc true width to) (access_to device pc false width one ++ reads_so)
    (writes_if (writes_result done) device pc width two)
    (shown_both (access_of device pc false width from) reads (access_to device pc false width one) reads_so (access_shown laws under.device_so.ram pc false width from one way.source)
    (read_shown laws under.device_so.ram (reads_destination done) pc width to two goal)) (write_shown laws under.device_so.ram (writes_result done) pc width to two goal)

pub double_hit : (laws : InstructionLaws) {device : Device} {framed : Bool} {a : Known} {s : ChipState} {first : Option ChipState} {len : ℕ} {done : Operation} {width : Width}
    {origin : Source} {target : Destination} {outcome : Outcome ChipState} (at : ℕ)
    → IsUnder device framed a s first → IsSource origin → IsDestination target
    → (may : MayDouble device s len done width origin target outcome) → may.left.hit ≡ Some at
    → IsHit device width (double_worked device framed a (register_of s 0) len done width origin target).store at
unfolding double_worked
double_hit laws {device} {framed} {a} {s} {first} {len} {done} {width} {origin} {target} {outcome} at under from_so to_so may e =
    let way = way laws under (counter_is laws s len origin target may.counted may.counts) width origin from_so in
    let goal = destination_reached laws way.behind (register_of s 0) len target to_so in
    let registers = set (behind_source s may.counted width origin) 0 (behind s len) in
    elim may.leaves [
      | FreeStatus free freed ↦ let none : None ≡ Some at = sym (ap (λ (l : Left). l.hit) freed.left_is) ∙ e in absurd (cc)
      | OfResult other made_so makes is ↦
          put_if_hit laws under.device_so.ram registers s.ram (writes_result done) width _ (place_of s len may.counted width origin target) made_so.0 at goal
          (sym (ap (λ (l : Left). l.hit) is) ∙ e)
    ]

-- ONE OPERAND

pub single_shown : (laws : InstructionLaws) (device : Device) (framed : Bool) (a : Known) (s : ChipState) (first : Option ChipState) (len : ℕ) (done : SingleOperation) (width : Width)
    (operand : Source)
    → IsUnder device framed a s first → IsSource operand
    → AreShown (single_worked device framed a (register_of s 0) len done width operand).accesses
    (access_to device (register_of s 0) false width (origin_of s (behind s len) operand) ++ access_to device (register_of s 0) true width (origin_of s (behind s len) operand))
unfolding single_worked
single_shown laws device framed a s first len done width operand under from_so =
    let pc = register_of s 0 in
    let from = source_reach pc a (single (behind s len)) operand in
    let one = origin_of s (behind s len) operand in
    let reached = (way laws under (behind_is laws s len) width operand from_so).source in
    shown_both (access_of device pc false width from) (access_of device pc true width from) (access_to device pc false width one) (access_to device pc true width one)
    (access_shown laws under.device_so.ram pc false width from one reached) (access_shown laws under.device_so.ram pc true width from one reached)

pub single_hit : (laws : InstructionLaws) {device : Device} {framed : Bool} {a : Known} {s : ChipState} {first : Option ChipState} {len : ℕ} {done : SingleOperation} {width : Width}
    {operand : Source} {outcome : Outcome ChipState} (at : ℕ)
    → IsUnder device framed a s first → IsSource operand → (may : MaySingle device s len done width operand outcome)
    → may.left.hit ≡ Some at
    → IsHit device width (single_worked device framed a (register_of s 0) len done width operand).store at
unfolding single_worked
single_hit laws {device} {framed} {a} {s} {first} {len} {done} {width} {operand} {outcome} at under from_so may e =
    let reached = (way laws under (behind_is laws s len) width operand from_so).source in
    elim may.leaves [
      | SingleFree free freed ↦ let none : None ≡ Some at = sym (ap (λ (l : Left). l.hit) freed.left_is) ∙ e in absurd (cc)
      | SingleResult other made_so makes is ↦
          put_hit laws under.device_so.ram (behind_source s (behind s len) width operand) s.ram width _ (origin_of s (behind s len) operand) made_so.0 at reached
          (sym (ap (λ (l : Left). l.hit) is) ∙ e)
    ]

-- PUSH AND CALL

pub push_shown : (laws : InstructionLaws) {device : Device} {framed : Bool} {a : Known} {s : ChipState} {first : Option ChipState} {len : ℕ} {done : SingleOperation} {width : Width}
    {operand : Source} {outcome : Outcome ChipState}
    → IsUnder device framed a s first → IsSource operand → (may : MayPush device s len done width operand outcome)
    → AreShown (push_worked device framed a (register_of s 0) len done width operand).accesses
    (access_to device (register_of s 0) false width (pushed_place s len may.option operand)
    ++ access_to device (register_of s 0) true Words (place.InMemory (lowered (get_or (behind_source s (behind s len) width operand) 1 0))))
unfolding push_worked
push_shown laws {device} {framed} {a} {s} {first} {len} {done} {width} {operand} {outcome} under from_so may =
    let pc = register_of s 0 in
    let from = source_reach pc (forming_known operand a) (single (behind s len)) operand in
    let slot = InMemory (lowered_known (grown_known a (single (behind s len)) width operand)).sp in
    let one = pushed_place s len may.option operand in
    let two = place.InMemory (lowered (get_or (behind_source s (behind s len) width operand) 1 0)) in
    let source = source_reached laws (push_forming laws under may) pc operand from_so in
    let goal = slot_reached laws (way laws under (behind_is laws s len) width operand from_so).behind in
    shown_both (access_of device pc false width from) (access_of device pc true Words slot) (access_to device pc false width one) (access_to device pc true Words two)
    (access_shown laws under.device_so.ram pc false width from one source) (access_shown laws under.device_so.ram pc true Words slot two goal)

plain_hit : (laws : InstructionLaws) {device : Device} → HasRam device
    → (registers ram : List ℕ) (width : Width) (x word at : ℕ) (left : Left) {slot : Form}
    → IsResult 65536 slot (lowered (get_or registers 1 0))
    → left ≡ pushed device registers ram word → left.hit ≡ Some at → IsHit device Words (store_of true device Words (InMemory slot)) at
plain_hit laws known registers ram width x word at left {slot} goal is e =
    put_hit laws known (set registers 1 (lowered (get_or registers 1 0))) ram Words (InMemory slot) (place.InMemory (lowered (get_or registers 1 0))) word at goal
    (sym (ap (λ (l : Left). l.hit) is) ∙ e)

either_hit : (laws : InstructionLaws) {device : Device} → HasRam device
    → (registers ram : List ℕ) (done : SingleOperation) (width : Width) (x after at : ℕ) (left : Left) {slot : Form}
    → IsResult 65536 slot (lowered (get_or registers 1 0))
    → MayLeavePush device ram registers done width x after left → left.hit ≡ Some at
    → IsHit device Words (store_of true device Words (InMemory slot)) at
either_hit laws known registers ram Call width x after at left {slot} goal is e =
    let kept : lowered (get_or registers 1 0) ≡ lowered (get_or (set registers 0 (x - x % 2)) 1 0) = ap lowered
    (sym (get_or-set_other registers 0 1 (x - x % 2) 0 (λ f. omega (arith, f)))) in
    plain_hit laws known (set registers 0 (x - x % 2)) ram width x after at left (subst (IsResult 65536 slot) kept goal) is e
either_hit laws known registers ram other width x after at left goal (word, may, is) e = plain_hit laws known registers ram width x word at left goal is e

pub push_hit : (laws : InstructionLaws) {device : Device} {framed : Bool} {a : Known} {s : ChipState} {first : Option ChipState} {len : ℕ} {done : SingleOperation} {width : Width}
    {operand : Source} {outcome : Outcome ChipState} (at : ℕ)
    → IsUnder device framed a s first → IsSource operand → (may : MayPush device s len done width operand outcome) → may.left.hit ≡ Some at
    → IsHit device Words (push_worked device framed a (register_of s 0) len done width operand).store at
unfolding push_worked
push_hit laws {device} {framed} {a} {s} {first} {len} {done} {width} {operand} {outcome} at under from_so may e =
    either_hit laws under.device_so.ram (behind_source s (behind s len) width operand) s.ram done width _ (behind s len) at may.left
    (slot_reached laws (way laws under (behind_is laws s len) width operand from_so).behind) may.leaves e
