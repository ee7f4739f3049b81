-- DJNZ.
use Rattle.std.proofs.Common.{◌≡◌, ℕ, ◌+◌, ◌%◌, ◌==◌, ◌++◌, Bool, true, false, Option, Some, List, [], subst, ap}
use Rattle.std.specs.Prelude.{not}
use Rattle.std.specs.Option.{option_map}
use Rattle.plain_lemmas.specs.Cases.{mapped}
use Rattle.choosing.specs.Gives.{Gives}
use Rattle.mcs51_decode.specs.declared.instr.Counter.{Counter}
use Rattle.mcs51_decode.specs.declared.instr.Counter.TheVariants as counter
use Rattle.mcs51_decode.specs.declared.instr.Instr.TheVariants.{DecrementJump}
use Rattle.mcs51_decode.specs.declared.instr.Memory.{Memory}
use Rattle.mcs51_decode.specs.Fitting.{IsCounter, IsMemory}
use Rattle.mcs51_decode.specs.Targets.{relative_target}
use Rattle.mcs51_chip.specs.declared.place.Address.{Address}
use Rattle.mcs51_chip.specs.declared.state.ChipState.{ChipState}
use Rattle.mcs51_chip.specs.Leading.{MayRead}
use Rattle.mcs51_chip.specs.Memory.{address_of, reads, write, writes}
use Rattle.mcs51_chip.specs.Step.{branched, counting, effect_of}
use Rattle.mcs51_state.specs.declared.addresses.Addresses.{Addresses}
use Rattle.mcs51_state.specs.FormFacts.{byte_form}
use Rattle.mcs51_state.specs.Forms.{IsKnown}
use Rattle.mcs51_state.specs.Known.{Known, byte_of}
use Rattle.mcs51_state.specs.Standing.{AreAddresses, MayStandAt}
use Rattle.mcs51_state.specs.Under.{IsUnder}
use Rattle.mcs51_state.specs.Operands.{addresses_of}
use Rattle.mcs51_state.specs.Reading.{read_byte}
use Rattle.mcs51_state.specs.ValueFacts.{plain_value}
use Rattle.mcs51_branch.specs.Jumps.{lowered_cut}
use Rattle.mcs51_state.specs.Giving.{of_one}
use Rattle.mcs51_state.specs.Doing.{GoesSo}
use Rattle.mcs51_state.specs.Accesses.{update_at}
use Rattle.mcs51_jumps.specs.Jumps.{AreWays, counted, counter_items, lowered_at, set_written, ways_by_counter}
use Rattle.mcs51_jumps.proofs.PartLaws.{PartLaws}
use Rattle.mcs51_jumps.proofs.Branching.{goes}

-- the byte at one of some addresses
lowered_does : (laws : PartLaws) (framed : Bool) (a : Known) (s : ChipState) (first : Option ChipState) (pc rel : ℕ) (at : Addresses) (address : Address)
    → IsUnder framed a s first → MayStandAt at address → AreAddresses at
    → Gives (GoesSo framed first (update_at pc at) pc (relative_target s.pc rel) (lowered_at framed at false a) (lowered_at framed at true a) s) (counting s address rel)
lowered_does laws framed a s first pc rel at address under stands are =
    let set = (read_byte framed a at).set in
    of_one (GoesSo framed first (update_at pc at) pc (relative_target s.pc rel) (lowered_at framed at false a) (lowered_at framed at true a) s) (MayRead s address)
    (λ x. (reads address ++ writes address, branched (not ((x + 255) % 256 == 0)) rel (write address ((x + 255) % 256) s))) (counting s address rel)
    (laws.instructions.chip.updating s [] address (λ x. branched (not ((x + 255) % 256 == 0)) rel (write address ((x + 255) % 256) s)))
    (λ x may. let v = (x + 255) % 256 in
    let normal = (laws.instructions.operands.reads.form framed a under.form at are).normal in
    let has = (laws.instructions.operands.reads.byte framed a s first under at address x stands are may).0 in
    let (part, cut, part_normal, part_has) = laws.branch.ways.lowered set x normal has in
    let value = plain_value framed first part v part_normal part_has in
    record {
      shown = laws.instructions.operands.sums.update pc at address stands are;
      goes = goes laws framed first (λ taken. lowered_at framed at taken a) (not (v == 0)) (set_written framed at a part) rel s (write address v s) (ap (option_map (set_written framed at a)) cut)
          (laws.instructions.operands.formats.write_keeps address v s) (laws.instructions.stores.writes.byte framed first at address (byte_of part) v value are stands a s under);
    })

counted_does : (laws : PartLaws) (framed : Bool) (a : Known) (s : ChipState) (first : Option ChipState) (pc rel : ℕ) (m : Memory)
    → IsUnder framed a s first → IsMemory m
    → Gives (GoesSo framed first (update_at pc (addresses_of a m)) pc (relative_target s.pc rel) (lowered_at framed (addresses_of a m) false a) (lowered_at framed (addresses_of a m) true a) s) (counting s (address_of s m) rel)
counted_does laws framed a s first pc rel m under is =
    lowered_does laws framed a s first pc rel (addresses_of a m) (address_of s m) under (laws.instructions.operands.stands.operand framed a s first under m) (laws.instructions.operands.stands.operand_form framed a under.form m is)

pub counter_does : (laws : PartLaws) (framed : Bool) (a : Known) (s : ChipState) (first : Option ChipState) (image : List (Option ℕ)) (pc : ℕ) (counter : Counter) (rel : ℕ)
    → IsUnder framed a s first → IsCounter counter
    → Gives (GoesSo framed first (counter_items pc counter a) pc (relative_target s.pc rel) (ways_by_counter framed counter a).on (ways_by_counter framed counter a).jumped s)
    (effect_of image s (DecrementJump counter rel))
unfolding effect_of ways_by_counter
counter_does laws framed a s first image pc (counter.Direct direct) rel under is = counted_does laws framed a s first pc rel (counted (counter.Direct direct)) under is
counter_does laws framed a s first image pc (counter.Register n) rel under is = counted_does laws framed a s first pc rel (counted (counter.Register n)) under is

-- FORM

lowered_form : (laws : PartLaws) (framed : Bool) (a way : Known) (at : Addresses) (taken : Bool) → IsKnown framed a → AreAddresses at
    → lowered_at framed at taken a ≡ Some way → IsKnown framed way
lowered_form laws framed a way at taken form are e =
    let set = (read_byte framed a at).set in
    let (part, cut, same) = mapped (set_written framed at a) (lowered_cut taken set) way e in
    let normal = laws.branch.ways.lowered_form set part taken (laws.instructions.operands.reads.form framed a form at are).normal cut in
    subst (IsKnown framed) same (laws.instructions.stores.forms.byte framed at (byte_of part) are (byte_form framed part normal) a form)

counted_is : (counter : Counter) → IsCounter counter → IsMemory (counted counter)
counted_is (counter.Direct direct) small = small
counted_is (counter.Register n) is = tt

pub counter_form : (laws : PartLaws) (framed : Bool) (a : Known) (counter : Counter) → IsKnown framed a
    → IsCounter counter → AreWays framed (ways_by_counter framed counter a)
unfolding ways_by_counter
counter_form laws framed a counter form is =
    let at = addresses_of a (counted counter) in
    let are = laws.instructions.operands.stands.operand_form framed a form (counted counter) (counted_is counter is) in
    record { on = λ way e. lowered_form laws framed a way at false form are e; jumped = λ way e. lowered_form laws framed a way at true form are e }
