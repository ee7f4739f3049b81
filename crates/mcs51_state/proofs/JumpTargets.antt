-- Where JMP @A+DPTR goes.
use Rattle.std.proofs.Common.{◌+◌, ◌*◌, ◌%◌, Bool, Option, subst, arith}
use Rattle.value_bits.specs.Sets.{pair_set}
use Rattle.value_set.specs.Form.{Has, IsNormal}
use Rattle.value_set.specs.Summing.{single}
use Rattle.irq_frames.specs.KnownLaws.{KnownLaws}
use Rattle.mcs51_chip.specs.declared.state.ChipState.{ChipState}
use Rattle.mcs51_chip.specs.Registers.{data_pointer}
use Rattle.mcs51_state.specs.Forms.{IsKnown}
use Rattle.mcs51_state.specs.Known.{Known}
use Rattle.mcs51_state.specs.Under.{IsUnder}
use Rattle.mcs51_state.specs.Operands.{jump_targets}

pub jump_normal : (laws : KnownLaws) (framed : Bool) (a : Known) → IsKnown framed a → IsNormal 65536 (jump_targets a)
unfolding jump_targets
jump_normal laws framed a form =
    laws.sets.add_normal 65536 (pair_set a.dpl.set a.dph.set) (pair_set a.a.set (single 0))
    (laws.bits.pair_normal a.dpl.set a.dph.set form.dpl.normal form.dph.normal)
    (laws.bits.pair_normal a.a.set (single 0) form.a.normal (laws.sets.single 256 0 (omega arith)).0)

pub jump_has : (laws : KnownLaws) (framed : Bool) (a : Known) (s : ChipState) (first : Option ChipState) → IsUnder framed a s first
    → Has 65536 (jump_targets a) ((s.a + data_pointer s) % 65536)
unfolding jump_targets
jump_has laws framed a s first under =
    let form = under.form in
    let parts = under.holds.parts in
    let zero_so = laws.sets.single 256 0 (omega arith) in
    let pointer = laws.bits.pair s.dpl s.dph a.dpl.set a.dph.set form.dpl.normal form.dph.normal parts.dpl.0 parts.dph.0 in
    let offset = laws.bits.pair s.a 0 a.a.set (single 0) form.a.normal zero_so.0 parts.a.0 zero_so.1 in
    let sum = laws.sets.add 65536 (s.dpl + s.dph * 256) (s.a + 0 * 256) (pair_set a.dpl.set a.dph.set) (pair_set a.a.set (single 0)) (laws.bits.pair_normal a.dpl.set a.dph.set form.dpl.normal form.dph.normal)
    (laws.bits.pair_normal a.a.set (single 0) form.a.normal zero_so.0) pointer offset in
    subst (Has 65536 (jump_targets a)) (omega arith) sum
