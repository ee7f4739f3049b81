-- Bytes without a relation, and a stack pointer that is raised or lowered: lemmas, also for the proofs of crates above.
use Rattle.std.proofs.Common.{ℕ, ◌+◌, ◌-◌, ◌%◌, Bool, Option, arith}
use Rattle.irq_frames.specs.KnownLaws.{KnownLaws}
use Rattle.value_set.specs.declared.form.Form.{Form}
use Rattle.value_set.specs.Form.{Has, IsNormal}
use Rattle.value_set.specs.Summing.{single}
use Rattle.mcs51_chip.specs.declared.state.ChipState.{ChipState}
use Rattle.mcs51_state.specs.FormFacts.{byte_form}
use Rattle.mcs51_state.specs.Known.{byte_of}
use Rattle.mcs51_state.specs.Following.{IsValue}
use Rattle.mcs51_state.specs.Stack.{lowered, raised}

pub plain_value : (framed : Bool) (first : Option ChipState) (set : Form) (x : ℕ) → IsNormal 256 set → Has 256 set x
    → IsValue framed first (byte_of set) x
plain_value framed first set x normal has = record { form = byte_form framed set normal; holds = (has, tt) }

pub raised_normal : (laws : KnownLaws) (sp : Form) → IsNormal 256 sp → IsNormal 256 (raised sp)
raised_normal laws sp normal = laws.sets.add_normal 256 sp (single 1) normal (laws.sets.single 256 1 (omega arith)).0

pub raised_has : (laws : KnownLaws) (sp : Form) (v : ℕ) → IsNormal 256 sp → Has 256 sp v → Has 256 (raised sp) ((v + 1) % 256)
raised_has laws sp v normal has = let one = laws.sets.single 256 1 (omega arith) in laws.sets.add 256 v 1 sp (single 1) normal one.0 has one.1

pub lowered_normal : (laws : KnownLaws) (sp : Form) → IsNormal 256 sp → IsNormal 256 (lowered sp)
lowered_normal laws sp normal = laws.sets.sub_normal 256 sp (single 1) normal (laws.sets.single 256 1 (omega arith)).0

pub lowered_has : (laws : KnownLaws) (sp : Form) (v : ℕ) → IsNormal 256 sp → Has 256 sp v → Has 256 (lowered sp) ((v + 256 - 1) % 256)
lowered_has laws sp v normal has = let one = laws.sets.single 256 1 (omega arith) in laws.sets.sub 256 v 1 sp (single 1) normal one.0 has one.1
