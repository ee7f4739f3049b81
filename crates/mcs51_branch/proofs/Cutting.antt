-- Sets that are cut to a window.
use Rattle.std.proofs.Common.{◌≡◌, ℕ, ◌<◌, Option, None, Some, refl, arith}
use Rattle.value_set.specs.declared.form.Form.{Form}
use Rattle.value_set.specs.Cutting.{cut}
use Rattle.value_set.specs.Form.{Has, IsNormal}
use Rattle.value_set.specs.Laws.{SetLaws}
use Rattle.mcs51_branch.specs.declared.window.Window.{Window}
use Rattle.mcs51_branch.specs.Cuts.{IsInside, cut_to}

some_part : {A : Type 0} (o : Option A) → (o ≡ None → ⊥) → (part : A) × (o ≡ Some part)
some_part None none = absurd (none refl)
some_part (Some part) none = (part, refl)

-- what is left of a set has each of its members that is in the window
pub part_has : (laws : SetLaws) (v : ℕ) (set : Form) (window : Window) → IsNormal 256 set → Has 256 set v → IsInside v window
    → (part : Form) × (cut_to window set ≡ Some part) × IsNormal 256 part × Has 256 part v
unfolding cut_to
part_has laws v set window normal has is =
    let found = some_part (cut 256 set window.low window.len) (λ none. let out = laws.cut_none 256 window.low window.len v set normal is.low none has in omega (arith, out, is.inside)) in
    (found.0, found.1, laws.cut_normal 256 window.low window.len set found.0 normal is.low found.1, laws.cut_holds 256 window.low window.len v set found.0 normal is.low found.1 has is.inside)

pub part_normal : (laws : SetLaws) (set part : Form) (window : Window) → IsNormal 256 set → window.low < 256
    → cut_to window set ≡ Some part → IsNormal 256 part
unfolding cut_to
part_normal laws set part window normal low e = laws.cut_normal 256 window.low window.len set part normal low e
