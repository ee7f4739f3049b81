use Rattle.std.proofs.Common.{◌≡◌, ℕ, ◌<◌, List, get_or, length, sym, subst, Contains}
use Rattle.std.proofs.lemmas.List.Elements.{Contains-get_or}
use Rattle.value_set.specs.declared.form.Form.{Form}
use Rattle.value_set.specs.declared.form.Form.TheVariants.{Values}
use Rattle.value_set.specs.Form.{Has, IsNormal}
use Rattle.mcs51_entry.proofs.coming.add.Goals as goal

-- the numbers of a list in its one form
list_below : ((m v : ℕ) (set : Form) → IsNormal m set → Has m set v → v < m) → (xs ys : List ℕ) → ys ≡ xs
    → IsNormal 256 (Values xs) → (k d : ℕ) → k < length ys → get_or ys k d < 256
list_below below xs ys same normal k d inside = below 256 (get_or ys k d) (Values xs) normal (subst (λ list. Contains list (get_or ys k d)) same (Contains-get_or ys k d inside))

pub add_each-requires : goal.add_each-requires
add_each-requires c = list_below c.members_are_below.ensures c.in-Values.values c.as_slice.result.now c.as_slice.ensures.numbers (subst (IsNormal 256) c.in-Values.is (subst (IsNormal 256) (sym c.form.ensures.value) c.form.ensures.normal))
