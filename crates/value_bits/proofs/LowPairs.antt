-- Words of bytes with the high byte 0 are below 100h.
use Rattle.std.proofs.Common.{ℕ, ◌-◌, ◌*◌, ◌<◌, ◌≤◌, List, [], ◌∷◌, sym, subst, inl, inr, refl, arith}
use Rattle.std.proofs.Math.Nat.{mul-le-mul_left}
use Rattle.std.proofs.lemmas.Bool.{le-leb}
use Rattle.value_set.specs.declared.form.Form.{Form}
use Rattle.value_set.specs.declared.form.Form.TheVariants.{Values, Run}
use Rattle.value_set.specs.Form.{Has, IsNormal, members}
use Rattle.value_set.specs.Laws.{AreBelow, SetLaws}
use Rattle.value_set.specs.Summing.{count_of, single}
use Rattle.value_set.specs.ListFacts.{IsIn, in_from_Contains, Contains_from_in}
use Rattle.value_bits.specs.Sets.{pair_set, words}

few_steps : (m d c : ℕ) → 1 ≤ d → 17 ≤ c → (c - 1) * d < m → c * 1 ≤ m
few_steps m d c some long once = let product = mul-le-mul_left {m = 1} {n = d} (c - 1) some in omega (arith, product, once)

few_bytes : SetLaws → (m : ℕ) (set : Form) → 16 ≤ m → IsNormal m set → count_of m set * 1 ≤ m
few_bytes laws m (Values xs) wide normal = omega (arith, normal.1)
few_bytes laws m (Run p) wide normal =
    subst (λ (n : ℕ). n * 1 ≤ m) (sym (laws.steps_long m p.base p.stride p.count)) (few_steps m p.stride p.count normal.strides normal.long normal.once)

low_words : (n v : ℕ) (xs : List ℕ) → ((x : ℕ) → IsIn x xs → x < n) → IsIn v (words xs (0 ∷ [])) → v < n
low_words n v [] below there = absurd there
low_words n v (x ∷ xs) below (inl is) = (let small = below x (inl refl) in omega (arith, small, is))
low_words n v (x ∷ xs) below (inr there) = low_words n v xs (λ y in_rest. below y (inr in_rest)) there

pub pair_byte : SetLaws → (low : Form) (v : ℕ) → IsNormal 256 low → Has 65536 (pair_set low (single 0)) v → v < 256
unfolding pair_set
pair_byte laws low v normal =
    let small : (x : ℕ) → IsIn x (members 256 low) → x < 256 = λ x there. laws.below 256 x low normal (Contains_from_in (members 256 low) x there) in
    let alone = words (members 256 low) (0 ∷ []) in
    let below : AreBelow 256 alone = λ w there. low_words 256 w (members 256 low) small (in_from_Contains alone w there) in
    rw (le-leb (count_of 256 low * 1) 256 (few_bytes laws 256 low (omega arith) normal)) (laws.gather_below 256 65536 alone (omega arith) below v)
