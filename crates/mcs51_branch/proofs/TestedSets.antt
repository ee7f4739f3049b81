-- Sets of which a bit was tested.
use Rattle.std.proofs.Common.{◌≡◌, ℕ, ◌<◌, Bool, true, Option, None, Some, List, [], ◌∷◌, length, get_or, refl, subst, arith, Contains}
use Rattle.std.specs.Prelude.{slice_index_or}
use Rattle.std.specs.Int.{bit_at}
use Rattle.std.specs.List.{filter}
use Rattle.std.proofs.lemmas.Bool.{cond_both, cond-true, eq-eqb}
use Rattle.std.proofs.lemmas.List.Elements.{Contains-get_or}
use Rattle.std.proofs.lemmas.Option.{same_Some}
use Rattle.plain_lemmas.specs.Members.{from_filter, in_filter, in_none}
use Rattle.irq_frames.specs.KnownLaws.{KnownLaws}
use Rattle.value_set.specs.declared.form.Form.{Form}
use Rattle.value_set.specs.declared.form.Form.TheVariants.{Values, Run}
use Rattle.value_set.specs.Form.{Has, IsNormal, gather}
use Rattle.value_bits.specs.declared.tri.Tri.TheVariants.{Either}
use Rattle.value_bits.specs.Bits.{IsBit, known_bits, may_be}
use Rattle.mcs51_chip.specs.Registers.{bit_of}
use Rattle.mcs51_branch.specs.Testing.{gathered, has_bit, tested}
use Rattle.mcs51_branch.proofs.CarryBits.{flag_may}

gathered_has : (laws : KnownLaws) (xs : List ℕ) (v : ℕ) → ((n : ℕ) → Contains xs n → n < 256) → Contains xs v
    → (part : Form) × (gathered xs ≡ Some part) × IsNormal 256 part × ((n : ℕ) → Contains xs n → Has 256 part n)
gathered_has laws [] v below h = absurd (in_none v h)
gathered_has laws (x ∷ xs) v below h = (gather 256 (x ∷ xs), refl, laws.sets.gather_normal 256 (x ∷ xs) (omega arith) below, λ n there. laws.sets.gather_holds 256 n (x ∷ xs) below there)

gathered_normal : (laws : KnownLaws) (xs : List ℕ) (part : Form) → ((n : ℕ) → Contains xs n → n < 256)
    → gathered xs ≡ Some part → IsNormal 256 part
gathered_normal laws [] part below e = absurd (cc)
gathered_normal laws (x ∷ xs) part below e = subst (IsNormal 256) (same_Some (gather 256 (x ∷ xs)) part e) (laws.sets.gather_normal 256 (x ∷ xs) (omega arith) below)

-- the numbers of a list in its one form
pub list_below : ((m v : ℕ) (set : Form) → IsNormal m set → Has m set v → v < m) → (xs ys : List ℕ) → ys ≡ xs
    → IsNormal 256 (Values xs) → (k d : ℕ)
    → k < length ys → get_or ys k d < 256
list_below below xs ys same normal k d inside = below 256 (get_or ys k d) (Values xs) normal (subst (λ list. Contains list (get_or ys k d)) same (Contains-get_or ys k d inside))

-- SETS

-- where one number has the bit so, what is left has each such number
pub tested_has : (laws : KnownLaws) (set : Form) (place v : ℕ) (bit : Bool) → IsNormal 256 set → Has 256 set v
    → place < 8 → bit_at v place ≡ bit_of bit
    → (part : Form) × (tested place bit set ≡ Some part) × IsNormal 256 part × ((n : ℕ) → Has 256 set n → bit_at n place ≡ bit_of bit → Has 256 part n)
unfolding tested
tested_has laws (Values xs) place v bit normal has low is =
    let test = has_bit place bit in
    let below : (n : ℕ) → Contains (filter test xs) n → n < 256 = λ n there. laws.sets.below 256 n (Values xs) normal ((from_filter test xs n there).there) in
    let found = gathered_has laws (filter test xs) v below (in_filter test xs v has (eq-eqb (bit_at v place) (bit_of bit) is)) in
    (found.0, found.1, found.2, λ n there so. found.3 n (in_filter test xs n there (eq-eqb (bit_at n place) (bit_of bit) so)))
tested_has laws (Run p) place v bit normal has low is =
    let t = slice_index_or (known_bits 8 (Run p)) place Either in
    let may : may_be t bit ≡ true = flag_may t bit (subst (IsBit t) is (laws.bits.bits_at (known_bits 8 (Run p)) place v (laws.bits.known 8 v (Run p) normal has))) in
    (Run p, cond-true (may_be t bit) (Some (Run p)) None may, normal, λ n there so. there)

pub tested_normal : (laws : KnownLaws) (set part : Form) (place : ℕ) (bit : Bool) → IsNormal 256 set
    → tested place bit set ≡ Some part → IsNormal 256 part
unfolding tested
tested_normal laws (Values xs) part place bit normal e =
    let test = has_bit place bit in
    gathered_normal laws (filter test xs) part (λ n there. laws.sets.below 256 n (Values xs) normal ((from_filter test xs n there).there)) e
tested_normal laws (Run p) part place bit normal e =
    let t = slice_index_or (known_bits 8 (Run p)) place Either in
    cond_both (may_be t bit) (Some (Run p)) None (λ (o : Option Form). o ≡ Some part → IsNormal 256 part)
    (λ may some. subst (IsNormal 256) (same_Some (Run p) part some) normal) (λ may some. absurd (cc)) e
