-- An operand that is one byte of RAM.
use Rattle.std.proofs.Common.{◌≡◌, ℕ, ◌+◌, ◌*◌, ◌%◌, ◌<◌, Some, [], ◌∷◌, refl, sym, ap, ◌∙◌, subst, arith, length}
use Rattle.std.specs.Prelude.{slice_index}
use Rattle.std.proofs.lemmas.List.FromFn.{length-map-range_with_len}
use Rattle.std.proofs.lemmas.Option.{same_Some}
use Rattle.plain_lemmas.specs.Members.{in_one}
use Rattle.value_set.specs.declared.form.Form.{Form}
use Rattle.value_set.specs.declared.form.Form.TheVariants.{Values, Run}
use Rattle.value_set.specs.declared.form.Progression.{Progression}
use Rattle.value_set.specs.Form.{Has, IsNormal, members, steps}
use Rattle.mcs51_chip.specs.declared.place.Address.{Address}
use Rattle.mcs51_chip.specs.declared.place.Address.TheVariants.{InRam as AtRam, InSfr as AtSfr}
use Rattle.mcs51_chip.specs.declared.state.ChipState.{ChipState}
use Rattle.mcs51_chip.specs.Leading.{MayRead}
use Rattle.mcs51_state.specs.declared.addresses.Addresses.{Addresses}
use Rattle.mcs51_state.specs.declared.addresses.Addresses.TheVariants.{InRam, InSfr}
use Rattle.mcs51_state.specs.Standing.{AreAddresses, MayStandAt}
use Rattle.mcs51_alu.specs.LinearFacts.{only_address, only_of}

only_is : (set : Form) (at v : ℕ) → only_of set ≡ Some at → Has 256 set v → v ≡ at
only_is (Values []) at v e h = absurd (cc)
only_is (Values (one ∷ [])) at v e h = sym (in_one one v h) ∙ same_Some one at e
only_is (Values (one ∷ next ∷ rest)) at v e h = absurd (cc)
only_is (Run p) at v e h = absurd (cc)

-- what is read there is that byte
pub only_read : (addresses : Addresses) (address : Address) (s : ChipState) (at x : ℕ)
    → only_address addresses ≡ Some at → MayStandAt addresses address
    → MayRead s address x → x ≡ slice_index s.ram at
only_read (InRam set) (AtRam place) s at x e stands may = may ∙ ap (slice_index s.ram) (only_is set at place e stands)
only_read (InRam set) (AtSfr place) s at x e stands may = absurd stands
only_read (InSfr register) address s at x e stands may = absurd (cc)

-- a set of one number
run_long : (p : Progression) → length (members 256 (Run p)) ≡ p.count
unfolding steps
run_long p = length-map-range_with_len (λ (i : ℕ). (p.base + i * p.stride) % 256) 0 p.count

pub only_counted : (set : Form) → IsNormal 256 set → length (members 256 set) ≡ 1 → only_of set ≡ Some (slice_index (members 256 set) 0)
only_counted (Values []) normal one = absurd (omega (arith, one))
only_counted (Values (at ∷ [])) normal one = refl
only_counted (Values (at ∷ next ∷ rest)) normal one = absurd (omega (arith, one))
only_counted (Run p) normal one = let long = normal.long in absurd (omega (arith, one, run_long p, long))

-- its address is a byte
only_small : (set : Form) (at : ℕ) → ((v : ℕ) → Has 256 set v → v < 256) → only_of set ≡ Some at → at < 256
only_small (Values []) at below e = absurd (cc)
only_small (Values (one ∷ [])) at below e = subst (λ n. n < 256) (same_Some one at e) (below one (0, omega arith, refl))
only_small (Values (one ∷ next ∷ rest)) at below e = absurd (cc)
only_small (Run p) at below e = absurd (cc)

pub address_small : ((m v : ℕ) (set : Form) → IsNormal m set → Has m set v → v < m) → (addresses : Addresses) (at : ℕ)
    → AreAddresses addresses
    → only_address addresses ≡ Some at → at < 256
address_small below (InRam set) at are e = only_small set at (λ v. below 256 v set are) e
address_small below (InSfr register) at are e = absurd (cc)
