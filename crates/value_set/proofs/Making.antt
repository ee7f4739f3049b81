-- What `make` makes: the members of its run, in the one form.
use Rattle.std.proofs.Common.{◌≡◌, ℕ, ◌+◌, ◌-◌, ◌*◌, ◌%◌, ◌/◌, ◌<◌, ◌≤◌, [], refl, sym, ◌∙◌, inl, inr, arith}
use Prim.Native.Nat.{zero, suc}
use Rattle.std.proofs.lemmas.Bool.{cases_lt, cases_eq, lt-leb, le-leb, eq-eqb, ne_eqb}
use Rattle.std.proofs.Math.Nat.{mod-lt, div-zero, mul-le-mul_right, div-mul-le_self, mod-mod}
use Rattle.value_set.specs.declared.form.Form.TheVariants.{Values, Run}
use Rattle.value_set.specs.Form.{make, steps, Has, ascending, IsNormal, Fits}
use Rattle.value_set.specs.ListFacts.{IsIn, in_from_Contains, Contains_from_in}
use Rattle.value_set.specs.StepFacts.{length-steps, steps_from}
use Rattle.value_set.proofs.Members.{InRun, in_ascending, put_all_has, Ascends-put_all, length-put_all, ascending_some, steps_has}
use Rattle.value_set.proofs.Rounds.{run_base_mod, run_base_plain, whole_remainder, whole_has, run_below}

pub make-few : (m b d c : ℕ) → c ≤ 16 → make m b d c ≡ Values (ascending (steps m b d c))
unfolding make
make-few m b d c h = rw (le-leb c 16 h) refl

pub make-whole : (m b d c : ℕ) → 16 < c → c * d ≡ m → make m b d c ≡ Run (record { base = b % d; stride = d; count = c })
unfolding make
make-whole m b d c h e = rw (lt-leb c 16 h, eq-eqb (c * d) m e) refl

pub make-open : (m b d c : ℕ) → 16 < c → (c * d ≡ m → ⊥) → make m b d c ≡ Run (record { base = b % m; stride = d; count = c })
unfolding make
make-open m b d c h e = rw (lt-leb c 16 h, ne_eqb (c * d) m e) refl

pub in_make : (m b d c v : ℕ) → Fits m d c → Has m (make m b d c) v → InRun m b d c v
in_make m b d c v fits h = elim (cases_lt 16 c) [
  | inr few ↦ steps_from m b d c v (Contains_from_in _ v (in_ascending v _ (in_from_Contains _ v (rw (make-few m b d c few) at h))))
  | inl many ↦ elim (cases_eq (c * d) m) [
    | inl whole ↦
        let run = steps_from m (b % d) d c v (rw (make-whole m b d c many whole) at h) in
        whole_has m b d c v (fits.strides (omega arith)) whole (run_below m (b % d) d c v fits.positive run) (whole_remainder m (b % d) d c v whole run ∙ mod-mod b d)
    | inr apart ↦ run_base_plain m b d c v (steps_from m (b % m) d c v (rw (make-open m b d c many apart) at h))
  ]
]

pub make_has : (m b d c v : ℕ) → Fits m d c → InRun m b d c v → Has m (make m b d c) v
make_has m b d c v fits run = elim (cases_lt 16 c) [
  | inr few ↦ rw (make-few m b d c few) (Contains_from_in _ v (put_all_has v _ _ (in_from_Contains _ v (steps_has m b d c v run))))
  | inl many ↦ elim (cases_eq (c * d) m) [
    | inl whole ↦ rw (make-whole m b d c many whole)
        (steps_has m (b % d) d c v (whole_has m (b % d) d c v (fits.strides (omega arith)) whole (run_below m b d c v fits.positive run) (whole_remainder m b d c v whole run ∙ sym (mod-mod b d))))
    | inr apart ↦ rw (make-open m b d c many apart) (steps_has m (b % m) d c v (run_base_mod m b d c v run))
  ]
]

steps_below : (m b d c v : ℕ) → 0 < m → IsIn v (steps m b d c) → v < m
steps_below m b d c v h i = run_below m b d c v h (steps_from m b d c v (Contains_from_in _ v i))

pub make_normal : (m b d c : ℕ) → Fits m d c → IsNormal m (make m b d c)
make_normal m b d c fits = elim (cases_lt 16 c) [
  | inr few ↦ rw (make-few m b d c few) (
    ascending_some (steps m b d c) (omega (arith, length-steps m b d c, fits.some)),
    omega (arith, length-put_all [] (steps m b d c), length-steps m b d c),
    Ascends-put_all m [] (steps m b d c) (λ v h. steps_below m b d c v fits.positive h) tt,
  )
  | inl many ↦ let pos = fits.strides (omega arith) in elim (cases_eq (c * d) m) [
    | inl whole ↦ let low : b % d < d = mod-lt b (omega arith) in
        let once_at_least = mul-le-mul_right {m = 1} {n = c} d (omega arith) in
        let least : d ≤ c * d = omega (arith, once_at_least) in
        rw (make-whole m b d c many whole) (record { long = omega arith; strides = pos; below = omega arith; once = fits.once; least = λ _. low })
    | inr apart ↦ rw (make-open m b d c many apart) (record { long = omega arith; strides = pos; below = mod-lt b fits.positive; once = fits.once; least = λ e. absurd (apart e) })
  ]
]

strides_up : (end g : ℕ) → 0 < end / g → 1 ≤ g
strides_up end zero h = absurd (let none = div-zero end in omega (arith, none, h))
strides_up end (suc g) h = omega arith

-- a run with steps of g up to an end below m
pub fits_to : (m g end : ℕ) → end < m → Fits m g (end / g + 1)
fits_to m g end h =
    let below = div-mul-le_self end g in
    let one : end / g + 1 - 1 ≡ end / g = omega arith in
    record { positive = omega arith; some = omega arith; once = rw one (omega (arith, below)); strides = λ more. strides_up end g (omega arith) }
