-- The runs that sets are drawn from.
use Rattle.std.proofs.Common.{◌≡◌, ℕ, ◌+◌, ◌-◌, ◌*◌, ◌%◌, ◌/◌, ◌<◌, ◌≤◌, List, [], ◌∷◌, length, refl, sym, ◌∙◌, ap, subst, inl, inr, arith}
use Prim.Native.Nat.{zero, suc, ◌∣◌}
use Rattle.std.specs.Prelude.{slice_index}
use Rattle.std.specs.List.{fold}
use Rattle.std.proofs.lemmas.Bool.{cases_lt, cases_eq, lt-ltb, le-ltb, lt-leb, le-leb}
use Rattle.std.proofs.Math.Nat.{mod-lt, mod-mod, le-div_iff_mul-le, dvd_trans, dvd_refl, div-mul_cancel, mod-mod_of_dvd, add-mod-mod, eq-zero_of_zero-dvd, pos_of_dvd_of_pos, mod-eq-zero_of_dvd}
use Rattle.value_set.specs.Gcd.{gcd}
use Rattle.value_set.specs.declared.form.Form.{Form}
use Rattle.value_set.specs.declared.form.Form.TheVariants.{Values, Run}
use Rattle.value_set.specs.Form.{make, Has, ascending, Ascends, IsNormal, above, behind_widest, hull_base, common_stride, greater, farthest, hull, span, Fits, IsSpan, set_of, gather, class}
use Rattle.value_set.specs.ListFacts.{IsIn, in_from_Contains, Contains_from_in}
use Rattle.value_set.specs.StepFacts.{steps_from}
use Rattle.value_set.proofs.Divisors.{gcd_left, gcd_right}
use Rattle.value_set.proofs.Members.{InRun, put_all_has, Ascends-put_all, Ascends-in, ascending_some}
use Rattle.value_set.proofs.Rounds.{above_below, run_from_offset, whole_has}
use Rattle.value_set.proofs.Making.{fits_to, make_has, make_normal}

pub greater_left : (a b : ℕ) → a ≤ greater a b
greater_left a b = elim (cases_lt a b) [ inl low ↦ rw (lt-ltb a b low) (omega arith) | inr high ↦ rw (le-ltb a b high) (omega arith) ]

pub greater_right : (a b : ℕ) → b ≤ greater a b
greater_right a b = elim (cases_lt a b) [ inl low ↦ rw (lt-ltb a b low) (omega arith) | inr high ↦ rw (le-ltb a b high) high ]

pub greater_below : (a b m : ℕ) → a < m → b < m → greater a b < m
greater_below a b m h k = elim (cases_lt a b) [ inl low ↦ rw (lt-ltb a b low) k | inr high ↦ rw (le-ltb a b high) h ]

-- ---- the hull of some numbers

pub widest-wider : (best width previous x : ℕ) (xs : List ℕ) → width < x - previous
    → behind_widest best width previous (x ∷ xs) ≡ behind_widest x (x - previous) x xs
unfolding behind_widest
widest-wider best width previous x xs h = rw (lt-ltb width (x - previous) h) refl

pub widest-narrow : (best width previous x : ℕ) (xs : List ℕ) → x - previous ≤ width
    → behind_widest best width previous (x ∷ xs) ≡ behind_widest best width x xs
unfolding behind_widest
widest-narrow best width previous x xs h = rw (le-ltb width (x - previous) h) refl

pub widest-nil : (best width previous : ℕ) → behind_widest best width previous [] ≡ best
unfolding behind_widest
widest-nil best width previous = refl

widest_in : (best width previous : ℕ) (xs : List ℕ) → IsIn (behind_widest best width previous xs) (best ∷ xs)
widest_in best width previous [] = inl (sym (widest-nil best width previous))
widest_in best width previous (x ∷ xs) = elim (cases_lt width (x - previous)) [
  | inl wider ↦ subst (λ (w : ℕ). IsIn w (best ∷ x ∷ xs)) (sym (widest-wider best width previous x xs wider)) (inr (widest_in x (x - previous) x xs))
  | inr narrow ↦ subst (λ (w : ℕ). IsIn w (best ∷ x ∷ xs)) (sym (widest-narrow best width previous x xs narrow)) (elim (widest_in best width x xs) [ inl e ↦ inl e | inr r ↦ inr (inr r) ])
]

pub hull_base_in : (m : ℕ) (xs : List ℕ) → 1 ≤ length xs → IsIn (hull_base m xs) xs
unfolding hull_base
hull_base_in m [] h = absurd (omega arith)
hull_base_in m (x ∷ xs) h = widest_in x (x + m - slice_index (x ∷ xs) (length xs)) x xs

strides_divide : (m b g : ℕ) (xs : List ℕ) → fold (λ g v. gcd g (above m b v)) g xs ∣ g
strides_divide m b g [] = dvd_refl g
strides_divide m b g (x ∷ xs) = dvd_trans _ (strides_divide m b (gcd g (above m b x)) xs) (gcd_left g (above m b x))

pub stride_divides : (m b g v : ℕ) (xs : List ℕ) → IsIn v xs → fold (λ g v. gcd g (above m b v)) g xs ∣ above m b v
stride_divides m b g v [] h = absurd h
stride_divides m b g v (x ∷ xs) (inl e) = subst (λ (w : ℕ). fold (λ g v. gcd g (above m b v)) g (x ∷ xs) ∣ above m b w) e
    (dvd_trans _ (strides_divide m b (gcd g (above m b x)) xs) (gcd_right g (above m b x)))
stride_divides m b g v (x ∷ xs) (inr h) = stride_divides m b (gcd g (above m b x)) v xs h

farthest_kept : (m b r : ℕ) (xs : List ℕ) → r ≤ fold (λ most v. greater most (above m b v)) r xs
farthest_kept m b r [] = omega arith
farthest_kept m b r (x ∷ xs) = omega (arith, farthest_kept m b (greater r (above m b x)) xs, greater_left r (above m b x))

pub farthest_has : (m b r v : ℕ) (xs : List ℕ) → IsIn v xs → above m b v ≤ fold (λ most v. greater most (above m b v)) r xs
farthest_has m b r v [] h = absurd h
farthest_has m b r v (x ∷ xs) (inl e) = subst (λ (w : ℕ). above m b w ≤ fold (λ most v. greater most (above m b v)) r (x ∷ xs)) e
    (omega (arith, farthest_kept m b (greater r (above m b x)) xs, greater_right r (above m b x)))
farthest_has m b r v (x ∷ xs) (inr h) = farthest_has m b (greater r (above m b x)) v xs h

farthest_below : (m b r : ℕ) (xs : List ℕ) → 0 < m → r < m → fold (λ most v. greater most (above m b v)) r xs < m
farthest_below m b r [] pos h = h
farthest_below m b r (x ∷ xs) pos h = farthest_below m b (greater r (above m b x)) xs pos (greater_below r (above m b x) m h (above_below m b x pos))

-- ---- steps up to an end

pub multiple : (g a end : ℕ) → g ∣ a → a ≤ end → (i : ℕ) × (i < end / g + 1) × (a ≡ i * g)
multiple zero a end div low = (0, omega arith, eq-zero_of_zero-dvd div)
multiple (suc g) a end div low =
    let back : a / suc g * suc g ≡ a = div-mul_cancel (suc g) div in
    let short : a / suc g ≤ end / suc g = (le-div_iff_mul-le {k = suc g} {x = a / suc g} {y = end} (omega arith)).1 (omega (arith, back)) in
    (a / suc g, omega (arith, short), sym back)

-- a number that stands a multiple of the stride above a base, not beyond the end
pub reached : (m b g end v : ℕ) → b < m → v < m → g ∣ above m b v → above m b v ≤ end → InRun m b g (end / g + 1) v
reached m b g end v h k div low = let found = multiple g (above m b v) end div low in
    run_from_offset m b g (end / g + 1) v found.0 h k found.1 found.2

-- ---- the span of a set

pub hull_is : (m : ℕ) (xs : List ℕ) → 1 ≤ length xs → Ascends 0 m xs → IsSpan m (hull m xs).base (hull m xs).stride (hull m xs).count
unfolding hull
hull_is m xs h a =
    let low = Ascends-in 0 m (hull_base m xs) xs a (hull_base_in m xs h) in
    let pos : 0 < m = omega (arith, low.1) in
    let fits = fits_to m (common_stride m (hull_base m xs) xs) (farthest m (hull_base m xs) xs) (farthest_below m (hull_base m xs) 0 xs pos pos) in
    record { below = low.1; some = fits.some; once = fits.once; strides = fits.strides }

pub hull_has : (m v : ℕ) (xs : List ℕ) → 1 ≤ length xs → Ascends 0 m xs → IsIn v xs
    → InRun m (hull m xs).base (hull m xs).stride (hull m xs).count v
unfolding hull
hull_has m v xs h a i =
    let low = Ascends-in 0 m (hull_base m xs) xs a (hull_base_in m xs h) in
    let here = Ascends-in 0 m v xs a i in
    reached m (hull_base m xs) (common_stride m (hull_base m xs) xs) (farthest m (hull_base m xs) xs) v low.1 here.1
    (stride_divides m (hull_base m xs) 0 v xs i) (farthest_has m (hull_base m xs) 0 v xs i)

pub span_is : (m : ℕ) (set : Form) → IsNormal m set → IsSpan m (span m set).base (span m set).stride (span m set).count
span_is m (Values xs) n = hull_is m xs n.0 n.2
span_is m (Run p) n = record { below = n.below; some = omega (arith, n.long); once = n.once; strides = λ _. n.strides }

pub modulus_positive : (m : ℕ) (set : Form) → IsNormal m set → 0 < m
modulus_positive m set n = let low = (span_is m set n).below in omega (arith, low)

pub span_has : (m v : ℕ) (set : Form) → IsNormal m set → Has m set v → InRun m (span m set).base (span m set).stride (span m set).count v
span_has m v (Values xs) n h = hull_has m v xs n.0 n.2 (in_from_Contains xs v h)
span_has m v (Run p) n h = steps_from m p.base p.stride p.count v h

pub span_fits : (m base stride count : ℕ) → IsSpan m base stride count → Fits m stride count
span_fits m base stride count s = record { positive = omega (arith, s.below); some = s.some; once = s.once; strides = s.strides }

-- ---- gather

pub set_of-few : (m : ℕ) (xs : List ℕ) → length xs ≤ 16 → set_of m xs ≡ Values xs
unfolding set_of
set_of-few m xs h = rw (le-leb (length xs) 16 h) refl

pub set_of-many : (m : ℕ) (xs : List ℕ) → 16 < length xs → set_of m xs ≡ make m (hull m xs).base (hull m xs).stride (hull m xs).count
unfolding set_of
set_of-many m xs h = rw (lt-leb (length xs) 16 h) refl

pub gather_normal : (m : ℕ) (xs : List ℕ) → 1 ≤ length xs → ((v : ℕ) → IsIn v xs → v < m) → IsNormal m (gather m xs)
gather_normal m xs h below = let some = ascending_some xs h in let rises = Ascends-put_all m [] xs below tt in
    elim (cases_lt 16 (length (ascending xs))) [
      | inr few ↦ rw (set_of-few m (ascending xs) few) (some, few, rises)
      | inl many ↦ rw (set_of-many m (ascending xs) many) (make_normal m _ _ _ (span_fits m _ _ _ (hull_is m (ascending xs) some rises)))
    ]

pub gather_has : (m v : ℕ) (xs : List ℕ) → 1 ≤ length xs → ((v : ℕ) → IsIn v xs → v < m) → IsIn v xs → Has m (gather m xs) v
gather_has m v xs h below i = let some = ascending_some xs h in let rises = Ascends-put_all m [] xs below tt in
    let there = put_all_has v [] xs i in
    elim (cases_lt 16 (length (ascending xs))) [
      | inr few ↦ rw (set_of-few m (ascending xs) few) (Contains_from_in (ascending xs) v there)
      | inl many ↦ rw (set_of-many m (ascending xs) many)
          (make_has m _ _ _ v (span_fits m _ _ _ (hull_is m (ascending xs) some rises)) (hull_has m v (ascending xs) some rises there))
    ]

-- ---- class

pub divisor_positive : (m d : ℕ) → 0 < m → 0 < gcd d m
divisor_positive m d pos = pos_of_dvd_of_pos {m = gcd d m} {n = m} (gcd_right d m) pos

less_one : (q g m : ℕ) → q * g ≡ m → 1 ≤ q → 0 < g → (q - 1) * g < m
less_one zero g m e h pos = absurd (omega arith)
less_one (suc q) g m e h pos = let one : suc q - 1 ≡ q = omega arith in rw one (omega (arith, e))

pub class_fits : (m d : ℕ) → 0 < m → Fits m (gcd d m) (m / gcd d m)
class_fits m d pos =
    let gpos : 0 < gcd d m = divisor_positive m d pos in
    let whole : m / gcd d m * gcd d m ≡ m = div-mul_cancel (gcd d m) (gcd_right d m) in
    let some : 1 ≤ m / gcd d m = elim (cases_eq (m / gcd d m) 0) [
      | inl none ↦ absurd (let z : m / gcd d m * gcd d m ≡ 0 * gcd d m = ap (λ (n : ℕ). n * gcd d m) none in omega (arith, z, whole))
      | inr other ↦ omega (arith, other)
    ] in
    let step : (m / gcd d m - 1) * gcd d m < m = less_one (m / gcd d m) (gcd d m) m whole some gpos in
    record { positive = pos; some = some; once = step; strides = λ _. gpos }

pub class_normal : (m b d : ℕ) → 0 < m → IsNormal m (class m b d)
unfolding class
class_normal m b d pos = make_normal m (b % gcd d m) (gcd d m) (m / gcd d m) (class_fits m d pos)

pub class_has : (m b d v : ℕ) → 0 < m → v < m → v % gcd d m ≡ b % gcd d m → Has m (class m b d) v
unfolding class
class_has m b d v pos low same = make_has m (b % gcd d m) (gcd d m) (m / gcd d m) v (class_fits m d pos)
    (whole_has m (b % gcd d m) (gcd d m) (m / gcd d m) v (divisor_positive m d pos) (div-mul_cancel (gcd d m) (gcd_right d m)) low
    (same ∙ sym (mod-mod b (gcd d m))))

-- a number that stands a multiple of the stride above the base
pub class_reached : (m b d v k : ℕ) → 0 < m → v ≡ (b + k) % m → d ∣ k → Has m (class m b d) v
class_reached m b d v k pos is div =
    let low = mod-lt (b + k) {m = m} pos in
    let part : gcd d m ∣ k = dvd_trans _ (gcd_left d m) div in
    let same : (b + k) % m % gcd d m ≡ (b + k) % gcd d m = mod-mod_of_dvd (gcd d m) (b + k) (gcd_right d m) in
    let none : k % gcd d m ≡ 0 = mod-eq-zero_of_dvd (gcd d m) part in
    let plain : (b + k % gcd d m) % gcd d m ≡ (b + k) % gcd d m = add-mod-mod b k (gcd d m) in
    let zero_added : b + k % gcd d m ≡ b = omega (arith, none) in
    class_has m b d v pos (omega (arith, is, low)) (ap (λ (n : ℕ). n % gcd d m) is ∙ same ∙ sym plain ∙ ap (λ (n : ℕ). n % gcd d m) zero_added)
