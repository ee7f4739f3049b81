-- When each number of one run is one of another.
use Rattle.std.proofs.Common.{◌≡◌, ℕ, ◌+◌, ◌-◌, ◌*◌, ◌%◌, ◌/◌, ◌<◌, ◌≤◌, refl, sym, ◌∙◌, ap, subst, inl, inr, arith}
use Prim.Native.Nat.{suc, ◌∣◌}
use Rattle.std.specs.Prelude.{◌⊎◌}
use Rattle.std.proofs.lemmas.Bool.{cases_lt}
use Rattle.std.proofs.Math.Nat.{mod-lt, add-mod-mod, dvd-mul_left, dvd-mul_left_of_dvd, dvd-add, dvd-sub, div-mul-le_self, lt-div-mul-add, le-div_iff_mul-le, lt_of_mul-lt-mul_right, mul-le-mul_right, mul-div_left}
use Rattle.value_set.specs.Form.{above}
use Rattle.value_set.proofs.Members.{InRun}
use Rattle.value_set.proofs.Rounds.{mod_low, mod_once, above_sum, run_offset, run_below, base_mod}
use Rattle.value_set.proofs.Spans.{reached}

-- Seen from the second base: the first run starts at o, and its stride and the start are multiples of the second stride.
-- Its last number is within the second end, or it goes round: then the stride divides m, and its last number in front of
-- the turn is within the end.
abbrev pub Fitting : (m o d c g end : ℕ) → Type 0
Fitting m o d c g end = (g ∣ o) × (g ∣ d)
    × (((o + (c - 1) * d < m) × (o + (c - 1) * d ≤ end)) ⊎ ((m ≤ o + (c - 1) * d) × (g ∣ m) × (o + (m - 1 - o) / d * d ≤ end)))

-- a number of the first run, seen from the second base
pub seen : (m b o d i : ℕ) → b < m → o < m → above m b (((b + o) % m + i * d) % m) ≡ (o + i * d) % m
seen m b o d i h k =
    let pos : 0 < m = omega arith in
    let apart : (b + o + i * d) % m ≡ (b + (o + i * d) % m) % m = ap (λ (n : ℕ). n % m) (let e : b + o + i * d ≡ b + (o + i * d) = omega arith in e) ∙ sym (add-mod-mod b (o + i * d) m) in
    ap (λ (w : ℕ). above m b w) (base_mod m (b + o) (i * d) ∙ apart) ∙ above_sum m b ((o + i * d) % m) h (mod-lt (o + i * d) {m = m} pos)

-- ---- the test is enough

fitting_point : (m o d c g end i : ℕ) → o < m → 0 < d → (c - 1) * d < m → i < c → Fitting m o d c g end
    → (g ∣ (o + i * d) % m) × ((o + i * d) % m ≤ end)
fitting_point m o d c g end i low pos once short fits =
    let most : i * d ≤ (c - 1) * d = mul-le-mul_right {m = i} {n = c - 1} d (omega arith) in
    let whole : g ∣ o + i * d = dvd-add g fits.0 (dvd-mul_left_of_dvd g fits.1 i) in
    elim (cases_lt (o + i * d) m) [
      | inl under ↦ rw (mod_low (o + i * d) m under) (
        whole,
        elim fits.2 [
          | inl straight ↦ omega (arith, straight.1, most)
          | inr round ↦
              let front : i ≤ (m - 1 - o) / d = (le-div_iff_mul-le {k = d} {x = i} {y = m - 1 - o} pos).1 (omega arith) in
              let step = mul-le-mul_right {m = i} {n = (m - 1 - o) / d} d front in
              omega (arith, step, round.2)
        ],
      )
      | inr over ↦ rw (mod_once (o + i * d) m over (omega (arith, most, once))) (elim fits.2 [
        | inl straight ↦ absurd (omega (arith, straight.0, most))
        | inr round ↦ (dvd-sub g whole round.1, omega (arith, round.2, most, once))
      ])
    ]

pub included : (m b o d c e n v : ℕ) → b < m → o < m → 0 < d → 0 < e → 1 ≤ n → (c - 1) * d < m → Fitting m o d c e ((n - 1) * e)
    → InRun m ((b + o) % m) d c v → InRun m b e n v
included m b o d c e n v h low pos posn some once fits (i, short, is) =
    let point = fitting_point m o d c e ((n - 1) * e) i low pos once short fits in
    let at : above m b v ≡ (o + i * d) % m = ap (λ (w : ℕ). above m b w) is ∙ seen m b o d i h low in
    let positive : 0 < m = omega arith in
    let here = run_below m ((b + o) % m) d c v positive (i, short, is) in
    let count : (n - 1) * e / e + 1 ≡ n = omega (arith, mul-div_left (n - 1) {n = e} posn) in
    let found = reached m b e ((n - 1) * e) v h here (subst (λ (w : ℕ). e ∣ w) (sym at) point.0) (omega (arith, at, point.1)) in
    (found.0, omega (arith, found.1, count), found.2)

-- ---- and needed

abbrev Points : (m o d c g end : ℕ) → Type 0
Points m o d c g end = (i : ℕ) → i < c → (g ∣ (o + i * d) % m) × ((o + i * d) % m ≤ end)

points : (m b o d c e n : ℕ) → b < m → o < m → (n - 1) * e < m
    → ((v : ℕ) → InRun m ((b + o) % m) d c v → InRun m b e n v) → Points m o d c e ((n - 1) * e)
points m b o d c e n h low once inside i short =
    let v = ((b + o) % m + i * d) % m in
    let found = run_offset m b e n v h once (inside v (i, short, refl)) in
    let at : (o + i * d) % m ≡ found.0 * e = sym (seen m b o d i h low) ∙ found.2 in
    let most = mul-le-mul_right {m = found.0} {n = n - 1} e (omega (arith, found.1)) in
    (subst (λ (w : ℕ). e ∣ w) (sym at) (dvd-mul_left e found.0), omega (arith, at, most))

stride_fits : (m o d c g end : ℕ) → o < m → 3 ≤ c → (c - 1) * d < m → Points m o d c g end → g ∣ d
stride_fits m o d c g end low long once at =
    let two : 2 * d ≤ (c - 1) * d = mul-le-mul_right {m = 2} {n = c - 1} d (omega arith) in
    let none : (o + 0 * d) % m ≡ o = (let e : o + 0 * d ≡ o = omega arith in ap (λ (n : ℕ). n % m) e ∙ mod_low o m low) in
    let start : g ∣ o = subst (λ (n : ℕ). g ∣ n) none (at 0 (omega arith)).0 in
    let one : 1 * d ≡ d = omega arith in
    elim (cases_lt (o + d) m) [
      | inl under ↦
          let e : (o + 1 * d) % m ≡ o + d = ap (λ (n : ℕ). (o + n) % m) one ∙ mod_low (o + d) m under in
          let next : g ∣ o + d = subst (λ (n : ℕ). g ∣ n) e (at 1 (omega arith)).0 in
          let rest : o + d - o ≡ d = omega arith in
          subst (λ (n : ℕ). g ∣ n) rest (dvd-sub g next start)
      | inr over ↦
          let e : (o + 1 * d) % m ≡ o + d - m = ap (λ (n : ℕ). (o + n) % m) one ∙ mod_once (o + d) m over (omega (arith, two, once)) in
          let f : (o + 2 * d) % m ≡ o + 2 * d - m = mod_once (o + 2 * d) m (omega arith) (omega (arith, two, once)) in
          let next : g ∣ o + d - m = subst (λ (n : ℕ). g ∣ n) e (at 1 (omega arith)).0 in
          let after : g ∣ o + 2 * d - m = subst (λ (n : ℕ). g ∣ n) f (at 2 (omega arith)).0 in
          let rest : o + 2 * d - m - (o + d - m) ≡ d = omega arith in
          subst (λ (n : ℕ). g ∣ n) rest (dvd-sub g after next)
    ]

turn_fits : (m o d c g end : ℕ) → o < m → 0 < d → 1 ≤ c → (c - 1) * d < m → m ≤ o + (c - 1) * d → g ∣ d → Points m o d c g end
    → (g ∣ m) × (o + (m - 1 - o) / d * d ≤ end)
turn_fits m o d c g end low pos some once round strides at =
    let q = (m - 1 - o) / d in
    let under = div-mul-le_self (m - 1 - o) d in
    let beyond = lt-div-mul-add {a = m - 1 - o} {b = d} pos in
    let early : q * d < (c - 1) * d = omega (arith, under) in
    let short : q < c - 1 = lt_of_mul-lt-mul_right d {m = q} {n = c - 1} early in
    let here : (o + q * d) % m ≡ o + q * d = mod_low (o + q * d) m (omega (arith, under)) in
    let next_is : suc q * d ≡ q * d + d = omega arith in
    let late = mul-le-mul_right {m = suc q} {n = c - 1} d (omega (arith, short)) in
    let there : (o + suc q * d) % m ≡ o + suc q * d - m = mod_once (o + suc q * d) m (omega (arith, beyond, next_is)) (omega (arith, late, once)) in
    let front : g ∣ o + q * d = subst (λ (n : ℕ). g ∣ n) here (at q (omega (arith, short))).0 in
    let behind : g ∣ o + suc q * d - m = subst (λ (n : ℕ). g ∣ n) there (at (suc q) (omega (arith, short))).0 in
    let sum : g ∣ o + q * d + d = dvd-add g front strides in
    let rest : o + q * d + d - (o + suc q * d - m) ≡ m = omega (arith, beyond, next_is) in
    (subst (λ (n : ℕ). g ∣ n) rest (dvd-sub g sum behind), omega (arith, here, (at q (omega (arith, short))).1))

pub fitting : (m b o d c e n : ℕ) → b < m → o < m → 0 < d → 3 ≤ c → (c - 1) * d < m → (n - 1) * e < m
    → ((v : ℕ) → InRun m ((b + o) % m) d c v → InRun m b e n v) → Fitting m o d c e ((n - 1) * e)
fitting m b o d c e n h low pos long once once_too inside =
    let at = points m b o d c e n h low once_too inside in
    let strides = stride_fits m o d c e ((n - 1) * e) low long once at in
    let none : (o + 0 * d) % m ≡ o = (let z : o + 0 * d ≡ o = omega arith in ap (λ (k : ℕ). k % m) z ∙ mod_low o m low) in
    let start : e ∣ o = subst (λ (k : ℕ). e ∣ k) none (at 0 (omega arith)).0 in (
      start,
      strides,
      elim (cases_lt (o + (c - 1) * d) m) [
        | inl straight ↦ inl (straight, let last = at (c - 1) (omega arith) in omega (arith, last.1, mod_low (o + (c - 1) * d) m straight))
        | inr round ↦ let turn = turn_fits m o d c e ((n - 1) * e) low pos (omega arith) once round strides at in inr (round, turn.0, turn.1)
      ],
    )
