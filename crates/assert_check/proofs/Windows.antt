-- Windows of the circle of words, and the numbers of sets in them.
use Rattle.std.proofs.Common.{◌≡◌, ℕ, zero, suc, ◌+◌, ◌-◌, ◌%◌, ◌<◌, ◌≤◌, min, List, Bool}
use Rattle.std.proofs.Common.{true, false, Option, None, Some, refl, ap, sym, ◌∙◌, inl, inr, arith}
use Rattle.std.specs.Prelude.{◌↔◌, nat_lt, nat_le, not, ◌&&◌, IsNone, Contains, is_some}
use Rattle.std.specs.List.{list_any}
use Rattle.std.proofs.lemmas.Bool.{cases_Bool, cases_lt, lt-ltb, le-ltb, le-leb, leb-true}
use Rattle.std.proofs.lemmas.Bool.{and_parts, or_cases, or_left, or_right, ltb-true, ltb-false}
use Rattle.value_set.specs.Form.{above}
use Rattle.value_set.specs.declared.form.Form.{Form}
use Rattle.assert_check.specs.Assertions.{is_between, reaches}
use Rattle.plain_lemmas.specs.AnyOf.{none_passes, some_passes}

-- whether a cut is there tells whether some number stands in the window
pub cut_tells : (m from len : ℕ) (xs : List ℕ) (part : Option Form)
    → (IsNone part ↔ ((v : ℕ) → Contains xs v → len ≤ above m from v)) → is_some part ≡ list_any (λ v. nat_lt (above m from v) len) xs
cut_tells m from len xs None none = elim (cases_Bool (list_any (λ v. nat_lt (above m from v) len) xs)) [
  | inl some ↦ let v = some_passes (λ v. nat_lt (above m from v) len) xs some in
      absurd (omega (arith, none.0 refl v.0 v.1, ltb-true (above m from v.0) len v.2))
  | inr isnt ↦ sym isnt
]
cut_tells m from len xs (Some part) none = elim (cases_Bool (list_any (λ v. nat_lt (above m from v) len) xs)) [
  | inl some ↦ sym some
  | inr isnt ↦ absurd (cc (none.1 (λ v h. ltb-false (above m from v) len (none_passes (λ v. nat_lt (above m from v) len) xs isnt v h))))
]

-- ONE OF SEVERAL BYTES
reached : (lo hi size address : ℕ) → reaches lo hi size address ≡ true
    → (k : ℕ) × (k < size) × (is_between lo hi ((address + k) % 65536) ≡ true)
reached lo hi zero address e = absurd (cc)
reached lo hi (suc size) address e = elim (or_cases (reaches lo hi size address) (is_between lo hi ((address + size) % 65536)) e) [
  | inl front ↦ let k = reached lo hi size address front in (k.0, omega (arith, k.1), k.2)
  | inr last ↦ (size, omega arith, last)
]

reaching : (lo hi size address k : ℕ) → k < size → is_between lo hi ((address + k) % 65536) ≡ true → reaches lo hi size address ≡ true
reaching lo hi zero address k h e = absurd (omega arith)
reaching lo hi (suc size) address k h e = elim (cases_lt k size) [
  | inl front ↦ or_left (reaches lo hi size address) (is_between lo hi ((address + size) % 65536)) (reaching lo hi size address k front e)
  | inr last ↦
      let same : k ≡ size = omega arith in
      or_right (reaches lo hi size address) (is_between lo hi ((address + size) % 65536)) (ap (λ n. is_between lo hi ((address + n) % 65536)) (sym same) ∙ e)
]

pub between : (lo hi at : ℕ) → lo ≤ at → at ≤ hi → is_between lo hi at ≡ true
between lo hi at h k = ap (λ b. b && nat_le at hi) (le-leb lo at h) ∙ le-leb at hi k

pub within : (lo hi at : ℕ) → is_between lo hi at ≡ true → (lo ≤ at) × (at ≤ hi)
within lo hi at e = let parts = and_parts (nat_le lo at) (nat_le at hi) e in (leb-true lo at parts.0, leb-true at hi parts.1)

pub never_between : (lo hi at : ℕ) → hi < lo → is_between lo hi at ≡ false
never_between lo hi at h = elim (cases_Bool (is_between lo hi at)) [
  | inl is ↦ let parts = within lo hi at is in absurd (omega (arith, parts.0, parts.1))
  | inr isnt ↦ isnt
]

same_answer : (a : ℕ) (b : ℕ) (t : Bool) → (a < b → t ≡ true) → (t ≡ true → a < b) → nat_lt a b ≡ t
same_answer a b t there back = elim (cases_lt a b) [
  | inl less ↦ lt-ltb a b less ∙ sym (there less)
  | inr more ↦ elim (cases_Bool t) [
    | inl is ↦ absurd (omega (arith, back is, more))
    | inr isnt ↦ le-ltb a b more ∙ sym isnt
  ]
]

-- the window of the addresses from which on one of so many bytes stands in the range
reach_next : (lo hi before from len v : ℕ) → lo ≤ hi → hi < 65536 → before < 255 → v < 65536
    → from ≡ (lo + 65536 - before) % 65536 → len ≡ min (hi - lo + suc before) 65536
    → nat_lt (above 65536 from v) len ≡ reaches lo hi (suc before) v
reach_next lo hi before from len v order word few is_word starts long = same_answer (above 65536 from v) len (reaches lo hi (suc before) v)
    (λ h. elim (cases_lt (above 65536 from v) before) [
      | inl early ↦ reaching lo hi (suc before) v (before - above 65536 from v) (omega arith)
          (between lo hi ((v + (before - above 65536 from v)) % 65536) (omega (arith, starts, early)) (omega (arith, starts, early, order)))
      | inr late ↦ reaching lo hi (suc before) v 0 (omega arith)
          (between lo hi ((v + 0) % 65536) (omega (arith, starts, late, h, long)) (omega (arith, starts, late, h, long)))
    ])
    (λ e. let k = reached lo hi (suc before) v e in let there = within lo hi ((v + k.0) % 65536) k.2 in
    omega (arith, starts, long, k.1, there.0, there.1))

pub reach_window : (lo hi size from len v : ℕ) → (size ≡ 0 → ⊥) → size < 256 → lo ≤ hi → hi < 65536 → v < 65536
    → from ≡ (lo + 65536 - (size - 1)) % 65536 → len ≡ min (hi - lo + size) 65536 → nat_lt (above 65536 from v) len ≡ reaches lo hi size v
reach_window lo hi zero from len v some few order word is_word starts long = absurd (some refl)
reach_window lo hi (suc before) from len v some few order word is_word starts long =
    let less : suc before - 1 ≡ before = omega arith in
    reach_next lo hi before from len v order word (omega arith) is_word (rw less at starts) long

pub reaches_none : (lo hi size v : ℕ) → hi < lo → reaches lo hi size v ≡ false
reaches_none lo hi size v h = elim (cases_Bool (reaches lo hi size v)) [
  | inl is ↦ let k = reached lo hi size v is in let there = within lo hi ((v + k.0) % 65536) k.2 in absurd (omega (arith, there.0, there.1))
  | inr isnt ↦ isnt
]

-- the window of the numbers outside a range
pub outside_window : (lo hi from len v : ℕ) → lo < 65536 → hi < 65536 → v < 65536 → from ≡ (hi + 1) % 65536
    → len ≡ min (65535 + lo - hi) 65536
    → nat_lt (above 65536 from v) len ≡ not (is_between lo hi v)
outside_window lo hi from len v low high word starts long = elim (cases_Bool (is_between lo hi v)) [
  | inl is ↦ let there = within lo hi v is in
      le-ltb (above 65536 from v) len (omega (arith, starts, long, there.0, there.1)) ∙ sym (ap not is)
  | inr isnt ↦ elim (cases_lt hi v) [
    | inl behind ↦ lt-ltb (above 65536 from v) len (omega (arith, starts, long, behind)) ∙ sym (ap not isnt)
    | inr up_to ↦ elim (cases_lt v lo) [
      | inl front ↦ lt-ltb (above 65536 from v) len (omega (arith, starts, long, up_to, front)) ∙ sym (ap not isnt)
      | inr from_lo ↦ let bad : true ≡ false = sym (between lo hi v from_lo up_to) ∙ isnt in absurd (cc)
    ]
  ]
]
