-- The bytes of a RAM, and what stands in one or in two of them.
use Rattle.std.proofs.Common.{◌≡◌, ℕ, ◌+◌, ◌*◌, ◌/◌, ◌%◌, ◌<◌, refl, sym, ◌∙◌, ap, subst, inl, inr, arith}
use Rattle.std.specs.Prelude.{◌⊎◌, ◌==◌, ◌&&◌}
use Rattle.std.proofs.lemmas.Bool.{cases_Bool, eqb-true, eq-eqb, ne_eqb, and_parts}
use Rattle.entry_value.specs.Cells.{number_at, written}
use Rattle.plain_lemmas.specs.Small.{byte_alone, high_of, low_of}

abbrev pub IsSize : ℕ → Type 0
IsSize size = (size ≡ 1) ⊎ (size ≡ 2)

abbrev pub AreBytes : (ℕ → ℕ) → Type 0
AreBytes ram = (at : ℕ) → ram at < 256

pub low_part : (ram : ℕ → ℕ) → AreBytes ram → (place size : ℕ) → IsSize size → number_at ram place size % 256 ≡ ram place
low_part ram bytes place size (inl one) = subst (λ (s : ℕ). number_at ram place s % 256 ≡ ram place) (sym one) (byte_alone (ram place) (bytes place))
low_part ram bytes place size (inr two) = subst (λ (s : ℕ). number_at ram place s % 256 ≡ ram place) (sym two)
    (low_of (ram place) (ram ((place + 1) % 65536)) (bytes place))

pub high_part : (ram : ℕ → ℕ) → AreBytes ram → (place size : ℕ) → size ≡ 2 → number_at ram place size / 256 ≡ ram ((place + 1) % 65536)
high_part ram bytes place size two = subst (λ (s : ℕ). number_at ram place s / 256 ≡ ram ((place + 1) % 65536)) (sym two)
    (high_of (ram place) (ram ((place + 1) % 65536)) (bytes place))

-- two RAMs with the same bytes at a place
pub same_number : (one other : ℕ → ℕ) (place size : ℕ) → IsSize size → one place ≡ other place
    → (size ≡ 2 → one ((place + 1) % 65536) ≡ other ((place + 1) % 65536)) → number_at one place size ≡ number_at other place size
same_number one other place size (inl is) low high = subst (λ (s : ℕ). number_at one place s ≡ number_at other place s) (sym is) low
same_number one other place size (inr is) low high = subst (λ (s : ℕ). number_at one place s ≡ number_at other place s) (sym is)
    (ap (λ (b : ℕ). b + 256 * one ((place + 1) % 65536)) low ∙ ap (λ (b : ℕ). other place + 256 * b) (high is))

-- ---- behind a write

pub written-first : (ram : ℕ → ℕ) (at size v : ℕ) → written ram at size v at ≡ v % 256
unfolding written
written-first ram at size v = rw (eq-eqb at at refl) refl

pub written-second : (ram : ℕ → ℕ) (at size v address : ℕ) → (address ≡ at → ⊥) → size ≡ 2 → address ≡ (at + 1) % 65536
    → written ram at size v address ≡ v / 256
unfolding written
written-second ram at size v address other two next = rw (ne_eqb address at other, eq-eqb size 2 two, eq-eqb address ((at + 1) % 65536) next) refl

pub written-beyond : (ram : ℕ → ℕ) (at size v address : ℕ) → (address ≡ at → ⊥)
    → (size ≡ 2 → address ≡ (at + 1) % 65536 → ⊥) → written ram at size v address ≡ ram address
unfolding written
written-beyond ram at size v address other beyond = rw (ne_eqb address at other) (elim (cases_Bool ((size == 2) && (address == (at + 1) % 65536))) [
  | inl meets ↦ let parts = and_parts (size == 2) (address == (at + 1) % 65536) meets in
      absurd (beyond (eqb-true size 2 parts.0) (eqb-true address ((at + 1) % 65536) parts.1))
  | inr apart ↦ rw apart refl
])

next_differs : (at : ℕ) → at < 65536 → (at + 1) % 65536 ≡ at → ⊥
next_differs at h e = omega arith

byte_low : (v : ℕ) → v % 256 < 256
byte_low v = omega arith

word_high : (v : ℕ) → v < 65536 → v / 256 < 256
word_high v h = omega arith

pub written_bytes : (ram : ℕ → ℕ) (at size v : ℕ) → AreBytes ram → v < 65536 → AreBytes (written ram at size v)
unfolding written
written_bytes ram at size v bytes below address = elim (cases_Bool (address == at)) [
  | inl first ↦ rw first (byte_low v)
  | inr other ↦ rw other (elim (cases_Bool ((size == 2) && (address == (at + 1) % 65536))) [
    | inl second ↦ rw second (word_high v below)
    | inr apart ↦ rw apart (bytes address)
  ])
]

parts_of : (v : ℕ) → v % 256 + 256 * (v / 256) ≡ v
parts_of v = omega arith

-- what was written stands there
pub written_itself : (ram : ℕ → ℕ) (at size v : ℕ) → at < 65536 → IsSize size → (size ≡ 1 → v < 256)
    → number_at (written ram at size v) at size ≡ v
written_itself ram at size v below (inl one) small = subst (λ (s : ℕ). number_at (written ram at size v) at s ≡ v) (sym one)
    (written-first ram at size v ∙ byte_alone v (small one))
written_itself ram at size v below (inr two) small = subst (λ (s : ℕ). number_at (written ram at size v) at s ≡ v) (sym two)
    (ap (λ (b : ℕ). b + 256 * written ram at size v ((at + 1) % 65536)) (written-first ram at size v)
    ∙ ap (λ (b : ℕ). v % 256 + 256 * b) (written-second ram at size v ((at + 1) % 65536) (next_differs at below) two refl) ∙ parts_of v)
