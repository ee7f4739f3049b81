-- Each function stands where it is called.
use Rattle.std.proofs.Common.{◌≡◌, ℕ, ◌+◌, ◌-◌, ◌*◌, ◌<◌, inl, inr, List, [], ◌∷◌, ◌++◌, zero, suc, length, take, drop, refl, sym, ◌∙◌, ap, append_assoc, length-append, arith}
use Rattle.std.specs.Prelude.{flat_map}
use Rattle.std.proofs.lemmas.Bool.{cases_lt}
use Rattle.std.proofs.lemmas.Grind.{flat_map-append}
use Rattle.std.proofs.lemmas.List.{append-nil}
use Rattle.std.proofs.Math.Seq.{drop-append_seam, drop-append-add, take-append_seam}
use Rattle.image_gen.specs.Made.{StandsAt, low_first, msp430_call, msp430_function, msp430_function_at, msp430_program, mcs51_call, mcs51_function, mcs51_function_at, mcs51_program}
use Rattle.image_gen.specs.Records.{each}
use Rattle.image_gen.specs.LengthFacts.{length-each, length-low_first}

-- the parts in front of one, that one, and those behind it
split : (part : ℕ → List ℕ) (i n : ℕ) → i < n → (rest : List ℕ) × (each part n ≡ (each part i ++ part i) ++ rest)
unfolding each
split part i zero h = absurd (omega arith)
split part i (suc n) h = elim (cases_lt i n) [
  | inl less ↦
      let front = split part i n less in
      (front.0 ++ part n, ap (λ xs. xs ++ part n) front.1 ∙ append_assoc (each part i ++ part i) front.0 (part n))
  | inr more ↦
      let last : n ≡ i = omega arith in
      ([], ap (λ m. each part m ++ part m) last ∙ sym (append-nil (each part i ++ part i)))
]

-- where parts of one size stand behind a front
part_at : (front : List ℕ) (part : ℕ → List ℕ) (size : ℕ) → ((i : ℕ) → length (part i) ≡ size) → (n i : ℕ) → i < n
    → take (length (part i)) (drop (length front + i * size) (front ++ each part n)) ≡ part i
part_at front part size same n i h =
    let parts = split part i n h in
    let many = length (part i) in
    ap (λ xs. take many (drop (length front + i * size) (front ++ xs))) parts.1
    ∙ ap (take many) (drop-append-add front ((each part i ++ part i) ++ parts.0) (i * size))
    ∙ ap (λ xs. take many (drop (i * size) xs)) (append_assoc (each part i) (part i) parts.0)
    ∙ ap (λ m. take many (drop m (each part i ++ (part i ++ parts.0)))) (sym (length-each part size same i))
    ∙ ap (take many) (drop-append_seam (each part i) (part i ++ parts.0))
    ∙ take-append_seam (part i) parts.0

-- words of parts are parts of bytes
low_first-each : (part : ℕ → List ℕ) (n : ℕ) → flat_map low_first (each part n) ≡ each (λ i. flat_map low_first (part i)) n
unfolding each
low_first-each part zero = refl
low_first-each part (suc n) =
    flat_map-append low_first (each part n) (part n)
    ∙ ap (λ bytes. bytes ++ flat_map low_first (part n)) (low_first-each part n)

pub msp430_reached : (number i : ℕ) → i < number
    → StandsAt 0x4000 (msp430_program number) (msp430_function_at number i) (flat_map low_first (msp430_function i))
msp430_reached number i h =
    let calls = each (msp430_call number) number in
    let front = 0x4031 ∷ 0x0A00 ∷ (calls ++ 0x3FFF ∷ []) in
    let bytes : ℕ → List ℕ = λ i. flat_map low_first (msp430_function i) in
    let long = length-each (msp430_call number) 2 (λ i. refl) number in
    let jump = length-append calls (0x3FFF ∷ []) in
    let size = length-low_first front in
    let place : msp430_function_at number i - 0x4000 ≡ length (flat_map low_first front) + i * 10 = omega (arith, size, long, jump) in (
      omega arith,
      ap (λ xs. take 10 (drop (msp430_function_at number i - 0x4000) xs))
          (flat_map-append low_first front (each msp430_function number) ∙ ap (λ xs. flat_map low_first front ++ xs) (low_first-each msp430_function number))
          ∙ ap (λ m. take 10 (drop m (flat_map low_first front ++ each bytes number))) place
          ∙ part_at (flat_map low_first front) bytes 10 (λ i. refl) number i h,
    )

pub mcs51_reached : (number i : ℕ) → i < number
    → StandsAt 0x0030 (mcs51_program number) (mcs51_function_at number i) (mcs51_function i)
mcs51_reached number i h =
    let calls = each (mcs51_call number) number in
    let front = 0x75 ∷ 0x81 ∷ 0x60 ∷ (calls ++ 0x80 ∷ 0xFE ∷ []) in
    let long = length-each (mcs51_call number) 3 (λ i. refl) number in
    let jump = length-append calls (0x80 ∷ 0xFE ∷ []) in
    let place : mcs51_function_at number i - 0x0030 ≡ length front + i * 7 = omega (arith, long, jump) in (
      omega arith,
      ap (λ m. take 7 (drop m (front ++ each mcs51_function number))) place ∙ part_at front mcs51_function 7 (λ i. refl) number i h,
    )
