-- What the bytes of an image say of the answer at an address.
use Rattle.std.proofs.Common.{◌≡◌, ℕ, zero, suc, ◌+◌, ◌%◌, ◌<◌, refl, ap, subst, ◌∙◌, arith, All, Option, None, Some, Result, Ok, Err, List, [], ◌∷◌, length, Bool, true, false, nat_lt, inl, inr, ◌⊎◌}
use Rattle.std.proofs.lemmas.Bool.Decides.{nat_tests}
use Rattle.std.proofs.lemmas.List.Elements.{All-cons, All-get_or}
use Rattle.image.specs.Image.{IsByte}
use Rattle.mcs51_decode.specs.declared.instr.Instr.{Instr}
use Rattle.mcs51_decode.specs.declared.refusal.NoInstr.{NoInstr}
use Rattle.mcs51_decode.specs.declared.refusal.NoInstr.TheVariants.{OffImage, Excluded}
use Rattle.mcs51_decode.specs.Table.{row_at, length_at, is_excluded}
use Rattle.mcs51_decode.specs.Standing.{upward, Stands, Lacks, Decodes}
use Rattle.mcs51_decode.specs.Decoding.{byte_or_gap, byte_upward, operand_upward, decoded, IsAnswer}
use Rattle.plain_lemmas.specs.Cases.{told}
use Rattle.mcs51_decode.proofs.ByteLists.{one, two}
use Rattle.mcs51_decode.proofs.RowLemmas.{row_made}

byte_is : (at : ℕ) (found : Option ℕ) (byte : ℕ) → byte_or_gap at found ≡ Ok byte → found ≡ Some byte
byte_is at None byte e = absurd (cc)
byte_is at (Some b) byte e = cc

gap_is : (at : ℕ) (found : Option ℕ) (refusal : NoInstr) → byte_or_gap at found ≡ Err refusal → (found ≡ None) × (refusal ≡ OffImage at)
gap_is at None refusal e = (refl, cc)
gap_is at (Some b) refusal e = absurd (cc)

there : (image : List (Option ℕ)) (pc i byte : ℕ) → byte_upward image pc i ≡ Ok byte → upward image pc i ≡ Some byte
there image pc i byte e = byte_is ((pc + i) % 65536) (upward image pc i) byte e

needed_there : (image : List (Option ℕ)) (pc i : ℕ) (needed : Bool) (byte : ℕ) → operand_upward image pc i needed ≡ Ok byte →
    needed ≡ true → upward image pc i ≡ Some byte
needed_there image pc i true byte e n = there image pc i byte e
needed_there image pc i false byte e n = absurd (cc)

unneeded : (image : List (Option ℕ)) (pc i : ℕ) (needed : Bool) (byte : ℕ) → operand_upward image pc i needed ≡ Ok byte →
    needed ≡ false → byte ≡ 0
unneeded image pc i true byte e n = absurd (cc)
unneeded image pc i false byte e n = cc

needed_gap : (image : List (Option ℕ)) (pc i : ℕ) (needed : Bool) (refusal : NoInstr) → operand_upward image pc i needed ≡ Err refusal →
    (needed ≡ true) × (upward image pc i ≡ None) × (refusal ≡ OffImage ((pc + i) % 65536))
needed_gap image pc i true refusal e = let g = gap_is ((pc + i) % 65536) (upward image pc i) refusal e in (refl, g.0, g.1)
needed_gap image pc i false refusal e = absurd (cc)

lacking : (image : List (Option ℕ)) (pc at : ℕ) (refusal : NoInstr) → refusal ≡ OffImage at → Lacks image pc at
    → Decodes image pc (Err refusal)
lacking image pc at refusal e h = rw e h

-- the opcode is missing
pub no_opcode : (image : List (Option ℕ)) (pc : ℕ) (refusal : NoInstr) → byte_upward image pc 0 ≡ Err refusal
    → IsAnswer image pc (Err refusal)
unfolding decoded
no_opcode image pc refusal e =
    let g = gap_is ((pc + 0) % 65536) (upward image pc 0) refusal e in
    (lacking image pc ((pc + 0) % 65536) refusal g.1 ([], tt, tt, g.0, refl), rw e refl)

pub excluded : (image : List (Option ℕ)) (pc opcode : ℕ) → byte_upward image pc 0 ≡ Ok opcode → is_excluded opcode ≡ true →
    IsAnswer image pc (Err Excluded)
unfolding decoded
excluded image pc opcode e x =
    let is : opcode ≡ 0xA5 = grind (arith, nat_tests) in
    (there image pc 0 opcode e ∙ ap Some is, rw e (rw x refl))

-- the first operand is missing
pub no_first : (image : List (Option ℕ)) (pc opcode : ℕ) (refusal : NoInstr) → byte_upward image pc 0 ≡ Ok opcode →
    is_excluded opcode ≡ false → operand_upward image pc 1 (nat_lt 1 (length_at opcode)) ≡ Err refusal → IsAnswer image pc (Err refusal)
unfolding decoded
no_first image pc opcode refusal e allowed f =
    let g = needed_gap image pc 1 (nat_lt 1 (length_at opcode)) refusal f in
    let long : 1 < length_at opcode = grind (arith, nat_tests, g.0) in
    (lacking image pc ((pc + 1) % 65536) refusal g.2 (opcode ∷ [], (there image pc 0 opcode e, tt), (allowed, long), g.1, refl), rw e (rw (allowed, f) refl))

-- the second operand is missing
pub no_second : (image : List (Option ℕ)) (pc opcode x : ℕ) (refusal : NoInstr) → byte_upward image pc 0 ≡ Ok opcode →
    is_excluded opcode ≡ false → operand_upward image pc 1 (nat_lt 1 (length_at opcode)) ≡ Ok x →
    operand_upward image pc 2 (nat_lt 2 (length_at opcode)) ≡ Err refusal → IsAnswer image pc (Err refusal)
unfolding decoded
no_second image pc opcode x refusal e allowed f s =
    let g = needed_gap image pc 2 (nat_lt 2 (length_at opcode)) refusal s in
    let long : 2 < length_at opcode = grind (arith, nat_tests, g.0) in
    let one : nat_lt 1 (length_at opcode) ≡ true = grind (arith, nat_tests) in
    let first = needed_there image pc 1 (nat_lt 1 (length_at opcode)) x f one in (
      lacking image pc ((pc + 2) % 65536) refusal g.2
          (opcode ∷ x ∷ [], (there image pc 0 opcode e, (first, tt)), (allowed, long), g.1, refl),
      rw e (rw (allowed, f, s) refl),
    )

same_pair : (n : ℕ) (row : ℕ × Instr) → row.0 ≡ n → row ≡ (n, row.1)
same_pair n (len, i) e = ap (λ k. (k, i)) e

-- all bytes are there, of an instruction of this length
standing : (image : List (Option ℕ)) (pc opcode x y n : ℕ) → opcode < 256 → x < 256 → y < 256 → is_excluded opcode ≡ false →
    length_at opcode ≡ n → upward image pc 0 ≡ Some opcode →
    operand_upward image pc 1 (nat_lt 1 n) ≡ Ok x → operand_upward image pc 2 (nat_lt 2 n) ≡ Ok y →
    Stands image pc (row_at opcode x y).1 n
standing image pc opcode x y zero h hx hy allowed len o f s =
    let m = row_made opcode x y h allowed hx hy in absurd (omega (arith, m.least, m.same))
standing image pc opcode x y (suc zero) h hx hy allowed len o f s =
    let m = row_made opcode x y h allowed hx hy in
    let ex : x ≡ 0 = unneeded image pc 1 false x f refl in
    let ey : y ≡ 0 = unneeded image pc 2 false y s refl in
    let row = same_pair 1 (row_at opcode x y) (m.same ∙ len) in
    let zeros : row_at opcode 0 0 ≡ row_at opcode x y = rw (ex, ey) refl in
    (opcode ∷ [], record { are_bytes = one opcode h; allowed = allowed; row = zeros ∙ row }, refl, (o, tt))
standing image pc opcode x y (suc (suc zero)) h hx hy allowed len o f s =
    let m = row_made opcode x y h allowed hx hy in
    let ey : y ≡ 0 = unneeded image pc 2 false y s refl in
    let row = same_pair 2 (row_at opcode x y) (m.same ∙ len) in
    let zeros : row_at opcode x 0 ≡ row_at opcode x y = rw ey refl in
    let first = needed_there image pc 1 true x f refl in
    (opcode ∷ x ∷ [], record { are_bytes = two opcode x h hx; allowed = allowed; row = zeros ∙ row }, refl, (o, (first, tt)))
standing image pc opcode x y (suc (suc (suc zero))) h hx hy allowed len o f s =
    let m = row_made opcode x y h allowed hx hy in
    let row = same_pair 3 (row_at opcode x y) (m.same ∙ len) in
    let first = needed_there image pc 1 true x f refl in
    let second = needed_there image pc 2 true y s refl in (
      opcode ∷ x ∷ y ∷ [],
      record { are_bytes = All-cons (λ byte. byte < 256) opcode (x ∷ y ∷ []) h (two x y hx hy); allowed = allowed; row = row },
      refl,
      (o, (first, (second, tt))),
    )
standing image pc opcode x y (suc (suc (suc (suc n)))) h hx hy allowed len o f s =
    let m = row_made opcode x y h allowed hx hy in absurd (omega (arith, m.most, m.same))

pub whole : (image : List (Option ℕ)) (pc opcode x y : ℕ) → opcode < 256 → x < 256 → y < 256 → byte_upward image pc 0 ≡ Ok opcode →
    is_excluded opcode ≡ false → operand_upward image pc 1 (nat_lt 1 (length_at opcode)) ≡ Ok x →
    operand_upward image pc 2 (nat_lt 2 (length_at opcode)) ≡ Ok y → IsAnswer image pc (Ok ((row_at opcode x y).1, length_at opcode))
unfolding decoded
whole image pc opcode x y h hx hy e allowed f s = (
  standing image pc opcode x y (length_at opcode) h hx hy allowed refl (there image pc 0 opcode e) f s,
  rw e (rw (allowed, f, s) refl),
)

-- a byte is there or it isn't
read_of : (at : ℕ) (found : Option ℕ) → IsByte found →
    ((byte : ℕ) × (byte < 256) × (byte_or_gap at found ≡ Ok byte)) ⊎ ((refusal : NoInstr) × (byte_or_gap at found ≡ Err refusal))
read_of at None h = inr (OffImage at, refl)
read_of at (Some byte) h = inl (byte, h, refl)

read : (image : List (Option ℕ)) (pc i : ℕ) → length image ≡ 65536 → All IsByte image →
    ((byte : ℕ) × (byte < 256) × (byte_upward image pc i ≡ Ok byte)) ⊎ ((refusal : NoInstr) × (byte_upward image pc i ≡ Err refusal))
read image pc i size bytes =
    read_of ((pc + i) % 65536) (upward image pc i) (All-get_or IsByte image ((pc + i) % 65536) None (omega arith) bytes)

read_operand : (image : List (Option ℕ)) (pc i : ℕ) (needed : Bool) → length image ≡ 65536 → All IsByte image →
    ((byte : ℕ) × (byte < 256) × (operand_upward image pc i needed ≡ Ok byte)) ⊎ ((refusal : NoInstr) × (operand_upward image pc i needed ≡ Err refusal))
read_operand image pc i true size bytes = read image pc i size bytes
read_operand image pc i false size bytes = inl (0, omega arith, refl)

answered : (image : List (Option ℕ)) (pc : ℕ) (answer : Result (Instr × ℕ) NoInstr) → IsAnswer image pc answer
    → Decodes image pc (decoded image pc)
answered image pc answer h = rw h.1 h.0

answer_allowed : (image : List (Option ℕ)) (pc opcode : ℕ) → length image ≡ 65536 → All IsByte image → opcode < 256 →
    byte_upward image pc 0 ≡ Ok opcode → is_excluded opcode ≡ false → Decodes image pc (decoded image pc)
answer_allowed image pc opcode size bytes h e allowed = elim (read_operand image pc 1 (nat_lt 1 (length_at opcode)) size bytes) [
  | inl x ↦ elim (read_operand image pc 2 (nat_lt 2 (length_at opcode)) size bytes) [
    | inl y ↦ answered image pc _ (whole image pc opcode x.0 y.0 h x.1 y.1 e allowed x.2 y.2)
    | inr m ↦ answered image pc _ (no_second image pc opcode x.0 m.0 e allowed x.2 m.1)
  ]
  | inr m ↦ answered image pc _ (no_first image pc opcode m.0 e allowed m.1)
]

pub decoded_decodes : (image : List (Option ℕ)) (pc : ℕ) → length image ≡ 65536 → All IsByte image → Decodes image pc (decoded image pc)
decoded_decodes image pc size bytes = elim (read image pc 0 size bytes) [
  | inl o ↦ elim (told (is_excluded o.0)) [
    | inl e ↦ answered image pc _ (excluded image pc o.0 o.2 e)
    | inr e ↦ answer_allowed image pc o.0 size bytes o.1 o.2 e
  ]
  | inr m ↦ answered image pc _ (no_opcode image pc m.0 m.1)
]

-- what is decoded stands there
pub decoded_stands : (image : List (Option ℕ)) (pc len : ℕ) (i : Instr) → length image ≡ 65536 → All IsByte image →
    decoded image pc ≡ Ok (i, len) → Stands image pc i len
decoded_stands image pc len i size bytes e = subst (Decodes image pc) e (decoded_decodes image pc size bytes)
