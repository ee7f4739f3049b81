-- Each address has an answer, and which words are excluded.
use Rattle.std.proofs.Common.{◌≡◌, ℕ, suc, ◌+◌, ◌*◌, ◌/◌, ◌%◌, ◌<◌, ◌≤◌, refl, sym, subst, ◌∙◌, arith, All, Option, None, Some, Result, Ok, Err, List, [], ◌∷◌, length, take, ◌⊎◌, inl, inr, true, false, nat_lt}
use Rattle.std.proofs.lemmas.Bool.Decides.{nat_tests}
use Rattle.std.proofs.lemmas.List.Elements.{All-get_or}
use Rattle.std.specs.List.{flat_map}
use Rattle.image.specs.Image.{IsByte}
use Rattle.plain_lemmas.specs.Cases.{told}
use Rattle.msp430_decode.specs.declared.refusal.NoInstr.{NoInstr}
use Rattle.msp430_decode.specs.declared.refusal.NoInstr.TheVariants.{OffImage}
use Rattle.msp430_decode.specs.declared.instr.Instr.{Instr}
use Rattle.msp430_decode.specs.Table.{IsInstr, Row, extension_words, word_bytes, bytes_of, length_of}
use Rattle.msp430_decode.specs.Excluded.{is_excluded}
use Rattle.msp430_decode.specs.Fields.{instr_of}
use Rattle.msp430_decode.specs.Standing.{upward, AreThere, Stands, Decodes}
use Rattle.msp430_decode.specs.Reading.{HasWord, Misses}
use Rattle.msp430_decode.proofs.MadeLemmas.{instr_made}
use Rattle.msp430_decode.specs.Decoding.{decoded, IsAnswer}
use Rattle.msp430_decode.proofs.UniqueLemmas.{length_row}
use Rattle.msp430_decode.proofs.DecodedLemmas.{word_there, word_missing, needed_word, unneeded_word, decoded_missing, decoded_excluded, decoded_first, decoded_second, decoded_whole}
use Rattle.msp430_decode.proofs.StandLemmas.{made_row, lacks_word, lacks_first, lacks_second, no_row, excluded_word, stands_instr}

-- a word of an image, or the byte of it that is missing
abbrev Read : List (Option ℕ) → ℕ → ℕ → Type 0
Read image pc i = ((word : ℕ) × (word < 65536) × HasWord image pc i word) ⊎ ((refusal : NoInstr) × Misses image pc i refusal)

read_high : (image : List (Option ℕ)) (pc i low : ℕ) (high : Option ℕ) → upward image pc i ≡ Some low → low < 256 →
    upward image pc (suc i) ≡ high → IsByte high → Read image pc i
read_high image pc i low None e small f h = inr (OffImage ((pc + suc i) % 65536), inr (low, small, e, f, refl))
read_high image pc i low (Some high) e small f h =
    let a : (low + 256 * high) % 256 ≡ low = omega arith in
    let b : (low + 256 * high) / 256 ≡ high = omega arith in
    inl (low + 256 * high, omega arith, (rw a e, rw b f))

read_low : (image : List (Option ℕ)) (pc i : ℕ) (low high : Option ℕ) → upward image pc i ≡ low → IsByte low →
    upward image pc (suc i) ≡ high → IsByte high → Read image pc i
read_low image pc i None high e small f h = inr (OffImage ((pc + i) % 65536), inl (e, refl))
read_low image pc i (Some low) high e small f h = read_high image pc i low high e small f h

read : (image : List (Option ℕ)) (pc i : ℕ) → length image ≡ 65536 → All IsByte image → Read image pc i
read image pc i size bytes =
    let low : IsByte (upward image pc i) = All-get_or IsByte image ((pc + i) % 65536) None (omega arith) bytes in
    let high : IsByte (upward image pc (suc i)) = All-get_or IsByte image ((pc + suc i) % 65536) None (omega arith) bytes in
    read_low image pc i (upward image pc i) (upward image pc (suc i)) refl low refl high

answered : (image : List (Option ℕ)) (pc : ℕ) (answer : Result (Instr × ℕ) NoInstr) → IsAnswer image pc answer
    → Decodes image pc (decoded image pc)
answered image pc answer h = rw h.1 h.0

answer_long : (image : List (Option ℕ)) (pc w x : ℕ) → length image ≡ 65536 → All IsByte image → w < 65536 → HasWord image pc 0 w →
    is_excluded w ≡ false → x < 65536 → HasWord image pc 2 x → nat_lt 2 (length_of (instr_of w 0 0)) ≡ true → Decodes image pc (decoded image pc)
answer_long image pc w x size bytes fits there allowed hx first long =
    let whole = word_there image pc 0 w there in
    let next = needed_word image pc 2 _ (Ok x) long (word_there image pc 2 x first) in
    elim (told (nat_lt 4 (length_of (instr_of w 0 0)))) [
      | inl e ↦
          (let longer : 4 < length_of (instr_of w 0 0) = grind (arith, nat_tests) in
          elim (read image pc 4 size bytes) [
            | inl y ↦ answered image pc _ (
              stands_instr image pc w x y.0 there fits hx y.1 allowed (λ h. first) (λ h. y.2),
              decoded_whole image pc w x y.0 whole allowed next (needed_word image pc 4 _ (Ok y.0) e (word_there image pc 4 y.0 y.2)),
            )
            | inr m ↦ answered image pc _ (
              lacks_second image pc w x m.0 there first fits hx allowed longer m.1,
              decoded_second image pc w x m.0 whole allowed next (needed_word image pc 4 _ (Err m.0) e (word_missing image pc 4 m.0 m.1)),
            )
          ])
      | inr e ↦
          (let short : length_of (instr_of w 0 0) ≤ 4 = grind (arith, nat_tests) in
          answered image pc _ (
            stands_instr image pc w x 0 there fits hx (omega arith) allowed (λ h. first) (λ h. absurd (omega arith)),
            decoded_whole image pc w x 0 whole allowed next (unneeded_word image pc 4 _ e),
          ))
    ]

answer_allowed : (image : List (Option ℕ)) (pc w : ℕ) → length image ≡ 65536 → All IsByte image → w < 65536 → HasWord image pc 0 w →
    is_excluded w ≡ false → Decodes image pc (decoded image pc)
answer_allowed image pc w size bytes fits there allowed = elim (told (nat_lt 2 (length_of (instr_of w 0 0)))) [
  | inl e ↦
      (let long : 2 < length_of (instr_of w 0 0) = grind (arith, nat_tests) in
      elim (read image pc 2 size bytes) [
        | inl x ↦ answer_long image pc w x.0 size bytes fits there allowed x.1 x.2 e
        | inr m ↦ answered image pc _ (
          lacks_first image pc w m.0 there fits allowed long m.1,
          decoded_first image pc w m.0 (word_there image pc 0 w there) allowed (needed_word image pc 2 _ (Err m.0) e (word_missing image pc 2 m.0 m.1)),
        )
      ])
  | inr e ↦
      (let short : length_of (instr_of w 0 0) ≤ 2 = grind (arith, nat_tests) in
      let shorter : nat_lt 4 (length_of (instr_of w 0 0)) ≡ false = grind (arith, nat_tests) in
      answered image pc _ (
        stands_instr image pc w 0 0 there fits (omega arith) (omega arith) allowed (λ h. absurd (omega arith)) (λ h. absurd (omega arith)),
        decoded_whole image pc w 0 0 (word_there image pc 0 w there) allowed (unneeded_word image pc 2 _ e) (unneeded_word image pc 4 _ shorter),
      ))
]

pub decoded_decodes : (image : List (Option ℕ)) (pc : ℕ) → length image ≡ 65536 → All IsByte image → Decodes image pc (decoded image pc)
decoded_decodes image pc size bytes = elim (read image pc 0 size bytes) [
  | inl w ↦ elim (told (is_excluded w.0)) [
    | inl e ↦ answered image pc _ (excluded_word image pc w.0 w.2 e, decoded_excluded image pc w.0 (word_there image pc 0 w.0 w.2) e)
    | inr e ↦ answer_allowed image pc w.0 size bytes w.1 w.2 e
  ]
  | inr m ↦ answered image pc _ (lacks_word image pc m.0 m.1, decoded_missing image pc m.0 (word_missing image pc 0 m.0 m.1))
]

-- what is decoded stands there with all its bytes
pub decoded_stands : (image : List (Option ℕ)) (pc len : ℕ) (i : Instr) → length image ≡ 65536 → All IsByte image →
    decoded image pc ≡ Ok (i, len) → Stands image pc i len
decoded_stands image pc len i size bytes e = subst (Decodes image pc) e (decoded_decodes image pc size bytes)

pub stands_bytes : (image : List (Option ℕ)) (pc len : ℕ) (i : Instr) → Stands image pc i len →
    IsInstr i × (len ≡ length_of i) × AreThere (upward image pc) 0 (bytes_of i)
stands_bytes image pc len i h =
    (h.1.0, sym h.2 ∙ length_row h.0 i h.1, subst (AreThere (upward image pc) 0) h.1.1 h.3)

pub excluded_row : (low high : ℕ) (more : List ℕ) (i : Instr) → low < 256 → high < 256 →
    is_excluded (low + 256 * high) ≡ true → Row (low ∷ high ∷ more) i → ⊥
excluded_row low high more i hl hh excluded row =
    let a : low ≡ (low + 256 * high) % 256 = omega arith in
    let b : high ≡ (low + 256 * high) / 256 = omega arith in
    no_row (low + 256 * high) more i excluded
    (subst (λ v. Row (v ∷ ((low + 256 * high) / 256) ∷ more) i) a (subst (λ v. Row (low ∷ v ∷ more) i) b row))

pub other_row : (low high : ℕ) → low < 256 → high < 256 → is_excluded (low + 256 * high) ≡ false →
    (more : List ℕ) × (i : Instr) × Row (low ∷ high ∷ more) i
other_row low high hl hh allowed =
    let a : (low + 256 * high) % 256 ≡ low = omega arith in
    let b : (low + 256 * high) / 256 ≡ high = omega arith in
    let i = instr_of (low + 256 * high) 0 0 in
    let m = instr_made (low + 256 * high) 0 0 (omega arith) (omega arith) (omega arith) allowed in
    let row = made_row (low + 256 * high) 0 0 _ i m refl in
    let more = flat_map word_bytes (take (length (extension_words i)) (0 ∷ 0 ∷ [])) in
    (more, i, subst (λ v. Row (low ∷ v ∷ more) i) b (subst (λ v. Row (v ∷ ((low + 256 * high) / 256) ∷ more) i) a row))
