-- What the words of an image say of the instruction at an address.
use Rattle.std.proofs.Common.{◌≡◌, ℕ, zero, suc, ◌+◌, ◌*◌, ◌/◌, ◌%◌, ◌<◌, ◌≤◌, refl, sym, subst, arith, Option, Err, List, [], ◌∷◌, ◌++◌, length, take, true, false, inl, inr}
use Rattle.std.specs.List.{flat_map}
use Rattle.msp430_decode.specs.declared.refusal.NoInstr.{NoInstr}
use Rattle.msp430_decode.specs.declared.refusal.NoInstr.TheVariants.{OffImage, Excluded}
use Rattle.msp430_decode.specs.declared.instr.Instr.{Instr}
use Rattle.msp430_decode.specs.Table.{Row, first_word, extension_words, word_bytes, bytes_of, length_of}
use Rattle.msp430_decode.specs.Excluded.{is_excluded}
use Rattle.msp430_decode.specs.Fields.{instr_of}
use Rattle.msp430_decode.specs.Standing.{upward, AreThere, Stands, IsExcluded, Decodes}
use Rattle.msp430_decode.specs.Reading.{HasWord, Misses}
use Rattle.msp430_decode.proofs.AgainLemmas.{allowed_again}
use Rattle.msp430_decode.proofs.MadeLemmas.{IsMade, instr_made, instr_count}

-- the bytes of a word are those of no other
pub same_word : (v w : ℕ) → v % 256 ≡ w % 256 → v / 256 ≡ w / 256 → v ≡ w
same_word v w low high = omega arith

-- the bytes of a made instruction, where it takes none, one or two further words
made_bytes : (w x y : ℕ) (i : Instr) → IsMade w x y i →
    bytes_of i ≡ word_bytes w ++ flat_map word_bytes (take (length (extension_words i)) (x ∷ y ∷ []))
made_bytes w x y i m = rw (m.words_are, m.word_is) refl

pub made_row : (w x y k : ℕ) (i : Instr) → IsMade w x y i → length (extension_words i) ≡ k →
    Row (word_bytes w ++ flat_map word_bytes (take k (x ∷ y ∷ []))) i
made_row w x y k i m e = (m.is_instr, sym (rw e at (made_bytes w x y i m)))

few : (xs : List ℕ) (x y : ℕ) → take (length xs) (x ∷ y ∷ []) ≡ xs → length xs ≤ 2
few [] x y e = omega arith
few (a ∷ []) x y e = omega arith
few (a ∷ b ∷ []) x y e = omega arith
few (a ∷ b ∷ c ∷ xs) x y e = absurd (cc)

pub made_few : (w x y : ℕ) (i : Instr) → IsMade w x y i → length (extension_words i) ≤ 2
made_few w x y i m = few (extension_words i) x y m.words_are

-- the rest of a row behind its first extension word, and behind its second
first_tail : (k x y : ℕ) → 0 < k → (tail : List ℕ) × (flat_map word_bytes (take k (x ∷ y ∷ [])) ≡ word_bytes x ++ tail)
first_tail zero x y h = absurd (omega arith)
first_tail (suc k) x y h = (flat_map word_bytes (take k (y ∷ [])), refl)

second_tail : (k x y : ℕ) → 1 < k →
    (tail : List ℕ) × (flat_map word_bytes (take k (x ∷ y ∷ [])) ≡ word_bytes x ++ (word_bytes y ++ tail))
second_tail zero x y h = absurd (omega arith)
second_tail (suc zero) x y h = absurd (omega arith)
second_tail (suc (suc k)) x y h = (flat_map word_bytes (take k []), refl)

-- an instruction with this word begins with these words
begins_first : (w x : ℕ) → x < 65536 → w < 65536 → is_excluded w ≡ false → 2 < length_of (instr_of w 0 0) →
    (tail : List ℕ) × (instr : Instr) × Row (word_bytes w ++ (word_bytes x ++ tail)) instr
begins_first w x hx fits allowed long =
    let m = instr_made w x 0 fits hx (omega arith) allowed in
    let k : length (extension_words (instr_of w x 0)) ≡ length (extension_words (instr_of w 0 0)) = instr_count w x 0 in
    let t = first_tail (length (extension_words (instr_of w 0 0))) x 0 (omega arith) in
    (t.0, instr_of w x 0, rw t.1 at (made_row w x 0 (length (extension_words (instr_of w 0 0))) (instr_of w x 0) m k))

begins_second : (w x y : ℕ) → x < 65536 → y < 65536 → w < 65536 → is_excluded w ≡ false → 4 < length_of (instr_of w 0 0) →
    (tail : List ℕ) × (instr : Instr) × Row (word_bytes w ++ (word_bytes x ++ (word_bytes y ++ tail))) instr
begins_second w x y hx hy fits allowed long =
    let m = instr_made w x y fits hx hy allowed in
    let k : length (extension_words (instr_of w x y)) ≡ length (extension_words (instr_of w 0 0)) = instr_count w x y in
    let t = second_tail (length (extension_words (instr_of w 0 0))) x y (omega arith) in
    (t.0, instr_of w x y, rw t.1 at (made_row w x y (length (extension_words (instr_of w 0 0))) (instr_of w x y) m k))

-- The first word is missing.
pub lacks_word : (image : List (Option ℕ)) (pc : ℕ) (e : NoInstr) → Misses image pc 0 e → Decodes image pc (Err e)
lacks_word image pc (OffImage at) (inl h) = ([], tt, inl (omega arith), h.0, h.1)
lacks_word image pc (OffImage at) (inr h) = (h.0 ∷ [], (h.2, tt), inl (omega arith), h.3, h.4)
lacks_word image pc Excluded h = absurd h

-- The first extension word is missing.
pub lacks_first : (image : List (Option ℕ)) (pc w : ℕ) (e : NoInstr) → HasWord image pc 0 w → w < 65536 → is_excluded w ≡ false →
    2 < length_of (instr_of w 0 0) → Misses image pc 2 e → Decodes image pc (Err e)
lacks_first image pc w (OffImage at) there fits allowed long (inl h) =
    let b = begins_first w 0 (omega arith) fits allowed long in
    (word_bytes w, (there.0, (there.1, tt)), inr (word_bytes 0 ++ b.0, b.1, omega arith, b.2), h.0, h.1)
lacks_first image pc w (OffImage at) there fits allowed long (inr h) =
    let low = h.0 in
    let small : h.0 < 256 = h.1 in
    let e : h.0 % 256 ≡ h.0 = omega arith in
    let b = begins_first w low (omega arith) fits allowed long in (
      word_bytes w ++ low ∷ [],
      (there.0, (there.1, (h.2, tt))),
      inr ((low / 256) ∷ b.0, b.1, omega arith, subst (λ v. Row (word_bytes w ++ (v ∷ low / 256 ∷ b.0)) b.1) e b.2),
      h.3,
      h.4,
    )
lacks_first image pc w Excluded there fits allowed long h = absurd h

-- The second extension word is missing.
pub lacks_second : (image : List (Option ℕ)) (pc w x : ℕ) (e : NoInstr) → HasWord image pc 0 w → HasWord image pc 2 x →
    w < 65536 → x < 65536 → is_excluded w ≡ false → 4 < length_of (instr_of w 0 0) → Misses image pc 4 e → Decodes image pc (Err e)
lacks_second image pc w x (OffImage at) there next fits hx allowed long (inl h) =
    let b = begins_second w x 0 hx (omega arith) fits allowed long in
    (word_bytes w ++ word_bytes x, (there.0, (there.1, (next.0, (next.1, tt)))), inr (word_bytes 0 ++ b.0, b.1, omega arith, b.2), h.0, h.1)
lacks_second image pc w x (OffImage at) there next fits hx allowed long (inr h) =
    let low = h.0 in
    let small : h.0 < 256 = h.1 in
    let e : h.0 % 256 ≡ h.0 = omega arith in
    let b = begins_second w x low hx (omega arith) fits allowed long in (
      word_bytes w ++ word_bytes x ++ low ∷ [],
      (there.0, (there.1, (next.0, (next.1, (h.2, tt))))),
      inr ((low / 256) ∷ b.0, b.1, omega arith, subst (λ v. Row (word_bytes w ++ (word_bytes x ++ (v ∷ low / 256 ∷ b.0))) b.1) e b.2),
      h.3,
      h.4,
    )
lacks_second image pc w x Excluded there next fits hx allowed long h = absurd h

-- No row begins with an excluded word.
pub no_row : (w : ℕ) (more : List ℕ) (i : Instr) → is_excluded w ≡ true → Row (w % 256 ∷ w / 256 ∷ more) i → ⊥
no_row w more i excluded row =
    let low : w % 256 ≡ first_word i % 256 = cc (row.1) in
    let high : w / 256 ≡ first_word i / 256 = cc (row.1) in
    let allowed = allowed_again i w row.0 (same_word w (first_word i) low high) in
    cc

pub excluded_word : (image : List (Option ℕ)) (pc w : ℕ) → HasWord image pc 0 w → is_excluded w ≡ true → IsExcluded image pc
excluded_word image pc w there excluded =
    (w % 256, w / 256, (there.0, (there.1, tt)), λ more i row. no_row w more i excluded row)

-- All words are there.
there_bytes : (image : List (Option ℕ)) (pc w x y k : ℕ) → k ≤ 2 → HasWord image pc 0 w →
    (0 < k → HasWord image pc 2 x) → (1 < k → HasWord image pc 4 y) →
    AreThere (upward image pc) 0 (word_bytes w ++ flat_map word_bytes (take k (x ∷ y ∷ [])))
there_bytes image pc w x y zero h there first second = (there.0, (there.1, tt))
there_bytes image pc w x y (suc zero) h there first second =
    let a = first (omega arith) in (there.0, (there.1, (a.0, (a.1, tt))))
there_bytes image pc w x y (suc (suc zero)) h there first second =
    let a = first (omega arith) in
    let b = second (omega arith) in
    (there.0, (there.1, (a.0, (a.1, (b.0, (b.1, tt))))))
there_bytes image pc w x y (suc (suc (suc k))) h there first second = absurd (omega arith)

length_bytes : (w x y k : ℕ) → k ≤ 2 → length (word_bytes w ++ flat_map word_bytes (take k (x ∷ y ∷ []))) ≡ 2 + 2 * k
length_bytes w x y zero h = refl
length_bytes w x y (suc zero) h = refl
length_bytes w x y (suc (suc zero)) h = refl
length_bytes w x y (suc (suc (suc k))) h = absurd (omega arith)

pub stands_instr : (image : List (Option ℕ)) (pc w x y : ℕ) → HasWord image pc 0 w → w < 65536 → x < 65536 → y < 65536 →
    is_excluded w ≡ false → (2 < length_of (instr_of w 0 0) → HasWord image pc 2 x) →
    (4 < length_of (instr_of w 0 0) → HasWord image pc 4 y) → Stands image pc (instr_of w x y) (length_of (instr_of w 0 0))
stands_instr image pc w x y there fits hx hy allowed first second =
    let m = instr_made w x y fits hx hy allowed in
    let k = length (extension_words (instr_of w 0 0)) in
    let e : length (extension_words (instr_of w x y)) ≡ length (extension_words (instr_of w 0 0)) = instr_count w x y in
    let h : length (extension_words (instr_of w 0 0)) ≤ 2 = omega (arith, made_few w x y (instr_of w x y) m) in (
      word_bytes w ++ flat_map word_bytes (take k (x ∷ y ∷ [])),
      made_row w x y k (instr_of w x y) m e,
      length_bytes w x y k h,
      there_bytes image pc w x y k h there (λ a. first (omega arith)) (λ a. second (omega arith)),
    )
