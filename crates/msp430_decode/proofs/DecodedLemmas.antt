-- The function of the decoder's answer, by the words that it reads.
use Rattle.std.proofs.Common.{◌≡◌, ℕ, ◌+◌, ◌*◌, ◌/◌, ◌%◌, refl, arith, Bool, true, false, nat_lt, Option, Result, Ok, Err, List, inl, inr}
use Rattle.msp430_decode.specs.declared.refusal.NoInstr.{NoInstr}
use Rattle.msp430_decode.specs.declared.refusal.NoInstr.TheVariants.{OffImage, Excluded}
use Rattle.msp430_decode.specs.Table.{length_of}
use Rattle.msp430_decode.specs.Excluded.{is_excluded}
use Rattle.msp430_decode.specs.Fields.{instr_of}
use Rattle.msp430_decode.specs.Reading.{HasWord, Misses}
use Rattle.msp430_decode.specs.Decoding.{word_upward, extension_upward, decoded}

pub word_there : (image : List (Option ℕ)) (pc i word : ℕ) → HasWord image pc i word → word_upward image pc i ≡ Ok word
word_there image pc i word there =
    let e : word % 256 + 256 * (word / 256) ≡ word = omega arith in
    rw (there.0, there.1) (rw e refl)

pub word_missing : (image : List (Option ℕ)) (pc i : ℕ) (refusal : NoInstr) → Misses image pc i refusal
    → word_upward image pc i ≡ Err refusal
word_missing image pc i (OffImage at) (inl h) = rw (h.0, h.1) refl
word_missing image pc i (OffImage at) (inr h) = rw (h.2, h.3, h.4) refl
word_missing image pc i Excluded h = absurd h

pub needed_word : (image : List (Option ℕ)) (pc i : ℕ) (needed : Bool) (read : Result ℕ NoInstr) → needed ≡ true →
    word_upward image pc i ≡ read → extension_upward image pc i needed ≡ read
needed_word image pc i true read e h = h
needed_word image pc i false read e h = absurd (cc)

pub unneeded_word : (image : List (Option ℕ)) (pc i : ℕ) (needed : Bool) → needed ≡ false → extension_upward image pc i needed ≡ Ok 0
unneeded_word image pc i true e = absurd (cc)
unneeded_word image pc i false e = refl

-- the first word is missing
pub decoded_missing : (image : List (Option ℕ)) (pc : ℕ) (refusal : NoInstr) → word_upward image pc 0 ≡ Err refusal →
    decoded image pc ≡ Err refusal
unfolding decoded
decoded_missing image pc refusal e = rw e refl

pub decoded_excluded : (image : List (Option ℕ)) (pc word : ℕ) → word_upward image pc 0 ≡ Ok word → is_excluded word ≡ true →
    decoded image pc ≡ Err Excluded
unfolding decoded
decoded_excluded image pc word e excluded = rw e (rw excluded refl)

-- the first extension word is missing
pub decoded_first : (image : List (Option ℕ)) (pc word : ℕ) (refusal : NoInstr) → word_upward image pc 0 ≡ Ok word →
    is_excluded word ≡ false → extension_upward image pc 2 (nat_lt 2 (length_of (instr_of word 0 0))) ≡ Err refusal →
    decoded image pc ≡ Err refusal
unfolding decoded
decoded_first image pc word refusal e allowed first = rw e (rw (allowed, first) refl)

-- the second extension word is missing
pub decoded_second : (image : List (Option ℕ)) (pc word x : ℕ) (refusal : NoInstr) → word_upward image pc 0 ≡ Ok word →
    is_excluded word ≡ false → extension_upward image pc 2 (nat_lt 2 (length_of (instr_of word 0 0))) ≡ Ok x →
    extension_upward image pc 4 (nat_lt 4 (length_of (instr_of word 0 0))) ≡ Err refusal → decoded image pc ≡ Err refusal
unfolding decoded
decoded_second image pc word x refusal e allowed first second = rw e (rw (allowed, first) (rw second refl))

-- all words are there
pub decoded_whole : (image : List (Option ℕ)) (pc word x y : ℕ) → word_upward image pc 0 ≡ Ok word →
    is_excluded word ≡ false → extension_upward image pc 2 (nat_lt 2 (length_of (instr_of word 0 0))) ≡ Ok x →
    extension_upward image pc 4 (nat_lt 4 (length_of (instr_of word 0 0))) ≡ Ok y →
    decoded image pc ≡ Ok (instr_of word x y, length_of (instr_of word 0 0))
unfolding decoded
decoded_whole image pc word x y e allowed first second = rw e (rw (allowed, first) (rw second refl))
