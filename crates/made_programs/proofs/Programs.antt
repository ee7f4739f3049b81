-- Programs are bytes, and how many.
use Rattle.std.proofs.Common.{ℕ, ◌+◌, ◌<◌, ◌≤◌, zero, suc, List, [], ◌∷◌, ◌++◌, arith}
use Rattle.std.specs.Prelude.{All, flat_map}
use Rattle.std.specs.List.{AllByRecursion}
use Rattle.std.proofs.lemmas.List.Elements.{All-append, All-from_recursion, All-head, All-tail}
use Rattle.image_gen.specs.Made.{low_first, high_first, msp430_call, msp430_function, msp430_words, msp430_program, mcs51_call, mcs51_function, mcs51_program}
use Rattle.image_gen.specs.Records.{each}
use Rattle.made_programs.proofs.Digits.{AreBytes}

abbrev AreBelow : ℕ → List ℕ → Type 0
AreBelow limit xs = All (λ x. x < limit) xs

listed : (limit : ℕ) (xs : List ℕ) → AllByRecursion (λ x. x < limit) xs → AreBelow limit xs
listed limit xs are = All-from_recursion (λ x. x < limit) xs are

append : (limit : ℕ) (xs ys : List ℕ) → AreBelow limit xs → AreBelow limit ys → AreBelow limit (xs ++ ys)
append limit xs ys first second = All-append (λ x. x < limit) xs ys first second

each_below : (limit : ℕ) (part : ℕ → List ℕ) (n : ℕ) → ((i : ℕ) → i < n → AreBelow limit (part i)) → AreBelow limit (each part n)
unfolding each
each_below limit part zero are = listed limit [] tt
each_below limit part (suc n) are =
    append limit (each part n) (part n) (each_below limit part n (λ i h. are i (omega arith))) (are n (omega arith))

pub low_first_bytes : (word : ℕ) → word < 65536 → AreBytes (low_first word)
low_first_bytes word h = listed 256 (low_first word) (omega arith, (omega arith, tt))

words_bytes : (words : List ℕ) → AreBelow 65536 words → AreBytes (flat_map low_first words)
words_bytes [] are = listed 256 [] tt
words_bytes (word ∷ words) are =
    append 256 (low_first word) (flat_map low_first words) (low_first_bytes word (All-head (λ x. x < 65536) word words are))
    (words_bytes words (All-tail (λ x. x < 65536) word words are))

msp430_call_words : (number i : ℕ) → number ≤ 2000 → i < number → AreBelow 65536 (msp430_call number i)
msp430_call_words number i most h = listed 65536 (msp430_call number i) (omega arith, (omega arith, tt))

msp430_function_words : (i : ℕ) → i < 2000 → AreBelow 65536 (msp430_function i)
msp430_function_words i h = listed 65536 (msp430_function i) (omega arith, (omega arith, (omega arith, (omega arith, (omega arith, tt)))))

msp430_words_fit : (number : ℕ) → number ≤ 2000 → AreBelow 65536 (msp430_words number)
msp430_words_fit number most =
    let calls = each (msp430_call number) number in
    let start : List ℕ = 0x4031 ∷ 0x0A00 ∷ [] in
    let jump : List ℕ = 0x3FFF ∷ [] in
    append 65536 (start ++ calls ++ jump) (each msp430_function number)
    (append 65536 (start ++ calls) jump
    (append 65536 start calls (listed 65536 start (omega arith, (omega arith, tt)))
    (each_below 65536 (msp430_call number) number (λ i h. msp430_call_words number i most h)))
    (listed 65536 jump (omega arith, tt)))
    (each_below 65536 msp430_function number (λ i h. msp430_function_words i (omega arith)))

pub msp430_bytes : (number : ℕ) → number ≤ 2000 → AreBytes (msp430_program number)
msp430_bytes number most = words_bytes (msp430_words number) (msp430_words_fit number most)

mcs51_call_bytes : (number i : ℕ) → number ≤ 2000 → i < number → AreBytes (mcs51_call number i)
mcs51_call_bytes number i most h = listed 256 (mcs51_call number i) (omega arith, (omega arith, (omega arith, tt)))

mcs51_function_bytes : (i : ℕ) → AreBytes (mcs51_function i)
mcs51_function_bytes i =
    listed 256 (mcs51_function i) (omega arith, (omega arith, (omega arith, (omega arith, (omega arith, (omega arith, (omega arith, tt)))))))

pub mcs51_bytes : (number : ℕ) → number ≤ 2000 → AreBytes (mcs51_program number)
mcs51_bytes number most =
    let calls = each (mcs51_call number) number in
    let start : List ℕ = 0x75 ∷ 0x81 ∷ 0x60 ∷ [] in
    let jump : List ℕ = 0x80 ∷ 0xFE ∷ [] in
    append 256 (start ++ calls ++ jump) (each mcs51_function number)
    (append 256 (start ++ calls) jump
    (append 256 start calls (listed 256 start (omega arith, (omega arith, (omega arith, tt))))
    (each_below 256 (mcs51_call number) number (λ i h. mcs51_call_bytes number i most h)))
    (listed 256 jump (omega arith, (omega arith, tt))))
    (each_below 256 mcs51_function number (λ i h. mcs51_function_bytes i))

-- LJMP 0030h
pub mcs51_jump_bytes : AreBytes (0x02 ∷ high_first 0x0030)
mcs51_jump_bytes = listed 256 (0x02 ∷ high_first 0x0030) (omega arith, (omega arith, (omega arith, tt)))
