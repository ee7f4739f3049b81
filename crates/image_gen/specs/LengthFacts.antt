-- How long parts in a row are, and the programs that are made: lemmas, also for the proofs of crates above.
use Rattle.std.proofs.Common.{◌≡◌, ◌+◌, ◌*◌, List, [], ◌∷◌, ◌++◌, zero, suc, length, refl, length-append, arith}
use Rattle.std.specs.Prelude.{ℕ, flat_map}
use Rattle.image_gen.specs.Made.{low_first, msp430_call, msp430_function, msp430_words, msp430_program, mcs51_call, mcs51_function, mcs51_program}
use Rattle.image_gen.specs.Records.{each}

pub length-each : (part : ℕ → List ℕ) (size : ℕ) → ((i : ℕ) → length (part i) ≡ size) → (n : ℕ) → length (each part n) ≡ n * size
unfolding each
length-each part size same zero = omega arith
length-each part size same (suc n) = omega (arith, length-append (each part n) (part n), length-each part size same n, same n)

pub length-low_first : (words : List ℕ) → length (flat_map low_first words) ≡ 2 * length words
length-low_first [] = refl
length-low_first (word ∷ words) = let rest = length-low_first words in omega (arith, rest)

length-words : (number : ℕ) → length (msp430_words number) ≡ 3 + 7 * number
length-words number =
    let calls = length-each (msp430_call number) 2 (λ i. refl) number in
    let functions = length-each msp430_function 5 (λ i. refl) number in
    let front = length-append (each (msp430_call number) number) (0x3FFF ∷ []) in
    let whole = length-append (each (msp430_call number) number ++ 0x3FFF ∷ []) (each msp430_function number) in
    omega (arith, calls, functions, front, whole)

pub length-msp430_program : (number : ℕ) → length (msp430_program number) ≡ 6 + 14 * number
length-msp430_program number = omega (arith, length-low_first (msp430_words number), length-words number)

pub length-mcs51_program : (number : ℕ) → length (mcs51_program number) ≡ 5 + 10 * number
length-mcs51_program number =
    let calls = length-each (mcs51_call number) 3 (λ i. refl) number in
    let functions = length-each mcs51_function 7 (λ i. refl) number in
    let front = length-append (each (mcs51_call number) number) (0x80 ∷ 0xFE ∷ []) in
    let whole = length-append (each (mcs51_call number) number ++ 0x80 ∷ 0xFE ∷ []) (each mcs51_function number) in
    omega (arith, calls, functions, front, whole)
