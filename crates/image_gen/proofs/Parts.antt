-- Parts one behind the other, and cuts of 16.
use Rattle.std.proofs.Common.{◌≡◌, ℕ, ◌+◌, ◌-◌, ◌*◌, List, [], ◌++◌, suc, min, length, take, drop, refl, sym, ◌∙◌, ap, append_assoc, length-drop, arith}
use Rattle.std.proofs.lemmas.List.{append-nil, take_min}
use Rattle.image_gen.specs.Records.{each, record_line, record_of}

pub each-none : (part : ℕ → List ℕ) → each part 0 ≡ []
unfolding each
each-none part = refl

pub each-more : (part : ℕ → List ℕ) (n : ℕ) → each part (n + 1) ≡ each part n ++ part n
unfolding each
each-more part n = let next : n + 1 ≡ suc n = omega arith in ap (each part) next

-- no part yet behind a front
pub begun : (part : ℕ → List ℕ) (front : List ℕ) → front ≡ front ++ each part 0
begun part front = sym (ap (λ parts. front ++ parts) (each-none part) ∙ append-nil front)

-- so many bytes from one on, or those that remain
pub cut : (n : ℕ) (bytes : List ℕ) → take (min (length bytes) (n + 16) - n) (drop n bytes) ≡ take 16 (drop n bytes)
cut n bytes =
    ap (λ many. take many (drop n bytes)) (let size = length-drop n bytes in fewer (length bytes) n (length (drop n bytes)) size)
    ∙ take_min 16 (drop n bytes)
  where
    fewer : (all n rest : ℕ) → rest ≡ all - n → min all (n + 16) - n ≡ min 16 rest
    fewer all n rest size = omega (arith, size)

cut_line : (start k : ℕ) (bytes : List ℕ)
    → record_line (start + k * 16) (take (min (length bytes) (k * 16 + 16) - k * 16) (drop (k * 16) bytes)) ≡ record_of start bytes k
cut_line start k bytes =
    let turned : k * 16 ≡ 16 * k = omega arith in
    ap (λ n. record_line (start + n) (take (min (length bytes) (n + 16) - n) (drop n bytes))) turned
    ∙ ap (record_line (start + 16 * k)) (cut (16 * k) bytes)

-- a record more
pub more_records : (text before : List ℕ) (start k : ℕ) (bytes : List ℕ) → before ≡ text ++ each (record_of start bytes) k
    → before ++ record_line (start + k * 16) (take (min (length bytes) (k * 16 + 16) - k * 16) (drop (k * 16) bytes))
    ≡ text ++ each (record_of start bytes) (k + 1)
more_records text before start k bytes is =
    ap (λ lines. before ++ lines) (cut_line start k bytes) ∙ ap (λ front. front ++ record_of start bytes k) is
    ∙ append_assoc text (each (record_of start bytes) k) (record_of start bytes k)
    ∙ ap (λ lines. text ++ lines) (sym (each-more (record_of start bytes) k))
