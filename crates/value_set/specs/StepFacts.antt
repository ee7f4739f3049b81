-- The numbers of a run, by their places in it: lemmas, also for the proofs of crates above.
use Rattle.std.proofs.Common.{◌≡◌, ℕ, ◌+◌, ◌*◌, ◌%◌, ◌<◌, ◌++◌, [], ◌∷◌, length, sym, ◌∙◌, arith, Contains}
use Rattle.std.proofs.lemmas.List.FromFn.{length-map-range_with_len, get_or-map-range_with_len, map-range_with_len_more}
use Rattle.value_set.specs.Form.{steps}

pub steps_have : (m base stride count i : ℕ) → i < count → Contains (steps m base stride count) ((base + i * stride) % m)
unfolding steps
steps_have m base stride count i h =
    let f : ℕ → ℕ = λ k. (base + k * stride) % m in
    (i, rw (length-map-range_with_len f 0 count) h, get_or-map-range_with_len f 0 count i i ((base + i * stride) % m) h (omega arith))

pub steps_from : (m base stride count v : ℕ) → Contains (steps m base stride count) v
    → (i : ℕ) × (i < count) × (v ≡ (base + i * stride) % m)
unfolding steps
steps_from m base stride count v h =
    let f : ℕ → ℕ = λ k. (base + k * stride) % m in
    let inside : h.0 < count = rw (length-map-range_with_len f 0 count) at h.1 in
    (h.0, inside, sym h.2 ∙ get_or-map-range_with_len f 0 count h.0 h.0 v inside (omega arith))

pub steps_more : (m base stride count : ℕ) → steps m base stride (count + 1) ≡ steps m base stride count ++ (base + count * stride) % m ∷ []
unfolding steps
steps_more m base stride count = map-range_with_len_more (λ (i : ℕ). (base + i * stride) % m) 0 count count (omega arith)

pub length-steps : (m base stride count : ℕ) → length (steps m base stride count) ≡ count
unfolding steps
length-steps m base stride count = length-map-range_with_len (λ (i : ℕ). (base + i * stride) % m) 0 count
