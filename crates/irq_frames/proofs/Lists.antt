-- Lists that were gone over to their end.
use Rattle.std.proofs.Common.{◌≡◌, ℕ, ◌≤◌, ◌++◌, List, [], length, take, drop, sym, ◌∙◌, arith}
use Rattle.std.proofs.lemmas.List.{append-nil, drop_all, take_all}
use Rattle.value_bits.specs.declared.tri.Tri.{Tri}
use Rattle.irq_frames.specs.Masking.{masked_bits}

pub all_masked : (n i and or : ℕ) (bits held made : List Tri) → n ≤ i → length bits ≡ n → length held ≡ n
    → take i bits ++ masked_bits and or (drop i held) ≡ made → bits ≡ made
all_masked n i and or bits held made far long held_long so_far =
    let none : drop i held ≡ [] = drop_all i held (omega arith) in
    let all : take i bits ≡ bits = take_all i bits (omega arith) in
    let joined = rw (all, none) at so_far in
    sym (append-nil bits) ∙ joined
