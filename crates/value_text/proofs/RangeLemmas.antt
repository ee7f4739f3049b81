-- Ranges that are added one behind another.
use Rattle.std.proofs.Common.{◌≡◌, ℕ, zero, suc, ◌+◌, ◌<◌, ◌≤◌, true, List, [], ◌∷◌, length, take, get_or, refl, ap, arith, nat_lt}
use Rattle.std.proofs.lemmas.Bool.{lt-ltb}
use Rattle.irq_frames.specs.Ranges.{AreRanges, with_range}

pub wider : (low from hi most : ℕ) (ranges : List (ℕ × ℕ)) → low ≤ from → hi ≤ most → AreRanges from hi ranges → AreRanges low most ranges
wider low from hi most [] below above are = tt
wider low from hi most (range ∷ ranges) below above are =
    (omega (arith, below, are.0), are.1, omega (arith, above, are.2), wider (range.1 + 2) (range.1 + 2) hi most ranges (omega arith) above are.3)

pub range_at : (from hi i : ℕ) (ranges : List (ℕ × ℕ)) → AreRanges from hi ranges → i < length ranges
    → (from ≤ (get_or ranges i (0, 0)).0) × ((get_or ranges i (0, 0)).0 ≤ (get_or ranges i (0, 0)).1)
range_at from hi i [] are inside = absurd (omega (arith, inside))
range_at from hi zero (range ∷ ranges) are inside = (are.0, are.1)
range_at from hi (suc i) (range ∷ ranges) are inside =
    let behind = range_at (range.1 + 2) hi i ranges are.3 (omega (arith, inside)) in (omega (arith, are.0, are.1, behind.0), behind.1)

-- the next range goes behind those in front of it
pub add_next : (from hi i : ℕ) (ranges : List (ℕ × ℕ)) → AreRanges from hi ranges → i < length ranges
    → with_range (get_or ranges i (0, 0)).0 (get_or ranges i (0, 0)).1 (take i ranges) ≡ take (suc i) ranges
unfolding with_range
add_next from hi i [] are inside = absurd (omega (arith, inside))
add_next from hi zero (range ∷ ranges) are inside = refl
add_next from hi (suc i) (range ∷ ranges) are inside =
    let behind = range_at (range.1 + 2) hi i ranges are.3 (omega (arith, inside)) in
    let before : nat_lt (range.1 + 1) (get_or ranges i (0, 0)).0 ≡ true = lt-ltb (range.1 + 1) (get_or ranges i (0, 0)).0 (omega (arith, behind.0)) in
    rw before (ap (λ (rest : List (ℕ × ℕ)). range ∷ rest) (add_next (range.1 + 2) hi i ranges are.3 (omega (arith, inside))))
