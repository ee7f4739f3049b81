-- Cells in ascending order of their places, and how many stand in front of one.
use Rattle.std.specs.Prelude.{ℕ, ◌+◌, ◌≤◌, nat_lt, if◌then◌else◌, List, [], ◌∷◌}
use Rattle.std.proofs.Common.{◌≡◌, ◌<◌, length, get_or, arith}
use Rattle.std.proofs.lemmas.Bool.Decides.{nat_tests}
use Prim.Native.Nat.{zero, suc}
use Rattle.entry_value.specs.declared.cells.Cell.{Cell}

-- each cell has a byte, and begins at or behind the end of the one in front of it
abbrev pub Ascend : (from : ℕ) → List Cell → Type 0
Ascend from [] = Unit {0}
Ascend from (cell ∷ cells) = (from ≤ cell.place) × (1 ≤ cell.size) × Ascend (cell.place + cell.size) cells

-- how many elements stand in front of the first one whose key is at least a number
abbrev pub keys_below : {X : Type 0} → (key : X → ℕ) → List X → (at : ℕ) → ℕ
keys_below key [] at = 0
keys_below key (x ∷ xs) at = if nat_lt (key x) at then suc (keys_below key xs at) else 0

-- so many do, where the keys of those are below it, and those of the others are not
pub below_is : {X : Type 0} (key : X → ℕ) (xs : List X) (at k : ℕ) → k ≤ length xs
    → ((i : ℕ) (d : X) → i < k → key (get_or xs i d) < at)
    → ((i : ℕ) (d : X) → k ≤ i → i < length xs → at ≤ key (get_or xs i d))
    → k ≡ keys_below key xs at
below_is key [] at k le low high = omega arith
below_is key (x ∷ xs) at zero le low high = let first : at ≤ key x = high 0 x (omega arith) (omega arith) in grind (arith, nat_tests)
below_is key (x ∷ xs) at (suc k) le low high =
    let first : key x < at = low 0 x (omega arith) in
    let rest : k ≡ keys_below key xs at =
    below_is key xs at k (omega arith) (λ i d h. low (suc i) d (omega arith)) (λ i d h l. high (suc i) d (omega arith) (omega arith)) in
    grind (arith, nat_tests)

-- how many cells stand in front of the first one whose place is at least an address
abbrev pub places_below : List Cell → (at : ℕ) → ℕ
places_below = keys_below (λ cell. cell.place)

-- each cell ends at or in front of an address
abbrev pub EachEndsBelow : (end : ℕ) → List Cell → Type 0
EachEndsBelow end [] = Unit {0}
EachEndsBelow end (cell ∷ cells) = (cell.place + cell.size ≤ end) × EachEndsBelow end cells
