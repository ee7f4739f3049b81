-- Cells speak of the bytes of their RAM alone.
use Rattle.std.proofs.Common.{◌≡◌, ℕ, ◌+◌, ◌%◌, ◌<◌, ◌≤◌, Option, List, [], sym, subst, inl, inr, arith}
use Rattle.entry_value.specs.declared.cells.Cell.{Cell}
use Rattle.entry_value.specs.Words.{Suspended, HoldsOfWord}
use Rattle.entry_value.specs.Cells.{StandsUnder, IsCell, AreCells}
use Rattle.entry_value.proofs.Bytes.{IsSize, AreBytes, same_number}
use Rattle.entry_value.specs.CellLists.{StandsAt, each_from, each_in, each_both, each_then, each_cell}
use Rattle.entry_value.proofs.Writing.{whole_turn}

abbrev Agree : (lo hi : ℕ) → (one other : ℕ → ℕ) → Type 0
Agree lo hi one other = (at : ℕ) → lo ≤ at → at ≤ hi → one at ≡ other at

first_inside : (place size hi : ℕ) → IsSize size → place + size ≤ hi + 1 → place ≤ hi
first_inside place size hi (inl one) high = omega arith
first_inside place size hi (inr two) high = omega arith

second_inside : (one other : ℕ → ℕ) (lo hi place size : ℕ) → hi < 65536 → Agree lo hi one other → lo ≤ place
    → place + size ≤ hi + 1 → size ≡ 2
    → one ((place + 1) % 65536) ≡ other ((place + 1) % 65536)
second_inside one other lo hi place size below same low high two =
    subst (λ (at : ℕ). one at ≡ other at) (sym (whole_turn place size hi two high below)) (same (place + 1) (omega arith) (omega arith))

same_inside : (first : Option Suspended) (one other : ℕ → ℕ) (lo hi : ℕ) → hi < 65536 → Agree lo hi one other
    → (cell : Cell) → StandsAt first one cell × IsCell lo hi cell
    → StandsAt first other cell
same_inside first one other lo hi below same cell h =
    subst (λ (n : ℕ). HoldsOfWord first cell.word n)
    (same_number one other cell.place cell.size h.1.size (same cell.place h.1.low (first_inside cell.place cell.size hi h.1.size h.1.high))
    (second_inside one other lo hi cell.place cell.size below same h.1.low h.1.high))
    h.0

pub agreeing_stands : (first : Option Suspended) (one other : ℕ → ℕ) (lo hi from : ℕ) (cells : List Cell) → hi < 65536
    → AreCells lo hi from cells → AreBytes other
    → ((at : ℕ) → lo ≤ at → at ≤ hi → one at ≡ other at) → StandsUnder first cells one → StandsUnder first cells other
agreeing_stands first one other lo hi from cells below are bytes same h = (
  bytes,
  each_in (StandsAt first other) cells
      (each_then (λ cell. StandsAt first one cell × IsCell lo hi cell) (StandsAt first other) cells (same_inside first one other lo hi below same)
      (each_both (StandsAt first one) (IsCell lo hi) cells (each_from (StandsAt first one) cells h.1) (each_cell lo hi from cells are))),
)

pub nothing_stands : (first : Option Suspended) (ram : ℕ → ℕ) → AreBytes ram → StandsUnder first [] ram
nothing_stands first ram bytes = (bytes, λ cell h. absurd (omega (arith, h.1)))
