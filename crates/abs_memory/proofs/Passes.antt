-- Passes over cells.
use Rattle.std.proofs.Common.{◌≡◌, ℕ, ◌+◌, ◌<◌, ◌≤◌, ◌++◌, refl, sym, ap, ◌∙◌, ◌&&◌, Bool, Option, None, Some, List, [], ◌∷◌, length, get_or, take, drop, set, append_assoc, arith}
use Rattle.std.proofs.lemmas.List.{drop_more, drop_all, append-nil, take_more_set, drop-set-lt}
use Rattle.entry_value.specs.declared.cells.Cell.{Cell}
use Rattle.entry_value.specs.Cells.{kept, cell_at, is_found_within, are_within}
use Rattle.abs_memory.specs.Finding.{Ascend, places_below}
use Rattle.abs_memory.proofs.Places.{cell_from_place}

-- one that goes
pub pass_without : (f : Cell → Option Cell) (cells all front : List Cell) (index : ℕ) (cell : Cell)
    → index < length cells → cell ≡ get_or cells index cell
    → f cell ≡ None → front ++ kept f (drop index cells) ≡ all → front ++ kept f (drop (index + 1) cells) ≡ all
pass_without f cells all front index cell lt is goes e =
    let step : kept f (drop index cells) ≡ kept f (drop (index + 1) cells) =
    rw (drop_more cells index cell lt, sym is, goes) refl in
    ap (λ rest. front ++ rest) (sym step) ∙ e

-- one that stays, perhaps changed
pub pass_with : (f : Cell → Option Cell) (cells all front : List Cell) (index : ℕ) (cell new : Cell)
    → index < length cells → cell ≡ get_or cells index cell
    → f cell ≡ Some new → front ++ kept f (drop index cells) ≡ all → (front ++ new ∷ []) ++ kept f (drop (index + 1) cells) ≡ all
pass_with f cells all front index cell new lt is stays e =
    let step : kept f (drop index cells) ≡ new ∷ kept f (drop (index + 1) cells) =
    rw (drop_more cells index cell lt, sym is, stays) refl in
    append_assoc front (new ∷ []) (kept f (drop (index + 1) cells)) ∙ ap (λ rest. front ++ rest) (sym step) ∙ e

-- it is put behind those that stay, in place
pub pass_in_place : (f : Cell → Option Cell) (cells all : List Cell) (count index : ℕ) (cell new : Cell) → count ≤ index
    → index < length cells → cell ≡ get_or cells index cell
    → f cell ≡ Some new → take count cells ++ kept f (drop index cells) ≡ all
    → take (count + 1) (set cells count new) ++ kept f (drop (index + 1) (set cells count new)) ≡ all
pass_in_place f cells all count index cell new le lt is stays e =
    rw (take_more_set cells count new (omega arith), drop-set-lt (index + 1) cells count new (omega arith))
    (pass_with f cells all (take count cells) index cell new lt is stays e)

-- What is left of a list of cells that the rest of another one is looked up in: the same, from where that rest begins.
pub record Follows (new others rest : List Cell) : Type 0 where
  pub from : ℕ
  pub ascend : Ascend from rest
  pub same : (place size : ℕ) → from ≤ place → cell_at others place size ≡ cell_at new place size

pub follows_all : (new rest : List Cell) → Ascend 0 rest → Follows new new rest
follows_all new rest h = record { from = 0; ascend = h; same = λ place size le. refl }

head_rest : (from : ℕ) (rest : List Cell) (index : ℕ) (cell : Cell) → index < length rest
    → cell ≡ get_or rest index cell → Ascend from (drop index rest)
    → (from ≤ cell.place) × (1 ≤ cell.size) × Ascend (cell.place + cell.size) (drop (index + 1) rest)
head_rest from rest index cell lt is h = rw (drop_more rest index cell lt, sym is) at h

-- the word of the next one is looked up in what is left
pub follows_here : (new others rest : List Cell) (index : ℕ) (cell : Cell) → index < length rest → cell ≡ get_or rest index cell
    → Follows new others (drop index rest)
    → cell_at (drop (places_below others cell.place) others) cell.place cell.size ≡ cell_at new cell.place cell.size
follows_here new others rest index cell lt is follows =
    let head = head_rest follows.from rest index cell lt is follows.ascend in
    sym (cell_from_place others cell.place cell.place cell.size (omega arith)) ∙ follows.same cell.place cell.size head.0

pub follows_on : (new others rest : List Cell) (index : ℕ) (cell : Cell) → index < length rest → cell ≡ get_or rest index cell
    → Follows new others (drop index rest) → Follows new (drop (places_below others cell.place) others) (drop (index + 1) rest)
follows_on new others rest index cell lt is follows =
    let head = head_rest follows.from rest index cell lt is follows.ascend in
    record {
      from = cell.place + cell.size;
      ascend = head.2;
      same = λ place size le.
          sym (cell_from_place others cell.place place size (omega arith)) ∙ follows.same place size (omega (arith, head.0));
    }

pub pass_end : (f : Cell → Option Cell) (cells all front : List Cell) (index : ℕ) → length cells ≤ index
    → front ++ kept f (drop index cells) ≡ all → front ≡ all
pass_end f cells all front index le e =
    let nothing : kept f (drop index cells) ≡ [] = rw (drop_all index cells le) refl in
    sym (append-nil front) ∙ ap (λ rest. front ++ rest) (sym nothing) ∙ e

pub within_here : (new held : List Cell) (index : ℕ) (cell : Cell) (found : Bool) → index < length held → cell ≡ get_or held index cell
    → is_found_within (cell_at new cell.place cell.size) cell.word ≡ found
    → are_within new (drop index held) ≡ (found && are_within new (drop (index + 1) held))
within_here new held index cell found lt is e = rw (drop_more held index cell lt, sym is, e) (λ i. found && are_within new (drop (index + 1) held))
