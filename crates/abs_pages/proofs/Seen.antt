-- Pages, as their callers see them.
use Rattle.std.proofs.Common.{◌≡◌, ℕ, List}
use Rattle.entry_value.specs.Cells.{CellMap}
use Rattle.entry_value.specs.Representing.{IsSeen}
use Rattle.abs_pages.specs.Paging.{IsPaged, Paged, flat}

abbrev pub map_of : (lo hi : ℕ) → List Paged → CellMap
map_of lo hi pages = record { lo = lo; hi = hi; cells = flat pages }

pub seen : {lo hi : ℕ} {pages : List Paged} {now : CellMap} → IsPaged lo hi pages → map_of lo hi pages ≡ now
    → IsSeen (map_of lo hi pages) now
seen paged is = record { is = is; high = paged.high; are = paged.are }
