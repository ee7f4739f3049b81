-- Call strings: the sites of the calls that led to a location, oldest first (M. Sharir and A. Pnueli, "Two Approaches to
-- Interprocedural Data Flow Analysis", 1981: strings of bounded length keep their last sites).
use Rattle.std.specs.Prelude.{ℕ, ◌-◌, ◌==◌, if◌then◌else◌, Option, None, Some, List, [], ◌∷◌, ◌++◌, length, take, drop}

-- the last so many of some numbers, or all where they are fewer
abbrev pub last_of : ℕ → List ℕ → List ℕ
last_of count xs = drop (length xs - count) xs

-- the string behind a call at a site, of which the last k are kept
abbrev pub pushed : List ℕ → ℕ → ℕ → List ℕ
pushed calls site k = last_of k (calls ++ site ∷ [])

-- the string behind a return to a target: it drops the last site where that site's instruction ends at the target
abbrev pub popped : List ℕ → Option ℕ → ℕ → List ℕ
popped calls None target = calls
popped calls (Some site_end) target = if site_end == target then take (length calls - 1) calls else calls
