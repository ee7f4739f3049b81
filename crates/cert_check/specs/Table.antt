-- Where the nodes of a table stand.
use Rattle.std.specs.Prelude.{ℕ, suc, List, [], ◌∷◌}
use Rattle.call_context.specs.declared.node.Node.{Node}

-- each node with its place, counted from a first one
abbrev pub placed : {A : Type 0} → ℕ → List (Node × A) → List (Node × ℕ)
placed place [] = []
placed place (row ∷ rows) = (row.0, place) ∷ placed (suc place) rows
