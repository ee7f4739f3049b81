-- The nodes of a book as rows of a table: the state is the value, and the rises are the mark.
use Rattle.std.specs.Prelude.{◌≡◌, ℕ, Some, List}
use Rattle.call_context.specs.declared.node.Node.{Node}
use Rattle.book_rules.specs.Machine.{Held, held_at}

module _ {A : Type 0} where
  abbrev pub held_of : Node × (A × ℕ) → Held A
  held_of row = record { node = row.0; state = row.1.0; rises = row.1.1 }

  -- the node is there, with this state, which rose so often
  abbrev pub IsHeld : List (Held A) → Node → A → ℕ → Type 0
  IsHeld nodes node state rises = held_at nodes node ≡ Some (record { node = node; state = state; rises = rises })

  -- a node with its state
  abbrev pub big_part : Held A → Node × A
  big_part row = (row.node, row.state)
