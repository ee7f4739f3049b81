-- Where a book breaks a stated limit.
use Rattle.std.specs.Prelude.{◌≡◌, ℕ, Some, List}
use Rattle.call_context.specs.declared.node.Node.{Node}
use Rattle.call_context.specs.Nodes.{pc_of, IsLocation}
use Rattle.chip_analysis.specs.declared.cause.Cause.{Cause}
use Rattle.chip_analysis.specs.Analysis.{Analysis}
use Rattle.book_rules.specs.Machine.{Held}
use Rattle.book_rules.specs.Table.{table_of}

-- The site of an open is the address of a location of the book, where by the location's state the stated limit that the
-- cause names is broken.
pub record IsBroken {A : Type 0} (analysis : Analysis A) (nodes : List (Held A)) (pc : ℕ) (cause : Cause) : Type 0 where
  pub node : Node
  pub state : A
  pub is_location : IsLocation node
  pub is_held : table_of nodes node ≡ Some state
  pub at : pc_of node ≡ pc
  pub limit : analysis.Breaks node state cause
