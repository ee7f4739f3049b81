-- What is known of a table that is checked.
use Rattle.std.specs.Prelude.{◌≡◌, ◌↔◌, true, List}
use Rattle.call_context.specs.declared.node.Frame.{Frame}
use Rattle.call_context.specs.declared.node.Node.{Node}
use Rattle.call_context.specs.declared.node.Unit.{Unit as WorkUnit}
use Rattle.chip_analysis.specs.Analysis.{Analysis, KeepsForm}
use Rattle.book_rules.specs.Same.{same_frame, same_node, same_unit}
use Rattle.state_text.specs.Texts.{AreTexts, StateTexts}
use Rattle.cert_text.specs.Writing.{AreNodes}

-- what the definitions and the laws give
pub record Known {A : Type 0} (a : Analysis A) (texts : StateTexts A) (rows : List (Node × A)) : Type 0 where
  pub are : AreTexts a texts
  pub keeps : KeepsForm a
  pub nodes_are : AreNodes a rows
  pub one : (m n : Node) → (same_node m n ≡ true) ↔ (m ≡ n)
  pub frames : (f g : Frame) → (same_frame f g ≡ true) ↔ (f ≡ g)
  pub units : (u v : WorkUnit) → (same_unit u v ≡ true) ↔ (u ≡ v)
