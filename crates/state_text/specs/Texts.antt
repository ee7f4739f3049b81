-- Texts of a chip's states, both ways.
use Rattle.std.specs.Prelude.{◌≡◌, ◌↔◌, ℕ, true, Option, None, Some, List}
use Rattle.call_context.specs.declared.node.Node.{Node}
use Rattle.chip_analysis.specs.Analysis.{Analysis}
use Rattle.text_fields.specs.Lines.{IsOneLine}
use Rattle.node_fields.specs.Nodes.{IsNodeText}
use Rattle.node_fields.specs.declared.outside.Outside.{Outside}
use Rattle.state_text.specs.Cells.{are_loose}

-- how many digits a stack pointer has, the text of a state, and which state of a node a text is
pub record StateTexts (A : Type 0) : Type 0 where
  pub digits : ℕ
  pub text_of : A → List ℕ
  pub state_of : Node → List ℕ → Option A
  -- the first field of the first state that isn't within that of the second
  pub outside : A → A → Option Outside

-- Each state in form is read again, and nothing else is: so no state has two texts, and no two states have one. The text
-- of a node in form is that of one node alone, and the text of a state is in one line. Its cells of RAM, if it has any, stand in
-- one field, each with its place in front, and ascend.
pub record AreTexts {A : Type 0} (a : Analysis A) (texts : StateTexts A) : Type 0 where
  pub nodes : (node : Node) (state : A) → a.HasForm node state → IsNodeText texts.digits node
  pub again : (node : Node) (state : A) → a.HasForm node state → texts.state_of node (texts.text_of state) ≡ Some state
  pub takes : (node : Node) (text : List ℕ) (state : A) → texts.state_of node text ≡ Some state
      → a.HasForm node state × (texts.text_of state ≡ text)
  pub one_line : (node : Node) (state : A) → a.HasForm node state → IsOneLine (texts.text_of state)
  pub loose : (node : Node) (state : A) → a.HasForm node state → are_loose texts.digits (texts.text_of state) ≡ true
  -- no field is outside exactly where the state is within
  pub included : (node : Node) (new held : A) → a.HasForm node new → a.HasForm node held
      → (texts.outside new held ≡ None) ↔ (a.within new held ≡ true)
