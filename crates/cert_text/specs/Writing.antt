-- Writing certificates.
use Rattle.std.specs.Prelude.{◌≡◌, ℕ, List, [], ◌∷◌, ◌++◌, IsPermutation}
use Rattle.std.specs.List.{All, IsDistinct}
use Rattle.std.specs.Map.{keys_of}
use Rattle.std.specs.declared.alloc.Global.{Global}
use Rattle.std.specs.declared.vec.Vec.{Vec}
use Rattle.call_context.specs.declared.node.Node.{Node}
use Rattle.chip_analysis.specs.Analysis.{Analysis}
use Rattle.book_rules.specs.Same.{same_node}
use Rattle.state_text.specs.Texts.{StateTexts}
use Rattle.cert_text.specs.Certificate.{AreRows, cert1_of, node_text}

-- no node has two states, and each node is in form with its own
pub record AreNodes {A : Type 0} (a : Analysis A) (nodes : List (Node × A)) : Type 0 where
  pub distinct : IsDistinct same_node (keys_of nodes)
  pub formed : All (λ row. a.HasForm row.0 row.1) nodes

-- the text is the certificate of these nodes in the order of a certificate
pub record IsCert {A : Type 0} (a : Analysis A) (texts : StateTexts A) (nodes : List (Node × A)) (text : List ℕ) : Type 0 where
  pub rows : List (Node × A)
  pub same : IsPermutation nodes rows
  pub are_rows : AreRows a texts rows
  pub text_is : text ≡ cert1_of a texts rows

-- a node and its state as they are written
abbrev pub Written : Type 0
Written = List ℕ × List ℕ

abbrev pub written : {A : Type 0} → StateTexts A → Node × A → Written
written texts row = (node_text texts row, texts.text_of row.1)

-- the bytes of such texts
abbrev pub bytes_of : Vec ℕ Global × Vec ℕ Global → Written
bytes_of pair = (pair.0.items, pair.1.items)

-- its line with the line feed
abbrev pub line_of : Written → List ℕ
line_of pair = pair.0 ++ 32 ∷ (pair.1 ++ 10 ∷ [])
