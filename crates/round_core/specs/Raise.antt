-- Nodes that rise together.
use Rattle.std.specs.Prelude.{◌≡◌, ℕ, Some, List, [], ◌∷◌, length, map, unwrap_or}
use Rattle.call_context.specs.declared.node.Node.{Node}
use Rattle.round_core.specs.declared.raised.Risen.{Risen}
use Rattle.round_core.specs.declared.raised.Raised.{Raised}
use Rattle.round_core.specs.Agenda.{IsIn}
use Rattle.book_rules.specs.Machine.{Held, place_of, with_held}
use Rattle.round_core.specs.Shown.{AreDistinct}

module _ {A : Type 0} where
  -- rows take their places one after the other
  abbrev pub with_all : List (Held A) → List (Held A) → List (Held A)
  with_all nodes [] = nodes
  with_all nodes (h ∷ hs) = with_all (with_held nodes h) hs

  -- what a node has behind a post that raises it
  abbrev pub held_of : Risen A → Held A
  held_of r = record { node = r.node; state = r.state; rises = r.rises }

  abbrev pub held_rows : List (Risen A) → List (Held A)
  held_rows rows = map held_of rows

  -- the nodes of a book behind what posts have raised of them
  abbrev pub risen_over : List (Held A) → Raised A → List (Held A)
  risen_over nodes raised = with_all nodes (held_rows raised.rows.items)

  -- the place of a node, or the one behind all, which a new node gets
  abbrev pub place_for : List (Held A) → Node → ℕ
  place_for nodes node = unwrap_or (place_of nodes node) (length nodes)

  -- each row has the place of its node in the book behind the post
  abbrev pub ArePlaced : List (Held A) → List (Risen A) → Type 0
  ArePlaced nodes rows = (r : Risen A) → IsIn r rows → place_of (with_all nodes (held_rows rows)) r.node ≡ Some r.place

  -- no node rises twice, each has its place, and the next new one gets the place behind all
  pub record RisesOver (nodes : List (Held A)) (raised : Raised A) : Type 0 where
    pub distinct : AreDistinct (held_rows raised.rows.items)
    pub placed : ArePlaced nodes raised.rows.items
    pub next : raised.next ≡ length (risen_over nodes raised)
