-- What posts make of nodes, worked out ahead of the turn in which they are posted.
use Rattle.std.specs.Prelude.{◌≡◌, ℕ, ◌+◌, true, false, Option, Some, List, [], ◌∷◌, MatchOption}
use Rattle.call_context.specs.declared.node.Node.{Node}
use Rattle.chip_analysis.specs.Analysis.{Analysis}
use Rattle.round_core.specs.declared.ahead.Looked.{Looked}
use Rattle.round_core.specs.declared.met.MetNode.{MetNode}
use Rattle.round_core.specs.declared.ticket.Done.{Done}
use Rattle.round_core.specs.Nodes.{IsHeld}
use Rattle.book_rules.specs.Machine.{Held, held_at, risen_state}
use Rattle.book_rules.specs.Stays.{AllStay}

-- a node that was met is one of these
abbrev pub IsMet : {A : Type 0} → List (Held A) → MetNode A → Type 0
IsMet nodes met = IsHeld nodes met.node met.state met.rises

module _ {A : Type 0} (m : Analysis A) where
  -- what a post makes of a held state: nothing where it is within that, else the state behind one more rise
  abbrev pub IsRow : Node → A → ℕ → A → Option (A × ℕ) → Type 0
  IsRow node held rises posted row =
      MatchOption row (m.within posted held ≡ true)
      (λ risen. (m.within posted held ≡ false) × (risen.1 ≡ rises + 1) × (risen.0 ≡ risen_state m node held posted (rises + 1)))

  -- what a post makes of the one of these nodes that it goes to
  pub record IsLooked (nodes : List (Held A)) (post : Node × A) (looked : Looked A) : Type 0 where
    pub held : Held A
    pub held_is : held_at nodes post.0 ≡ Some held
    pub rises : looked.rises ≡ held.rises
    pub row : IsRow post.0 held.state held.rises post.1 looked.row

  -- what the first posts make of them, each by itself
  abbrev pub AreLooked : List (Held A) → List (Node × A) → List (Looked A) → Type 0
  AreLooked nodes posts [] = Unit {0}
  AreLooked nodes [] (looked ∷ rows) = ⊥
  AreLooked nodes (post ∷ posts) (looked ∷ rows) = IsLooked nodes post looked × AreLooked nodes posts rows

  -- what a post makes of the node that it goes to, unless that has risen
  abbrev pub IsStill : List (Held A) → Node × A → Looked A → Type 0
  IsStill nodes post looked =
      (h : Held A) → held_at nodes post.0 ≡ Some h → looked.rises ≡ h.rises → IsRow post.0 h.state h.rises post.1 looked.row

  -- what the first posts make of the nodes as they were before
  pub record AreBefore (nodes : List (Held A)) (posts : List (Node × A)) (rows : List (Looked A)) : Type 0 where
    pub then : List (Held A)
    pub stay : AllStay then nodes
    pub looked : AreLooked then posts rows

-- what the first posts of a work make of the nodes as they were when its unit was claimed
abbrev pub IsAhead : {C B A : Type 0} → Analysis A → Done C B A → List (Looked A) → Type 0
IsAhead m done rows = AreLooked m done.ticket.nodes done.work.posts rows
