-- What each legal event keeps of a book, wherever it began: as the opening, or with nodes and works that are known.
use Rattle.std.specs.Prelude.{◌≡◌, ◌≤◌, Option, None, Some, List, [], ◌∷◌}
use Rattle.std.specs.List.{AllByRecursion}
use Rattle.call_context.specs.declared.node.Node.{Node}
use Rattle.call_context.specs.declared.node.Unit.{Unit as WorkUnit}
use Rattle.chip_analysis.specs.Analysis.{Analysis, AreFormed}
use Rattle.book_rules.specs.declared.versions.Versions.{Versions}
use Rattle.book_rules.specs.Counts.{AreApart, AreOutOnce}
use Rattle.book_rules.specs.Machine.{BookState, Held, Done, Out, done_at, inputs_of, versions_of, IsOfLocation}
use Rattle.book_rules.specs.Stays.{AllStay}
use Rattle.book_rules.specs.Table.{IsUnder}

-- versions of inputs that are no later than others
pub record AreUpTo (old new : Versions) : Type 0 where
  pub at : old.at ≤ new.at
  pub exit : old.exit ≤ new.exit

-- A unit that is out has its inputs, what was copied is what they are until one rises, and the nodes that were have stayed.
pub record IsWellOut {A : Type 0} (nodes : List (Held A)) (o : Out A) : Type 0 where
  pub there : (inputs : A × Option A) × (inputs_of nodes o.unit ≡ Some inputs)
  pub known : AreUpTo o.versions (versions_of nodes o.unit)
  pub copied : versions_of nodes o.unit ≡ o.versions → inputs_of nodes o.unit ≡ Some (o.at, o.exit)
  pub stay : AllStay o.nodes nodes

-- a unit of the book's nodes: their location is one, and they are there
pub record IsThere {A : Type 0} (nodes : List (Held A)) (unit : WorkUnit) : Type 0 where
  pub shape : IsOfLocation unit
  pub inputs : (inputs : A × Option A) × (inputs_of nodes unit ≡ Some inputs)

-- no unit was done twice
abbrev pub AreDoneOnce : {A : Type 0} → List (Done A) → Type 0
AreDoneOnce [] = Unit {0}
AreDoneOnce (d ∷ ds) = (done_at ds d.unit ≡ None) × AreDoneOnce ds

-- what is out or was done is of nodes that are there, and nothing was done twice
pub record IsPlaced {A : Type 0} (b : BookState A) : Type 0 where
  pub out : AllByRecursion (λ (o : Out A). IsThere b.nodes o.unit) b.out
  pub done : AllByRecursion (λ (d : Done A). IsThere b.nodes d.unit) b.done
  pub once : AreDoneOnce b.done

module _ {A : Type 0} (m : Analysis A) where
  -- the last work of a unit is that of its inputs, until one rises
  pub record IsWellDone (nodes : List (Held A)) (d : Done A) : Type 0 where
    pub known : AreUpTo d.versions (versions_of nodes d.unit)
    pub worked : versions_of nodes d.unit ≡ d.versions
        → (inputs : A × Option A) × (inputs_of nodes d.unit ≡ Some inputs) × (d.work ≡ m.work d.unit inputs.0 inputs.1)

  -- no node stands twice, and what is out or was done is of the inputs that it was done over
  pub record IsSteady (b : BookState A) : Type 0 where
    pub apart : AreApart b.nodes
    pub once : AreOutOnce b.out
    pub out : AllByRecursion (IsWellOut b.nodes) b.out
    pub done : AllByRecursion (IsWellDone b.nodes) b.done

  -- each posted state has the form of its node
  abbrev pub PostsAreFormed : List (Node × A) → Type 0
  PostsAreFormed posts = AllByRecursion (λ post. m.HasForm post.0 post.1) posts

  -- a node with a state of its form, which rose at most as often as rises may be, and is top then
  pub record IsInBounds (h : Held A) : Type 0 where
    pub least : 1 ≤ h.rises
    pub most : h.rises ≤ 64
    pub last : h.rises ≡ 64 → h.state ≡ m.top h.node
    pub form : m.HasForm h.node h.state

  abbrev pub AreInBounds : List (Held A) → Type 0
  AreInBounds nodes = AllByRecursion IsInBounds nodes

  -- all states have the form of their nodes
  pub record IsInForm (b : BookState A) : Type 0 where
    pub nodes : AreInBounds b.nodes
    pub out : AllByRecursion (λ (o : Out A). AreFormed m o.unit o.at o.exit) b.out
    pub done : AllByRecursion (λ (d : Done A). PostsAreFormed d.work.posts) b.done

  abbrev pub AreUnder : List (Held A) → List (Node × A) → Type 0
  AreUnder nodes posts = AllByRecursion (IsUnder m nodes) posts

  -- the start state and each post of a last work are within what their nodes hold
  pub record IsServed (b : BookState A) : Type 0 where
    pub start : IsUnder m b.nodes (m.first_node, m.first_state)
    pub done : AllByRecursion (λ (d : Done A). AreUnder b.nodes d.work.posts) b.done

  pub record IsSound (b : BookState A) : Type 0 where
    pub steady : IsSteady b
    pub formed : IsInForm b
    pub served : IsServed b
    pub placed : IsPlaced b
