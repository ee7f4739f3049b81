-- Nodes that stay.
use Rattle.std.specs.Prelude.{◌≡◌, ◌≤◌, List, [], ◌∷◌}
use Rattle.book_rules.specs.Machine.{Held}

-- A node stays: its rises don't fall, and its state is the same until it rises.
pub record Stays {A : Type 0} (h later : Held A) : Type 0 where
  pub node : later.node ≡ h.node
  pub rises : h.rises ≤ later.rises
  pub state : later.rises ≡ h.rises → later.state ≡ h.state

-- each node stays in its place; others may stand behind
abbrev pub AllStay : {A : Type 0} → List (Held A) → List (Held A) → Type 0
AllStay [] later = Unit {0}
AllStay (h ∷ hs) [] = ⊥
AllStay (h ∷ hs) (l ∷ ls) = Stays h l × AllStay hs ls
