-- Where a unit goes on: ways to addresses, and the edges and posts that are made of them.
use Rattle.std.specs.Prelude.{ℕ, ◌==◌, nat_lt, if◌then◌else◌, Option, None, Some, List, [], ◌∷◌, map}
use Rattle.call_context.specs.declared.node.Frame.{Frame}
use Rattle.call_context.specs.declared.node.Node.{Node}
use Rattle.call_context.specs.declared.node.Node.TheVariants.{At, Exit}
use Rattle.call_context.specs.declared.shown.Item.{Item}
use Rattle.call_context.specs.declared.shown.Item.TheVariants.{Edge}
use Rattle.chip_analysis.specs.declared.cause.Cause.{Cause}
use Rattle.value_set.specs.declared.form.Form.{Form}
use Rattle.unit_ways.specs.Targets.{targets_of}

-- WAYS

-- an address, with what is known there
abbrev pub Way : Type 0 → Type 0
Way A = ℕ × A

-- the same is known at each of some addresses
abbrev pub each_way : {A : Type 0} → List ℕ → A → List (Way A)
each_way tos a = map (λ to. (to, a)) tos

abbrev pub ways_to : {A : Type 0} → Form → A → List (Way A)
ways_to targets a = each_way (targets_of targets) a

-- the one to the lesser address first
abbrev pub in_order : {A : Type 0} → (one other : Way A) → List (Way A)
in_order one other = if nat_lt other.0 one.0 then other ∷ one ∷ [] else one ∷ other ∷ []

-- the way on and the way of a jump, where they can be; two that lead to one address are joined, with the way on first
abbrev pub ways_of : {A : Type 0} → (joined : A → A → A) → (behind target : ℕ) → (on jumped : Option A) → List (Way A)
ways_of joined behind target None None = []
ways_of joined behind target (Some a) None = (behind, a) ∷ []
ways_of joined behind target None (Some b) = (target, b) ∷ []
ways_of joined behind target (Some a) (Some b) = if behind == target then (behind, joined a b) ∷ [] else in_order (behind, a) (target, b)

-- EDGES AND POSTS

-- edges, posts, and what is left open
pub record Going (A : Type 0) : Type 0 where
  pub edges : List Item
  pub posts : List (Node × A)
  pub opens : List (ℕ × Cause)

-- each way is an edge, and a post in the same frame
abbrev pub edge_of : {A : Type 0} → (pc : ℕ) → Way A → Item
edge_of pc way = Edge pc way.0

abbrev pub post_of : {A : Type 0} → (calls_at : ℕ → List ℕ) → Frame → Way A → Node × A
post_of calls_at frame way = (At way.0 (calls_at way.0) frame, way.1)

abbrev pub edges_of : {A : Type 0} → (pc : ℕ) → List (Way A) → List Item
edges_of pc ways = map (edge_of pc) ways

abbrev pub posts_of : {A : Type 0} → (calls_at : ℕ → List ℕ) → Frame → List (Way A) → List (Node × A)
posts_of calls_at frame ways = map (post_of calls_at frame) ways

-- a return from the frame's interrupt leaves what is known at the exit
abbrev pub back_at : {A : Type 0} → (pc : ℕ) → Frame → A → Going A
back_at pc frame a = record { edges = []; posts = (Exit pc frame, a) ∷ []; opens = [] }
