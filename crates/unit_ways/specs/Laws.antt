-- What holds of ways.
use Rattle.std.specs.Prelude.{◌≡◌, ℕ, ◌<◌, Option, Some, List, Contains}
use Rattle.call_context.specs.declared.node.Frame.{Frame}
use Rattle.call_context.specs.declared.node.Node.{Node}
use Rattle.call_context.specs.declared.node.Node.TheVariants.{At}
use Rattle.call_context.specs.declared.shown.Item.TheVariants.{Edge}
use Rattle.value_set.specs.declared.form.Form.{Form}
use Rattle.value_set.specs.Form.{Has, IsNormal}
use Rattle.unit_ways.specs.Between.{AreAscending, IsWayOf, StandsAt}
use Rattle.unit_ways.specs.Ways.{Way, edges_of, posts_of, ways_of, ways_to}

pub record WayLaws (A : Type 0) : Type 0 where
  -- each way is an edge and a post, and a post is that of a way
  pub edge : (pc : ℕ) (all : List (Way A)) (way : Way A) → Contains all way → Contains (edges_of pc all) (Edge pc way.0)
  pub post : (calls_at : ℕ → List ℕ) (frame : Frame) (all : List (Way A)) (way : Way A) → Contains all way
      → Contains (posts_of calls_at frame all) (At way.0 (calls_at way.0) frame, way.1)
  pub way : (calls_at : ℕ → List ℕ) (frame : Frame) (all : List (Way A)) (to : Node) (state : A)
      → Contains (posts_of calls_at frame all) (to, state)
      → (way : Way A) × Contains all way × (to ≡ At way.0 (calls_at way.0) frame) × (state ≡ way.1)
  -- the ways to a set go to its members
  pub to : (set : Form) (a : A) (to : ℕ) → Has 65536 set to → Contains (ways_to set a) (to, a)
  pub member : (set : Form) (a : A) (way : Way A) → Contains (ways_to set a) way → Has 65536 set way.0 × (way.1 ≡ a)
  -- the two ways of a jump
  pub on : (joined : A → A → A) (behind target : ℕ) (a : A) (jumped : Option A)
      → StandsAt (ways_of joined behind target (Some a) jumped) behind a jumped (joined a)
  pub jumped : (joined : A → A → A) (behind target : ℕ) (on : Option A) (b : A)
      → StandsAt (ways_of joined behind target on (Some b)) target b on (λ a. joined a b)
  pub either : (joined : A → A → A) (behind target : ℕ) (on jumped : Option A) (way : Way A)
      → Contains (ways_of joined behind target on jumped) way
      → IsWayOf joined behind target on jumped way
  -- they ascend
  pub set_ascends : (set : Form) (a : A) → IsNormal 65536 set → AreAscending (ways_to set a)
  pub jump_ascends : (joined : A → A → A) (behind target : ℕ) (on jumped : Option A) → behind < 65536 → target < 65536
      → AreAscending (ways_of joined behind target on jumped)
