-- Which ways there are.
use Rattle.std.proofs.Common.{◌≡◌, ◌⊎◌, ℕ, ◌==◌, nat_lt, true, Option, None, Some, List, [], ◌∷◌, refl, sym, ap, subst, inl, inr, arith, Contains}
use Rattle.std.proofs.lemmas.Bool.{cond_both}
use Rattle.std.proofs.lemmas.Bool.Decides.{nat_tests}
use Rattle.call_context.specs.declared.node.Frame.{Frame}
use Rattle.call_context.specs.declared.node.Node.{Node}
use Rattle.call_context.specs.declared.node.Node.TheVariants.{At}
use Rattle.call_context.specs.declared.shown.Item.TheVariants.{Edge}
use Rattle.value_set.specs.declared.form.Form.{Form}
use Rattle.value_set.specs.Form.{Has}
use Rattle.unit_ways.specs.Between.{IsWayOf, StandsAt}
use Rattle.unit_ways.specs.Between.IsWayOf.{goes_on, joins, jumps}
use Rattle.unit_ways.specs.Targets.{targets_of}
use Rattle.unit_ways.specs.Ways.{Way, edge_of, edges_of, in_order, post_of, posts_of, ways_of, ways_to}
use Rattle.plain_lemmas.specs.Members.{from_map, in_cons, in_first, in_map, in_none, in_one, in_rest}
use Rattle.unit_ways.proofs.Turning.{target_from, target_has}

-- EDGES AND POSTS

pub edge_in : {A : Type 0} (pc : ℕ) (all : List (Way A)) (way : Way A) → Contains all way → Contains (edges_of pc all) (Edge pc way.0)
edge_in pc all way h = in_map (edge_of pc) all way h

pub post_in : {A : Type 0} (calls_at : ℕ → List ℕ) (frame : Frame) (all : List (Way A)) (way : Way A) → Contains all way
    → Contains (posts_of calls_at frame all) (At way.0 (calls_at way.0) frame, way.1)
post_in calls_at frame all way h = in_map (post_of calls_at frame) all way h

-- the way of a post
pub way_of_post : {A : Type 0} (calls_at : ℕ → List ℕ) (frame : Frame) (all : List (Way A)) (to : Node) (state : A)
    → Contains (posts_of calls_at frame all) (to, state)
    → (way : Way A) × Contains all way × (to ≡ At way.0 (calls_at way.0) frame) × (state ≡ way.1)
way_of_post {A} calls_at frame all to state h =
    let (way, there, same) = from_map (post_of calls_at frame) all (to, state) h in
    (way, there, sym (ap (λ (p : Node × A). p.0) same), sym (ap (λ (p : Node × A). p.1) same))

-- WAYS TO TARGETS

pub way_to : {A : Type 0} (set : Form) (a : A) (to : ℕ) → Has 65536 set to → Contains (ways_to set a) (to, a)
way_to {A} set a to has = in_map (λ n. let way : Way A = (n, a) in way) (targets_of set) to (target_has set to has)

pub from_way_to : {A : Type 0} (set : Form) (a : A) (way : Way A) → Contains (ways_to set a) way → Has 65536 set way.0 × (way.1 ≡ a)
from_way_to {A} set a way h =
    let (to, there, same) = from_map (λ n. let one : Way A = (n, a) in one) (targets_of set) way h in
    (subst (Has 65536 set) (ap (λ (w : Way A). w.0) same) (target_from set to there), sym (ap (λ (w : Way A). w.1) same))

-- THE TWO WAYS OF A JUMP

one_of_two : {A : Type 0} (one other way : Way A) → Contains (in_order one other) way → (one ≡ way) ⊎ (other ≡ way)
one_of_two {A} one other way h =
    cond_both (nat_lt other.0 one.0) (other ∷ one ∷ []) (one ∷ other ∷ []) (λ (all : List (Way A)). Contains all way → (one ≡ way) ⊎ (other ≡ way))
    (λ _ there. elim (in_cons other (one ∷ []) way there) [ inl same ↦ inr same | inr rest ↦ inl (in_one one way rest) ])
    (λ _ there. elim (in_cons one (other ∷ []) way there) [ inl same ↦ inl same | inr rest ↦ inr (in_one other way rest) ]) h

first_of_two : {A : Type 0} (one other : Way A) → Contains (in_order one other) one
first_of_two {A} one other =
    cond_both (nat_lt other.0 one.0) (other ∷ one ∷ []) (one ∷ other ∷ []) (λ (all : List (Way A)). Contains all one)
    (λ _. in_rest other (one ∷ []) one (in_first one [])) (λ _. in_first one (other ∷ []))

second_of_two : {A : Type 0} (one other : Way A) → Contains (in_order one other) other
second_of_two {A} one other =
    cond_both (nat_lt other.0 one.0) (other ∷ one ∷ []) (one ∷ other ∷ []) (λ (all : List (Way A)). Contains all other)
    (λ _. in_first other (one ∷ [])) (λ _. in_rest one (other ∷ []) other (in_first other []))

same_number : (n m : ℕ) → (n == m) ≡ true → n ≡ m
same_number n m e = grind (arith, nat_tests)

pub is_way_of : {A : Type 0} (joined : A → A → A) (behind target : ℕ) (on jumped : Option A) (way : Way A)
    → Contains (ways_of joined behind target on jumped) way
    → IsWayOf joined behind target on jumped way
is_way_of joined behind target None None way h = absurd (in_none way h)
is_way_of {A} joined behind target (Some a) None way h = subst (IsWayOf joined behind target (Some a) None) (in_one (behind, a) way h) (goes_on refl refl)
is_way_of {A} joined behind target None (Some b) way h = subst (IsWayOf joined behind target None (Some b)) (in_one (target, b) way h) (jumps refl refl)
is_way_of {A} joined behind target (Some a) (Some b) way h =
    let both : Way A = (behind, joined a b) in
    let one : Way A = (behind, a) in
    let other : Way A = (target, b) in
    let Is = IsWayOf joined behind target (Some a) (Some b) in
    cond_both (behind == target) (both ∷ []) (in_order one other) (λ (all : List (Way A)). Contains all way → Is way)
    (λ same there. subst Is (in_one both way there) (joins a b refl refl (same_number behind target same) refl refl))
    (λ _ there. elim (one_of_two one other way there) [ inl is ↦ subst Is is (goes_on refl refl) | inr is ↦ subst Is is (jumps refl refl) ]) h

pub way_on : {A : Type 0} (joined : A → A → A) (behind target : ℕ) (a : A) (jumped : Option A)
    → StandsAt (ways_of joined behind target (Some a) jumped) behind a jumped (joined a)
way_on joined behind target a None = record { way = (behind, a); listed = in_first (behind, a) []; goes = refl; known = inl refl }
way_on {A} joined behind target a (Some b) =
    let both : Way A = (behind, joined a b) in
    let one : Way A = (behind, a) in
    let other : Way A = (target, b) in
    cond_both (behind == target) (both ∷ []) (in_order one other) (λ (all : List (Way A)). StandsAt all behind a (Some b) (joined a))
    (λ _. record { way = both; listed = in_first both []; goes = refl; known = inr (b, refl, refl) })
    (λ _. record { way = one; listed = first_of_two one other; goes = refl; known = inl refl })

pub way_jumped : {A : Type 0} (joined : A → A → A) (behind target : ℕ) (on : Option A) (b : A)
    → StandsAt (ways_of joined behind target on (Some b)) target b on (λ a. joined a b)
way_jumped joined behind target None b = record { way = (target, b); listed = in_first (target, b) []; goes = refl; known = inl refl }
way_jumped {A} joined behind target (Some a) b =
    let both : Way A = (behind, joined a b) in
    let one : Way A = (behind, a) in
    let other : Way A = (target, b) in
    cond_both (behind == target) (both ∷ []) (in_order one other) (λ (all : List (Way A)). StandsAt all target b (Some a) (λ on. joined on b))
    (λ same. record { way = both; listed = in_first both []; goes = same_number behind target same; known = inr (a, refl, refl) })
    (λ _. record { way = other; listed = second_of_two one other; goes = refl; known = inl refl })
