-- The work of a location, put together from its parts.
use Rattle.std.proofs.Common.{◌≡◌, ℕ, ◌++◌, List, ◌∷◌, ap, ◌∙◌}
use Rattle.call_context.specs.declared.node.Frame.{Frame}
use Rattle.call_context.specs.declared.node.Node.{Node}
use Rattle.call_context.specs.declared.shown.Item.{Item}
use Rattle.call_context.specs.declared.shown.Item.TheVariants.{Instr}
use Rattle.chip_analysis.specs.declared.cause.Cause.{Cause}
use Rattle.chip_analysis.specs.declared.chip.Work.{Work}
use Rattle.unit_ways.specs.Ways.{Going}
use Rattle.chip_flow.specs.Calls.{Site}
use Rattle.chip_flow.specs.Flow.{Flow}
use Rattle.chip_flow.specs.Going.{going_by}
use Rattle.chip_flow.specs.Works.{entering, site_of, store_opens, work_by}
use Rattle.chip_flow.specs.declared.going.Followed.{Followed}

abbrev work_with : {A : Type 0} → List Item → List (Node × A) → List Frame → List (ℕ × Cause) → Work A
work_with all posts waits opens = record { items = all; posts = posts; waits = waits; opens = opens }

pub work_made : {A I C : Type 0} (joined : A → A → A) (flow : Flow A I C) (pc : ℕ) (calls : List ℕ) (frame : Frame) (a : A) (instr : I)
    (made : Followed A) (site : Site) (front : Work A)
    (bytes : List ℕ) (all : List Item) (posts : List (Node × A)) (opens : List (ℕ × Cause))
    → site ≡ site_of flow pc calls frame instr
    → front ≡ entering flow pc a made.accesses
    → bytes ≡ flow.bytes instr
    → all ≡ front.items ++ Instr pc bytes ∷ (going_by joined site made.onward).edges
    → posts ≡ front.posts ++ (going_by joined site made.onward).posts
    → opens ≡ front.opens ++ (going_by joined site made.onward).opens ++ store_opens pc made.store
    → work_with all posts front.waits opens ≡ work_by joined flow pc calls frame a instr made
work_made {A} joined flow pc calls frame a instr made site front bytes all posts opens is_site is_front is_bytes is_all is_posts is_opens =
    let going : Going A = going_by joined site made.onward in
    let own = Instr pc (flow.bytes instr) in
    let store = store_opens pc made.store in
    let shown : all ≡ front.items ++ own ∷ going.edges = is_all ∙ ap (λ (b : List ℕ). front.items ++ Instr pc b ∷ going.edges) is_bytes in
    ap (λ (xs : List Item). work_with xs posts front.waits opens) shown
    ∙ ap (λ (xs : List (Node × A)). work_with (front.items ++ own ∷ going.edges) xs front.waits opens) is_posts
    ∙ ap (λ (xs : List (ℕ × Cause)). work_with (front.items ++ own ∷ going.edges) (front.posts ++ going.posts) front.waits xs) is_opens
    ∙ ap (λ (w : Work A). work_with (w.items ++ own ∷ going.edges) (w.posts ++ going.posts) w.waits (w.opens ++ going.opens ++ store)) is_front
    ∙ ap (λ (s : Site). let on : Going A = going_by joined s made.onward in let first : Work A = entering flow pc a made.accesses in
    work_with (first.items ++ own ∷ on.edges) (first.posts ++ on.posts) first.waits (first.opens ++ on.opens ++ store)) is_site
