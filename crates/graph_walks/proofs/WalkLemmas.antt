-- Walks that are put together.
use Rattle.std.proofs.Common.{◌≡◌, ℕ, ◌<◌, Some, List, get_or, [], ◌∷◌, ◌++◌, length, refl, ap, sym, subst, arith}
use Rattle.std.specs.Prelude.{All, Contains, Vec, slice_get}
use Rattle.std.specs.declared.alloc.Global.{Global}
use Rattle.std.proofs.lemmas.List.Elements.{All-contains, Contains-get_or}
use Rattle.graph_walks.specs.Graphs.{HasEdge, IsGraph, Leads}
use Rattle.graph_walks.proofs.ListLemmas.{one_at}

-- EDGES

pub edge_at : (graph : List (Vec ℕ Global)) (a : ℕ) (row : Vec ℕ Global) (k d : ℕ) → slice_get graph a ≡ Some row → k < length row.items
    → HasEdge graph a (get_or row.items k d)
edge_at graph a row k d is small = (row, is, Contains-get_or row.items k d small)

pub edge_within : (graph : List (Vec ℕ Global)) (a : ℕ) (row : Vec ℕ Global) → IsGraph graph → slice_get graph a ≡ Some row → (items : List ℕ) → items ≡ row.items
    → (k d : ℕ) → k < length items → get_or items k d < length graph
edge_within graph a row formed is items same k d small =
    subst (λ (xs : List ℕ). get_or xs k d < length graph) (sym same) (formed a (get_or row.items k d) (edge_at graph a row k d is (omega (arith, ap length same, small))))

pub edges_below : (graph : List (Vec ℕ Global)) (a b : ℕ) (row : Vec ℕ Global) (count : ℕ) → slice_get graph a ≡ Some row → (items : List ℕ) → items ≡ row.items
    → All (λ v. v < count) items → HasEdge graph a b → b < count
edges_below graph a b row count is items same all (other, there, h) =
    let at : Contains items b = subst (λ xs. Contains xs b) (sym same) (subst (λ (r : Vec ℕ Global). Contains r.items b) (one_at graph a other row there is) h) in
    All-contains (λ v. v < count) items b all at

-- WALKS

pub joined : (Step : ℕ → ℕ → Type 0) (a b c : ℕ) (first second : List ℕ) → Leads Step a first b → Leads Step b second c
    → Leads Step a (first ++ second) c
joined Step a b c [] second here there = subst (λ v. Leads Step v second c) (sym here) there
joined Step a b c (next ∷ behind) second here there = (here.0, joined Step next b c behind second here.1 there)

pub one_more : (Step : ℕ → ℕ → Type 0) (a b c : ℕ) (walk : List ℕ) → Leads Step a walk b → Step b c → Leads Step a (walk ++ c ∷ []) c
one_more Step a b c walk leads step = joined Step a b c walk (c ∷ []) leads (step, refl)

-- the same walk, of other steps
pub steps_changed : (Step Other : ℕ → ℕ → Type 0) (a b : ℕ) (walk : List ℕ) → ((v w : ℕ) → Step v w → Other v w) → Leads Step a walk b
    → Leads Other a walk b
steps_changed Step Other a b [] change leads = leads
steps_changed Step Other a b (next ∷ behind) change leads = (change a next leads.0, steps_changed Step Other next b behind change leads.1)
