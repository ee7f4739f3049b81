-- A walk that goes on: what is left behind some, and what both make.
use Rattle.std.proofs.Common.{◌≡◌, ℕ, ◌+◌, ◌<◌, refl, sym, ap, ap₂, ◌∙◌, subst, Option, None, Some, List, [], ◌∷◌, ◌++◌, append_assoc, drop, get_or, length, map}
use Rattle.std.specs.Prelude.{if◌then◌else◌}
use Rattle.std.specs.List.{flat_map}
use Rattle.call_context.specs.declared.node.Frame.{Frame}
use Rattle.call_context.specs.declared.node.Node.{Node}
use Rattle.call_context.specs.declared.node.Node.TheVariants.{At}
use Rattle.call_context.specs.declared.node.Unit.{Unit as WorkUnit}
use Rattle.call_context.specs.declared.node.Unit.TheVariants.{One}
use Rattle.chip_analysis.specs.declared.chip.Work.{Work}
use Rattle.chip_analysis.specs.Analysis.{Analysis}
use Rattle.report_bytes.specs.Opens.{open_line_of}
use Rattle.cert_text.specs.Certificate.{is_below}
use Rattle.cert_check.proofs.TableLemmas.{drop_next}
use Rattle.cert_check.specs.Refusal.{Open, first_of, least_from, or_else, return_from, units_of, worked}

pub first_of-append : {X R : Type 0} (f : X → Option R) (xs ys : List X) → first_of f (xs ++ ys) ≡ or_else (first_of f xs) (first_of f ys)
first_of-append f [] ys = refl
first_of-append f (x ∷ xs) ys = ap (or_else (f x)) (first_of-append f xs ys) ∙ or_else-assoc (f x) (first_of f xs) (first_of f ys)
  where
    or_else-assoc : {R : Type 0} (a b c : Option R) → or_else a (or_else b c) ≡ or_else (or_else a b) c
    or_else-assoc None b c = refl
    or_else-assoc (Some a) b c = refl

-- one more site
pub least_step : (first least next site : Open) (sites : List Open) (i : ℕ) → i < length sites → site ≡ get_or sites i site
    → least_from least (drop i sites) ≡ least_from first sites
    → next ≡ (if is_below (open_line_of site.0 site.1) (open_line_of least.0 least.1) then site else least)
    → least_from next (drop (i + 1) sites) ≡ least_from first sites
least_step first least next site sites i h item so_far is =
    let rest = drop_next sites i site h ∙ ap (λ s. s ∷ drop (i + 1) sites) (sym item) in
    ap (λ s. least_from s (drop (i + 1) sites)) is ∙ sym (ap (least_from least) rest) ∙ so_far

-- the unit of a location with its work, and its returns, which were made apart
pub units_added : {A : Type 0} (a : Analysis A) (exits : List (Node × A)) (node : Node) (state : A) (pc : ℕ) (calls : List ℕ) (frame : Frame)
    (work : Work A) (waits : List Frame) (before after all returns : List (WorkUnit × Work A)) → node ≡ At pc calls frame
    → work ≡ a.work (One node) state None
    → waits ≡ work.waits → returns ≡ map (worked a) (flat_map (return_from node state waits) exits)
    → after ≡ before ++ (One node, work) ∷ []
    → all ≡ after ++ returns
    → all ≡ before ++ map (worked a) (units_of a exits (node, state))
units_added {A} a exits node state pc calls frame work waits before after all returns is is_work are_waits are_returns one more =
    let units : (One node, a.work (One node) state None) ∷ map (worked a) (flat_map (return_from node state (a.work (One node) state None).waits) exits)
    ≡ map (worked a) (units_of a exits (node, state)) =
    subst (λ n. (One n, a.work (One n) state None) ∷ map (worked a) (flat_map (return_from n state (a.work (One n) state None).waits) exits)
    ≡ map (worked a) (units_of a exits (n, state))) (sym is) refl in
    let behind = are_returns ∙ ap (λ ws. map (worked a) (flat_map (return_from node state ws) exits)) (are_waits ∙ ap (λ (w : Work A). w.waits) is_work) in
    more ∙ ap (λ us. us ++ returns) one ∙ append_assoc before ((One node, work) ∷ []) returns
    ∙ ap (λ us. before ++ us) (ap₂ (λ w us. (One node, w) ∷ us) is_work behind ∙ units)
