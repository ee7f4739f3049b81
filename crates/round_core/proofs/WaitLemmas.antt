-- Frames that a work waits for.
use Rattle.std.specs.Prelude.{◌≡◌, ◌||◌, true, false, Option, None, Some, List, [], ◌∷◌, unwrap_or}
use Rattle.std.specs.List.{list_any}
use Rattle.std.specs.Option.{option_map}
use Rattle.std.proofs.Common.{sym, ◌∙◌, ap, inl, inr}
use Rattle.call_context.specs.declared.node.Frame.{Frame}
use Rattle.book_rules.specs.Same.{same_frame}
use Rattle.book_rules.specs.SameTests.{same_frame-eq}
use Rattle.book_rules.specs.Machine.{Done}
use Rattle.round_core.specs.Agenda.{IsIn}
use Rattle.round_core.proofs.Cases.{truth}

pub any-in : (f : Frame) (fs : List Frame) → list_any (same_frame f) fs ≡ true → IsIn f fs
any-in f [] h = absurd (cc)
any-in f (x ∷ fs) h = elim (truth (same_frame f x)) [
  | inl s ↦ inl (same_frame-eq f x s)
  | inr s ↦ inr (any-in f fs (sym (ap (λ b. b || list_any (same_frame f) fs) s) ∙ h))
]

-- a location that waits for a frame was done, and its last work says so
pub waits-in : {A : Type 0} → (f : Frame) (o : Option (Done A)) (d : Done A) → Some d ≡ o
    → unwrap_or (option_map (λ t. list_any (same_frame f) t.work.waits) o) false ≡ true → IsIn f d.work.waits
waits-in f None d e h = absurd (cc)
waits-in f (Some t) d e h = let same : t ≡ d = cc in any-in f d.work.waits (ap (λ s. list_any (same_frame f) s.work.waits) (sym same) ∙ h)

pub waits-none : {A : Type 0} → (f : Frame) (o : Option (Done A)) → o ≡ None
    → unwrap_or (option_map (λ t. list_any (same_frame f) t.work.waits) o) false ≡ true → ⊥
waits-none f None e h = let bad : false ≡ true = h in cc
waits-none f (Some t) e h = absurd (cc)
