-- The derived test of causes holds exactly where the two are one.
use Rattle.std.specs.Prelude.{◌≡◌, false}
use Rattle.std.specs.Bool.{Decides}
use Rattle.std.proofs.Common.{refl}
use Rattle.std.proofs.lemmas.Bool.Decides.{Decides-like}
use Rattle.call_context.specs.declared.shown.Set.{Set}
use Rattle.call_context.specs.declared.shown.Set.TheVariants.{W}
use Rattle.call_context.specs.contracts.shown.SetPartialEq.TheImpl as set_impl
use Rattle.chip_analysis.specs.declared.cause.Cause.{Cause}
use Rattle.chip_analysis.specs.declared.cause.Cause.TheVariants.{Fetch, Targets, Store}
use Rattle.chip_analysis.specs.contracts.cause.CausePartialEq.TheImpl as cause_impl

apart : {P : Type 0} → (P → ⊥) → Decides false P
apart never = (λ e. cc e, λ p. absurd (never p))

pub cause_same : ((a b : Set) → Decides ((set_impl.ghosts).eq a b) (a ≡ b)) → (a b : Cause)
    → Decides ((cause_impl.ghosts).eq a b) (a ≡ b)
cause_same sets Fetch Fetch = (λ e. refl, λ e. refl)
cause_same sets (Targets x) (Targets y) = Decides-like _ (λ e. cc e) (λ e. cc e) (sets (W x) (W y))
cause_same sets (Store x) (Store y) = Decides-like _ (λ e. cc e) (λ e. cc e) (sets (W x) (W y))
cause_same sets Fetch (Targets y) = apart (λ e. cc e)
cause_same sets Fetch (Store y) = apart (λ e. cc e)
cause_same sets (Targets x) Fetch = apart (λ e. cc e)
cause_same sets (Targets x) (Store y) = apart (λ e. cc e)
cause_same sets (Store x) Fetch = apart (λ e. cc e)
cause_same sets (Store x) (Targets y) = apart (λ e. cc e)
