-- A fact that a state may have.
use Rattle.std.specs.Prelude.{◌≡◌, if◌then◌else◌, Bool, true, false, Option, None, Some}
use Rattle.std.proofs.Common.{refl, sym, subst}
use Rattle.std.proofs.lemmas.Bool.{cond_both}
use Rattle.plain_lemmas.specs.Orders.{IsAny, IsOrdered}

-- a fact that both have
abbrev pub common_fact : {F : Type 0} → (F → F → Bool) → Option F → Option F → Option F
common_fact is_same None b = None
common_fact is_same (Some a) None = None
common_fact is_same (Some a) (Some b) = if is_same a b then Some a else None

-- the second has no fact that the first one lacks
abbrev pub is_fact_within : {F : Type 0} → (F → F → Bool) → Option F → Option F → Bool
is_fact_within is_same a None = true
is_fact_within is_same None (Some b) = false
is_fact_within is_same (Some a) (Some b) = is_same a b

-- LAWS

-- the test is that of equality
pub record IsEquality {F : Type 0} (is_same : F → F → Bool) : Type 0 where
  pub itself : (a : F) → is_same a a ≡ true
  pub same : (a b : F) → is_same a b ≡ true → a ≡ b

fact_top : {F : Type 0} (same : F → F → Bool) (a : Option F) → is_fact_within same a None ≡ true
fact_top same None = refl
fact_top same (Some a) = refl

-- what holds of no fact, and of the first one's fact, holds of what both have
pub common_fact_keeps : {F : Type 0} (same : F → F → Bool) (P : Option F → Type 0) (a b : Option F) → P None → P a
    → P (common_fact same a b)
common_fact_keeps same P None b none some = none
common_fact_keeps same P (Some a) None none some = none
common_fact_keeps same P (Some a) (Some b) none some = cond_both (same a b) (Some a) None P (λ e. some) (λ e. none)

module _ {F : Type 0} (same : F → F → Bool) (eq : IsEquality same) where
  fact_itself : (a : Option F) → is_fact_within same a a ≡ true
  fact_itself None = refl
  fact_itself (Some a) = eq.itself a

  -- what holds of no fact, and of the first one's fact, holds of the second one's
  pub fact_more : (P : Option F → Type 0) (a b : Option F) → is_fact_within same a b ≡ true → P None → P a → P b
  fact_more P a None h none some = none
  fact_more P None (Some b) h none some = absurd (cc)
  fact_more P (Some a) (Some b) h none some = subst (λ fact. P (Some fact)) (eq.same a b h) some

  fact_new : (a b : Option F) → is_fact_within same b (common_fact same a b) ≡ true
  fact_new None None = refl
  fact_new None (Some b) = refl
  fact_new (Some a) None = refl
  fact_new (Some a) (Some b) = cond_both (same a b) (Some a) None (λ fact. is_fact_within same (Some b) fact ≡ true)
      (λ e. subst (λ fact. same b fact ≡ true) (sym (eq.same a b e)) (eq.itself b)) (λ e. refl)

  pub fact_ordered : IsOrdered IsAny (is_fact_within same) (common_fact same) None
  fact_ordered = record {
    itself = λ a any. fact_itself a;
    along = λ a b c h k. fact_more (λ fact. is_fact_within same a fact ≡ true) b c k (fact_top same a) h;
    form = λ a b f g. tt;
    held = λ a b f g. common_fact_keeps same (λ fact. is_fact_within same a fact ≡ true) a b (fact_top same a) (fact_itself a);
    new = λ a b f g. fact_new a b;
    whole = λ a any. fact_top same a;
  }
