-- One more site.
use Rattle.std.specs.Prelude.{◌≡◌, ℕ, ◌||◌, Bool, true, false, List, [], ◌∷◌, ◌++◌, map}
use Rattle.std.specs.List.{list_any}
use Rattle.std.specs.BTreeSet.{BTreeSet}
use Rattle.std.proofs.Common.{refl, sym, ap, subst, ◌∙◌}
use Rattle.promises.specs.declared.promise.Promise.{Promise}
use Rattle.promises.specs.declared.promise.Promise.TheVariants.{Write, All, Goes}
use Rattle.promises.specs.declared.promise.Window.{Window}
use Rattle.promises.specs.declared.told.Told.{Told}
use Rattle.promises.specs.Text.{Numbered, is_of_same, is_same, promises_alone}
use Rattle.promises.specs.Told.{IsTold, has}
use Rattle.promises.proofs.Again.{alone_more, any_end, nor_false}

none_more : (test : Promise → Bool) (promises : List Promise) (x : Promise) → test x ≡ false → list_any test promises ≡ list_any test (promises ++ x ∷ [])
none_more test promises x none =
    sym (any_end test promises x ∙ ap (λ b. list_any test promises || b) none ∙ nor_false (list_any test promises))

module _ (told : Told) (promises : List Promise) (is : IsTold told promises) where
  module _ (set : BTreeSet ℕ) (pc : ℕ) where
    pub told_store : (windows : List Window) → ((n : ℕ) → has set.keys n ≡ (has told.stores.keys n || is_same n pc))
        → IsTold (record { stores = set; ways = told.ways; all = told.all }) (promises ++ Write pc windows ∷ [])
    told_store windows added = record {
      stores = λ n ws. added n ∙ ap (λ b. b || is_same n pc) (is.stores n ws) ∙ sym (any_end (is_of_same (Write n ws)) promises (Write pc windows));
      ways = λ n ts. is.ways n ts ∙ none_more (is_of_same (Goes n ts)) promises (Write pc windows) refl;
      all = λ ws. is.all ws ∙ none_more (is_of_same (All ws)) promises (Write pc windows) refl;
    }

    pub told_way : (targets : List ℕ) → ((n : ℕ) → has set.keys n ≡ (has told.ways.keys n || is_same n pc))
        → IsTold (record { stores = told.stores; ways = set; all = told.all }) (promises ++ Goes pc targets ∷ [])
    told_way targets added = record {
      stores = λ n ws. is.stores n ws ∙ none_more (is_of_same (Write n ws)) promises (Goes pc targets) refl;
      ways = λ n ts. added n ∙ ap (λ b. b || is_same n pc) (is.ways n ts) ∙ sym (any_end (is_of_same (Goes n ts)) promises (Goes pc targets));
      all = λ ws. is.all ws ∙ none_more (is_of_same (All ws)) promises (Goes pc targets) refl;
    }

  or_true : (b : Bool) → true ≡ (b || true)
  or_true true = refl
  or_true false = refl

  pub told_all : (windows : List Window)
      → IsTold (record { stores = told.stores; ways = told.ways; all = true }) (promises ++ All windows ∷ [])
  told_all windows = record {
    stores = λ n ws. is.stores n ws ∙ none_more (is_of_same (Write n ws)) promises (All windows) refl;
    ways = λ n ts. is.ways n ts ∙ none_more (is_of_same (Goes n ts)) promises (All windows) refl;
    all = λ ws. or_true (list_any (is_of_same (All ws)) promises) ∙ sym (any_end (is_of_same (All ws)) promises (All windows));
  }

-- the promises of a line more
pub told_line : (told : Told) (list old new : Numbered) (number : ℕ) (promises shown : List Promise) → shown ≡ promises
    → new ≡ list ++ map (λ promise. (number, promise)) promises → list ≡ old → IsTold told (promises_alone old ++ shown)
    → IsTold told (promises_alone new)
told_line told list old new number promises shown same longer kept is =
    let all : promises_alone new ≡ promises_alone old ++ shown = ap promises_alone longer ∙ alone_more list number promises
    ∙ ap (λ l. promises_alone l ++ promises) kept ∙ ap (λ ps. promises_alone old ++ ps) (sym same) in
    subst (λ ps. IsTold told ps) (sym all) is
