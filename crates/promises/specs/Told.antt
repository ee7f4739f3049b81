-- The sites of promises, as a reader keeps them.
use Rattle.std.specs.Prelude.{◌≡◌, ℕ, Bool, List}
use Rattle.std.specs.List.{list_any}
use Rattle.promises.specs.declared.promise.Promise.{Promise}
use Rattle.promises.specs.declared.promise.Promise.TheVariants.{Write, All, Goes}
use Rattle.promises.specs.declared.promise.Window.{Window}
use Rattle.promises.specs.declared.told.Told.{Told}
use Rattle.promises.specs.Text.{is_of_same, is_same}

abbrev pub has : List ℕ → ℕ → Bool
has numbers n = list_any (is_same n) numbers

-- the sets have the sites of the promises
pub record IsTold (told : Told) (promises : List Promise) : Type 0 where
  pub stores : (pc : ℕ) (windows : List Window) → has told.stores.keys pc ≡ list_any (is_of_same (Write pc windows)) promises
  pub ways : (pc : ℕ) (targets : List ℕ) → has told.ways.keys pc ≡ list_any (is_of_same (Goes pc targets)) promises
  pub all : (windows : List Window) → told.all ≡ list_any (is_of_same (All windows)) promises
