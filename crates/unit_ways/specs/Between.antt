-- Which ways are those of a jump, and that ways ascend.
use Rattle.std.specs.Prelude.{◌≡◌, ◌⊎◌, ℕ, Option, Some, List, map, Contains}
use Rattle.value_set.specs.Form.{Ascends}
use Rattle.unit_ways.specs.Ways.{Way}

-- a way of a jump: that on, that to the target, or both where they lead to one address
pub data IsWayOf {A : Type 0} (joined : A → A → A) (behind target : ℕ) (on jumped : Option A) (way : Way A) : Type 0 where
  goes_on : on ≡ Some way.1 → way.0 ≡ behind → IsWayOf joined behind target on jumped way
  jumps : jumped ≡ Some way.1 → way.0 ≡ target → IsWayOf joined behind target on jumped way
  joins : (a b : A) → on ≡ Some a → jumped ≡ Some b → behind ≡ target → way.0 ≡ behind → way.1 ≡ joined a b
      → IsWayOf joined behind target on jumped way

-- what is known on one of two ways stands at its address, alone or joined
pub record StandsAt {A : Type 0} (ways : List (Way A)) (to : ℕ) (a : A) (other : Option A) (both : A → A) : Type 0 where
  pub way : Way A
  pub listed : Contains ways way
  pub goes : way.0 ≡ to
  pub known : (way.1 ≡ a) ⊎ ((b : A) × (other ≡ Some b) × (way.1 ≡ both b))

-- the addresses of ways ascend below an end
abbrev pub AreAscending : {A : Type 0} → List (Way A) → Type 0
AreAscending ways = Ascends 0 65536 (map (λ way. way.0) ways)
